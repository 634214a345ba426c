use Rattle.std.proofs.Common.{arith}
use Rattle.models.proofs.Cuts.{interval_between, interval_held}
use Rattle.quantize.specs.ExtentsLemmas.{means_cut}
use Rattle.quantize.proofs.quantizer.LeakilyQuantizedDistribution.interval.Goals as goal

pub overflow_sub-end : goal.overflow_sub-end
overflow_sub-end g c =
    let m = c.args.self.now in
    let cuts = means_cut m.quantizer.extent _ (g.D.Distribution.lawful m.inner) in
    omega (arith, c.requires.starts, c.requires.ends, cuts.rises c.args.row c.requires.within)

-- the precision is within the width, so nothing is cut off
pub returns : goal.returns
returns g c =
    let m = c.args.self.now in
    let cuts = means_cut m.quantizer.extent _ (g.D.Distribution.lawful m.inner) in
    let there = interval_between _ cuts c.args.row _ _ c.requires.within c.requires.starts c.requires.ends in
    rw (c.wrapping_from_u64.ensures, c.wrapping_from_u64-2.ensures)
    (interval_held _ cuts _ c.args.row _ _ m.quantizer.fits c.requires.within there)
