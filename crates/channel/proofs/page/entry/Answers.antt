use Rattle.std.proofs.Common.{arith}
use Rattle.models.proofs.Cuts.{interval_between, interval_held}
use Rattle.channel.proofs.page.entry.Goals as goal

pub overflow_sub-end : goal.overflow_sub-end
overflow_sub-end g c =
    omega (arith, c.requires.starts, c.requires.ends, (g.M.EntropyModel.cuts c.args.model.now).rises c.args.row c.requires.within)

-- P is within the width, so nothing is cut off
pub returns : goal.returns
returns g c =
    let laws = g.met.M.EntropyModel in
    let model = c.args.model.now in
    let there = interval_between _ (g.M.EntropyModel.cuts model) c.args.row _ _ c.requires.within c.requires.starts c.requires.ends in
    record {
      at = record { within = c.requires.within; symbol = c.symbol.ensures };
      interval = rw (c.wrapping_from_u64.ensures, c.wrapping_from_u64-2.ensures)
          (interval_held _ (g.M.EntropyModel.cuts model) _ c.args.row _ _ (laws.fits model) c.requires.within there);
    }
