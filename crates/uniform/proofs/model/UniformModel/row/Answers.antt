use Rattle.std.proofs.Common.{pos, sym, ap, zero-add, arith}
use Rattle.models.proofs.Cuts.{interval_held}
use Rattle.uniform.specs.EvenCuts.{even_cuts}
use Rattle.uniform.proofs.model.UniformModel.row.Goals as goal

-- the precision is within the width, so nothing is cut off
pub returns : goal.returns
returns g c =
    let self = c.args.self.now in
    let cuts = even_cuts _ _ self.many self.room in
    record {
      at = record { within = omega arith; symbol = ap pos (sym (zero-add c.args.row)) };
      interval = rw (c.wrapping_from_u64.ensures, c.wrapping_from_u64-2.ensures)
          (interval_held _ cuts _ c.args.row _ _ self.fits (omega arith) c.interval-start.ensures);
    }
