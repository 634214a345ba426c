use Rattle.std.proofs.Common.{arith}
use Rattle.models.proofs.Room.{rows_few}
use Rattle.models.proofs.table.RowsIterator.next.Goals as goal

pub overflow_add-self : goal.overflow_add-self
overflow_add-self g c =
    let laws = g.met.M.EntropyModel in
    let model = c.args.self.now.model.now in
    omega (
      arith,
      c.in_ok-row.ensures.at.within,
      rows_few _ _ (g.M.EntropyModel.cuts model) (laws.fits model) g.met.M.Probability.BitArray.narrow,
    )
