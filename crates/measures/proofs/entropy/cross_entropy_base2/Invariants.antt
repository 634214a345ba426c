use Rattle.std.proofs.Common.{◌≡◌, ◌≤◌, length, drop}
use Rattle.measures.proofs.Means.{Crossing}
use Rattle.measures.proofs.entropy.cross_entropy_base2.Given as goal

abbrev pub invariant-loop-weight : goal.invariant-loop-weight
invariant-loop-weight g l =
    let rows = l.weight-iterator.b in
    (rows.model.now ≡ l.model)
    × (rows.row ≤ length l.weights)
    × (l.weight-iterator.a.rest.now ≡ drop rows.row l.weights)
    × Crossing g.L.Logarithm.value (g.M.EntropyModel.meaning l.model) l.weights rows.row l.sum
