use Rattle.std.proofs.Common.{◌≡◌, suc, ◌≤◌}
use Rattle.measures.specs.Entropies.{weighed}
use Rattle.measures.proofs.entropy.weigh_rows.Given as goal

abbrev pub invariant-loop-length : goal.invariant-loop-length
invariant-loop-length g l =
    let meaning = g.M.EntropyModel.meaning in
    let rows = l.length-iterator in
    (rows.model.now ≡ l.model)
    × (rows.row ≤ suc (meaning l.model).span)
    × (l.sum ≡ weighed g.L.Logarithm.value (meaning l.model) rows.row)
