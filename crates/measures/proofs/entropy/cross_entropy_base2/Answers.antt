use Rattle.std.proofs.Common.{◌∙◌, zero-le}
use Rattle.rounding.proofs.Literals.{nought_bits}
use Rattle.measures.proofs.Means.{crossing_none, crossing_more, next_weight}
use Rattle.measures.proofs.entropy.cross_entropy_base2.Goals as goal

pub loop-weight-init : goal.loop-weight-init
loop-weight-init g c =
    let of = c.of-rows.ensures in
    rw (c.into_iter-weight-iterator.ensures.into_iter_gives, c.zip-weight-items.ensures.first, c.zip-weight-items.ensures.second, of.1)
    (of.0, zero-le, c.iter.ensures.rest, crossing_none _ _ _ _ nought_bits)

pub loop-weight-preserved : goal.loop-weight-preserved
loop-weight-preserved g c =
    let m = g.M.EntropyModel.meaning c.args.model.now in
    let weights = c.args.weights.now in
    let known = c.loop-weight.invariant in
    let i = c.loop-weight.weight-iterator.b.row in
    let steps = c.in-Some.ensures.steps in
    let row = rw known.0 at steps.1.1 in
    let weight = next_weight g.L.Logarithm.value m weights i c.in-Some.weight.now _ known.1 (rw known.2 at steps.0) in
    rw steps.1.2 (
      steps.1.0 ∙ known.0,
      weight.0,
      weight.2,
      crossing_more g.L.Logarithm.value m weights i _ _ _ _ _ _
          known.3 row.at.within row.interval c.precision-precision.ensures weight.1 c.bits_taken.ensures,
    )
