use Rattle.std.proofs.Common.{◌≡◌, ◌∙◌, arith, rules}
use mir.Syntax.{w128}
use mir.Val.{SFits}
use Rattle.std.proofs.lemmas.Int.{ints, to_z-of_z}
use Rattle.quantize.proofs.quantizer.LeakyQuantizer.new.Goals as goal

-- the ends cross as they are
pub invariant_of-result-clause-from : goal.invariant_of-result-clause-from
invariant_of-result-clause-from g c =
    let kept : SFits w128 c.to_whole.result = search rules in
    omega (arith, ints, c.in_ok-extent.ensures.1.from ∙ to_z-of_z w128 c.to_whole.result kept, c.to_whole.ensures.within.from)

pub invariant_of-result-clause-to : goal.invariant_of-result-clause-to
invariant_of-result-clause-to g c =
    let kept : SFits w128 c.to_whole-2.result = search rules in
    omega (arith, ints, c.in_ok-extent.ensures.1.to ∙ to_z-of_z w128 c.to_whole-2.result kept, c.to_whole-2.ensures.within.to)

pub returns : goal.returns
returns g c =
    let low : SFits w128 c.to_whole.result = search rules in
    let high : SFits w128 c.to_whole-2.result = search rules in
    rw (← c.to_whole.ensures.value, ← c.to_whole-2.ensures.value, ← c.bits.ensures)
    (rw (to_z-of_z w128 c.to_whole.result low, to_z-of_z w128 c.to_whole-2.result high) at c.in_ok-extent.ensures)
