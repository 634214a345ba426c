-- The difference is the definition's, at the literal 0.5.
use Rattle.std.proofs.Common.{ℤ, ap, ◌∙◌, w64}
use lib.Ieee.{Float, binary64, sub}
use Rattle.std.proofs.lemmas.Int.{to_z-of_z}
use Rattle.rounding.specs.Fractions.{half}
use Rattle.rounding.specs.Wholes.{half_below}
use Rattle.rounding.proofs.Literals.{half_bits}
use Rattle.rounding.proofs.Wholes.{half_below_lem}
use Rattle.rounding.proofs.half_below.Goals as goal

pub returns : goal.returns
returns c =
    half_below_lem c.args.k _
    (ap (λ (h : Float). sub binary64 c.whole.result h) half_bits
    ∙ ap (λ (z : Float). sub binary64 z half) c.whole.ensures
    ∙ ap (λ (k : ℤ). half_below k) (to_z-of_z w64 c.args.k c.ranges.k))
