use Rattle.std.proofs.Common.{◌≡◌, Bool, true, false, [], ◌∷◌, length, ℤ, pos, sym, ap, ◌∙◌, arith}
use lib.Signed.{lt_z}
use mir.Syntax.{w128}
use Rattle.std.specs.Fmt.{sign_text}
use Rattle.std.proofs.lemmas.Int.{to_z-of_z}
use Rattle.records.proofs.Appending.{added, added_none, added_same}
use Rattle.records.proofs.text.put_sign.Goals as goal

sign_at : (z y : ℤ) (b : Bool) → y ≡ z → lt_z y (pos 0) ≡ b → sign_text b ≡ sign_text (lt_z z (pos 0))
sign_at z y b e f = ap sign_text (sym f ∙ ap (λ (x : ℤ). lt_z x (pos 0)) e)

pub push_reserved-requires : goal.push_reserved-requires
push_reserved-requires c = omega (arith, ap length (sign_at c.args.z _ true (to_z-of_z w128 c.args.z c.ranges.z) c.if-z-lt0.true))

pub returns-then-z-lt0 : goal.returns-then-z-lt0
returns-then-z-lt0 c =
    added_same (added _ _ (45 ∷ []) c.push_reserved.ensures.items c.push_reserved.ensures.capacity)
    (sign_at c.args.z _ true (to_z-of_z w128 c.args.z c.ranges.z) c.if-z-lt0.true)

pub returns-else-z-lt0 : goal.returns-else-z-lt0
returns-else-z-lt0 c = added_same (added_none _) (sign_at c.args.z _ false (to_z-of_z w128 c.args.z c.ranges.z) c.if-z-lt0.false)
