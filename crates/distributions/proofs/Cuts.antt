-- Orders of floats and of what a cast leaves of them. Assumes nothing.
use Rattle.std.proofs.Common.{◌≡◌, ℕ, ◌+◌, ◌-◌, ◌*◌, ◌/◌, ◌^◌, ◌<◌, ◌≤◌, min, Bool, true, false, cond, ◌&&◌, ◌||◌, T, pos, sym, refl, ◌∙◌, subst, inl, inr, true≢false, le_trans, mul-le-mul_right, div-mul-le_self, arith, lit<}
use Rattle.std.proofs.Common.{Less, Equal, Greater}
use Rattle.std.specs.Prelude.{Some, None}
use Rattle.std.specs.Ordering.{is_le, is_some_and, partial_le, partial_lt, float_partial_cmp}
use native.Mathlib.Nat.{min-le_left}
use lib.Ieee.{Float, nan, inf, fin, Format, up, down, le, lt, eq, of_int, to_unsigned, fits, prec, is_nan, sub, add, neg}
use lib.Ieee.Scale.{finite}
use lib.Ieee.Back.{unsigned_back}
use Rattle.std.proofs.lemmas.Bool.{cases_Bool}
use Rattle.rounding.specs.Fractions.{nought, plus, less, Under}
use Rattle.distributions.specs.Peak.{within}
use Rattle.rounding.proofs.Order.{lt→not_le, not_lt→le, le_trans as float-trans, left_number, right_number, le_refl, finite_number}
use Rattle.rounding.proofs.Rounded.{rounds_under}
use Rattle.rounding.proofs.Sums.{nothing_less, sub_rises}
use Rattle.rounding.proofs.Weights.{cut_rises}
use Rattle.rounding.proofs.Wholes.{of_int_rounds}
use lib.Ieee.Positive.{den}
use borrow.Author.Numbers.{in_float_lem}

-- ---- a strict step and a weak one
pub lt_le : (x y z : Float) → is_nan x ≡ false → lt x y ≡ true → le y z ≡ true → lt x z ≡ true
lt_le x y z n h k =
    elim (cases_Bool (lt x z)) [
      | inl l ↦ l
      | inr l ↦ absurd (true≢false (sym (float-trans y z x k (not_lt→le x z n (right_number y z k) l)) ∙ lt→not_le x y h))
    ]

pub le_lt : (x y z : Float) → is_nan z ≡ false → le x y ≡ true → lt y z ≡ true → lt x z ≡ true
le_lt x y z n h k =
    elim (cases_Bool (lt x z)) [
      | inl l ↦ l
      | inr l ↦ absurd (true≢false (sym (float-trans z x y (not_lt→le x z (left_number x y h) n l) h) ∙ lt→not_le y z k))
    ]

-- ---- a cast to a whole number drops a fraction
cut_cross : (w : ℕ) (t : Float) → T (finite t) → less t ≡ 0 → Under (to_unsigned w t) 0 1 (plus t) (less t) (den t)
unfolding to_unsigned
cut_cross w nan p h = absurd p
cut_cross w (inf s) p h = absurd p
cut_cross w (fin true m e) p h = omega (arith, h)
cut_cross w (fin false m e) p h = go (le_trans (mul-le-mul_right (down e) (min-le_left (m * up e / down e) (2 ^ w - 1))) (div-mul-le_self (m * up e) (down e)))
  where
    go : min (m * up e / down e) (2 ^ w - 1) * down e ≤ m * up e → min (m * up e / down e) (2 ^ w - 1) * down e + 0 * 1 ≤ m * up e * 1 + 0 * down e
    go k = omega arith

pub cut_under : (f : Format) (w : ℕ) (t : Float) → T (finite t) → T (fits f t) → le nought t ≡ true → le (of_int f (pos (to_unsigned w t))) t ≡ true
cut_under f w t p k h =
    rounds_under f (of_int f (pos (to_unsigned w t))) t (to_unsigned w t) 0 1 (lit< tt) p k (of_int_rounds f (pos (to_unsigned w t))) (cut_cross w t p (nothing_less t p h))

-- and keeps the whole numbers below
pub cut_over : (f : Format) (w k : ℕ) (t : Float) → k ≤ 2 ^ prec f → k < 2 ^ w → le (of_int f (pos k)) t ≡ true → k ≤ to_unsigned w t
cut_over f w k t h b l = subst (λ (n : ℕ). n ≤ to_unsigned w t) (unsigned_back f w k (in_float_lem f k h) b).1 (cut_rises w (of_int f (pos k)) t l)

-- ---- a difference to a finite float is a number where the first part is
pub sub_number : (f : Format) (x y : Float) → is_nan x ≡ false → T (finite y) → is_nan (sub f x y) ≡ false
unfolding sub add neg is_nan
sub_number f nan y h p = h
sub_number f (inf s) nan h p = absurd p
sub_number f (inf s) (inf t) h p = absurd p
sub_number f (inf s) (fin t n d) h p = refl
sub_number f (fin s m e) y h p = left_number (sub f (fin s m e) y) (sub f (fin s m e) y) (sub_rises f (fin s m e) (fin s m e) y y tt tt p p (le_refl (fin s m e) refl) (le_refl y (finite_number y p)))

-- ---- `contains` of a range of floats goes by `<=`
some_order : (a e b : Bool) → is_some_and is_le (cond a (Some Less) (cond e (Some Equal) (cond b (Some Greater) None))) ≡ (a || e)
some_order true e b = refl
some_order false true b = refl
some_order false false true = refl
some_order false false false = refl

partial_le_is : (x y : Float) → partial_le float_partial_cmp x y ≡ le x y
unfolding le
partial_le_is x y = some_order (lt x y) (eq x y) (lt y x)

pub range_tells : (low high x from to : Float) (spent : Bool) → from ≡ low → to ≡ high → spent ≡ false → (partial_le float_partial_cmp from x && cond spent (partial_lt float_partial_cmp x to) (partial_le float_partial_cmp x to)) ≡ within low high x
range_tells low high x from to spent f t s = rw (f, t, s, partial_le_is low x, partial_le_is x high) refl
