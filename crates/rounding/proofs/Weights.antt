-- Truncation keeps the order, and so does the product of a whole weight with a height.
-- Assumes nothing.
use Rattle.std.proofs.Common.{◌≡◌, ℕ, zero, suc, ◌+◌, ◌-◌, ◌*◌, ◌/◌, ◌^◌, ◌<◌, ◌≤◌, min, true, false, T, pos, neg_ℤ, sym, refl, ap, ◌∙◌, subst, zero-le, le_trans, le_of_eq, zero-lt-suc, le_antisymm, le-div_iff_mul-le, arith, le→leb}
use native.Mathlib.Nat.{zero-div}
use lib.Ieee.{Float, nan, inf, fin, Format, binary64, prec, round, up, down, of_int, to_unsigned, in_float, le, eq}
use lib.Ieee.Scale.{finite}
use lib.Ieee.Fits.{down_pos, of_int-fits}
use lib.Ieee.Back.{unsigned_back}
use lib.Ieee.Nearest.{div_mono}
use Rattle.rounding.specs.Fractions.{Under, nought, one}
use Rattle.rounding.specs.Order.{Between}
use Rattle.rounding.specs.Wholes.{Within}
use Rattle.rounding.specs.Weights.{share, weighed, Height, Weighed}
use Rattle.rounding.proofs.Order as order
use Rattle.rounding.proofs.Order.{Le, to}
use Rattle.rounding.proofs.Products.{mul_rises_right, mul_positive, mul_no_larger}
use Rattle.rounding.proofs.Rounded.{round_zero}
use Rattle.rounding.proofs.Wholes.{exact_le, of_int_exact, of_int_rises}

-- ---- dropping a fraction
capped : (a b c : ℕ) → a ≤ b → min a c ≤ min b c
capped a b c h = omega arith

cap_le : (a c : ℕ) → min a c ≤ c
cap_le a c = omega arith

no_part : (A B D C : ℕ) → A * C + B * D ≤ 0 * D + 0 * C → A * C ≤ 0 * D
no_part A B D C h = omega arith

one_part : (A B D C : ℕ) → A * C + 0 * D ≤ B * D + 0 * C → A * C ≤ B * D
one_part A B D C h = omega arith

cut_up : (w : ℕ) (x y : Float) → Le x y → to_unsigned w x ≤ to_unsigned w y
unfolding to_unsigned
cut_up w nan y h = absurd h
cut_up w (inf s) nan h = absurd h
cut_up w (inf true) (inf t) h = zero-le
cut_up w (inf false) (inf true) h = absurd h
cut_up w (inf false) (inf false) h = le_of_eq refl
cut_up w (inf true) (fin t n d) h = zero-le
cut_up w (inf false) (fin t n d) h = absurd h
cut_up w (fin s m e) nan h = absurd h
cut_up w (fin s m e) (inf true) h = absurd h
cut_up w (fin true m e) (inf false) h = zero-le
cut_up w (fin false m e) (inf false) h = cap_le (m * up e / down e) (2 ^ w - 1)
cut_up w (fin true m e) (fin t n d) h = zero-le
cut_up w (fin false m e) (fin false n d) h =
    capped (m * up e / down e) (n * up d / down d) (2 ^ w - 1) (div_mono (m * up e) (down e) (n * up d) (down d) (down_pos e) (down_pos d) (one_part (m * up e) (n * up d) (down e) (down d) h))
cut_up w (fin false m e) (fin true n d) h =
    le_trans (capped (m * up e / down e) (0 / down d) (2 ^ w - 1) (div_mono (m * up e) (down e) 0 (down d) (down_pos e) (down_pos d) (no_part (m * up e) (n * up d) (down e) (down d) h)))
    (le_trans (capped (0 / down d) 0 (2 ^ w - 1) (le_of_eq (zero-div (down d)))) (none (2 ^ w - 1)))
  where
    none : (c : ℕ) → min 0 c ≤ 0
    none c = omega arith

pub cut_rises : (w : ℕ) (x y : Float) → le x y ≡ true → to_unsigned w x ≤ to_unsigned w y
cut_rises w x y h = cut_up w x y (to x y h)

pub cut_same : (w : ℕ) (x y : Float) → eq x y ≡ true → to_unsigned w x ≡ to_unsigned w y
cut_same w x y h = le_antisymm (cut_rises w x y (order.eq→le x y h)) (cut_rises w y x (order.eq→le y x (order.eq_sym x y h)))

-- ---- the weight as a float
pub natural_within : (b n : ℕ) → n ≤ b → Within b (pos n)
natural_within b n h = record { low = record { le = low b }; high = record { le = le→leb n b h } }
  where
    low : (b : ℕ) → T (lib.Signed.le_z (neg_ℤ (pos b)) (pos n))
    low zero = le→leb 0 n zero-le
    low (suc b) = tt

-- ---- whole numbers up to a float
le_infinite : (z : Float) → T (finite z) → le z (inf false) ≡ true
le_infinite nan p = absurd p
le_infinite (inf s) p = absurd p
le_infinite (fin s m e) p = order.of (fin s m e) (inf false) tt

at_zero : (f : Format) (x : Float) (n : ℕ) → n ≡ 0 → le nought x ≡ true → le (of_int f (pos n)) x ≡ true
unfolding of_int
at_zero f x n e h = subst (λ (z : Float). le z x ≡ true) (sym (ap (λ (k : ℕ). round f false k 1) e ∙ round_zero f false 1 (zero-lt-suc 0))) h

reached : (n A D : ℕ) → n * D ≤ A → Under n 0 1 A 0 D
reached n A D h = omega arith

pub cut_reaches : (f : Format) (w n : ℕ) (x : Float) → n ≤ 2 ^ prec f → le nought x ≡ true → n ≤ to_unsigned w x → le (of_int f (pos n)) x ≡ true
unfolding to_unsigned
cut_reaches f w n nan p h k = absurd (to nought nan h)
cut_reaches f w n (inf true) p h k = absurd (to nought (inf true) h)
cut_reaches f w n (inf false) p h k = le_infinite (of_int f (pos n)) (of_int_exact f (pos n) (natural_within (2 ^ prec f) n p)).number
cut_reaches f w n (fin true m e) p h k = at_zero f (fin true m e) n (omega arith) h
cut_reaches f w n (fin false m e) p h k =
    let l : n ≤ m * up e / down e = under (m * up e / down e) (2 ^ w - 1) k in
    exact_le (of_int f (pos n)) (fin false m e) n 0 1 (m * up e) 0 (down e) (zero-lt-suc 0) (down_pos e) (of_int_exact f (pos n) (natural_within (2 ^ prec f) n p)) (record { number = tt; value = refl })
    (reached n (m * up e) (down e) ((le-div_iff_mul-le (down_pos e)).0 l))
  where
    under : (a c : ℕ) → n ≤ min a c → n ≤ a
    under a c h = omega arith

pub reaches_cut : (f : Format) (w n : ℕ) (x : Float) → n ≤ 2 ^ prec f → n < 2 ^ w → le (of_int f (pos n)) x ≡ true → n ≤ to_unsigned w x
unfolding in_float
reaches_cut f w n x p q h = le_trans (le_of_eq (sym (unsigned_back f w n (le→leb n (2 ^ prec f) p) q).1)) (cut_rises w (of_int f (pos n)) x h)

-- ---- zero
zero_int : of_int binary64 (pos 0) ≡ nought
unfolding of_int
zero_int = refl

-- ---- heights
pub height_finite : (h : Float) → Height h → T (finite h)
height_finite h t = order.le_between nought one h tt tt t

-- what equals a height as a number is one
pub height_same : (h h' : Float) → Height h → eq h h' ≡ true → Height h'
height_same h h' t k = record { low = order.le_trans nought h h' t.low (order.eq→le h h' k); high = order.le_trans h' h one (order.eq→le h' h (order.eq_sym h h' k)) t.high }

module _ (W : ℕ) (small : W ≤ 2 ^ 53) where
  pub weight_finite : T (finite (of_int binary64 (pos W)))
  weight_finite = (of_int_exact binary64 (pos W) (natural_within (2 ^ 53) W small)).number

  pub weight_positive : le nought (of_int binary64 (pos W)) ≡ true
  weight_positive = subst (λ (z : Float). le z (of_int binary64 (pos W)) ≡ true) zero_int (of_int_rises binary64 (pos 0) (pos W) (record { le = le→leb 0 W zero-le }))

  pub weight_back : to_unsigned 64 (of_int binary64 (pos W)) ≡ W
  unfolding in_float
  weight_back = (unsigned_back binary64 64 W (le→leb W (2 ^ 53) small) (under W small)).1
    where
      under : (W : ℕ) → W ≤ 2 ^ 53 → W < 2 ^ 64
      under W h = omega arith

  -- ---- times a height
  pub share_between : (h : Float) → Height h → Between nought (of_int binary64 (pos W)) (share W h)
  share_between h t = record {
    low = mul_positive binary64 (of_int binary64 (pos W)) h weight_finite (height_finite h t) weight_positive t.low;
    high = mul_no_larger binary64 (of_int binary64 (pos W)) h weight_finite (of_int-fits binary64 (pos W)) (height_finite h t) weight_positive t.high;
  }

  pub share_finite : (h : Float) → Height h → T (finite (share W h))
  share_finite h t = order.le_between nought (of_int binary64 (pos W)) (share W h) tt weight_finite (share_between h t)

  pub share_rises : (h h' : Float) → Height h → Height h' → le h h' ≡ true → le (share W h) (share W h') ≡ true
  share_rises h h' t t' k = mul_rises_right binary64 (of_int binary64 (pos W)) h h' weight_finite (height_finite h t) (height_finite h' t') weight_positive k

  pub weighed_bounded : (h : Float) → Height h → weighed W h ≤ W
  weighed_bounded h t = le_trans (cut_rises 64 (share W h) (of_int binary64 (pos W)) (share_between h t).high) (le_of_eq weight_back)

  pub weighed_rises : (h h' : Float) → Height h → Height h' → le h h' ≡ true → weighed W h ≤ weighed W h'
  weighed_rises h h' t t' k = cut_rises 64 (share W h) (share W h') (share_rises h h' t t' k)

  pub weighed_agrees : (h h' : Float) → Height h → eq h h' ≡ true → weighed W h ≡ weighed W h'
  weighed_agrees h h' t k =
      let t' = height_same h h' t k in
      le_antisymm (weighed_rises h h' t t' (order.eq→le h h' k)) (weighed_rises h' h t' t (order.eq→le h' h (order.eq_sym h h' k)))

-- ---- as code has it
pub weighs : (W : ℕ) (h : Float) (r : ℕ) → r ≡ weighed W h → Weighed W h r
weighs W h r e = record { value = e; bounded = λ small t. rw e (weighed_bounded W small h t) }
