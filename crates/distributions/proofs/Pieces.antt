-- The two searches of a profile: the piece of a distance, and the last knot of at most a value. Assumes nothing.
use Rattle.std.proofs.Common.{◌≡◌, ℕ, ◌+◌, ◌*◌, ◌/◌, ◌^◌, ◌<◌, ◌≤◌, true, false, cond, ◌||◌, T, ◌⊎◌, List, drop, length, get_or, length-drop, pos, negsuc, ◌≤ℤ◌, sym, refl, ◌∙◌, subst, inl, inr, true≢false, le_trans, le_refl, lt_of_lt_of_le, lt_irrefl, div-lt_iff_lt-mul, mul-le-mul, div-mul-le_self, arith, lit≤}
use lib.Ieee.{Float, binary64, le, lt, sub, div, of_int, to_unsigned, fits, is_nan}
use lib.Ieee.Scale.{finite}
use Rattle.std.specs.List.Sorted.{IsPartitionedBy}
use Rattle.std.proofs.lemmas.List.Sorted.{IsNonDecreasingBy-from_default}
use Rattle.std.proofs.lemmas.Grind.{get_or_after_one}
use Rattle.std.proofs.lemmas.Bool.{cases_Bool, cases_lt, cond-true, cond-false, or_left, or_right, or_from}
use Rattle.rounding.specs.Fractions.{nought, one, power}
use Rattle.rounding.proofs.Laws.{order_laws}
use Rattle.rounding.proofs.Order.{finite_number, right_number, so}
use Rattle.distributions.specs.Greatest.{greatest_only}
use Rattle.distributions.specs.Tables.{Parts, Rising, Counted, Wide}
use Rattle.distributions.specs.Profile.{whole, end, reach, knot, along, line_at, piece_at, last_up_to, height_at}
use Rattle.distributions.specs.ProfileLaws.{whole_rises, whole_finite, knots_rise, start_finite}
use Rattle.distributions.proofs.Cuts.{lt_le, le_lt, cut_under, cut_over, sub_number}

minus_one : lt (power true (pos 0)) nought ≡ true
unfolding lt
minus_one = refl

wide_end : lt (whole (2 ^ 26)) (power false (pos 64)) ≡ true
unfolding lt of_int
wide_end = refl

module _ (p : Parts) (n : Counted p.knots) (w : Wide p.width) (t : Float) (from : le nought t ≡ true) (held : fits binary64 t ≡ true) (to : le (reach p (end p)) t ≡ false) where
  reach_small : (i : ℕ) → i ≤ end p → i * p.width ≤ 2 ^ 26
  reach_small i h =
      let a : i ≤ 1024 = omega (arith, n.most) in
      mul-le-mul a w.most

  to_end : le t (reach p (end p)) ≡ true
  to_end = elim (order_laws.total t (reach p (end p)) (right_number nought t from) (finite_number (reach p (end p)) (whole_finite (end p * p.width) (le_trans (reach_small (end p) (le_refl (end p))) (lit≤ tt))))) [ inl h ↦ h | inr h ↦ absurd (true≢false (sym h ∙ to)) ]

  to_most : le t (whole (2 ^ 26)) ≡ true
  to_most = order_laws.transitive t (reach p (end p)) (whole (2 ^ 26)) to_end (whole_rises (end p * p.width) (2 ^ 26) (reach_small (end p) (le_refl (end p))))

  t_finite : T (finite t)
  t_finite = order_laws.between nought (whole (2 ^ 26)) t tt (whole_finite (2 ^ 26) (lit≤ tt)) (record { low = from; high = to_most })

  pub piece_low : T (lt (power true (pos 0)) t)
  piece_low = so (lt (power true (pos 0)) t) (lt_le (power true (pos 0)) nought t (finite_number (power true (pos 0)) tt) minus_one from)

  pub piece_high : T (lt t (power false (pos 64)))
  piece_high = so (lt t (power false (pos 64))) (le_lt t (whole (2 ^ 26)) (power false (pos 64)) (finite_number (power false (pos 64)) tt) to_most wide_end)

  -- knot i lies at or before t exactly where i × w is at most the whole part of t
  reached : (i : ℕ) → i * p.width ≤ to_unsigned 64 t → le (reach p i) t ≡ true
  reached i h = order_laws.transitive (reach p i) (whole (to_unsigned 64 t)) t (whole_rises (i * p.width) (to_unsigned 64 t) h) (cut_under binary64 64 t t_finite (so (fits binary64 t) held) from)

  beyond : (i : ℕ) → i ≤ end p → to_unsigned 64 t < i * p.width → le (reach p i) t ≡ false
  beyond i h k =
      elim (cases_Bool (le (reach p i) t)) [
        | inl l ↦ absurd (lt_irrefl (to_unsigned 64 t) (lt_of_lt_of_le k (cut_over binary64 64 (i * p.width) t (le_trans (reach_small i h) (lit≤ tt)) (lt_of_lt_of_le (omega (arith, reach_small i h)) (le_refl (2 ^ 64))) l)))
        | inr l ↦ l
      ]

  pub piece_below : to_unsigned 64 t / p.width < end p
  piece_below = (div-lt_iff_lt-mul w.some).1 short
    where
      short : to_unsigned 64 t < end p * p.width
      short = elim (cases_lt (to_unsigned 64 t) (end p * p.width)) [ inl h ↦ h | inr h ↦ absurd (true≢false (sym (reached (end p) h) ∙ to)) ]

  pub piece_is : to_unsigned 64 t / p.width ≡ piece_at p t
  unfolding piece_at
  piece_is =
      let i = to_unsigned 64 t / p.width in
      greatest_only (λ i. le (reach p i) t) (end p) i
      (record {
        within = omega (arith, piece_below);
        passes = λ h. reached i (div-mul-le_self (to_unsigned 64 t) p.width);
        above = λ j h k. beyond j k ((div-lt_iff_lt-mul w.some).0 h);
      })

-- ---- the last knot of at most y
-- no knot after one above y is at most y
pub knots_parted : (c : List ℕ) (y : Float) → Rising c → IsPartitionedBy (λ k. le (whole k) y) c
knots_parted c y r i j d h k =
    let rises = IsNonDecreasingBy-from_default (λ (k : ℕ). k) c 0 (knots_rise c r) in
    order_laws.transitive (whole (get_or c i d)) (whole (get_or c j d)) y (whole_rises (get_or c i d) (get_or c j d) (rises i j d h k))

-- the same of the knots after the first
pub later_parted : (c : List ℕ) (y : Float) → Rising c → IsPartitionedBy (λ k. le (whole k) y) (drop 1 c)
later_parted c y r i j d h k e =
    subst (λ (x : ℕ). le (whole x) y ≡ true) (sym (get_or_after_one c i d))
    (knots_parted c y r (1 + i) (1 + j) d (omega arith) (omega (arith, k, length-drop 1 c)) (subst (λ (x : ℕ). le (whole x) y ≡ true) (get_or_after_one c j d) e))

pub last_is : (p : Parts) (y : Float) (i : ℕ) → i < length p.knots → (0 < i → le (knot p i) y ≡ true) → ((j : ℕ) → i + 1 ≤ j → j < length p.knots → le (knot p j) y ≡ false) → i ≡ last_up_to p y
unfolding last_up_to
last_is p y i h passes above =
    greatest_only (λ i. le (knot p i) y) (end p) i
    (record { within = omega arith; passes = passes; above = λ j a b. above j (omega arith) (omega arith) })

-- ---- the height by its three ways; o is the start as a float
pub height_before : (p : Parts) (x o : Float) → o ≡ of_int binary64 p.start → (is_nan x ≡ true) ⊎ (lt (sub binary64 x o) nought ≡ true) → nought ≡ height_at p x
unfolding height_at
height_before p x o e h = sym (cond-true (is_nan x || lt (along p x) nought) nought (cond (le (reach p (end p)) (along p x)) one (div binary64 (line_at p (piece_at p (along p x)) (along p x)) (knot p (end p)))) (go h))
  where
    go : (is_nan x ≡ true) ⊎ (lt (sub binary64 x o) nought ≡ true) → (is_nan x || lt (along p x) nought) ≡ true
    go (inl h) = or_left (is_nan x) (lt (along p x) nought) h
    go (inr h) = or_right (is_nan x) (lt (along p x) nought) (subst (λ (a : Float). lt (sub binary64 x a) nought ≡ true) e h)

module _ (p : Parts) (x o r : Float) (e : o ≡ of_int binary64 p.start) (d : r ≡ reach p (end p)) (number : is_nan x ≡ false) (after : lt (sub binary64 x o) nought ≡ false) where
  not_before : (is_nan x || lt (along p x) nought) ≡ false
  not_before = or_from (is_nan x) (lt (along p x) nought) number (subst (λ (a : Float). lt (sub binary64 x a) nought ≡ false) e after)

  pub height_past : le r (sub binary64 x o) ≡ true → one ≡ height_at p x
  unfolding height_at
  height_past h =
      sym (cond-false (is_nan x || lt (along p x) nought) nought (cond (le (reach p (end p)) (along p x)) one (div binary64 (line_at p (piece_at p (along p x)) (along p x)) (knot p (end p)))) not_before
      ∙ cond-true (le (reach p (end p)) (along p x)) one (div binary64 (line_at p (piece_at p (along p x)) (along p x)) (knot p (end p))) (rw (d, e) at h))

  pub height_between : (i : ℕ) (g k : Float) → le r (sub binary64 x o) ≡ false → i ≡ piece_at p (sub binary64 x o) → g ≡ line_at p i (sub binary64 x o) → k ≡ knot p (end p) → div binary64 g k ≡ height_at p x
  unfolding height_at
  height_between i g k h a b c =
      (rw (c, b, a, e))
      ∙ sym (cond-false (is_nan x || lt (along p x) nought) nought (cond (le (reach p (end p)) (along p x)) one (div binary64 (line_at p (piece_at p (along p x)) (along p x)) (knot p (end p)))) not_before
      ∙ cond-false (le (reach p (end p)) (along p x)) one (div binary64 (line_at p (piece_at p (along p x)) (along p x)) (knot p (end p))) (rw (d, e) at h))

  -- what the search of the piece asks
  pub piece_from : negsuc 2147483647 ≤ℤ p.start → p.start ≤ℤ pos 2147483647 → le nought (sub binary64 x o) ≡ true
  piece_from h k = order_laws.from_not_lt (sub binary64 x o) nought (sub_number binary64 x o number (rw e (start_finite p.start h k))) (finite_number nought tt) after
