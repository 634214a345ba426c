-- The two height laws of every Profile: each piece rises from its knot to the next, and never passes it.
-- Assumes nothing.
use Rattle.std.specs.Prelude.{◌≡◌, ℕ, zero, suc, ◌+◌, ◌-◌, ◌*◌, ◌^◌, ◌<◌, ◌≤◌, Bool, true, false, cond, ◌||◌, T, ◌⊎◌, List, length, ℤ, pos, negsuc, ◌≤ℤ◌, ◌≢◌, is_nan, slice_index, refl, Float}
use Rattle.std.proofs.Common.{sym, subst, ◌∙◌, true≢false, inl, inr, le_refl, le_trans, add-zero, zero-mul, mul-le-mul, eq-zero-or-pos, lt_irrefl, lt_of_lt_of_le, arith, lit≤}
use Rattle.std.specs.Float.Ieee.{binary64, le, lt, sub, mul, div, of_int, fits}
use Rattle.std.specs.Float.Ieee.Scale.{finite}
use Rattle.std.specs.Float.Ieee.Fits.{sub-fits, of_int-fits}
use Rattle.std.proofs.lemmas.Int.{ints}
use Rattle.std.proofs.lemmas.Bool.{cond_both, cases_order, or_parts, or_cases}
use Rattle.models.specs.Heights.{InReach, Lawful}
use Rattle.rounding.specs.Fractions.{nought, one, power}
use Rattle.rounding.specs.Order.{Between}
use Rattle.rounding.proofs.Laws.{order_laws, sum_laws, product_laws, quotient_laws, whole_laws, range_laws}
use Rattle.rounding.proofs.Order.{finite_number, right_number}
use Rattle.rounding.proofs.Quotients.{above_zero}
use Rattle.rounding.proofs.Weights.{natural_within}
use Rattle.distributions.specs.Greatest.{Greatest, greatest_is}
use Rattle.distributions.specs.Tables.{Parts, Rising, Sound, last_knot}
use Rattle.distributions.specs.Profile.{whole, end, reach, knot, line, line_at, piece_at, along, height_at}

-- ---- whole numbers as floats
pub whole_rises : (a b : ℕ) → a ≤ b → le (whole a) (whole b) ≡ true
whole_rises a b h = whole_laws.rises binary64 (pos a) (pos b) (omega (arith, ints))

pub whole_finite : (a : ℕ) → a ≤ 2 ^ 53 → T (finite (whole a))
whole_finite a h = (whole_laws.exact binary64 (pos a) (natural_within (2 ^ 53) a h)).number

whole_fits : (a : ℕ) → T (fits binary64 (whole a))
whole_fits a = of_int-fits binary64 (pos a)

whole_none : le nought (whole 0) ≡ true
unfolding le of_int
whole_none = refl

whole_zero : le (whole 0) nought ≡ true
unfolding le of_int
whole_zero = refl

whole_one : le one (whole 1) ≡ true
unfolding le of_int
whole_one = refl

one_above : lt nought one ≡ true
unfolding lt
one_above = refl

whole_from : (a : ℕ) → le nought (whole a) ≡ true
whole_from a = order_laws.transitive nought (whole 0) (whole a) whole_none (whole_rises 0 a (omega arith))

whole_some : (a : ℕ) → 1 ≤ a → le one (whole a) ≡ true
whole_some a h = order_laws.transitive one (whole 1) (whole a) whole_one (whole_rises 1 a h)

whole_above : (a : ℕ) → 1 ≤ a → lt nought (whole a) ≡ true
whole_above a h = above_zero one (whole a) one_above (whole_some a h)

-- ---- the knots
climb : (c : List ℕ) → Rising c → (i d : ℕ) → i + d < length c → slice_index c i ≤ slice_index c (i + d)
climb c r i zero h = rw (add-zero i) (le_refl (slice_index c i))
climb c r i (suc d) h = le_trans (climb c r i d (omega arith)) (subst (λ (m : ℕ). slice_index c m ≤ slice_index c (i + suc d)) (omega arith) (r (i + suc d) h))

pub knots_rise : (c : List ℕ) → Rising c → (i j : ℕ) → i ≤ j → j < length c → slice_index c i ≤ slice_index c j
knots_rise c r i j h k =
    let e : i + (j - i) ≡ j = omega arith in
    subst (λ (m : ℕ). slice_index c i ≤ slice_index c m) e (climb c r i (j - i) (omega arith))

least : le (power true (pos 40)) (of_int binary64 (negsuc 2147483647)) ≡ true
unfolding le of_int
least = refl

most : le (of_int binary64 (pos 2147483647)) (power false (pos 40)) ≡ true
unfolding le of_int
most = refl

-- how far the argument of a height lies from the start
centred : (a : ℤ) → negsuc 2147483647 ≤ℤ a → a ≤ℤ pos 2147483647 → Between (power true (pos 40)) (power false (pos 40)) (of_int binary64 a)
centred a h k =
    record {
      low = order_laws.transitive (power true (pos 40)) (of_int binary64 (negsuc 2147483647)) (of_int binary64 a) least (whole_laws.rises binary64 (negsuc 2147483647) a h);
      high = order_laws.transitive (of_int binary64 a) (of_int binary64 (pos 2147483647)) (power false (pos 40)) (whole_laws.rises binary64 a (pos 2147483647) k) most;
    }

pub start_finite : (a : ℤ) → negsuc 2147483647 ≤ℤ a → a ≤ℤ pos 2147483647 → T (finite (of_int binary64 a))
start_finite a h k = order_laws.between (power true (pos 40)) (power false (pos 40)) (of_int binary64 a) tt tt (centred a h k)

-- ---- one table
two_32 : le (whole (2 ^ 32)) (power false (pos 32)) ≡ true
unfolding le of_int
two_32 = refl

zero_zero : le nought nought ≡ true
unfolding le
zero_zero = refl

zero_one : le nought one ≡ true
unfolding le
zero_one = refl

one_one : le one one ≡ true
unfolding le
one_one = refl

product_end : T (finite (mul binary64 (power false (pos 32)) (power false (pos 41))))
unfolding mul
product_end = tt

-- t lies from the start to before the last knot
record In (p : Parts) (t : Float) : Type 0 where
  from : le nought t ≡ true
  high : le t (power false (pos 41)) ≡ true
  held : T (fits binary64 t)
  to : le (reach p (end p)) t ≡ false

-- and at or after knot i, which is not the last
record At (p : Parts) (i : ℕ) (t : Float) : Type 0 where
  lies : In p t
  below : i < end p
  past : le (reach p i) t ≡ true

module _ (p : Parts) (l : last_knot p.knots < 2 ^ 32) (s : Sound p.width p.knots) where
  inside : (i : ℕ) → i ≤ end p → i < length p.knots
  inside i h = omega (arith, s.counted.some)

  knot_order : (i j : ℕ) → i ≤ j → j ≤ end p → le (knot p i) (knot p j) ≡ true
  knot_order i j h k = whole_rises (slice_index p.knots i) (slice_index p.knots j) (knots_rise p.knots s.rising i j h (inside j k))

  knot_small : (i : ℕ) → i ≤ end p → slice_index p.knots i ≤ 2 ^ 32
  knot_small i h = le_trans (knots_rise p.knots s.rising i (end p) h (inside (end p) (le_refl (end p)))) (omega arith)

  knot_finite : (i : ℕ) → i ≤ end p → T (finite (knot p i))
  knot_finite i h = whole_finite (slice_index p.knots i) (le_trans (knot_small i h) (lit≤ tt))

  reach_finite : (i : ℕ) → i ≤ end p → T (finite (reach p i))
  reach_finite i h =
      let a : i ≤ 1024 = omega (arith, s.counted.most) in
      whole_finite (i * p.width) (le_trans (mul-le-mul a s.wide.most) (lit≤ tt))

  in_finite : (t : Float) → In p t → T (finite t)
  in_finite t r = order_laws.between nought (power false (pos 41)) t tt tt (record { low = r.from; high = r.high })

  -- the difference to the last knot, in widths
  rest_between : (i : ℕ) (t : Float) → At p i t → Between nought (power false (pos 41)) (sub binary64 t (reach p i))
  rest_between i t a =
      let ft = in_finite t a.lies in
      let fr = reach_finite i (omega (arith, a.below)) in
      record {
        low = sum_laws.difference_positive binary64 t (reach p i) ft fr a.past;
        high = order_laws.transitive (sub binary64 t (reach p i)) t (power false (pos 41)) (sum_laws.difference_under binary64 t (reach p i) ft a.lies.held fr (whole_from (i * p.width))) a.lies.high;
      }

  rest_finite : (i : ℕ) (t : Float) → At p i t → T (finite (sub binary64 t (reach p i)))
  rest_finite i t a = order_laws.between nought (power false (pos 41)) (sub binary64 t (reach p i)) tt tt (rest_between i t a)

  width_finite : T (finite (whole p.width))
  width_finite = whole_finite p.width (le_trans s.wide.most (lit≤ tt))

  abbrev part : ℕ → Float → Float
  part i t = div binary64 (sub binary64 t (reach p i)) (whole p.width)

  part_between : (i : ℕ) (t : Float) → At p i t → Between nought (power false (pos 41)) (part i t)
  part_between i t a =
      let r = sub binary64 t (reach p i) in
      let b = rest_between i t a in
      record {
        low = quotient_laws.positive binary64 r (whole p.width) (rest_finite i t a) width_finite b.low (whole_above p.width s.wide.some);
        high =
            order_laws.transitive (part i t) r (power false (pos 41))
            (quotient_laws.no_larger binary64 r (whole p.width) (rest_finite i t a) (sub-fits binary64 t (reach p i)) width_finite b.low (whole_some p.width s.wide.some)) b.high;
      }

  part_finite : (i : ℕ) (t : Float) → At p i t → T (finite (part i t))
  part_finite i t a = order_laws.between nought (power false (pos 41)) (part i t) tt tt (part_between i t a)

  -- from knot i to the next
  abbrev step : ℕ → Float
  step i = sub binary64 (knot p (i + 1)) (knot p i)

  step_between : (i : ℕ) → i < end p → Between nought (power false (pos 32)) (step i)
  step_between i h =
      let f = knot_finite i (omega arith) in
      let g = knot_finite (i + 1) (omega arith) in
      record {
        low = sum_laws.difference_positive binary64 (knot p (i + 1)) (knot p i) g f (knot_order i (i + 1) (omega arith) (omega arith));
        high =
            order_laws.transitive (step i) (knot p (i + 1)) (power false (pos 32)) (sum_laws.difference_under binary64 (knot p (i + 1)) (knot p i) g (whole_fits (slice_index p.knots (i + 1))) f (whole_from (slice_index p.knots i)))
            (order_laws.transitive (knot p (i + 1)) (whole (2 ^ 32)) (power false (pos 32)) (whole_rises (slice_index p.knots (i + 1)) (2 ^ 32) (knot_small (i + 1) (omega arith))) two_32);
      }

  step_finite : (i : ℕ) → i < end p → T (finite (step i))
  step_finite i h = order_laws.between nought (power false (pos 32)) (step i) tt tt (step_between i h)

  abbrev rise : ℕ → Float → Float
  rise i t = mul binary64 (step i) (part i t)

  rise_from : (i : ℕ) (t : Float) → At p i t → le nought (rise i t) ≡ true
  rise_from i t a = product_laws.positive binary64 (step i) (part i t) (step_finite i a.below) (part_finite i t a) (step_between i a.below).low (part_between i t a).low

  rise_finite : (i : ℕ) (t : Float) → At p i t → T (finite (rise i t))
  rise_finite i t a =
      order_laws.between nought (mul binary64 (power false (pos 32)) (power false (pos 41))) (rise i t) tt product_end
      (record {
        low = rise_from i t a;
        high = (product_laws.between binary64 nought (power false (pos 32)) nought (power false (pos 41)) (step i) (part i t) tt tt zero_zero zero_zero (step_between i a.below) (part_between i t a)).high;
      })

  line_from : (i : ℕ) (t : Float) → At p i t → le (knot p i) (line p i t) ≡ true
  line_from i t a = sum_laws.sum_above binary64 (knot p i) (rise i t) (knot_finite i (omega (arith, a.below))) (whole_fits (slice_index p.knots i)) (rise_finite i t a) (rise_from i t a)

  -- a piece stays between its knots
  piece_between : (i : ℕ) (t : Float) → At p i t → Between (knot p i) (knot p (i + 1)) (line_at p i t)
  unfolding line_at
  piece_between i t a =
      let up = line_from i t a in
      record {
        low = order_laws.lesser_above (line p i t) (knot p (i + 1)) (knot p i) up (knot_order i (i + 1) (omega arith) (omega (arith, a.below)));
        high = order_laws.lesser_right (line p i t) (knot p (i + 1)) (right_number (knot p i) (line p i t) up) (finite_number (knot p (i + 1)) (knot_finite (i + 1) (omega (arith, a.below))));
      }

  piece_finite : (i : ℕ) (t : Float) → At p i t → T (finite (line_at p i t))
  piece_finite i t a = order_laws.between (knot p i) (knot p (i + 1)) (line_at p i t) (knot_finite i (omega (arith, a.below))) (knot_finite (i + 1) (omega (arith, a.below))) (piece_between i t a)

  -- and rises
  same : (x : Float) → T (finite x) → le x x ≡ true
  same x f = order_laws.reflexive x (finite_number x f)

  piece_rises : (i : ℕ) (t u : Float) → At p i t → At p i u → le t u ≡ true → le (line_at p i t) (line_at p i u) ≡ true
  unfolding line_at
  piece_rises i t u a b h =
      let fk = knot_finite i (omega (arith, a.below)) in
      let fn = knot_finite (i + 1) (omega (arith, a.below)) in
      let fr = reach_finite i (omega (arith, a.below)) in
      order_laws.lesser_rises (line p i t) (line p i u) (knot p (i + 1)) (knot p (i + 1))
      (sum_laws.sum_rises binary64 (knot p i) (knot p i) (rise i t) (rise i u) fk fk (rise_finite i t a) (rise_finite i u b) (same (knot p i) fk)
      (product_laws.rises_right binary64 (step i) (part i t) (part i u) (step_finite i a.below) (part_finite i t a) (part_finite i u b) (step_between i a.below).low
      (quotient_laws.rises binary64 (sub binary64 t (reach p i)) (sub binary64 u (reach p i)) (whole p.width) (rest_finite i t a) (rest_finite i u b) width_finite (whole_above p.width s.wide.some)
      (sum_laws.difference_rises binary64 t u (reach p i) (reach p i) (in_finite t a.lies) (in_finite u b.lies) fr fr h (same (reach p i) fr)))))
      (same (knot p (i + 1)) fn)

  -- the knot that a height starts from
  reach_zero : le (reach p 0) nought ≡ true
  reach_zero = rw (zero-mul p.width) whole_zero

  greatest_at : (t : Float) → Greatest (λ i. le (reach p i) t) (end p) (piece_at p t)
  unfolding piece_at
  greatest_at t = greatest_is (λ i. le (reach p i) t) (end p)

  piece_at_lem : (t : Float) → In p t → At p (piece_at p t) t
  piece_at_lem t r = record { lies = r; below = not_last (cases_order (piece_at p t) (end p)); past = from_zero (eq-zero-or-pos (piece_at p t)) }
    where
      not_last : (piece_at p t ≡ end p) ⊎ ((piece_at p t < end p) ⊎ (end p < piece_at p t)) → piece_at p t < end p
      not_last (inl e) =
          let h : le (reach p (piece_at p t)) t ≡ true = (greatest_at t).passes (omega (arith, s.counted.some)) in
          absurd (true≢false (sym (rw e at h) ∙ r.to))
      not_last (inr (inl h)) = h
      not_last (inr (inr h)) = absurd (lt_irrefl (end p) (lt_of_lt_of_le h (greatest_at t).within))

      from_zero : (piece_at p t ≡ 0) ⊎ (0 < piece_at p t) → le (reach p (piece_at p t)) t ≡ true
      from_zero (inl e) = rw e (order_laws.transitive (reach p 0) nought t reach_zero r.from)
      from_zero (inr h) = (greatest_at t).passes h

  -- from piece to piece
  pieces_rise : (i j : ℕ) (t u : Float) → At p i t → At p j u → (j < i → ⊥) → le t u ≡ true → le (line_at p i t) (line_at p j u) ≡ true
  pieces_rise i j t u a b never h = go (cases_order i j)
    where
      go : (i ≡ j) ⊎ ((i < j) ⊎ (j < i)) → le (line_at p i t) (line_at p j u) ≡ true
      go (inl e) = subst (λ (m : ℕ). le (line_at p m t) (line_at p j u) ≡ true) (sym e) (piece_rises j t u (subst (λ (m : ℕ). At p m t) e a) b h)
      go (inr (inl k)) =
          order_laws.transitive (line_at p i t) (knot p (i + 1)) (line_at p j u) (piece_between i t a).high
          (order_laws.transitive (knot p (i + 1)) (knot p j) (line_at p j u) (knot_order (i + 1) j (omega arith) (omega (arith, b.below))) (piece_between j u b).low)
      go (inr (inr k)) = absurd (never k)

  at_rises : (t u : Float) → In p t → In p u → le t u ≡ true → le (line_at p (piece_at p t) t) (line_at p (piece_at p u) u) ≡ true
  at_rises t u r q h =
      let a = piece_at_lem t r in
      pieces_rise (piece_at p t) (piece_at p u) t u a (piece_at_lem u q)
      (λ k. true≢false (sym (order_laws.transitive (reach p (piece_at p t)) t u a.past h) ∙ (greatest_at u).above (piece_at p t) k (omega (arith, a.below)))) h

  -- ---- counted in last knots
  abbrev share : Float → Float
  share t = div binary64 (line_at p (piece_at p t) t) (knot p (end p))

  last_finite : T (finite (knot p (end p)))
  last_finite = knot_finite (end p) (le_refl (end p))

  last_above : lt nought (knot p (end p)) ≡ true
  last_above = whole_above (last_knot p.knots) (omega (arith, s.last))

  share_from : (t : Float) → In p t → le nought (share t) ≡ true
  share_from t r =
      let a = piece_at_lem t r in
      let i = piece_at p t in
      quotient_laws.positive binary64 (line_at p i t) (knot p (end p)) (piece_finite i t a) last_finite
      (order_laws.transitive nought (knot p i) (line_at p i t) (whole_from (slice_index p.knots i)) (piece_between i t a).low) last_above

  share_to : (t : Float) → In p t → le (share t) one ≡ true
  share_to t r =
      let a = piece_at_lem t r in
      let i = piece_at p t in
      quotient_laws.at_most_one binary64 (line_at p i t) (knot p (end p)) (piece_finite i t a) last_finite last_above
      (order_laws.transitive (line_at p i t) (knot p (i + 1)) (knot p (end p)) (piece_between i t a).high (knot_order (i + 1) (end p) (omega (arith, a.below)) (le_refl (end p))))

  share_rises : (t u : Float) → In p t → In p u → le t u ≡ true → le (share t) (share u) ≡ true
  share_rises t u r q h =
      quotient_laws.rises binary64 (line_at p (piece_at p t) t) (line_at p (piece_at p u) u) (knot p (end p)) (piece_finite (piece_at p t) t (piece_at_lem t r)) (piece_finite (piece_at p u) u (piece_at_lem u q))
      last_finite last_above (at_rises t u r q h)

  -- ---- the height
  module _ (h : negsuc 2147483647 ≤ℤ p.start) (k : p.start ≤ℤ pos 2147483647) where
    moved : (x : Float) → InReach x → Between (power true (pos 41)) (power false (pos 41)) (along p x)
    moved x r = range_laws.moved x (of_int binary64 p.start) (record { low = r.from; high = r.to }) (centred p.start h k)

    along_rises : (x y : Float) → InReach x → InReach y → le x y ≡ true → le (along p x) (along p y) ≡ true
    along_rises x y r q l =
        let a = of_int binary64 p.start in
        let fa = start_finite p.start h k in
        sum_laws.difference_rises binary64 x y a a (reached x r) (reached y q) fa fa l (same a fa)
      where
        reached : (x : Float) → InReach x → T (finite x)
        reached x r = order_laws.between (power true (pos 33)) (power false (pos 33)) x tt tt (record { low = r.from; high = r.to })

    -- the two tests, and what is left between them
    abbrev before : Float → Bool
    before x = is_nan x || lt (along p x) nought

    abbrev past : Float → Bool
    past x = le (reach p (end p)) (along p x)

    abbrev upper : Float → Float
    upper x = cond (past x) one (share (along p x))

    not_before : (x : Float) → InReach x → before x ≡ false → le nought (along p x) ≡ true
    not_before x r f = order_laws.from_not_lt (along p x) nought (right_number (power true (pos 41)) (along p x) (moved x r).low) (finite_number nought tt) (or_parts (is_nan x) (lt (along p x) nought) f).1

    lies : (x : Float) → InReach x → before x ≡ false → past x ≡ false → In p (along p x)
    lies x r f g = record { from = not_before x r f; high = (moved x r).high; held = sub-fits binary64 x (of_int binary64 p.start); to = g }

    never_back : (x y : Float) → InReach x → InReach y → le x y ≡ true → before x ≡ false → before y ≢ true
    never_back x y r q l f g = go (or_cases (is_nan y) (lt (along p y) nought) g)
      where
        go : (is_nan y ≡ true) ⊎ (lt (along p y) nought ≡ true) → ⊥
        go (inl e) = true≢false (sym e ∙ right_number (power true (pos 33)) y q.from)
        go (inr e) = true≢false (sym e ∙ order_laws.not_lt nought (along p y) (order_laws.transitive nought (along p x) (along p y) (not_before x r f) (along_rises x y r q l)))

    height_from : (x : Float) → InReach x → le nought (height_at p x) ≡ true
    unfolding height_at
    height_from x r =
        cond_both (before x) nought (upper x) (λ y. le nought y ≡ true) (λ f. zero_zero)
        (λ f. cond_both (past x) one (share (along p x)) (λ y. le nought y ≡ true) (λ g. zero_one) (λ g. share_from (along p x) (lies x r f g)))

    height_to : (x : Float) → InReach x → le (height_at p x) one ≡ true
    unfolding height_at
    height_to x r =
        cond_both (before x) nought (upper x) (λ y. le y one ≡ true) (λ f. zero_one)
        (λ f. cond_both (past x) one (share (along p x)) (λ y. le y one ≡ true) (λ g. one_one) (λ g. share_to (along p x) (lies x r f g)))

    upper_rises : (x y : Float) → InReach x → InReach y → le x y ≡ true → before x ≡ false → before y ≡ false → le (upper x) (upper y) ≡ true
    upper_rises x y r q l f g =
        let m = along_rises x y r q l in
        cond_both (past x) one (share (along p x)) (λ z. le z (upper y) ≡ true)
        (λ d. cond_both (past y) one (share (along p y)) (λ z. le one z ≡ true) (λ e. one_one)
        (λ e. absurd (true≢false (sym (order_laws.transitive (reach p (end p)) (along p x) (along p y) d m) ∙ e))))
        (λ d. cond_both (past y) one (share (along p y)) (λ z. le (share (along p x)) z ≡ true) (λ e. share_to (along p x) (lies x r f d))
        (λ e. share_rises (along p x) (along p y) (lies x r f d) (lies y q g e) m))

    height_rises : (x y : Float) → InReach x → InReach y → le x y ≡ true → le (height_at p x) (height_at p y) ≡ true
    unfolding height_at
    height_rises x y r q l =
        cond_both (before x) nought (upper x) (λ z. le z (height_at p y) ≡ true) (λ f. height_from y q)
        (λ f. cond_both (before y) nought (upper y) (λ z. le (upper x) z ≡ true) (λ g. absurd (never_back x y r q l f g)) (λ g. upper_rises x y r q l f g))

pub profile_lawful : (p : Parts) → negsuc 2147483647 ≤ℤ p.start → p.start ≤ℤ pos 2147483647 → last_knot p.knots < 2 ^ 32 → Sound p.width p.knots → Lawful (height_at p)
profile_lawful p h k l s = record { from = height_from p l s h k; to = height_to p l s h k; rises = height_rises p l s h k }
