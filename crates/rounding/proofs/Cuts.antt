-- The whole part of a float by one sum: from 2 ^ 52 to 2 ^ 53 the floats are the whole numbers, so a sum that lands there has lost
-- its fraction, and is off by less than one. Assumes nothing.
use Rattle.std.proofs.Common.{◌≡◌, ℕ, zero, suc, ◌+◌, ◌-◌, ◌*◌, ◌/◌, ◌%◌, ◌^◌, ◌<◌, ◌≤◌, min, Bool, true, false, ◌&&◌, T, eqb, ltb, leb, ℤ, pos, negsuc, sym, refl, ap, ◌∙◌, subst, inl, inr, suc-le-suc, zero-le, le_trans, le_of_eq, mul-le-mul_right, zero-lt-suc, div-lt_iff_lt-mul, add-mul, le-div_iff_mul-le, zero-mul, mul-one, div-one, arith, lit<, le→leb, ltb→lt, lt→ltb, pow_mono}
use native.Mathlib.Nat.{mod-one}
use Rattle.std.proofs.lemmas.Bool.{cases_lt}
use lib.Ieee.{Float, nan, inf, fin, binary64, low, emax, up, down, of_int, add, sub, to_unsigned, to_signed, whole, in_signed, le, lt, fits}
use lib.Ieee.Fits.{down_pos, of_int-fits, add-fits, and_l, and_r, eq→eqb}
use lib.Ieee.Positive.{den, den_pos}
use lib.Ieee.Scale.{finite}
use Rattle.rounding.specs.Fractions.{plus, less, Under, nought, one, power}
use Rattle.rounding.specs.Order.{Between}
use Rattle.rounding.specs.Rounded.{Rounds, Is}
use Rattle.rounding.proofs.Order as order
use Rattle.rounding.proofs.Order.{to, under_trans}
use Rattle.rounding.proofs.Rounded.{rounds_over, rounds_under, rounds_same, rounds_exact}
use Rattle.rounding.proofs.Wholes.{of_int_exact, of_int_rises, exact_le, exact_lt}
use Rattle.rounding.specs.Weights.{share, Height}
use Rattle.rounding.proofs.Weights.{natural_within, cut_rises, weight_back, share_between}
use Rattle.rounding.proofs.Sums.{add_rounds, sub_rounds, nothing_less}

-- a float from 2 ^ 52 to 2 ^ 53, as a whole number
pub record IsWhole (y : Float) (n : ℕ) : Type 0 where
  pub number : T (finite y)
  pub more : plus y ≡ n
  pub no_less : less y ≡ 0
  pub undivided : den y ≡ 1
  pub from : 2 ^ 52 ≤ n
  pub to : n ≤ 2 ^ 53
  pub cast : T (in_signed binary64 63 y)
  pub is : to_signed 63 y ≡ pos n

-- ---- floats from 2 ^ 52 to 2 ^ 53
not_negative : (d l : ℕ) → 0 < d → 1 * 2 ^ 52 * d + l * 1 ≤ 0 * 1 + 0 * d → ⊥
not_negative d l p h = omega arith

whole_cast : (m e : ℕ) → m * 2 ^ e ≤ 2 ^ 53 → T (in_signed binary64 63 (fin false m (pos e)))
unfolding whole in_signed
whole_cast m e h =
    tests (eqb (m * 2 ^ e % 1) 0) (leb (m * 2 ^ e / 1) (2 ^ 53)) (ltb (m * 2 ^ e / 1) (2 ^ 63))
    (order.yes _ (eq→eqb (mod-one (m * 2 ^ e))))
    (order.yes _ (le→leb (m * 2 ^ e / 1) (2 ^ 53) (rw div-one h)))
    (order.yes _ (lt→ltb (m * 2 ^ e / 1) (2 ^ 63) (rw div-one (wide (m * 2 ^ e) h))))
  where
    wide : (n : ℕ) → n ≤ 2 ^ 53 → n < 2 ^ 63
    wide n h = omega arith

    tests : (a b c : Bool) → a ≡ true → b ≡ true → c ≡ true → T (a && b && true && c)
    tests a b c p q r = rw (p, q, r) tt

whole_is : (m e : ℕ) → m * 2 ^ e ≤ 2 ^ 53 → to_signed 63 (fin false m (pos e)) ≡ pos (m * 2 ^ e)
unfolding to_signed
whole_is m e h = ap pos (rw div-one (short (m * 2 ^ e) h))
  where
    short : (n : ℕ) → n ≤ 2 ^ 53 → min n (2 ^ 63 - 1) ≡ n
    short n h = omega arith

-- more digits than the format has
fraction_small : (m e : ℕ) → T (fits binary64 (fin false m (negsuc e))) → m < 2 ^ 53
unfolding fits
fraction_small zero e p = lit< tt
fraction_small (suc m) e p =
    ltb→lt (suc m) (2 ^ 53)
    (second (eqb (suc m % 2) 1) (ltb (suc m) (2 ^ 53)) (leb (down (negsuc e)) (2 ^ low binary64)) (ltb (suc m * up (negsuc e)) (2 ^ suc (emax binary64) * down (negsuc e))) p)
  where
    second : (a b c d : Bool) → T (a && b && c && d) → T b
    second a b c d h = and_r a b (and_l (a && b) c (and_l (a && b && c) d h))

no_room : (m X : ℕ) → 2 ≤ X → m < 2 ^ 53 → 1 * 2 ^ 52 * X + 0 * 1 ≤ m * 1 * 1 + 0 * X → ⊥
no_room m X p q h = omega arith

pub large_whole : (y : Float) → T (fits binary64 y) → le (power false (pos 52)) y ≡ true → le y (power false (pos 53)) ≡ true → (n : ℕ) × IsWhole y n
large_whole nan p h k = absurd (to (power false (pos 52)) nan h)
large_whole (inf true) p h k = absurd (to (power false (pos 52)) (inf true) h)
large_whole (inf false) p h k = absurd (to (inf false) (power false (pos 53)) k)
large_whole (fin true m e) p h k = absurd (not_negative (down e) (m * up e) (down_pos e) (to (power false (pos 52)) (fin true m e) h))
large_whole (fin false m (pos e)) p h k =
    let over : m * 2 ^ e ≤ 2 ^ 53 = upper (m * 2 ^ e) (to (fin false m (pos e)) (power false (pos 53)) k) in (
      m * 2 ^ e,
      record {
        number = tt;
        more = refl;
        no_less = refl;
        undivided = refl;
        from = lower (m * 2 ^ e) (to (power false (pos 52)) (fin false m (pos e)) h);
        to = over;
        cast = whole_cast m e over;
        is = whole_is m e over;
      },
    )
  where
    upper : (n : ℕ) → n * 1 + 0 * 1 ≤ 1 * 2 ^ 53 * 1 + 0 * 1 → n ≤ 2 ^ 53
    upper n h = omega arith

    lower : (n : ℕ) → 1 * 2 ^ 52 * 1 + 0 * 1 ≤ n * 1 + 0 * 1 → 2 ^ 52 ≤ n
    lower n h = omega arith
large_whole (fin false m (negsuc e)) p h k =
    absurd (no_room m (2 ^ suc e) (pow_mono {i = 1} (suc-le-suc zero-le)) (fraction_small m e p) (to (power false (pos 52)) (fin false m (negsuc e)) h))

-- ---- the sum and the way back
-- k is the whole part of x, which is not negative
pub record Parted (x : Float) (k : ℕ) : Type 0 where
  pub number : T (finite x)
  pub no_less : less x ≡ 0
  pub under : k * den x ≤ plus x
  pub over : plus x < suc k * den x

-- what is at least the whole number j is n, and n at least j
at_least : (z : Float) (n j : ℕ) → IsWhole z n → j ≤ 2 ^ 53 → le (of_int binary64 (pos j)) z ≡ true → j ≤ n
at_least z n j w b h =
    let o = of_int binary64 (pos j) in
    let v = of_int_exact binary64 (pos j) (natural_within (2 ^ 53) j b) in
    let u : Under j 0 1 (plus z) (less z) (den z) =
    under_trans j 0 1 (plus o) (less o) (den o) (plus z) (less z) (den z) (den_pos o) (le_of_eq (sym v.value)) (order.le→cross o z v.number w.number h) in
    go (plus z) (less z) (den z) u w.more w.no_less w.undivided
  where
    go : (a b d : ℕ) → j * d + b * 1 ≤ a * 1 + 0 * d → a ≡ n → b ≡ 0 → d ≡ 1 → j ≤ n
    go a b d h p q r = omega (arith, ap (λ (x : ℕ). j * x) r)

at_most : (z : Float) (n j : ℕ) → IsWhole z n → j ≤ 2 ^ 53 → le z (of_int binary64 (pos j)) ≡ true → n ≤ j
at_most z n j w b h =
    let o = of_int binary64 (pos j) in
    let v = of_int_exact binary64 (pos j) (natural_within (2 ^ 53) j b) in
    let u : Under (plus z) (less z) (den z) j 0 1 =
    under_trans (plus z) (less z) (den z) (plus o) (less o) (den o) j 0 1 (den_pos o) (order.le→cross z o w.number v.number h) (le_of_eq v.value) in
    go (plus z) (less z) (den z) u w.more w.no_less w.undivided
  where
    go : (a b d : ℕ) → a * 1 + 0 * d ≤ j * d + b * 1 → a ≡ n → b ≡ 0 → d ≡ 1 → n ≤ j
    go a b d h p q r = omega (arith, ap (λ (x : ℕ). j * x) r)

-- x and the whole number 2 ^ 52, added and rounded, lie between the whole numbers around x, moved up
module _ (x : Float) (k : ℕ) (parted : Parted x k) (small : k ≤ 2 ^ 51) where
  abbrev raised : Float
  raised = add binary64 x (power false (pos 52))

  raised_rounds : Rounds binary64 raised (plus x * 1 + 1 * 2 ^ 52 * den x) (less x * 1 + 0 * den x) (den x * 1)
  raised_rounds = add_rounds binary64 x (power false (pos 52)) parted.number tt

  over_one : 0 < den x * 1
  over_one = let p = den_pos x in omega arith

  raised_over : (o : Float) (j : ℕ) → Is o j 0 1 → T (fits binary64 o) → j ≤ k + 2 ^ 52 → le o raised ≡ true
  raised_over o j v f h =
      rounds_over binary64 raised o (plus x * 1 + 1 * 2 ^ 52 * den x) (less x * 1 + 0 * den x) (den x * 1) over_one v.number f raised_rounds
      (under_trans (plus o) (less o) (den o) j 0 1 (plus x * 1 + 1 * 2 ^ 52 * den x) (less x * 1 + 0 * den x) (den x * 1) (zero-lt-suc 0) (le_of_eq v.value)
      (go (plus x) (less x) (den x) (mul-le-mul_right (den x) h) (add-mul k (2 ^ 52) (den x)) parted.under parted.no_less))
    where
      go : (a b d : ℕ) → j * d ≤ (k + 2 ^ 52) * d → (k + 2 ^ 52) * d ≡ k * d + 2 ^ 52 * d → k * d ≤ a → b ≡ 0 → j * (d * 1) + (b * 1 + 0 * d) * 1 ≤ (a * 1 + 1 * 2 ^ 52 * d) * 1 + 0 * (d * 1)
      go a b d p q r t = rw (mul-one d) (omega arith)

  raised_under : (o : Float) (j : ℕ) → Is o j 0 1 → T (fits binary64 o) → suc k + 2 ^ 52 ≤ j → le raised o ≡ true
  raised_under o j v f h =
      rounds_under binary64 raised o (plus x * 1 + 1 * 2 ^ 52 * den x) (less x * 1 + 0 * den x) (den x * 1) over_one v.number f raised_rounds
      (under_trans (plus x * 1 + 1 * 2 ^ 52 * den x) (less x * 1 + 0 * den x) (den x * 1) j 0 1 (plus o) (less o) (den o) (zero-lt-suc 0)
      (go (plus x) (less x) (den x) (mul-le-mul_right (den x) h) (add-mul (suc k) (2 ^ 52) (den x)) parted.over parted.no_less) (le_of_eq (sym v.value)))
    where
      go : (a b d : ℕ) → (suc k + 2 ^ 52) * d ≤ j * d → (suc k + 2 ^ 52) * d ≡ suc k * d + 2 ^ 52 * d → a < suc k * d → b ≡ 0 → (a * 1 + 1 * 2 ^ 52 * d) * 1 + 0 * (d * 1) ≤ j * (d * 1) + (b * 1 + 0 * d) * 1
      go a b d p q r t = rw (mul-one d) (omega arith)

  raised_whole : (n : ℕ) × IsWhole raised n
  unfolding fits
  raised_whole =
      large_whole raised (add-fits binary64 x (power false (pos 52)))
      (raised_over (power false (pos 52)) (2 ^ 52) (record { number = tt; value = refl }) tt (omega arith))
      (raised_under (power false (pos 53)) (2 ^ 53) (record { number = tt; value = refl }) tt (omega arith))

  nearest_from : k + 2 ^ 52 ≤ raised_whole.0
  nearest_from =
      at_least raised raised_whole.0 (k + 2 ^ 52) raised_whole.1 (omega arith)
      (raised_over (of_int binary64 (pos (k + 2 ^ 52))) (k + 2 ^ 52) (of_int_exact binary64 (pos (k + 2 ^ 52)) (natural_within (2 ^ 53) (k + 2 ^ 52) (omega arith))) (of_int-fits binary64 (pos (k + 2 ^ 52))) (omega arith))

  nearest_to : raised_whole.0 ≤ suc k + 2 ^ 52
  nearest_to =
      at_most raised raised_whole.0 (suc k + 2 ^ 52) raised_whole.1 (omega arith)
      (raised_under (of_int binary64 (pos (suc k + 2 ^ 52))) (suc k + 2 ^ 52) (of_int_exact binary64 (pos (suc k + 2 ^ 52)) (natural_within (2 ^ 53) (suc k + 2 ^ 52) (omega arith))) (of_int-fits binary64 (pos (suc k + 2 ^ 52))) (omega arith))

  abbrev lowered : Float
  lowered = sub binary64 raised (power false (pos 52))

  -- the way back is exact
  lowered_is : Is lowered raised_whole.0 (2 ^ 52) 1
  lowered_is =
      rounds_exact binary64 lowered raised_whole.0 (2 ^ 52) 0 (let b = nearest_to in omega arith) (lit< tt) zero-le
      (rounds_same binary64 lowered (plus raised * 1 + 0 * den raised) (less raised * 1 + 1 * 2 ^ 52 * den raised) (den raised * 1) raised_whole.0 (2 ^ 52) 1
      (let p = den_pos raised in omega arith) (zero-lt-suc 0)
      (go (plus raised) (less raised) (den raised) raised_whole.0 raised_whole.1.more raised_whole.1.no_less raised_whole.1.undivided)
      (sub_rounds binary64 raised (power false (pos 52)) raised_whole.1.number tt))
    where
      go : (a b d n : ℕ) → a ≡ n → b ≡ 0 → d ≡ 1 → (a * 1 + 0 * d) * 1 + 2 ^ 52 * (d * 1) ≡ n * (d * 1) + (b * 1 + 1 * 2 ^ 52 * d) * 1
      go a b d n p q r = rw (p, q, r) (omega arith)

  itself : Is x (plus x) 0 (den x)
  itself = record { number = parted.number; value = go (plus x) (less x) (den x) parted.no_less }
    where
      go : (a b d : ℕ) → b ≡ 0 → a * d + 0 * d ≡ a * d + b * d
      go a b d h = rw h refl

  -- the nearest whole number is above x exactly where it is not its whole part
  not_over : raised_whole.0 ≡ k + 2 ^ 52 → lt x lowered ≡ false
  not_over e =
      order.le→not_lt lowered x
      (exact_le lowered x raised_whole.0 (2 ^ 52) 1 (plus x) 0 (den x) (zero-lt-suc 0) (den_pos x) lowered_is itself
      (go (plus x) (den x) raised_whole.0 e (add-mul k (2 ^ 52) (den x)) parted.under))
    where
      go : (a d n : ℕ) → n ≡ k + 2 ^ 52 → (k + 2 ^ 52) * d ≡ k * d + 2 ^ 52 * d → k * d ≤ a → n * d + 0 * 1 ≤ a * 1 + 2 ^ 52 * d
      go a d n p q r = rw p (omega arith)

  is_over : raised_whole.0 ≡ suc k + 2 ^ 52 → lt x lowered ≡ true
  is_over e =
      exact_lt x lowered (plus x) 0 (den x) raised_whole.0 (2 ^ 52) 1 itself lowered_is
      (go (plus x) (den x) raised_whole.0 e (add-mul (suc k) (2 ^ 52) (den x)) parted.over)
    where
      go : (a d n : ℕ) → n ≡ suc k + 2 ^ 52 → (suc k + 2 ^ 52) * d ≡ suc k * d + 2 ^ 52 * d → a < suc k * d → a * 1 + 2 ^ 52 * d < n * d + 0 * 1
      go a d n p q r = rw p (omega arith)

true_false : true ≡ false → ⊥
true_false e = let z : ◌≡◌ {A = ℕ} 0 1 = cc in omega arith

-- ---- for every x from 0 to 2 ^ 51
whole_part : (x : Float) → le nought x ≡ true → le x (power false (pos 51)) ≡ true → Parted x (to_unsigned 64 x) × (to_unsigned 64 x ≤ 2 ^ 51)
unfolding to_unsigned
whole_part nan h k = absurd (to nought nan h)
whole_part (inf true) h k = absurd (to nought (inf true) h)
whole_part (inf false) h k = absurd (to (inf false) (power false (pos 51)) k)
whole_part (fin true m e) h k = (
  record {
    number = tt;
    no_less = nothing_less (fin true m e) tt h;
    under = le_of_eq (zero-mul (down e));
    over = let p = down_pos e in omega arith;
  },
  zero-le,
)
whole_part (fin false m e) h k =
    let short : m * up e / down e < 2 ^ 51 + 1 = (div-lt_iff_lt-mul (down_pos e)).1 (bounded (m * up e) (down e) (down_pos e) (to (fin false m e) (power false (pos 51)) k)) in
    subst (λ (n : ℕ). Parted (fin false m e) n × (n ≤ 2 ^ 51)) (sym (capped (m * up e / down e) short)) (
      record {
        number = tt;
        no_less = refl;
        under = (le-div_iff_mul-le (down_pos e)).0 (le_of_eq refl);
        over = (div-lt_iff_lt-mul (down_pos e)).0 (lt_suc_self (m * up e / down e));
      },
      omega arith,
    )
  where
    bounded : (a d : ℕ) → 0 < d → a * 1 + 0 * d ≤ 1 * 2 ^ 51 * d + 0 * 1 → a < (2 ^ 51 + 1) * d
    bounded a d p q = omega arith

    capped : (n : ℕ) → n < 2 ^ 51 + 1 → min n (2 ^ 64 - 1) ≡ n
    capped n h = omega arith

    lt_suc_self : (n : ℕ) → n < suc n
    lt_suc_self n = omega arith

-- what the sum with u, and the way back, tell of x
pub record Cut (x u : Float) : Type 0 where
  pub nearest : ℕ
  pub cast : T (in_signed binary64 63 (add binary64 x u))
  pub is : to_signed 63 (add binary64 x u) ≡ pos nearest
  pub from : 2 ^ 52 ≤ nearest
  pub to : nearest ≤ 2 ^ 53
  pub over : lt x (sub binary64 (add binary64 x u) u) ≡ true → nearest ≡ suc (to_unsigned 64 x) + 2 ^ 52
  pub within : lt x (sub binary64 (add binary64 x u) u) ≡ false → nearest ≡ to_unsigned 64 x + 2 ^ 52

pub cut_by_sum : (x u : Float) → u ≡ power false (pos 52) → le nought x ≡ true → le x (power false (pos 51)) ≡ true → Cut x u
cut_by_sum x u is h k =
    let K = to_unsigned 64 x in
    let p = (whole_part x h k).0 in
    let small = (whole_part x h k).1 in
    let w = (raised_whole x K p small).1 in
    let from : K + 2 ^ 52 ≤ (raised_whole x K p small).0 = nearest_from x K p small in
    let to : (raised_whole x K p small).0 ≤ suc K + 2 ^ 52 = nearest_to x K p small in
    subst (λ (v : Float). Cut x v) (sym is)
    (record {
      nearest = (raised_whole x K p small).0;
      cast = w.cast;
      is = w.is;
      from = w.from;
      to = w.to;
      over = λ t. one_of (raised_whole x K p small).0 K from to (λ e. true_false (sym t ∙ not_over x K p small e));
      within = λ f. other_of (raised_whole x K p small).0 K from to (λ e. true_false (sym (is_over x K p small e) ∙ f));
    })
  where
    one_of : (n m : ℕ) → m + 2 ^ 52 ≤ n → n ≤ suc m + 2 ^ 52 → (n ≡ m + 2 ^ 52 → ⊥) → n ≡ suc m + 2 ^ 52
    one_of n m p q r = elim (cases_lt (m + 2 ^ 52) n) [ inl l ↦ omega arith | inr l ↦ absurd (r (omega arith)) ]

    other_of : (n m : ℕ) → m + 2 ^ 52 ≤ n → n ≤ suc m + 2 ^ 52 → (n ≡ suc m + 2 ^ 52 → ⊥) → n ≡ m + 2 ^ 52
    other_of n m p q r = elim (cases_lt (m + 2 ^ 52) n) [ inl l ↦ absurd (r (omega arith)) | inr l ↦ omega arith ]

-- ---- a number from 1 up to n, which it does not reach
whole_to : (n : ℕ) → n ≤ 2 ^ 51 → le (of_int binary64 (pos n)) (power false (pos 51)) ≡ true
unfolding of_int
whole_to n small = of_int_rises binary64 (pos n) (pos (2 ^ 51)) (record { le = le→leb n (2 ^ 51) small })

pub cut_under :
    (n : ℕ) (x u : Float) (z : ℤ) → n ≤ 2 ^ 51 → u ≡ one → z ≡ pos n → le u x ≡ true → le (of_int binary64 z) x ≡ false
    → (le nought x ≡ true) × (le x (power false (pos 51)) ≡ true) × (to_unsigned 64 x ≤ n)
unfolding le
cut_under n x u z small unit cast from short =
    let number = (of_int_exact binary64 (pos n) (natural_within (2 ^ 53) n (omega arith))).number in
    let over_one : le one x ≡ true = subst (λ (f : Float). le f x ≡ true) unit from in
    let under : le x (of_int binary64 (pos n)) ≡ true =
    elim (order.le_total (of_int binary64 (pos n)) x (order.finite_number _ number) (order.right_number one x over_one)) [
      | inl over ↦ absurd (true_false (sym over ∙ subst (λ (k : ℤ). le (of_int binary64 k) x ≡ false) cast short))
      | inr under ↦ under
    ] in (
      order.le_trans nought one x refl over_one,
      order.le_trans x (of_int binary64 (pos n)) (power false (pos 51)) under (whole_to n small),
      le_trans (cut_rises 64 x (of_int binary64 (pos n)) under) (le_of_eq (weight_back n (omega arith))),
    )

-- ---- a weight times a height
pub share_short : (W : ℕ) (h : Float) → W ≤ 2 ^ 51 → Height h → Between nought (power false (pos 51)) (share W h)
share_short W h small at =
    let there = share_between W (omega arith) h at in
    record { low = there.low; high = order.le_trans (share W h) (of_int binary64 (pos W)) (power false (pos 51)) there.high (whole_to W small) }
