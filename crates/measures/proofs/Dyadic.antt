-- Whole numbers over powers of two, as floats: up to 2 ^ 53 a quotient and a difference lose nothing.
-- Assumes nothing.
use Rattle.std.proofs.Common.{◌≡◌, ℕ, zero, suc, ◌+◌, ◌-◌, ◌*◌, ◌^◌, ◌<◌, ◌≤◌, true, pos, refl, ap, subst, inl, inr, add-mul, mul-pos, sub-add_cancel, arith, lit≤, pow_pos, pow_mono}
use native.Mathlib.Nat.{two-pow-succ}
use lib.Ieee.{Float, binary64, of_int, div, sub, lt}
use lib.Ieee.Positive.{den, den_pos}
use Rattle.std.proofs.lemmas.Int.{ints}
use Rattle.std.proofs.lemmas.Bool.{cases_lt}
use Rattle.rounding.specs.Fractions.{plus, less, nought}
use Rattle.rounding.specs.Rounded.{Rounds, Is}
use Rattle.rounding.specs.Wholes.{Within}
use Rattle.rounding.proofs.Order.{lt→le}
use Rattle.rounding.proofs.Rounded.{rounds_same, rounds_exact}
use Rattle.rounding.proofs.Sums.{sub_rounds, nothing_less}
use Rattle.rounding.proofs.Quotients.{div_rounds, plus_pos}
use Rattle.rounding.proofs.Wholes.{of_int_exact, exact_lt}

-- n as a float
abbrev pub number : ℕ → Float
number n = of_int binary64 (pos n)

within : (n : ℕ) → n ≤ 2 ^ 53 → Within (2 ^ 53) (pos n)
within n h = record { low = omega (arith, ints); high = omega (arith, ints) }

pub number_is : (n : ℕ) → n ≤ 2 ^ 53 → Is (number n) n 0 1
number_is n h = of_int_exact binary64 (pos n) (within n h)

nought_is : Is nought 0 0 1
nought_is = record { number = tt; value = refl }

number_above : (n : ℕ) → 0 < n → n ≤ 2 ^ 53 → lt nought (number n) ≡ true
number_above n p h = exact_lt nought (number n) 0 0 1 n 0 1 nought_is (number_is n h) (omega arith)

-- ---- where rounding changes nothing
double : (z : Float) (j : ℕ) → Is z (2 ^ 52) 0 (2 ^ j) → Is z (2 ^ 53) 0 (2 ^ suc j)
double z j v = record { number = v.number; value = rw (two-pow-succ j) (go (plus z) (less z) (den z) (2 ^ j) v.value) }
  where
    go : (X L D K : ℕ) → X * K + 0 * D ≡ 2 ^ 52 * D + L * K → X * (K + K) + 0 * D ≡ 2 ^ 53 * D + L * (K + K)
    go X L D K h = omega arith

half_as_much : (z : Float) (j : ℕ) → Rounds binary64 z (2 ^ 53) 0 (2 ^ suc j) → Rounds binary64 z (2 ^ 52) 0 (2 ^ j)
half_as_much z j r =
    rounds_same binary64 z (2 ^ 53) 0 (2 ^ suc j) (2 ^ 52) 0 (2 ^ j) (pow_pos (suc j)) (pow_pos j) (rw (two-pow-succ j) (go (2 ^ j))) r
  where
    go : (K : ℕ) → 2 ^ 53 * K + 0 * (K + K) ≡ 2 ^ 52 * (K + K) + 0 * K
    go K = omega arith

positive_exact : (z : Float) (a k : ℕ) → a ≤ 2 ^ 53 → 0 < k → k ≤ 1074 → Rounds binary64 z a 0 (2 ^ k) → Is z a 0 (2 ^ k)
positive_exact z a zero h some b r = absurd (omega arith)
positive_exact z a (suc j) h some b r =
    elim (cases_lt a (2 ^ 53)) [
      | inl less ↦ rounds_exact binary64 z a 0 (suc j) less (lit≤ tt) b r
      | inr from ↦
          let e : a ≡ 2 ^ 53 = omega arith in
          rw e (double z j (rounds_exact binary64 z (2 ^ 52) 0 j (lit≤ tt) (lit≤ tt) (omega arith) (half_as_much z j (rw e at r))))
    ]

-- ---- n / 2 ^ k
pub quotient_exact : (n k : ℕ) → n < 2 ^ 53 → k ≤ 53 → Is (div binary64 (number n) (number (2 ^ k))) n 0 (2 ^ k)
quotient_exact n k h b =
    let K = 2 ^ k in
    let small : K ≤ 2 ^ 53 = pow_mono b in
    let x = number n in
    let y = number K in
    let X = number_is n (omega arith) in
    let Y = number_is K small in
    let above = number_above K (pow_pos k) small in
    rounds_exact binary64 (div binary64 x y) n 0 k h (lit≤ tt) (omega arith)
    (rounds_same binary64 (div binary64 x y) (plus x * den y) (less x * den y) (plus y * den x) n 0 K
    (mul-pos (plus_pos y Y.number above) (den_pos x)) (pow_pos k)
    (go n K (plus x) (less x) (den x) (plus y) (less y) (den y) X.value Y.value (nothing_less y Y.number (lt→le nought y above)))
    (div_rounds binary64 x y X.number Y.number above))
  where
    go : (n K X x D Y y C : ℕ) → X * 1 + 0 * D ≡ n * D + x * 1 → Y * 1 + 0 * C ≡ K * C + y * 1 → y ≡ 0
        → X * C * K + 0 * (Y * D) ≡ n * (Y * D) + x * C * K
    go n K X x D Y y C a b c =
        let e : Y ≡ K * C = omega arith in
        let f : X ≡ n * D + x = omega arith in
        rw (e, f) (omega arith)

-- ---- p - n / 2 ^ k
pub difference_rounds :
    (p n k : ℕ) (y : Float) → p ≤ 2 ^ 53 → Is y n 0 (2 ^ k) → Rounds binary64 (sub binary64 (number p) y) (p * 2 ^ k) n (2 ^ k)
difference_rounds p n k y h Y =
    let x = number p in
    let X = number_is p h in
    rounds_same binary64 (sub binary64 x y) (plus x * den y + less y * den x) (less x * den y + plus y * den x) (den x * den y)
    (p * 2 ^ k) n (2 ^ k) (mul-pos (den_pos x) (den_pos y)) (pow_pos k)
    (go p n (2 ^ k) (plus x) (less x) (den x) (plus y) (less y) (den y) X.value Y.value)
    (sub_rounds binary64 x y X.number Y.number)
  where
    go : (p n K X x D Y y C : ℕ) → X * 1 + 0 * D ≡ p * D + x * 1 → Y * K + 0 * C ≡ n * C + y * K
        → (X * C + y * D) * K + n * (D * C) ≡ p * K * (D * C) + (x * C + Y * D) * K
    go p n K X x D Y y C a b =
        let f : X ≡ p * D + x = omega arith in
        let g : Y * K * D ≡ (n * C + y * K) * D = ap (λ (t : ℕ). t * D) (omega arith) in
        rw f (omega arith)

-- of a whole number and a lesser fraction
pub difference_exact :
    (p n k : ℕ) (y : Float) → 0 < k → k ≤ 1074 → p * 2 ^ k ≤ 2 ^ 53 → n ≤ p * 2 ^ k → Is y n 0 (2 ^ k)
    → Is (sub binary64 (number p) y) (p * 2 ^ k) n (2 ^ k)
difference_exact p n k y some b h below Y =
    let K = 2 ^ k in
    let z = sub binary64 (number p) y in
    let small : p ≤ 2 ^ 53 = one_times p K (pow_pos k) h in
    let r = rounds_same binary64 z (p * K) n K (p * K - n) 0 K (pow_pos k) (pow_pos k) (apart (p * K) n K below) (difference_rounds p n k y small Y) in
    let v = positive_exact z (p * K - n) k (omega arith) some b r in
    record { number = v.number; value = joined (plus z) (less z) (den z) K (p * K) n below v.value }
  where
    one_times : (p K : ℕ) → 0 < K → p * K ≤ 2 ^ 53 → p ≤ 2 ^ 53
    one_times p zero h l = absurd (omega arith)
    one_times p (suc K) h l = let e : p * suc K ≡ p * K + p = omega arith in omega arith

    parts : (p n c : ℕ) → n ≤ p → p * c ≡ (p - n) * c + n * c
    parts p n c h = let e = sub-add_cancel h in subst (λ (t : ℕ). t * c ≡ (p - n) * c + n * c) e (add-mul (p - n) n c)

    apart : (a n K : ℕ) → n ≤ a → a * K + 0 * K ≡ (a - n) * K + n * K
    apart a n K h = let e = parts a n K h in omega arith

    joined : (X L D K a n : ℕ) → n ≤ a → X * K + 0 * D ≡ (a - n) * D + L * K → X * K + n * D ≡ a * D + L * K
    joined X L D K a n h e = let f = parts a n D h in omega arith
