-- The bits of repeated squarings: between what they count and what the kept digits lose, they bound a power.
-- Assumes nothing.
use Rattle.std.specs.Prelude.{◌≡◌, ℕ, zero, suc, ◌+◌, ◌-◌, ◌*◌, ◌/◌, ◌^◌, ◌<◌, ◌≤◌, Bool, true, false, cond, not, T, ◌⊎◌, nat_le, refl}
use Rattle.std.proofs.Common.{sym, ap, ◌∙◌, inl, inr, pow-suc, mul-le-mul, mul-le-mul_left, mul-le-mul_right, mul-lt-mul_of_pos_right, mul-pos, le_of_mul-le-mul_right, add-suc, arith, leb→le, pow-add, pow_pos}
use Rattle.std.proofs.Math.Nat.{pow-zero, pow-le-pow_left, one-le-pow, two-pow-succ}
use Rattle.std.proofs.Math.Dec.{nleb→lt}
use Rattle.measures.specs.Logarithms.{bit_of, kept_of, fraction}
use Rattle.measures.specs.Powers.{power_product, power_power}

-- ---- (D + 1) ^ N against D ^ N
closer : (N D : ℕ) → suc D * (D - suc N) ≤ D * (D - N)
closer N D = go D (D - suc N) (D - N) (omega arith) (cases (D - suc N) (D - N) (omega arith) (omega arith))
  where
    cases : (d e : ℕ) → (0 < d → e ≡ suc d) → d ≤ e → (e ≡ suc d) ⊎ (d ≡ 0)
    cases zero e h k = inr refl
    cases (suc d) e h k = inl (h (omega arith))

    go : (D d e : ℕ) → d ≤ D → (e ≡ suc d) ⊎ (d ≡ 0) → suc D * d ≤ D * e
    go D d e h (inl f) = rw f (omega arith)
    go D d e h (inr f) = rw f (omega arith)

grown : (N D : ℕ) → suc D ^ N * (D - N) ≤ D ^ N * D
grown zero D = rw (pow-zero (suc D), pow-zero D) (omega arith)
grown (suc N) D =
    rw (pow-suc (suc D) N, pow-suc D N)
    (go (suc D ^ N) (D ^ N) (D - suc N) (D - N) (grown N D) (mul-le-mul_left (suc D ^ N) (closer N D)))
  where
    go : (P Q d e : ℕ) → P * e ≤ Q * D → P * (suc D * d) ≤ P * (D * e) → P * suc D * d ≤ Q * D * D
    go P Q d e h k =
        let l : P * e * D ≤ Q * D * D = mul-le-mul_right D h in
        let a : P * suc D * d ≡ P * (suc D * d) = omega arith in
        let b : P * (D * e) ≡ P * e * D = omega arith in
        omega arith

-- up to D / 2 factors of 1 + 1 / D make less than 2
pub less_than_twice : (N D : ℕ) → 0 < D → 2 * N ≤ D → suc D ^ N ≤ 2 * D ^ N
less_than_twice N D some h =
    le_of_mul-le-mul_right
    (go (suc D ^ N) (D ^ N) (D - N) (grown N D) (mul-le-mul_left (suc D ^ N) (half N D h))) some
  where
    half : (N D : ℕ) → 2 * N ≤ D → D ≤ 2 * (D - N)
    half N D h = omega arith

    go : (P Q e : ℕ) → P * e ≤ Q * D → P * D ≤ P * (2 * e) → P * D ≤ 2 * Q * D
    go P Q e h k = omega arith

-- ---- one squaring: a square y from 2 ^ 62 up to 2 ^ 64, and its bit and its kept digits by the test b
record Kept (y bit kept : ℕ) : Type 0 where
  high : 2 ^ 31 ≤ kept
  low : kept < 2 ^ 32
  under : kept * (2 ^ 31 * 2 ^ bit) ≤ y
  over : y * 2 ^ 31 ≤ kept * (2 ^ 31 * 2 ^ bit) * suc (2 ^ 31)

kept_by :
    (y : ℕ) (b : Bool) → (T b → 2 ^ 63 ≤ y) → (T (not b) → y < 2 ^ 63) → 2 ^ 62 ≤ y → y < 2 ^ 64
    → Kept y (cond b 1 0) (cond b (y / 2 ^ 32) (y / 2 ^ 31))
kept_by y true reached short from below = let h = reached tt in record { high = omega arith; low = omega arith; under = omega arith; over = omega arith }
kept_by y false reached short from below = let h = short tt in record { high = omega arith; low = omega arith; under = omega arith; over = omega arith }

kept_is : (x : ℕ) → 2 ^ 31 ≤ x → x < 2 ^ 32 → Kept (x * x) (bit_of x) (kept_of x)
kept_is x h l =
    let top : x ≤ 2 ^ 32 - 1 = omega arith in
    kept_by (x * x) (nat_le (2 ^ 63) (x * x)) (leb→le (2 ^ 63) (x * x)) (nleb→lt (2 ^ 63) (x * x))
    (mul-le-mul h h) (omega (arith, mul-le-mul top top))

pub kept_high : (x : ℕ) → 2 ^ 31 ≤ x → x < 2 ^ 32 → 2 ^ 31 ≤ kept_of x
kept_high x h l = (kept_is x h l).high

pub bit_below : (x : ℕ) → bit_of x ≤ 1
bit_below x = go (nat_le (2 ^ 63) (x * x))
  where
    go : (b : Bool) → cond b 1 0 ≤ 1
    go true = omega arith
    go false = omega arith

-- ---- k squarings
pub fraction_none : (x : ℕ) → fraction 0 x ≡ 0
unfolding fraction
fraction_none x = refl

pub fraction_more : (k x : ℕ) → fraction (suc k) x ≡ bit_of x * 2 ^ k + fraction k (kept_of x)
unfolding fraction
fraction_more k x = refl

pub fraction_below : (k x : ℕ) → fraction k x < 2 ^ k
fraction_below zero x = rw (fraction_none x) (omega arith)
fraction_below (suc k) x =
    rw (fraction_more k x, two-pow-succ k)
    (go (bit_of x) (2 ^ k) (fraction k (kept_of x)) (mul-le-mul_right (2 ^ k) (bit_below x)) (fraction_below k (kept_of x)))
  where
    go : (b E F : ℕ) → b * E ≤ 1 * E → F < E → b * E + F < E + E
    go b E F h l = omega arith

-- how often the kept digits lose up to one part in 2 ^ 31, each loss counted as often as it is squared again
unfoldable pub losses : ℕ → ℕ
losses zero = 0
losses (suc k) = 2 ^ k + losses k

-- x ^ 2E is the square to the power E
squared_power : (x E : ℕ) → x ^ (E + E) ≡ (x * x) ^ E
squared_power x E = pow-add x E E ∙ sym (power_product x x E)

-- 2 ^ fraction ≤ (x / 2 ^ 31) ^ (2 ^ k)
pub fraction_under : (k x : ℕ) → 2 ^ 31 ≤ x → x < 2 ^ 32 → 2 ^ fraction k x * (2 ^ 31) ^ (2 ^ k) ≤ x ^ (2 ^ k)
fraction_under zero x h l = rw fraction_none (go x h)
  where
    go : (x : ℕ) → 2 ^ 31 ≤ x → 2 ^ 0 * (2 ^ 31) ^ 1 ≤ x ^ 1
    go x h = rw (pow-suc x 0, pow-zero x) (omega arith)
fraction_under (suc k) x h l =
    let v = kept_is x h l in
    rw (fraction_more k x, two-pow-succ k)
    (step (2 ^ 31) x (kept_of x) (bit_of x) (2 ^ k) (fraction k (kept_of x)) v.under (fraction_under k (kept_of x) v.high v.low))
  where
    step :
        (D x y b E F : ℕ) → y * (D * 2 ^ b) ≤ x * x → 2 ^ F * D ^ E ≤ y ^ E
        → 2 ^ (b * E + F) * D ^ (E + E) ≤ x ^ (E + E)
    step D x y b E F h below =
        let raised : (y * (D * 2 ^ b)) ^ E ≤ (x * x) ^ E = pow-le-pow_left h E in
        let apart : (y * (D * 2 ^ b)) ^ E ≡ y ^ E * (D ^ E * 2 ^ (b * E)) =
        power_product y (D * 2 ^ b) E ∙ ap (λ (t : ℕ). y ^ E * t) (power_product D (2 ^ b) E ∙ ap (λ (t : ℕ). D ^ E * t) (power_power 2 b E)) in
        rw (pow-add 2 (b * E) F, pow-add D E E, squared_power x E)
        (go (2 ^ F) (D ^ E) (2 ^ (b * E)) (y ^ E) ((x * x) ^ E) (mul-le-mul_right (D ^ E * 2 ^ (b * E)) below) (rw apart at raised))
      where
        go : (f d t y z : ℕ) → f * d * (d * t) ≤ y * (d * t) → y * (d * t) ≤ z → t * f * (d * d) ≤ z
        go f d t y z h k = let e : t * f * (d * d) ≡ f * d * (d * t) = omega arith in omega arith

-- (x / 2 ^ 31) ^ (2 ^ k) < 2 ^ (fraction + 1), but for the losses
pub fraction_over :
    (k x : ℕ) → 2 ^ 31 ≤ x → x < 2 ^ 32
    → x ^ (2 ^ k) * (2 ^ 31) ^ losses k < 2 ^ suc (fraction k x) * (2 ^ 31) ^ (2 ^ k) * suc (2 ^ 31) ^ losses k
unfolding losses
fraction_over zero x h l = rw fraction_none (go x l)
  where
    go : (x : ℕ) → x < 2 ^ 32 → x ^ 1 * (2 ^ 31) ^ 0 < 2 ^ 1 * (2 ^ 31) ^ 1 * suc (2 ^ 31) ^ 0
    go x l = rw (pow-suc x 0, pow-zero x) (omega arith)
fraction_over (suc k) x h l =
    let v = kept_is x h l in
    rw (fraction_more k x, two-pow-succ k)
    (step (2 ^ 31) x (kept_of x) (bit_of x) (2 ^ k) (losses k) (fraction k (kept_of x)) (pow_pos 31) v.over
    (fraction_over k (kept_of x) v.high v.low))
  where
    step :
        (D x y b E A F : ℕ) → 0 < D → x * x * D ≤ y * (D * 2 ^ b) * suc D → y ^ E * D ^ A < 2 ^ suc F * D ^ E * suc D ^ A
        → x ^ (E + E) * D ^ (E + A) < 2 ^ suc (b * E + F) * D ^ (E + E) * suc D ^ (E + A)
    step D x y b E A F some h below =
        let raised : (x * x * D) ^ E ≤ (y * (D * 2 ^ b) * suc D) ^ E = pow-le-pow_left h E in
        let apart : (y * (D * 2 ^ b) * suc D) ^ E ≡ y ^ E * (D ^ E * 2 ^ (b * E)) * suc D ^ E =
        power_product (y * (D * 2 ^ b)) (suc D) E
        ∙ ap (λ (t : ℕ). t * suc D ^ E)
        (power_product y (D * 2 ^ b) E ∙ ap (λ (t : ℕ). y ^ E * t) (power_product D (2 ^ b) E ∙ ap (λ (t : ℕ). D ^ E * t) (power_power 2 b E))) in
        let split : (x * x * D) ^ E ≡ (x * x) ^ E * D ^ E = power_product (x * x) D E in
        let above : 0 < D ^ E * 2 ^ (b * E) * suc D ^ E = mul-pos (mul-pos (one-le-pow E D some) (pow_pos (b * E))) (one-le-pow E (suc D) (omega arith)) in
        rw (squared_power x E, pow-add D E A, pow-add D E E, pow-add (suc D) E A, sym (add-suc (b * E) F), pow-add 2 (b * E) (suc F))
        (go ((x * x) ^ E) (D ^ E) (D ^ A) (2 ^ (b * E)) (2 ^ suc F) (suc D ^ E) (suc D ^ A) (y ^ E)
        (mul-le-mul_right (D ^ A) (rw (split, apart) at raised)) (mul-lt-mul_of_pos_right below above))
      where
        go :
            (z d a t f s r y : ℕ) → z * d * a ≤ y * (d * t) * s * a → y * a * (d * t * s) < f * d * r * (d * t * s)
            → z * (d * a) < t * f * (d * d) * (s * r)
        go z d a t f s r y h k =
            let e : y * (d * t) * s * a ≡ y * a * (d * t * s) = omega arith in
            let g : f * d * r * (d * t * s) ≡ t * f * (d * d) * (s * r) = omega arith in
            let i : z * (d * a) ≡ z * d * a = omega arith in
            omega arith
