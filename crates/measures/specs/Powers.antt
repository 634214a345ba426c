-- Powers: of a product, of a power, and the order that they keep. Assumes nothing.
use Rattle.std.specs.Prelude.{◌≡◌, ℕ, zero, suc, ◌*◌, ◌^◌, ◌<◌, ◌≤◌, refl}
use Rattle.std.proofs.Math.Nat.{pow-zero}
use Rattle.std.proofs.Common.{pow-suc, mul-zero, mul-suc, not-le_of_lt, lt_of_not-le, arith, pow-add, pow_mono}

pub power_product : (a b n : ℕ) → (a * b) ^ n ≡ a ^ n * b ^ n
power_product a b zero = rw (pow-zero (a * b), pow-zero a, pow-zero b) refl
power_product a b (suc n) =
    rw (pow-suc (a * b) n, pow-suc a n, pow-suc b n, power_product a b n) (go (a ^ n) (b ^ n))
  where
    go : (p q : ℕ) → p * q * (a * b) ≡ p * a * (q * b)
    go p q = omega arith

pub power_power : (a k n : ℕ) → (a ^ k) ^ n ≡ a ^ (k * n)
power_power a k zero = rw (pow-zero (a ^ k), mul-zero k, pow-zero a) refl
power_power a k (suc n) = rw (pow-suc (a ^ k) n, power_power a k n, mul-suc k n, pow-add a (k * n) k) refl

-- exponents of 2 have the order of their powers
pub exponent_lt : (i j : ℕ) → 2 ^ i < 2 ^ j → i < j
exponent_lt i j h = lt_of_not-le (λ (g : j ≤ i). not-le_of_lt h (pow_mono g))
