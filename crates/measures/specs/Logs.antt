-- The law of a logarithm, and what follows from it: the coarse one has it, and a value is below 65536 times a length's digits.
-- Assumes nothing.
use Rattle.std.specs.Prelude.{◌≡◌, ℕ, zero, suc, ◌+◌, ◌-◌, ◌*◌, ◌^◌, ◌<◌, ◌≤◌, ◌≢◌, refl}
use Rattle.std.proofs.Common.{ap, ◌∙◌, subst, lt_of_le_of_lt, mul_comm, arith}
use Rattle.std.proofs.Math.Nat.{pow-le-pow_left, pow-lt-pow_left}
use Rattle.std.specs.Int.Count.{count_leading_zeros}
use Rattle.std.proofs.lemmas.Nat.{leading_top}
use Rattle.measures.specs.Logarithms.{Bounds, place, coarse}
use Rattle.measures.specs.Powers.{power_power, exponent_lt}

-- the highest set bit stands at its place
pub place_is : (n : ℕ) → 0 < n → n < 2 ^ 32 → (place n ≤ 31) × (count_leading_zeros 32 n ≡ 31 - place n) × (2 ^ place n ≤ n) × (n < 2 ^ suc (place n))
place_is n some small =
    let top = leading_top 32 n some small in
    let j = top.0 in
    let e : j ≡ place n = omega (arith, top.1) in (
      omega arith,
      omega (arith, top.1),
      subst (λ (k : ℕ). 2 ^ k ≤ n) e top.2,
      subst (λ (k : ℕ). n < 2 ^ suc k) e top.3,
    )

-- a power between powers of 2
raised_from : (E j n : ℕ) → 2 ^ j ≤ n → 2 ^ (E * j) ≤ n ^ E
raised_from E j n h =
    subst (λ (k : ℕ). k ≤ n ^ E) (power_power 2 j E ∙ ap (λ (k : ℕ). 2 ^ k) (mul_comm j E)) (pow-le-pow_left h E)

raised_below : (E j n : ℕ) → E ≢ 0 → n < 2 ^ j → n ^ E < 2 ^ (j * E)
raised_below E j n some h = subst (λ (k : ℕ). n ^ E < k) (power_power 2 j E) (pow-lt-pow_left h some)

next : (E j : ℕ) → suc j * E ≡ E * j + E
next E j = omega arith

many : ◌≢◌ {A = ℕ} 65536 0
many e = omega arith

pub coarse_bounds : Bounds coarse 65536
unfolding count_leading_zeros
coarse_bounds = record {
  none = refl;
  under = λ n some small. raised_from 65536 (place n) n (place_is n some small).2;
  over = λ n some small.
      subst (λ (k : ℕ). n ^ 65536 < 2 ^ k) (next 65536 (place n))
      (raised_below 65536 (suc (place n)) n many (place_is n some small).3);
}

-- a length of k digits has a logarithm below k
module _ (value : ℕ → ℕ) (slack : ℕ) (law : Bounds value slack) where
  pub log_below : (k n : ℕ) → k ≤ 32 → 0 < n → n < 2 ^ k → n < 2 ^ 32 → value n < k * 65536
  log_below k n b some short small =
      exponent_lt (value n) (k * 65536) (lt_of_le_of_lt (law.under n some small) (raised_below 65536 k n many short))

  pub log_small : (n : ℕ) → n < 2 ^ 32 → value n ≤ 2 ^ 21
  log_small zero h = rw law.none (omega arith)
  log_small (suc n) h = omega (arith, log_below 32 (suc n) (omega arith) (omega arith) h h)
