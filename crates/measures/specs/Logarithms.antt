-- Logarithms to the base 2, as whole numbers of 65536ths. Assumes nothing.
use Rattle.std.specs.Prelude.{◌≡◌, ℕ, zero, suc, ◌+◌, ◌-◌, ◌*◌, ◌/◌, ◌^◌, ◌<◌, ◌≤◌, cond, nat_le}
use Rattle.std.specs.Int.Count.{count_leading_zeros}

-- The law of every logarithm: for n from 1 to 2 ^ 32 - 1 its value v is at most 65536 times the logarithm of n,
-- which is less than v + slack. Of 0 it is 0.
pub record Bounds (value : ℕ → ℕ) (slack : ℕ) : Type 0 where
  pub none : value 0 ≡ 0
  pub under : (n : ℕ) → 0 < n → n < 2 ^ 32 → 2 ^ value n ≤ n ^ 65536
  pub over : (n : ℕ) → 0 < n → n < 2 ^ 32 → n ^ 65536 < 2 ^ (value n + slack)

-- the place of the highest set bit, where bit 0 is the lowest, and 0 for 0
abbrev pub place : ℕ → ℕ
place n = 31 - count_leading_zeros 32 n

abbrev pub coarse : ℕ → ℕ
coarse n = 65536 * place n

-- One squaring of a number x of 32 bits, the highest of them set: the bit that it gives, and the 32 bits that are kept.
abbrev pub bit_of : ℕ → ℕ
bit_of x = cond (nat_le (2 ^ 63) (x * x)) 1 0

abbrev pub kept_of : ℕ → ℕ
kept_of x = cond (nat_le (2 ^ 63) (x * x)) (x * x / 2 ^ 32) (x * x / 2 ^ 31)

-- what a squaring answers: both, and the highest bit is set again
pub record Squared (x : ℕ) (r : ℕ × ℕ) : Type 0 where
  pub bit : r.0 ≡ bit_of x
  pub kept : r.1 ≡ kept_of x
  pub high : 2 ^ 31 ≤ r.1

-- the bits of k squarings, the highest first
unfoldable pub fraction : ℕ → ℕ → ℕ
fraction zero x = 0
fraction (suc k) x = bit_of x * 2 ^ k + fraction k (kept_of x)

-- sixteen bits below the whole part: n is shifted left until bit 31 is set, and then squared
abbrev pub fine : ℕ → ℕ
fine n = 65536 * place n + fraction 16 (n * 2 ^ count_leading_zeros 32 n)
