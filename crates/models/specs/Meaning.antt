-- What an entropy model means: a support of whole numbers, and an interval of [0, 2 ^ bits) for each of them.
-- Rows count the support from 0, so row i belongs to the symbol low + i. Assumes nothing.
use Rattle.std.specs.Prelude.{◌≡◌, ℕ, suc, ◌+◌, ◌^◌, ◌<◌, ◌≤◌, ℤ, pos, ◌+ℤ◌}

pub record Meaning : Type 0 where
  -- the lowest symbol
  pub low : ℤ
  -- the highest symbol is low + span
  pub span : ℕ
  -- the precision P
  pub bits : ℕ
  -- where the interval of row i starts; it ends where row i + 1 starts
  pub start : ℕ → ℕ

-- The law of a model: there are two symbols at least, and the starts cut [0, 2 ^ bits) into intervals that are not empty.
pub record Partition (m : Meaning) : Type 0 where
  pub some : 0 < m.span
  pub first : m.start 0 ≡ 0
  pub rises : (i : ℕ) → i ≤ m.span → m.start i < m.start (suc i)
  pub last : m.start (suc m.span) ≡ 2 ^ m.bits

-- z is the symbol of row i
pub record At (m : Meaning) (z : ℤ) (i : ℕ) : Type 0 where
  pub within : i ≤ m.span
  pub symbol : z ≡ m.low +ℤ pos i

-- the interval of row i starts at s and has the length l, at least 1
pub record Interval (m : Meaning) (i s l : ℕ) : Type 0 where
  pub start : s ≡ m.start i
  pub end : s + l ≡ m.start (suc i)
  pub some : 0 < l

-- the interval of row i holds the quantile q
pub record Holds (m : Meaning) (q i : ℕ) : Type 0 where
  pub within : i ≤ m.span
  pub from : m.start i ≤ q
  pub below : q < m.start (suc i)
