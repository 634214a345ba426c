-- Probabilities as floats: numbers of quantiles over 2 ^ bits. Assumes nothing.
use Rattle.std.specs.Prelude.{◌≡◌, ℕ, suc, ◌-◌, ◌^◌, ◌<◌, ℤ, pos, Some, None, Option, Float}
use Rattle.std.specs.Float.{binary64}
use Rattle.std.specs.Float.Ieee.{div, of_int}
use Rattle.models.specs.Meaning.{Meaning, At}
use Rattle.rounding.specs.Fractions.{nought}
use Rattle.rounding.specs.Rounded.{Is}

-- the length of row i's interval
abbrev pub length_of : Meaning → ℕ → ℕ
length_of m i = m.start (suc i) - m.start i

-- r is n / 2 ^ bits, by a division that loses nothing
pub record Share (bits n : ℕ) (r : Float) : Type 0 where
  pub value : r ≡ div binary64 (of_int binary64 (pos n)) (of_int binary64 (pos (2 ^ bits)))
  pub exact : Is r n 0 (2 ^ bits)

-- The probability of the whole number z: zero where it is not in the support, else the share of its row's length.
pub record Likely (m : Meaning) (z : ℤ) (r : Float) : Type 0 where
  pub outside : ((i : ℕ) → At m z i → ⊥) → r ≡ nought
  pub inside : (i : ℕ) → At m z i → Share m.bits (length_of m i) r

-- The triple is row i: its symbol, and its start and its length as shares.
pub record IsShares {S : Type 0} (whole : S → ℤ) (m : Meaning) (i : ℕ) (r : S × Float × Float) : Type 0 where
  pub at : At m (whole r.0) i
  pub start : Share m.bits (m.start i) r.1
  pub length : Share m.bits (length_of m i) r.2

-- The row by its index, or nothing exactly past the last.
abbrev pub ListsShares : {S : Type 0} → (S → ℤ) → Meaning → ℕ → Option (S × Float × Float) → Type 0
ListsShares whole m i None = m.span < i
ListsShares whole m i (Some r) = IsShares whole m i r
