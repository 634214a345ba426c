-- What rounding keeps. Each operation here is the rounding of an exact fraction, so these laws are what bounds and orders of results rest on.
-- Assumes nothing.
use Rattle.std.specs.Prelude.{◌≡◌, ℕ, ◌+◌, ◌-◌, ◌*◌, ◌^◌, ◌<◌, ◌≤◌, true, false, T, ◌⊎◌, Float}
use Rattle.std.specs.Float.{Format}
use Rattle.std.specs.Float.Ieee.{prec, low, round, le, fits}
use Rattle.std.specs.Float.Ieee.Scale.{finite}
use Rattle.std.specs.Float.Ieee.Positive.{den}
use Rattle.rounding.specs.Fractions.{plus, less, Under}

-- z is (p − n) / d rounded to the format f, with either sign where that is zero
abbrev pub Rounds : Format → Float → (p n d : ℕ) → Type 0
Rounds f z p n d = ((n ≤ p) × (z ≡ round f false (p - n) d)) ⊎ ((p ≤ n) × (z ≡ round f true (n - p) d))

-- z is finite, and it is (p − n) / d exactly
pub record Is (z : Float) (p n d : ℕ) : Type 0 where
  pub number : T (finite z)
  pub value : plus z * d + n * den z ≡ p * den z + less z * d

pub record RoundingLaws : Type 0 where
  -- the larger fraction does not round to less, be the results finite or infinite
  pub rises : (f : Format) (z w : Float) (p n d q o c : ℕ) → 0 < d → 0 < c → Rounds f z p n d → Rounds f w q o c → Under p n d q o c → le z w ≡ true
  -- a value that the format holds bounds what rounds below it, and above it
  pub under : (f : Format) (z x : Float) (p n d : ℕ) → 0 < d → T (finite x) → T (fits f x) → Rounds f z p n d → Under p n d (plus x) (less x) (den x) → le z x ≡ true
  pub over : (f : Format) (z x : Float) (p n d : ℕ) → 0 < d → T (finite x) → T (fits f x) → Rounds f z p n d → Under (plus x) (less x) (den x) p n d → le x z ≡ true
  -- a fraction with a power of two below it, and above it fewer digits than the format keeps, is not changed
  pub exact : (f : Format) (z : Float) (p n k : ℕ) → p < 2 ^ prec f → n < 2 ^ prec f → k ≤ low f → Rounds f z p n (2 ^ k) → Is z p n (2 ^ k)
