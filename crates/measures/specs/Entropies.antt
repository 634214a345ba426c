-- The entropies of a model, by a logarithm of lengths in 65536ths. Assumes nothing.
use Rattle.std.specs.Prelude.{◌≡◌, ℕ, zero, suc, ◌+◌, ◌*◌, ◌^◌, ◌<◌, ◌≤◌, min, List, length, pos, slice_index_or, Float}
use Rattle.std.specs.Float.{binary64}
use Rattle.std.specs.Float.Ieee.{of_int, add, sub, mul, div}
use Rattle.models.specs.Meaning.{Meaning}
use Rattle.rounding.specs.Fractions.{nought}
use Rattle.rounding.specs.Rounded.{Is}
use Rattle.measures.specs.Shares.{length_of}

-- length × logarithm, summed over the first k rows
unfoldable pub weighed : (ℕ → ℕ) → Meaning → ℕ → ℕ
weighed log m zero = 0
weighed log m (suc k) = weighed log m k + length_of m k * log (length_of m k)

-- over all rows
abbrev pub weighed_rows : (ℕ → ℕ) → Meaning → ℕ
weighed_rows log m = weighed log m (suc m.span)

-- the sum over all rows, over 2 ^ (bits + 16)
abbrev pub mean : (ℕ → ℕ) → Meaning → Float
mean log m = div binary64 (of_int binary64 (pos (weighed_rows log m))) (of_int binary64 (pos (2 ^ (m.bits + 16))))

-- r is the entropy, bits - sum / 2 ^ (bits + 16), and no operation on the way to it loses anything.
pub record Entropy (log : ℕ → ℕ) (m : Meaning) (r : Float) : Type 0 where
  pub value : r ≡ sub binary64 (of_int binary64 (pos m.bits)) (mean log m)
  pub sum : weighed_rows log m ≤ 2 ^ 53
  pub quotient : Is (mean log m) (weighed_rows log m) 0 (2 ^ (m.bits + 16))
  pub exact : Is r (m.bits * 2 ^ (m.bits + 16)) (weighed_rows log m) (2 ^ (m.bits + 16))

-- the bits that a reading takes which has l of the 2 ^ bits quantiles: bits - logarithm / 65536
abbrev pub taken : (ℕ → ℕ) → ℕ → ℕ → Float
taken log bits l = sub binary64 (of_int binary64 (pos bits)) (div binary64 (of_int binary64 (pos (log l))) (of_int binary64 (pos 65536)))

pub record Taken (log : ℕ → ℕ) (bits l : ℕ) (r : Float) : Type 0 where
  pub value : r ≡ taken log bits l
  pub exact : Is r (bits * 65536) (log l) 65536

-- weight × bits taken, added up over the first k rows in their order, from zero: a product and a sum are rounded once each
unfoldable pub crossed : (ℕ → ℕ) → Meaning → List Float → ℕ → Float
crossed log m weights zero = nought
crossed log m weights (suc k) =
    add binary64 (crossed log m weights k) (mul binary64 (slice_index_or weights k nought) (taken log m.bits (length_of m k)))

-- as many rows as there are, and as there are weights
abbrev pub paired : Meaning → List Float → ℕ
paired m weights = min (length weights) (suc m.span)

-- r is the cross entropy, and each row's bits lose nothing.
pub record CrossEntropy (log : ℕ → ℕ) (m : Meaning) (weights : List Float) (r : Float) : Type 0 where
  pub value : r ≡ crossed log m weights (paired m weights)
  pub exact : (i : ℕ) → i < paired m weights → Is (taken log m.bits (length_of m i)) (m.bits * 65536) (log (length_of m i)) 65536
