-- What stands in the entries of a driver's buffers, by what the model answers. Assumes nothing.
use Rattle.std.specs.Prelude.{◌≡◌, ℕ, ◌<◌, ◌⊎◌, List, ℤ, pos, ◌+ℤ◌, Some, None, Ok, Err, Option, slice_index, slice_index_or, Float, min, length}
use Rattle.channel.specs.Rows.{Row}
use Rattle.channel.specs.Steps.{itself}
use Rattle.measures.specs.Shares.{Likely}
use Rattle.models.specs.Answers.{Between, Encodes, IsRow, Searches}
use Rattle.models.specs.Meaning.{Meaning}
use Rattle.models.specs.declared.fault.ModelFault.TheVariants.{Beyond}

-- how many entries three buffers have room for
abbrev pub room : {X Y Z : Type 0} → List X → List Y → List Z → ℕ
room xs ys zs = min (length xs) (min (length ys) (length zs))

-- encode's answer at z: an interval, or twice 0 where it has none
pub data EncodesTo (m : Meaning) (z : ℤ) (start length : ℕ) : Type 0 where
  inside : Encodes itself m z (Some (start, length)) → EncodesTo m z start length
  outside : Encodes {P = ℕ} itself m z None → start ≡ 0 → length ≡ 0 → EncodesTo m z start length

-- the answer at the quantile q: a row, or the length 0 where it has none, or where no number from least to most is its symbol
pub data SearchesTo {N : Type 0} (whole : N → ℤ) (least most : ℤ) (m : Meaning) (q : ℕ) (symbol : N) (start length : ℕ) : Type 0 where
  found : Searches whole itself m q (Ok (symbol, start, length)) → SearchesTo whole least most m q symbol start length
  beyond : Searches {S = ℤ} {P = ℕ} itself itself m q (Err Beyond) → length ≡ 0 → SearchesTo whole least most m q symbol start length
  unfit :
      (r : Row) → Searches itself itself m q (Ok r) → (Between least most r.0 → ⊥) → length ≡ 0
      → SearchesTo whole least most m q symbol start length

-- the first n entries are encode's answers at the symbols
pub record Intervals {N : Type 0} (whole : N → ℤ) (m : Meaning) (n : ℕ) (symbols : List N) (starts lengths : List ℕ) : Type 0 where
  pub each : (k : ℕ) (d : N) → k < n → EncodesTo m (whole (slice_index_or symbols k d)) (slice_index starts k) (slice_index lengths k)

-- the first n entries are the answers at the quantiles
pub record Found {N : Type 0} (whole : N → ℤ) (least most : ℤ) (m : Meaning) (n : ℕ) (quantiles : List ℕ) (symbols : List N) (starts lengths : List ℕ) : Type 0 where
  pub each :
      (k : ℕ) (d : N) → k < n
      → SearchesTo whole least most m (slice_index quantiles k) (slice_index_or symbols k d) (slice_index starts k) (slice_index lengths k)

-- the next row of a walk at row i, or nothing where it has ended, or where no number from least to most is the row's symbol
abbrev pub NextTo : {N : Type 0} → (N → ℤ) → ℤ → ℤ → Meaning → ℕ → Option (N × ℕ × ℕ) → Type 0
NextTo whole least most m i None = (m.span < i) ⊎ (Between least most (m.low +ℤ pos i) → ⊥)
NextTo whole least most m i (Some r) = IsRow whole itself m i r

-- the first n entries are the probabilities of the symbols
pub record Shares {N : Type 0} (whole : N → ℤ) (m : Meaning) (n : ℕ) (symbols : List N) (shares : List Float) : Type 0 where
  pub each : (k : ℕ) (d : N) (e : Float) → k < n → Likely m (whole (slice_index_or symbols k d)) (slice_index_or shares k e)

-- the first n entries are the first n rows
pub record Rows {N : Type 0} (whole : N → ℤ) (m : Meaning) (n : ℕ) (symbols : List N) (starts lengths : List ℕ) : Type 0 where
  pub each : (k : ℕ) (d : N) → k < n → IsRow whole itself m k (slice_index_or symbols k d, slice_index starts k, slice_index lengths k)
