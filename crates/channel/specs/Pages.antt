-- What a fill leaves in its typed buffers. Assumes nothing.
use Rattle.std.specs.Prelude.{◌≡◌, ℕ, ◌+◌, ◌<◌, ◌≤◌, List, length, ℤ, slice_index_or}
use Rattle.models.specs.Answers.{IsRow}
use Rattle.models.specs.Meaning.{Meaning}

-- a buffer from index n on is as it was
pub record KeptFrom {X : Type 0} (n : ℕ) (before after : List X) : Type 0 where
  pub same : (k : ℕ) (d : X) → n ≤ k → slice_index_or after k d ≡ slice_index_or before k d
  pub long : length after ≡ length before

-- The first n entries are the rows from `first` on.
pub record Written {S P : Type 0} (whole : S → ℤ) (value : P → ℕ) (m : Meaning) (first n : ℕ)
    (symbols : List S) (starts lengths : List P) : Type 0 where
  pub rows : (k : ℕ) (d : S) (e f : P) → k < n → IsRow whole value m (first + k) (slice_index_or symbols k d, slice_index_or starts k e, slice_index_or lengths k f)
