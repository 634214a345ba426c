-- What is known on the way to the row of a quantile. Assumes nothing.
use Rattle.std.specs.Prelude.{◌≡◌, ℕ, suc, ◌+◌, ◌<◌, ◌≤◌}
use Rattle.models.specs.Meaning.{Meaning}

-- The quantile q lies from the start of a row to that of another, `step` rows above it.
pub record Bracket (m : Meaning) (q step row left right : ℕ) : Type 0 where
  pub some : 0 < step
  pub within : row + step ≤ suc m.span
  pub left_is : left ≡ m.start row
  pub right_is : right ≡ m.start (row + step)
  pub from : left ≤ q
  pub below : q < right
