-- A row that holds a quantile is what a search has to answer. Assumes nothing.
use Rattle.std.proofs.Common.{ℕ, ◌^◌, ◌<◌, ℤ}
use Rattle.models.specs.Answers.{IsRow, Found}
use Rattle.models.specs.Meaning.{Meaning, Partition, Holds}
use Rattle.models.proofs.Cuts.{holds_one, holds_bound}

pub found :
    {S P : Type 0} (whole : S → ℤ) (value : P → ℕ) (m : Meaning) (law : Partition m) (q i : ℕ) (r : S × P × P)
    → IsRow whole value m i r → Holds m q i → (q < 2 ^ m.bits) × Found whole value m q r
found whole value m law q i r row holds = (
  holds_bound m law q i holds,
  record { index = i; row = row; holds = holds; only = λ j other. holds_one m law q j i other holds },
)
