-- The law of the uniform model, which the model's own ghost member cites. Assumes nothing.
use Rattle.std.proofs.Common.{ℕ, ◌^◌, ◌≤◌, rules}
use Rattle.models.specs.Meaning.{Partition}
use Rattle.uniform.specs.Uniform.{uniform}

-- the starts cut [0, 2 ^ bits)
pub even_cuts : (bits range : ℕ) → 2 ≤ range → range ≤ 2 ^ bits → Partition (uniform bits range)
even_cuts bits range many room = search rules
