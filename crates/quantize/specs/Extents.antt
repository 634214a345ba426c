-- A checked extent: what it covers, and what it means under a distribution's heights. Assumes nothing.
use Rattle.std.specs.Prelude.{◌≡◌, ℕ, ◌≤◌, ℤ, pos, ◌+ℤ◌, Some, None, Option, ◌≢◌}
use Rattle.models.specs.Meaning.{Meaning}
use Rattle.models.specs.Heights.{Height}
use Rattle.quantize.specs.Quantized.{quantized}
use Rattle.quantize.specs.declared.extent.Extent.{Extent}

abbrev pub means : Extent → Height → Meaning
means e h = quantized e.low e.span e.precision h

-- The extent runs from low to high, at a precision of bits.
pub record Covers (low high : ℤ) (bits : ℕ) (e : Extent) : Type 0 where
  pub from : e.low ≡ low
  pub to : e.low +ℤ pos e.span ≡ high
  pub precision : e.precision ≡ bits

-- The row of the whole number z in the extent, or nothing exactly where z has none.
abbrev pub RowOf : Extent → ℤ → Option ℕ → Type 0
RowOf e z None = (i : ℕ) → i ≤ e.span → z ≢ e.low +ℤ pos i
RowOf e z (Some i) = (i ≤ e.span) × (z ≡ e.low +ℤ pos i)
