-- Uniform readings: what a uniform model means, and when its maker refuses. Assumes nothing.
use Rattle.std.specs.Prelude.{ℕ, ◌-◌, ◌*◌, ◌/◌, ◌^◌, cond, ◌||◌, pos, Some, None, Option, ◌==◌, nat_lt}
use Rattle.models.specs.Meaning.{Meaning}
use Rattle.models.specs.declared.fault.ModelFault.{ModelFault}
use Rattle.models.specs.declared.fault.ModelFault.TheVariants.{Precision, Range}

-- The symbols 0 to range - 1. Each starts at the symbol times 2 ^ bits / range, and the last takes the rest up to 2 ^ bits.
abbrev pub uniform : ℕ → ℕ → Meaning
uniform bits range = record {
  low = pos 0;
  span = range - 1;
  bits = bits;
  start = λ i. cond (nat_lt i range) (i * (2 ^ bits / range)) (2 ^ bits);
}

-- The refusal that is due, by the order of the checks: the precision is 0 or above the width; the range is below 2 or above 2 ^ bits.
abbrev pub refusal : ℕ → ℕ → ℕ → Option ModelFault
refusal width bits range =
    cond (bits == 0 || nat_lt width bits) (Some Precision)
    (cond (nat_lt range 2 || nat_lt (2 ^ bits) range) (Some Range) None)
