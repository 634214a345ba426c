-- What a quantized distribution means, by the heights of the distribution. Every operation is rounded once, to binary64.
-- Assumes nothing.
use Rattle.std.specs.Prelude.{ℕ, zero, suc, ◌+◌, ◌-◌, ◌^◌, false, cond, ◌||◌, ℤ, pos, negsuc, ◌+ℤ◌, Some, None, Option, ◌==◌, int_le, nat_le, nat_lt, Float}
use Rattle.std.specs.Float.{fin, binary64}
use Rattle.std.specs.Float.Ieee.{add, mul, div, of_int}
use Rattle.rounding.specs.Weights.{weighed}
use Rattle.rounding.specs.Wholes.{half_below}
use Rattle.models.specs.Meaning.{Meaning}
use Rattle.models.specs.Heights.{Height}
use Rattle.models.specs.declared.fault.ModelFault.{ModelFault}
use Rattle.models.specs.declared.fault.ModelFault.TheVariants.{Precision, Order, Span}

-- What is left of 2 ^ bits to share out by height, once every symbol but one has a length of 1.
abbrev pub free_weight_of : ℕ → ℕ → ℕ
free_weight_of bits span = 2 ^ bits - 1 - span

-- The lowest symbol starts at 0. Any other starts at the free weight times the height half a step below it, without its fraction,
-- plus 1 for each symbol below it. The last interval ends at 2 ^ bits.
abbrev pub start_of : ℤ → ℕ → ℕ → Height → ℕ → ℕ
start_of low span bits h zero = 0
start_of low span bits h (suc i) =
    cond (nat_le (suc i) span) (weighed (free_weight_of bits span) (h (half_below (low +ℤ pos (suc i)))) + suc i) (2 ^ bits)

abbrev pub quantized : ℤ → ℕ → ℕ → Height → Meaning
quantized low span bits h = record { low = low; span = span; bits = bits; start = start_of low span bits h }

-- what the inverse is asked at, for the quantile q
abbrev pub middle_of : ℕ → ℕ → Float
middle_of bits q =
    mul binary64 (add binary64 (of_int binary64 (pos q)) (fin false 1 (negsuc 0)))
    (div binary64 (fin false 1 (pos 0)) (of_int binary64 (pos (2 ^ bits))))

-- The refusal that is due, by the order of the checks: the precision is 0 or above the width; the highest symbol is not above the
-- lowest; their distance is 2 ^ bits or more. The symbols are whole numbers, so no distance is cut to a type.
abbrev pub refusal : ℕ → ℕ → ℤ → ℤ → Option ModelFault
refusal width bits low high =
    cond (bits == 0 || nat_lt width bits) (Some Precision)
    (cond (int_le high low) (Some Order)
    (cond (int_le (low +ℤ pos (2 ^ bits)) high) (Some Span) None))
