-- The models that the figures speak of, by the definitions that the contracts of the library cite. Assumes nothing.
use Rattle.std.specs.Prelude.{ℕ, suc, true, List, [], ◌∷◌, map, pos, negsuc, Float}
use Rattle.std.specs.Float.{fin}
use Rattle.std.specs.List.{range_with_len}
use Rattle.rounding.specs.Fractions.{half, one}
use Rattle.models.specs.Heights.{Height}
use Rattle.models.specs.Meaning.{Meaning}
use Rattle.distributions.specs.Peak as peak
use Rattle.distributions.specs.Profile as profile
use Rattle.distributions.specs.Tables.{parts}
use Rattle.quantize.specs.Quantized.{quantized}
use Rattle.uniform.specs.Uniform.{uniform}
use Rattle.measures.specs.Shares.{length_of}

-- Peak 0.5, 1; P 5; 0 to 3
abbrev pub peaked : Meaning
peaked = quantized (pos 0) 3 5 (peak.height_at half one)

-- -1.5: three halves below zero
abbrev pub below_zero : Float
below_zero = fin true 3 (negsuc 0)

-- Peak -1.5, 1; P 5; -2 to 1
abbrev pub shifted : Meaning
shifted = quantized (negsuc 1) 3 5 (peak.height_at below_zero one)

abbrev pub three_knots : List ℕ
three_knots = 0 ∷ 1 ∷ 4 ∷ []

-- Profile 0, 4, knots 0 1 4; P 4; 0 to 7
abbrev pub profiled : Meaning
profiled = quantized (pos 0) 7 4 (profile.height_at (parts (pos 0) 4 three_knots))

-- P 4; 0 to 15: as many symbols as quantiles
abbrev pub full : Height → Meaning
full h = quantized (pos 0) 15 4 h

-- uniform, P 16, range 3
abbrev pub thirds : Meaning
thirds = uniform 16 3

-- where each row starts, from the first on, and then where the last one ends
abbrev pub starts_of : Meaning → List ℕ
starts_of m = map m.start (range_with_len 0 (suc (suc m.span)))

-- the length of each row's interval, from the first on
abbrev pub lengths_of : Meaning → List ℕ
lengths_of m = map (length_of m) (range_with_len 0 (suc m.span))
