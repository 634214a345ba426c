-- What a refusal of the distribution layer is called: its layer, its number, its word and its place. Assumes nothing.
use Rattle.std.specs.Prelude.{ℕ, List, codes}
use Rattle.distributions.specs.declared.fault.DistributionFault.{DistributionFault}
use Rattle.distributions.specs.declared.fault.DistributionFault.TheVariants.{Shape, Knots}

-- distributions are layer 3
abbrev pub layer_of : DistributionFault → ℕ
layer_of f = 3

abbrev pub number_of : DistributionFault → ℕ
number_of Shape = 5
number_of (Knots place) = 6

abbrev pub word_of : DistributionFault → List ℕ
word_of Shape = codes "shape"
word_of (Knots place) = codes "knots"

abbrev pub place_of : DistributionFault → ℕ
place_of Shape = 0
place_of (Knots place) = place
