-- What a refusal of the model layer is called: its layer, its number, its word and its place. Assumes nothing.
use Rattle.std.specs.Prelude.{ℕ, List, codes}
use Rattle.models.specs.declared.fault.ModelFault.{ModelFault}
use Rattle.models.specs.declared.fault.ModelFault.TheVariants.{Precision, Order, Span, Beyond, Range}

-- models and channels are layer 2
abbrev pub layer_of : ModelFault → ℕ
layer_of f = 2

abbrev pub number_of : ModelFault → ℕ
number_of Precision = 1
number_of Order = 2
number_of Span = 3
number_of Beyond = 4
number_of Range = 7

abbrev pub word_of : ModelFault → List ℕ
word_of Precision = codes "precision"
word_of Order = codes "order"
word_of Span = codes "span"
word_of Beyond = codes "beyond"
word_of Range = codes "range"

abbrev pub place_of : ModelFault → ℕ
place_of f = 0
