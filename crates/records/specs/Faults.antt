-- What a refusal of the record layer is called: its layer, its number, its word and its place. A fault of a lower layer keeps its own.
use Rattle.std.specs.Prelude.{ℕ, List, codes}
use Rattle.models.specs.Faults as models
use Rattle.distributions.specs.Faults as distributions
use Rattle.records.specs.declared.fault.RecordFault.{RecordFault}
use Rattle.records.specs.declared.fault.RecordFault.TheVariants.{Malformed, Model, Distribution}

abbrev pub layer_of : RecordFault → ℕ
layer_of (Malformed place) = 1
layer_of (Model fault) = models.layer_of fault
layer_of (Distribution fault) = distributions.layer_of fault

abbrev pub number_of : RecordFault → ℕ
number_of (Malformed place) = 8
number_of (Model fault) = models.number_of fault
number_of (Distribution fault) = distributions.number_of fault

abbrev pub word_of : RecordFault → List ℕ
word_of (Malformed place) = codes "record"
word_of (Model fault) = models.word_of fault
word_of (Distribution fault) = distributions.word_of fault

abbrev pub place_of : RecordFault → ℕ
place_of (Malformed place) = place
place_of (Model fault) = models.place_of fault
place_of (Distribution fault) = distributions.place_of fault
