-- Which model a record describes, and which fault it has.
use Rattle.std.specs.Prelude.{◌≡◌, ℕ, List, ℤ, pos, negsuc, ◌-ℤ◌, Some, None, Ok, Err, Option, Result, unsigned_abs}
use Rattle.models.specs.contracts.bits.U32BitArray.TheImpl as u32
use Rattle.models.specs.contracts.symbol.I32Symbol.TheImpl as i32
use Rattle.models.specs.declared.fault.ModelFault.{ModelFault}
use Rattle.distributions.specs.Peak as peak
use Rattle.distributions.specs.declared.fault.DistributionFault.{DistributionFault}
use Rattle.distributions.specs.declared.peak.Peak as shape
use Rattle.quantize.specs.Extents.{means}
use Rattle.quantize.specs.Quantized as quantized
use Rattle.quantize.specs.declared.quantizer.LeakilyQuantizedDistribution.{LeakilyQuantizedDistribution}
use Rattle.uniform.specs.Uniform as uniform
use Rattle.uniform.specs.declared.model.UniformModel.{UniformModel}
use Rattle.records.specs.Record.{Bad, Good, fields_of}
use Rattle.records.specs.declared.fault.RecordFault.{RecordFault}
use Rattle.records.specs.declared.fault.RecordFault.TheVariants.{Malformed, Model, Distribution}
use Rattle.records.specs.declared.fault.Refusal.{Refusal}
use Rattle.records.specs.declared.layout.Fields.{Fields}
use Rattle.records.specs.declared.layout.Fields.TheVariants as fields
use Rattle.records.specs.declared.layout.PeakFields.{PeakFields}
use Rattle.records.specs.declared.layout.UniformFields.{UniformFields}
use Rattle.records.specs.declared.opening.RecordModel.{RecordModel}
use Rattle.records.specs.declared.opening.RecordModel.TheVariants.{Uniform, Peak}

-- how many symbols a range has: none below zero
abbrev pub symbols_of : ℤ → ℕ
symbols_of (pos n) = n
symbols_of (negsuc n) = 0

-- models of the symbols and the width that records have
abbrev pub Even : Type 0
Even = UniformModel ℕ u32.ghosts

abbrev pub Quantized : Type 0
Quantized = LeakilyQuantizedDistribution ℤ ℕ shape.Peak i32.ghosts u32.ghosts

-- the model is uniform, as it is described
abbrev pub IsUniform : UniformFields → Even → Type 0
IsUniform f u = uniform.uniform u.precision u.range ≡ uniform.uniform f.precision (symbols_of f.range)

-- the model quantizes the Peak that is described
pub record IsPeak (f : PeakFields) (m : Quantized) : Type 0 where
  pub shaped : peak.Shaped f.centre f.scale m.inner.centre m.inner.scale
  pub meaning : means m.quantizer.extent (peak.height_at m.inner.centre m.inner.scale) ≡ quantized.quantized f.min (unsigned_abs (f.max -ℤ f.min)) f.precision (peak.height_at f.centre f.scale)

-- why a uniform model is refused
abbrev pub uniform_fault : UniformFields → Option ModelFault
uniform_fault f = uniform.refusal 32 f.precision (symbols_of f.range)

-- the fault of a model, and that of its distribution only where the model has none
abbrev pub model_first : Option ModelFault → Option DistributionFault → Option RecordFault
model_first (Some fault) later = Some (Model fault)
model_first None (Some fault) = Some (Distribution fault)
model_first None None = None

-- why a quantized Peak is refused
abbrev pub peak_fault : PeakFields → Option RecordFault
peak_fault f = model_first (quantized.refusal 32 f.precision f.min f.max) (peak.refusal f.centre f.scale)

-- why the model that the fields describe is refused
abbrev pub fault_of : Fields → Option RecordFault
fault_of (fields.Uniform f) = model_first (uniform_fault f) None
fault_of (fields.Peak f) = peak_fault f

-- the model is the one that the fields describe
abbrev pub Describes : Fields → RecordModel → Type 0
Describes (fields.Uniform f) (Uniform u) = IsUniform f u
Describes (fields.Uniform f) (Peak m) = ⊥
Describes (fields.Peak f) (Uniform u) = ⊥
Describes (fields.Peak f) (Peak m) = IsPeak f m

-- the model of a record, or its one fault: that of its form before those of its model
abbrev pub Opens : List ℕ → Result RecordModel RecordFault → Type 0
Opens bytes (Ok model) = Good bytes × (fault_of (fields_of bytes) ≡ None) × Describes (fields_of bytes) model
Opens bytes (Err (Malformed p)) = Bad bytes p
Opens bytes (Err (Model fault)) = Good bytes × (fault_of (fields_of bytes) ≡ Some (Model fault))
Opens bytes (Err (Distribution fault)) = Good bytes × (fault_of (fields_of bytes) ≡ Some (Distribution fault))

-- a fault is carried whole, with the number of its channel
abbrev pub OpensChannel : ℕ → List ℕ → Result RecordModel Refusal → Type 0
OpensChannel n bytes (Ok model) = Opens bytes (Ok model)
OpensChannel n bytes (Err refusal) = (refusal.channel ≡ n) × Opens bytes (Err refusal.fault)
