-- When a verdict on a case is right: a model that the rules refuse is refused with the fault that is due, and any other is judged by
-- what it means. Assumes nothing.
use Rattle.std.specs.Prelude.{◌≡◌, ℕ, ℤ, pos, negsuc, ◌-ℤ◌, Some, None, Ok, Err, Option, unsigned_abs}
use Rattle.models.specs.Answers.{Between}
use Rattle.models.specs.Heights.{Height}
use Rattle.models.specs.declared.fault.ModelFault.{ModelFault}
use Rattle.distributions.specs.Peak.{height_at, refusal as peakRefusal}
use Rattle.distributions.specs.declared.fault.DistributionFault.TheVariants.{Shape}
use Rattle.quantize.specs.Quantized.{quantized, refusal as quantizerRefusal}
use Rattle.uniform.specs.Uniform.{uniform, refusal as uniformRefusal}
use Rattle.conformance.specs.Claims.{Judged, Verdict}
use Rattle.samples.specs.declared.case.Case.{Case}
use Rattle.samples.specs.declared.case.Case.TheVariants.{OfPeak, OfUniform}
use Rattle.samples.specs.declared.case.Quantized.{Quantized}
use Rattle.samples.specs.declared.case.SymbolType.{SymbolType}
use Rattle.samples.specs.declared.case.SymbolType.TheVariants.{I16, U16, I32, U32}
use Rattle.samples.specs.declared.case.Uniform.{Uniform}
use Rattle.samples.specs.declared.case.Width.{Width}
use Rattle.samples.specs.declared.case.Width.TheVariants.{Bits16, Bits32}
use Rattle.samples.specs.declared.claim.Claim.{Claim}
use Rattle.conformance.specs.declared.judging.Unjudged.TheVariants.{Misfits, Model, Distribution}

-- refused with the fault that is due; where none is due, the verdict is right
abbrev pub Tried : Option ModelFault → (Verdict → Type 0) → Verdict → Type 0
Tried due Right (Ok agrees) = (due ≡ None) × Right (Ok agrees)
Tried due Right (Err Misfits) = (due ≡ None) × Right (Err Misfits)
Tried due Right (Err (Model fault)) = due ≡ Some fault
Tried due Right (Err (Distribution fault)) = ⊥

-- symbols of a uniform model have 64 bits
abbrev pub UniformTried : ℕ → Uniform → Claim → Verdict → Type 0
UniformTried width u c = Tried (uniformRefusal width u.precision u.range) (Judged (pos 0) (pos 18446744073709551615) width (uniform u.precision u.range) c)

-- how far high lies from low
abbrev pub span_of : ℤ → ℤ → ℕ
span_of low high = unsigned_abs (high -ℤ low)

-- both ends of the support are symbols of the type
pub record Typed (least most : ℤ) (q : Quantized) : Type 0 where
  pub from : Between least most q.min
  pub to : Between least most q.max

abbrev pub QuantizedTried : ℤ → ℤ → ℕ → Height → Quantized → Claim → Verdict → Type 0
QuantizedTried least most width h q c = Tried (quantizerRefusal width q.precision q.min q.max) (Judged least most width (quantized q.min (span_of q.min q.max) q.precision h) c)

-- A support that the symbol type does not have misfits.
pub record SupportTried (least most : ℤ) (width : ℕ) (h : Height) (q : Quantized) (c : Claim) (v : Verdict) : Type 0 where
  pub typed : Typed least most q → QuantizedTried least most width h q c v
  pub strange : (Typed least most q → ⊥) → v ≡ Err Misfits

abbrev pub width_of : Width → ℕ
width_of Bits16 = 16
width_of Bits32 = 32

-- the least and the greatest symbol
abbrev pub least_of : SymbolType → ℤ
least_of I16 = negsuc 32767
least_of U16 = pos 0
least_of I32 = negsuc 2147483647
least_of U32 = pos 0

abbrev pub most_of : SymbolType → ℤ
most_of I16 = pos 32767
most_of U16 = pos 65535
most_of I32 = pos 2147483647
most_of U32 = pos 4294967295

abbrev pub MakeTried : Height → Quantized → Claim → Verdict → Type 0
MakeTried h q c = SupportTried (least_of q.symbols) (most_of q.symbols) (width_of q.width) h q c

-- A Peak outside its limits is refused as such. A guess changes nothing.
pub record PeakTried (q : Quantized) (c : Claim) (v : Verdict) : Type 0 where
  pub shaped : peakRefusal q.centre q.scale ≡ None → MakeTried (height_at q.centre q.scale) q c v
  pub refused : peakRefusal q.centre q.scale ≡ Some Shape → v ≡ Err (Distribution Shape)

abbrev pub Replayed : Case → Verdict → Type 0
Replayed (OfPeak q guess c) v = PeakTried q c v
Replayed (OfUniform u c) v = UniformTried (width_of u.width) u c v
