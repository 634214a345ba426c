-- From what the makers of a model promise to what a record's fields describe.
use Rattle.std.proofs.Common.{◌≡◌, ℕ, List, ℤ, pos, ◌+ℤ◌, ◌-ℤ◌, nat_abs, None, Ok, Option, sym, ap, ◌∙◌, subst, subst₂}
use lib.Ieee.{Float}
use lib.IntN.{+ℤ_comm, +ℤ-neg_ℤ_cancel}
use Rattle.models.specs.contracts.bits.U32BitArray.TheImpl as u32
use Rattle.models.specs.contracts.symbol.I32Symbol.TheImpl as i32
use Rattle.models.specs.declared.fault.ModelFault.{ModelFault}
use Rattle.distributions.specs.Peak as peak
use Rattle.distributions.specs.Peak.{Shaped, height_at}
use Rattle.distributions.specs.declared.peak.Peak as shape
use Rattle.distributions.specs.declared.fault.DistributionFault.{DistributionFault}
use Rattle.quantize.specs.Extents.{Covers, means}
use Rattle.quantize.specs.Quantized as quantize
use Rattle.quantize.specs.Quantized.{quantized}
use Rattle.quantize.specs.declared.quantizer.LeakyQuantizer.{LeakyQuantizer}
use Rattle.quantize.specs.declared.extent.Extent.{Extent}
use Rattle.records.specs.Opening.{Quantized, IsPeak, model_first, peak_fault, fault_of, Describes, Opens}
use Rattle.records.specs.Record.{Good, fields_of}
use Rattle.records.specs.declared.layout.Fields.{Fields}
use Rattle.records.specs.declared.layout.Fields.TheVariants as fields
use Rattle.records.specs.declared.layout.PeakFields.{PeakFields}
use Rattle.records.specs.declared.opening.RecordModel.TheVariants.{Peak}

abbrev Quantizer : Type 0
Quantizer = LeakyQuantizer ℤ ℕ i32.ghosts u32.ghosts

distance : (low high : ℤ) (n : ℕ) → low +ℤ pos n ≡ high → n ≡ nat_abs (high -ℤ low)
distance low high n e =
    let d : high -ℤ low ≡ pos n = ap (λ (z : ℤ). z -ℤ low) (sym e ∙ +ℤ_comm low (pos n)) ∙ +ℤ-neg_ℤ_cancel (pos n) low in
    sym (ap nat_abs d)

-- an extent that covers the symbols means the quantized heights of the shape that was asked for
pub means_asked : (low high : ℤ) (bits : ℕ) (e : Extent) (m s centre scale : Float) → Covers low high bits e → Shaped m s centre scale → means e (height_at centre scale) ≡ quantized low (nat_abs (high -ℤ low)) bits (height_at m s)
means_asked low high bits e m s centre scale v h =
    let from = v.from in
    let to : e.span ≡ nat_abs (high -ℤ low) = distance low high e.span (ap (λ (z : ℤ). z +ℤ pos e.span) (sym from) ∙ v.to) in
    let p = v.precision in
    let a = h.middle in
    let b = h.width in
    cc

-- neither maker refuses
pub no_fault : (a : Option ModelFault) (b : Option DistributionFault) → a ≡ None → b ≡ None → model_first a b ≡ None
no_fault a b e f = cc

-- the model that open_peak makes of a quantizer q and a peak p: l and h are the symbols, as they are passed
pub peak_made : (f : PeakFields) (l h : ℤ) (q : Quantizer) (p : shape.Peak) (m : Quantized) → l ≡ f.min → h ≡ f.max → quantize.refusal 32 f.precision l h ≡ None → Covers l h f.precision q.extent → peak.refusal f.centre f.scale ≡ None → Shaped f.centre f.scale p.centre p.scale → m.quantizer ≡ q → m.inner ≡ p → (peak_fault f ≡ None) × IsPeak f m
peak_made f l h q p m i j lawful covers limits shaped made inner =
    let v : Covers l h f.precision m.quantizer.extent = subst (λ (x : Quantizer). Covers l h f.precision x.extent) (sym made) covers in
    let w : Covers f.min f.max f.precision m.quantizer.extent = subst₂ (λ (x y : ℤ). Covers x y f.precision m.quantizer.extent) i j v in
    let s : Shaped f.centre f.scale m.inner.centre m.inner.scale = subst (λ (x : shape.Peak). Shaped f.centre f.scale x.centre x.scale) (sym inner) shaped in
    (no_fault _ _ ((λ k. quantize.refusal 32 f.precision (sym i k) (sym j k)) ∙ lawful) limits, record { shaped = s; meaning = means_asked f.min f.max _ _ _ _ _ _ w s })

-- the model of a well-formed Peak record
pub opens_peak : (bytes : List ℕ) (f : PeakFields) (m : Quantized) → Good bytes → fields.Peak f ≡ fields_of bytes → peak_fault f ≡ None → IsPeak f m → Opens bytes (Ok (Peak m))
opens_peak bytes f m good e due is =
    (good, ap fault_of (sym e) ∙ due, subst (λ (g : Fields). Describes g (Peak m)) e is)
