-- A quantizer that was made for a support means the model over it. Assumes nothing.
use Rattle.std.proofs.Common.{◌≡◌, ℕ, ℤ, pos, ◌+ℤ◌, None, Ok, Err, Option, sym, ap, ◌∙◌, subst, arith}
use Rattle.std.proofs.lemmas.Int.{ints}
use Rattle.models.specs.Answers.{Between}
use Rattle.models.specs.Heights.{Height}
use Rattle.models.specs.Meaning.{Meaning}
use Rattle.models.specs.declared.fault.ModelFault.{ModelFault}
use Rattle.quantize.specs.Extents.{Covers, means}
use Rattle.quantize.specs.Quantized.{quantized, refusal}
use Rattle.quantize.specs.declared.extent.Extent.{Extent}
use Rattle.figures.proofs.Makers.{of_makers}
use Rattle.conformance.specs.Cases.{span_of, Tried, SupportTried}
use Rattle.conformance.specs.Claims.{Judged, Verdict}
use Rattle.samples.specs.declared.case.Quantized.{Quantized}
use Rattle.samples.specs.declared.claim.Claim.{Claim}
use Rattle.conformance.specs.declared.judging.Unjudged.TheVariants.{Misfits, Model, Distribution}

pub covered_means :
    (low high : ℤ) (bits : ℕ) (h : Height) (e : Extent) → Covers low high bits e
    → means e h ≡ quantized low (span_of low high) bits h
covered_means low high bits h e c =
    let to : low +ℤ pos e.span ≡ high = omega (arith, ints) in
    let span : e.span ≡ span_of low high = omega (arith, ints) in
    of_makers low e.span bits h e (record { from = c.from; to = c.to ∙ sym to; precision = c.precision })
    ∙ ap (λ (n : ℕ). quantized low n bits h) span

-- the judgement of a model that was made is the verdict
pub tried_made :
    (least most : ℤ) (width : ℕ) (m n : Meaning) (c : Claim) (due : Option ModelFault) → due ≡ None → m ≡ n → (v : Verdict)
    → Judged least most width m c v → Tried due (Judged least most width n c) v
tried_made least most width m n c due e s v j = go v (subst (λ (x : Meaning). Judged least most width x c v) s j)
  where
    go : (v : Verdict) → Judged least most width n c v → Tried due (Judged least most width n c) v
    go (Ok agrees) k = (e, k)
    go (Err Misfits) k = (e, k)
    go (Err (Model fault)) k = absurd k
    go (Err (Distribution fault)) k = absurd k

-- the same of a support whose ends came from symbols of the type
pub support_tried :
    (least most : ℤ) (width : ℕ) (h : Height) (q : Quantized) (c : Claim) (v : Verdict) (low high : ℤ) (e : Extent) (m : Meaning)
    → Between least most q.min → Between least most q.max → low ≡ q.min → high ≡ q.max
    → refusal width q.precision low high ≡ None → Covers low high q.precision e → m ≡ means e h
    → Judged least most width m c v → SupportTried least most width h q c v
support_tried least most width h q c v low high e m from to el eh due covers same judged =
    let due' : refusal width q.precision q.min q.max ≡ None = rw (← el, ← eh) due in
    let covers' : Covers q.min q.max q.precision e = rw (← el, ← eh) covers in
    record {
      typed = λ t. tried_made least most width m _ c _ due' (same ∙ covered_means q.min q.max q.precision h e covers') v judged;
      strange = λ none. absurd (none (record { from = from; to = to }));
    }
