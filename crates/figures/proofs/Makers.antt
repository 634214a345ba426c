-- The extent that a maker promises for a support means the model over it. Assumes nothing.
use Rattle.std.proofs.Common.{◌≡◌, ℕ, ℤ, pos, ◌+ℤ◌, ap, ◌∙◌, arith}
use Rattle.std.proofs.lemmas.Int.{ints}
use Rattle.models.specs.Heights.{Height}
use Rattle.quantize.specs.Extents.{Covers, means}
use Rattle.quantize.specs.Quantized.{quantized}
use Rattle.quantize.specs.declared.extent.Extent.{Extent}

pub of_makers :
    (low : ℤ) (span bits : ℕ) (h : Height) (e : Extent) → Covers low (low +ℤ pos span) bits e
    → means e h ≡ quantized low span bits h
of_makers low span bits h e c =
    let s : e.span ≡ span = omega (arith, ints, c.from, c.to) in
    ap (λ (z : ℤ). quantized z e.span e.precision h) c.from
    ∙ ap (λ (n : ℕ). quantized low n e.precision h) s
    ∙ ap (λ (n : ℕ). quantized low span n h) c.precision
