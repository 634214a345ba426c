-- The figures of the rules, in one statement. Assumes nothing.
use Rattle.std.specs.Prelude.{◌≡◌, ℕ, ◌<◌, ◌≤◌, [], ◌∷◌, ℤ, pos, negsuc, ◌+ℤ◌, Some, None, Ok, Err, Option}
use Rattle.models.specs.Answers.{Encodes, Searches}
use Rattle.models.specs.Faults.{number_of}
use Rattle.models.specs.Heights.{Height, Lawful}
use Rattle.models.specs.Meaning.{Meaning}
use Rattle.models.specs.declared.fault.ModelFault.{ModelFault}
use Rattle.models.specs.declared.fault.ModelFault.TheVariants.{Order, Span, Beyond}
use Rattle.rounding.specs.Fractions.{half, one}
use Rattle.distributions.specs.Peak.{refusal as peakRefusal}
use Rattle.distributions.specs.Tables.{Sound}
use Rattle.quantize.specs.Extents.{Covers, means}
use Rattle.quantize.specs.Quantized.{quantized, refusal as quantizerRefusal}
use Rattle.quantize.specs.declared.extent.Extent.{Extent}
use Rattle.uniform.specs.Uniform.{refusal as uniformRefusal}
use Rattle.measures.specs.Logarithms.{fine}
use Rattle.measures.specs.Shares.{length_of}
use Rattle.figures.specs.Samples.{below_zero, three_knots, peaked, shifted, profiled, full, thirds, starts_of, lengths_of}

-- a has the property, and nothing else has it
pub record Only {A : Type 0} (Q : A → Type 0) (a : A) : Type 0 where
  pub holds : Q a
  pub only : (b : A) → Q b → b ≡ a

-- The quantile q has one answer, in signed symbols (which are whole numbers) and in unsigned ones (which are naturals): the row of
-- the symbol z, with its start and length.
pub record Answers (m : Meaning) (q z start length : ℕ) : Type 0 where
  pub signed : Only (Searches (λ k. k) (λ n. n) m q) (Ok (pos z, start, length))
  pub unsigned : Only (Searches pos (λ n. n) m q) (Ok (z, start, length))

-- The quantile q has one answer, a refusal.
pub record Refused (m : Meaning) (q : ℕ) (f : ModelFault) : Type 0 where
  pub signed : Only (Searches {S = ℤ} (λ k. k) (λ n. n) m q) (Err f)
  pub unsigned : Only (Searches {S = ℕ} pos (λ n. n) m q) (Err f)

-- What the maker of a quantizer refuses for a support and a precision, at every width that the precision is within.
abbrev pub Judged : ℤ → ℤ → ℕ → Option ModelFault → Type 0
Judged low high bits due = (width : ℕ) → bits ≤ width → quantizerRefusal width bits low high ≡ due

pub record Figures : Type 0 where
  -- Peak 0.5, 1; P 5; 0 to 3
  pub peak_shape : peakRefusal half one ≡ None
  pub peak_made : Judged (pos 0) (pos 3) 5 None
  pub peak_starts : starts_of peaked ≡ 0 ∷ 15 ∷ 23 ∷ 26 ∷ 32 ∷ []
  pub peak_14 : Answers peaked 14 0 0 15
  pub peak_15 : Answers peaked 15 1 15 8
  pub peak_31 : Answers peaked 31 3 26 6
  pub peak_32 : Refused peaked 32 Beyond × (number_of Beyond ≡ 4)
  -- Peak -1.5, 1; P 5; -2 to 1
  pub shifted_shape : peakRefusal below_zero one ≡ None
  pub shifted_made : Judged (negsuc 1) (pos 1) 5 None
  pub shifted_starts : starts_of shifted ≡ 0 ∷ 15 ∷ 23 ∷ 26 ∷ 32 ∷ []
  -- Profile 0, 4, knots 0 1 4; P 4; 0 to 7
  pub profile_table : Sound 4 three_knots
  pub profile_made : Judged (pos 0) (pos 7) 4 None
  pub profile_starts : starts_of profiled ≡ 0 ∷ 1 ∷ 2 ∷ 4 ∷ 5 ∷ 7 ∷ 10 ∷ 12 ∷ 16 ∷ []
  -- P 4; 0 to 15: no weight is free, whatever the heights
  pub full_made : Judged (pos 0) (pos 15) 4 None
  pub full_lengths : (h : Height) → Lawful h → (i : ℕ) → i ≤ 15 → length_of (full h) i ≡ 1
  -- P 4; 0 to 16
  pub too_wide : Judged (pos 0) (pos 16) 4 (Some Span) × (number_of Span ≡ 3)
  -- 5 to 5, at every P
  pub no_order : ((bits : ℕ) → 0 < bits → Judged (pos 5) (pos 5) bits (Some Order)) × (number_of Order ≡ 2)
  -- uniform, P 16, range 3, for u16
  pub thirds_made : uniformRefusal 16 16 3 ≡ None
  pub thirds_lengths : lengths_of thirds ≡ 21845 ∷ 21845 ∷ 21846 ∷ []
  pub thirds_outside : Only (Encodes {P = ℕ} (λ n. n) thirds (pos 65537)) None
  -- the fine logarithm
  pub fine_3 : fine 3 ≡ 103872
  pub fine_8 : fine 8 ≡ 196608
  -- The extent that a maker promises for a support means the model over it: so these are the models of the calls.
  pub of_makers : (low : ℤ) (span bits : ℕ) (h : Height) (e : Extent) → Covers low (low +ℤ pos span) bits e → means e h ≡ quantized low span bits h
