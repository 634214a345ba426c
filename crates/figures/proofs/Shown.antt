-- The figures, put together. Assumes nothing.
use Rattle.std.proofs.Common.{◌≡◌, ℕ, zero, suc, ◌^◌, ◌<◌, ◌≤◌, Bool, false, cond, ◌||◌, eqb, ltb, leb, ℤ, pos, negsuc, ◌+ℤ◌, Some, None, refl, ap, ◌∙◌, inl, inr, arith, lit<, lit≤}
use lib.Signed.{le_z}
use Rattle.std.proofs.lemmas.Int.{ints}
use Rattle.std.proofs.lemmas.Bool.{le-ltb, ne_eqb, cases_lt, cond-true, cond-false, le-leb, lt-leb}
use Rattle.rounding.specs.Fractions.{half, one}
use Rattle.models.specs.Heights.{Height, Lawful}
use Rattle.models.specs.Meaning.{Partition, At, Interval, Holds}
use Rattle.models.specs.declared.fault.ModelFault.TheVariants.{Order, Span, Beyond}
use Rattle.distributions.specs.Peak.{height_at}
use Rattle.distributions.specs.PeakLaws.{peak_lawful}
use Rattle.distributions.specs.Tables.{Rising, Sound}
use Rattle.quantize.specs.Quantized.{refusal}
use Rattle.quantize.specs.Starts.{quantized_cuts, below_bounded}
use Rattle.measures.specs.Shares.{length_of}
use Rattle.figures.specs.Samples.{three_knots, peaked, full, thirds}
use Rattle.figures.specs.Figures.{Figures, Answers, Refused}
use Rattle.figures.proofs.Computed as computed
use Rattle.figures.proofs.Makers.{of_makers}
use Rattle.figures.proofs.OneAnswer.{one_answer, one_refusal, one_none}

-- ---- the refusals: past the check of the precision
judged :
    (low high : ℤ) (bits : ℕ) → 0 < bits → (width : ℕ) → bits ≤ width
    → refusal width bits low high ≡ cond (le_z high low) (Some Order) (cond (le_z (low +ℤ pos (2 ^ bits)) high) (Some Span) None)
judged low high bits some width h =
    let a : eqb bits 0 ≡ false = ne_eqb bits 0 (λ e. omega arith) in
    let b : ltb width bits ≡ false = le-ltb width bits h in
    cond-false (eqb bits 0 || ltb width bits) _ _ (ap (λ (t : Bool). t || ltb width bits) a ∙ b)

-- ---- the first model
peaked_cuts : Partition peaked
peaked_cuts =
    quantized_cuts (pos 0) 3 5 (height_at half one)
    (peak_lawful half one computed.centre_from computed.centre_to computed.scale_from computed.scale_to)
    (omega (arith, ints)) (omega (arith, ints)) (lit≤ tt) (lit< tt) (lit< tt)

answered :
    (q i start length : ℕ) → i ≤ 3 → Interval peaked i start length → Holds peaked q i → Answers peaked q i start length
answered q i start length within row holds =
    let z : pos i ≡ pos 0 +ℤ pos i = omega (arith, ints) in
    record {
      signed = one_answer (λ k. k) (λ x y e. e) peaked peaked_cuts q i (pos i, start, length) (record { at = record { within = within; symbol = z }; interval = row }) holds;
      unsigned = one_answer pos (λ x y e. cc) peaked peaked_cuts q i (i, start, length) (record { at = record { within = within; symbol = z }; interval = row }) holds;
    }

beyond : Refused peaked 32 Beyond
beyond = record {
  signed = one_refusal (λ k. k) (λ x y e. e) peaked peaked_cuts 32 (lit≤ tt);
  unsigned = one_refusal pos (λ x y e. cc) peaked peaked_cuts 32 (lit≤ tt);
}

-- ---- as many symbols as quantiles: row i starts at i
full_start : (h : Height) → Lawful h → (i : ℕ) → i ≤ 16 → (full h).start i ≡ i
full_start h law zero b = refl
full_start h law (suc i) b =
    elim (cases_lt i 15) [
      | inl more ↦
          let none = below_bounded (pos 0) 15 4 h law (omega (arith, ints)) (omega (arith, ints)) (lit≤ tt) (lit< tt) (lit< tt) (suc i) (omega arith) in
          cond-true (leb (suc i) 15) _ _ (le-leb (suc i) 15 (omega arith)) ∙ omega (arith, none)
      | inr end ↦ cond-false (leb (suc i) 15) _ _ (lt-leb (suc i) 15 (omega arith)) ∙ omega arith
    ]

full_lengths : (h : Height) → Lawful h → (i : ℕ) → i ≤ 15 → length_of (full h) i ≡ 1
full_lengths h law i b = rw (full_start h law i (omega arith), full_start h law (suc i) (omega arith)) (omega arith)

-- ---- the knots
rising : Rising three_knots
rising zero b = lit≤ tt
rising (suc zero) b = lit≤ tt
rising (suc (suc zero)) b = lit≤ tt
rising (suc (suc (suc i))) b = absurd (omega arith)

profile_table : Sound 4 three_knots
profile_table = record {
  counted = record { some = lit≤ tt; most = lit≤ tt };
  wide = record { some = lit≤ tt; most = lit≤ tt };
  first = refl;
  rising = rising;
  last = lit< tt;
}

-- ---- a symbol past the last
outside : (i : ℕ) → At thirds (pos 65537) i → ⊥
outside i at = omega (arith, ints, at.within, at.symbol)

pub figures : Figures
figures = record {
  peak_shape = computed.peak_shape;
  peak_made = judged (pos 0) (pos 3) 5 (lit< tt);
  peak_starts = computed.peak_starts;
  peak_14 = answered 14 0 0 15 (lit≤ tt) computed.row_0 computed.holds_14;
  peak_15 = answered 15 1 15 8 (lit≤ tt) computed.row_1 computed.holds_15;
  peak_31 = answered 31 3 26 6 (lit≤ tt) computed.row_3 computed.holds_31;
  peak_32 = (beyond, refl);
  shifted_shape = computed.shifted_shape;
  shifted_made = judged (negsuc 1) (pos 1) 5 (lit< tt);
  shifted_starts = computed.shifted_starts;
  profile_table = profile_table;
  profile_made = judged (pos 0) (pos 7) 4 (lit< tt);
  profile_starts = computed.profile_starts;
  full_made = judged (pos 0) (pos 15) 4 (lit< tt);
  full_lengths = full_lengths;
  too_wide = (judged (pos 0) (pos 16) 4 (lit< tt), refl);
  no_order = (judged (pos 5) (pos 5), refl);
  thirds_made = refl;
  thirds_lengths = computed.thirds_lengths;
  thirds_outside = one_none thirds (pos 65537) outside;
  fine_3 = computed.fine_3;
  fine_8 = computed.fine_8;
  of_makers = of_makers;
}
