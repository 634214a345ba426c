-- Heights that agree as numbers half a step below each symbol but the lowest give the same starts. Assumes nothing.
use Rattle.std.proofs.Common.{◌≡◌, ℕ, zero, suc, ◌+◌, ◌<◌, ◌≤◌, true, leb, ℤ, pos, negsuc, ◌+ℤ◌, ◌≤ℤ◌, sym, refl, ap, ◌∙◌, inl, inr, arith, pow_mono}
use lib.Ieee.{eq}
use Rattle.std.proofs.lemmas.Int.{ints}
use Rattle.std.proofs.lemmas.Bool.{cases_lt, cond-true, cond-false, le-leb, lt-leb}
use Rattle.models.specs.Heights.{Height, Lawful}
use Rattle.rounding.specs.Wholes.{half_below}
use Rattle.rounding.proofs.Weights.{weighed_agrees}
use Rattle.quantize.specs.Quantized.{free_weight_of, start_of}
use Rattle.quantize.specs.Starts.{half_in_reach, height_there}

module _ (low : ℤ) (span bits : ℕ) (h h' : Height) (law : Lawful h)
    (from : negsuc 2147483647 ≤ℤ low) (to : (low +ℤ pos span) ≤ℤ pos 4294967295) (narrow : bits ≤ 32)
    (agree : (i : ℕ) → 0 < i → i ≤ span → eq (h (half_below (low +ℤ pos i))) (h' (half_below (low +ℤ pos i))) ≡ true) where
  pub starts_agree : (i : ℕ) → start_of low span bits h i ≡ start_of low span bits h' i
  starts_agree zero = refl
  starts_agree (suc i) =
      elim (cases_lt i span) [
        | inl more ↦
            let inside = le-leb (suc i) span more in
            cond-true (leb (suc i) span) _ _ inside
            ∙ ap (λ n. n + suc i)
            (weighed_agrees (free_weight_of bits span) (omega (arith, pow_mono narrow)) _ _
            (height_there h law _ (half_in_reach (low +ℤ pos (suc i)) (omega (arith, ints)) (omega (arith, ints))))
            (agree (suc i) (omega arith) more))
            ∙ sym (cond-true (leb (suc i) span) _ _ inside)
        | inr end ↦
            let past = lt-leb (suc i) span (omega arith) in
            cond-false (leb (suc i) span) _ _ past ∙ sym (cond-false (leb (suc i) span) _ _ past)
      ]
