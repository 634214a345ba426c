-- What a call can answer, where the meaning of its model settles it. Assumes nothing.
use Rattle.std.proofs.Common.{◌≡◌, ℕ, ◌^◌, ◌≤◌, ℤ, Some, None, Ok, Err, Option, Result, sym, refl, ap, ◌∙◌, arith}
use Rattle.models.specs.Answers.{Encodes, Searches, IsRow}
use Rattle.models.specs.Meaning.{Meaning, Partition, At, Holds}
use Rattle.models.specs.declared.fault.ModelFault.{ModelFault}
use Rattle.models.specs.declared.fault.ModelFault.TheVariants.{Beyond}
use Rattle.models.proofs.Cuts.{holds_bound}
use Rattle.models.proofs.Rows.{found}
use Rattle.figures.specs.Figures.{Only}

module _ {S : Type 0} (whole : S → ℤ) (exact : (x y : S) → whole x ≡ whole y → x ≡ y) (m : Meaning) (law : Partition m) where
  -- two rows of one index are equal
  same_row : (i : ℕ) (a b : S × ℕ × ℕ) → IsRow whole (λ n. n) m i a → IsRow whole (λ n. n) m i b → a ≡ b
  same_row i a b r t =
      let x : a.0 ≡ b.0 = exact a.0 b.0 (r.at.symbol ∙ sym t.at.symbol) in
      let y : a.1 ≡ b.1 = r.interval.start ∙ sym t.interval.start in
      let z : a.2 ≡ b.2 = omega (arith, r.interval.end, t.interval.end) in
      let e : ◌≡◌ {A = S × ℕ × ℕ} (a.0, a.1, a.2) (b.0, b.1, b.2) = cc in
      e

  pub one_answer :
      (q i : ℕ) (a : S × ℕ × ℕ) → IsRow whole (λ n. n) m i a → Holds m q i → Only (Searches whole (λ n. n) m q) (Ok a)
  one_answer q i a row holds = record { holds = found whole (λ n. n) m law q i a row holds; only = only }
    where
      only : (r : Result (S × ℕ × ℕ) ModelFault) → Searches whole (λ n. n) m q r → r ≡ Ok a
      only (Ok b) s =
          let e : i ≡ s.1.index = s.1.only i holds in
          let there : IsRow whole (λ n. n) m i b = rw e s.1.row in
          ap Ok (same_row i b a there row)
      only (Err f) s = absurd (omega (arith, holds_bound m law q i holds, s.0))

  pub one_refusal : (q : ℕ) → 2 ^ m.bits ≤ q → Only (Searches whole (λ n. n) m q) (Err Beyond)
  one_refusal q h = record { holds = (h, refl); only = only }
    where
      only : (r : Result (S × ℕ × ℕ) ModelFault) → Searches whole (λ n. n) m q r → r ≡ Err Beyond
      only (Ok b) s = absurd (omega (arith, s.0))
      only (Err f) s = ap Err s.1

-- outside: no row has the symbol
pub one_none : (m : Meaning) (z : ℤ) → ((i : ℕ) → At m z i → ⊥) → Only (Encodes {P = ℕ} (λ n. n) m z) None
one_none m z out = record { holds = out; only = only }
  where
    only : (r : Option (ℕ × ℕ)) → Encodes (λ n. n) m z r → r ≡ None
    only None s = refl
    only (Some p) s = absurd (out s.0 s.1)
