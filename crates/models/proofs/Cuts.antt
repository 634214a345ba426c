-- What follows from the law of a model alone: the starts never fall, every quantile lies in one interval, and in one only.
-- Assumes nothing.
use Rattle.std.proofs.Common.{◌≡◌, ℕ, zero, suc, ◌+◌, ◌-◌, ◌%◌, ◌^◌, ◌<◌, ◌≤◌, sym, subst, inl, inr, add-zero, add-suc, mod-eq_of_lt, add-sub_of_le, arith, pow_mono}
use Rattle.std.proofs.lemmas.Bool.{cases_lt, cases_order}
use Rattle.models.specs.Meaning.{Meaning, Partition, Interval, Holds}

module _ (m : Meaning) (law : Partition m) where
  -- counted up from i
  climbs : (i k : ℕ) → i + k ≤ suc m.span → m.start i ≤ m.start (i + k)
  climbs i zero h = rw add-zero (omega arith)
  climbs i (suc k) h =
      let up : m.start (i + k) < m.start (suc (i + k)) = law.rises (i + k) (omega arith) in
      let below : m.start i ≤ m.start (i + k) = climbs i k (omega arith) in
      rw add-suc (omega arith)

  pub start_le : (i j : ℕ) → i ≤ j → j ≤ suc m.span → m.start i ≤ m.start j
  start_le i j h b =
      let there : i + (j - i) ≡ j = add-sub_of_le h in
      subst (λ k. m.start i ≤ m.start k) there (climbs i (j - i) (omega arith))

  -- no start is above 2 ^ bits
  pub start_bound : (i : ℕ) → i ≤ suc m.span → m.start i ≤ 2 ^ m.bits
  start_bound i h = subst (λ n. m.start i ≤ n) law.last (start_le i (suc m.span) h (omega arith))

  -- every interval takes one quantile at least, so there are no more rows than quantiles
  start_above : (i : ℕ) → i ≤ suc m.span → i ≤ m.start i
  start_above zero h = omega arith
  start_above (suc i) h = omega (arith, start_above i (omega arith), law.rises i (omega arith))

  pub span_fits : m.span < 2 ^ m.bits
  span_fits = omega (arith, law.last, start_above (suc m.span) (omega arith))

  -- a lower interval ends before a higher one starts
  apart : (q i j : ℕ) → Holds m q i → Holds m q j → i < j → ⊥
  apart q i j a b h = omega (arith, start_le (suc i) j h (omega (arith, b.within)))

  pub holds_one : (q i j : ℕ) → Holds m q i → Holds m q j → i ≡ j
  holds_one q i j a b =
      elim (cases_order i j) [
        | inl same ↦ same
        | inr rest ↦ elim rest [ inl lower ↦ absurd (apart q i j a b lower) | inr higher ↦ absurd (apart q j i b a higher) ]
      ]

  -- the row that holds q, looked for from row k down
  holds_below : (q k : ℕ) → k ≤ suc m.span → q < m.start k → (i : ℕ) × Holds m q i
  holds_below q zero h low = absurd (omega (arith, law.first))
  holds_below q (suc k) h low =
      elim (cases_lt q (m.start k)) [
        | inl lower ↦ holds_below q k (omega arith) lower
        | inr from ↦ (k, record { within = omega arith; from = from; below = low })
      ]

  pub holds_some : (q : ℕ) → q < 2 ^ m.bits → (i : ℕ) × Holds m q i
  holds_some q h = holds_below q (suc m.span) (omega arith) (subst (λ n. q < n) (sym law.last) h)

  pub holds_bound : (q i : ℕ) → Holds m q i → q < 2 ^ m.bits
  holds_bound q i h = omega (arith, h.below, start_bound (suc i) (omega (arith, h.within)))

  -- a row's interval, from where it starts and where it ends
  pub interval_between : (i s e : ℕ) → i ≤ m.span → s ≡ m.start i → e ≡ m.start (suc i) → Interval m i s (e - s)
  interval_between i s e h from to =
      let up : m.start i < m.start (suc i) = law.rises i h in
      record { start = from; end = omega arith; some = omega arith }

  -- with two rows at least, neither a start nor a length takes all of 2 ^ bits, so both fit a type of that many bits
  pub start_fits : (i s l : ℕ) → i ≤ m.span → Interval m i s l → s < 2 ^ m.bits
  start_fits i s l h at = omega (arith, at.end, at.some, start_bound (suc i) (omega arith))

  pub length_fits : (i s l : ℕ) → i ≤ m.span → Interval m i s l → l < 2 ^ m.bits
  length_fits zero s l h at =
      omega (arith, at.end, law.some, law.rises 1 law.some, start_bound 2 (omega (arith, law.some)))
  length_fits (suc i) s l h at =
      omega (arith, at.start, at.end, law.rises i (omega arith), start_bound (suc (suc i)) (omega arith))

  -- so cutting them to that many bits changes nothing
  pub interval_held : (w i s l : ℕ) → m.bits ≤ w → i ≤ m.span → Interval m i s l → Interval m i (s % 2 ^ w) (l % 2 ^ w)
  interval_held w i s l fits h at =
      let start : s < 2 ^ w = omega (arith, pow_mono fits, start_fits i s l h at) in
      let len : l < 2 ^ w = omega (arith, pow_mono fits, length_fits i s l h at) in
      rw (mod-eq_of_lt start, mod-eq_of_lt len) at
