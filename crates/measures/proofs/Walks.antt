-- A walk over the rows: how far it gets, and what the weighed logarithms sum to. Assumes nothing.
use Rattle.std.proofs.Common.{◌≡◌, ℕ, zero, suc, ◌+◌, ◌-◌, ◌*◌, ◌^◌, ◌<◌, ◌≤◌, sym, refl, ap, ◌∙◌, mul-le-mul, mul-le-mul_left, sub-add_cancel, arith, pow_pos, pow_mono, pow-add}
use Rattle.models.specs.Meaning.{Meaning, Partition, Interval}
use Rattle.models.proofs.Cuts.{start_bound, interval_between, length_fits}
use Rattle.measures.specs.Shares.{length_of}
use Rattle.measures.specs.Logarithms.{Bounds}
use Rattle.measures.specs.Entropies.{weighed, weighed_rows}
use Rattle.measures.specs.Logs.{log_below}
use Rattle.measures.proofs.Rows.{interval_length}

pub weighed_none : (log : ℕ → ℕ) (m : Meaning) → weighed log m 0 ≡ 0
unfolding weighed
weighed_none log m = refl

weighed_more : (log : ℕ → ℕ) (m : Meaning) (k : ℕ) → weighed log m (suc k) ≡ weighed log m k + length_of m k * log (length_of m k)
unfolding weighed
weighed_more log m k = refl

module _ (m : Meaning) (law : Partition m) where
  -- each row has a quantile at least
  pub rows_fit : (k : ℕ) → k ≤ suc m.span → k ≤ m.start k
  rows_fit zero h = omega arith
  rows_fit (suc k) h = omega (arith, rows_fit k (omega arith), law.rises k (omega arith))

  pub row_interval : (i : ℕ) → i ≤ m.span → Interval m i (m.start i) (length_of m i)
  row_interval i h = interval_between m law i (m.start i) (m.start (suc i)) h refl refl

  pub length_some : (i : ℕ) → i ≤ m.span → 0 < length_of m i
  length_some i h = (row_interval i h).some

  pub length_below : (i : ℕ) → i ≤ m.span → length_of m i < 2 ^ m.bits
  length_below i h = length_fits m law i (m.start i) (length_of m i) h (row_interval i h)

  -- with every logarithm at most c, the sum is at most c times the quantiles passed
  pub weighed_bound :
      (log : ℕ → ℕ) (c : ℕ) → ((i : ℕ) → i ≤ m.span → log (length_of m i) ≤ c) → (k : ℕ) → k ≤ suc m.span
      → weighed log m k ≤ m.start k * c
  weighed_bound log c each zero h = rw (weighed_none log m) (omega arith)
  weighed_bound log c each (suc k) h =
      let l = length_of m k in
      let up : m.start k < m.start (suc k) = law.rises k (omega arith) in
      rw (weighed_more log m k)
      (go (m.start k) (m.start (suc k)) l (weighed log m k) (log l) (omega arith)
      (weighed_bound log c each k (omega arith)) (mul-le-mul_left l (each k (omega arith))))
    where
      go : (s t l w v : ℕ) → t ≡ s + l → w ≤ s * c → l * v ≤ l * c → w + l * v ≤ t * c
      go s t l w v e a b = rw e (omega arith)

-- ---- by a logarithm, over at most 2 ^ 32 quantiles
module _ (m : Meaning) (law : Partition m) (log : ℕ → ℕ) (slack : ℕ) (bounds : Bounds log slack) (narrow : m.bits ≤ 32) where
  row_log : (i : ℕ) → i ≤ m.span → log (length_of m i) < m.bits * 65536
  row_log i h =
      let short = length_below m law i h in
      let wide : 2 ^ m.bits ≤ 2 ^ 32 = pow_mono narrow in
      log_below log slack bounds m.bits (length_of m i) narrow (length_some m law i h) short (omega arith)

  -- S, in the units of P
  pub sum_below : weighed_rows log m < m.bits * 2 ^ (m.bits + 16)
  sum_below =
      let c = m.bits * 65536 in
      let each : (i : ℕ) → i ≤ m.span → log (length_of m i) ≤ c - 1 = λ i h. omega (arith, row_log i h) in
      let all = weighed_bound m law log (c - 1) each (suc m.span) (omega arith) in
      let some : 0 < c = omega (arith, row_log 0 (omega arith)) in
      rw (pow-add 2 m.bits 16)
      (go m.bits (2 ^ m.bits) (weighed_rows log m) some (pow_pos m.bits) (rw law.last at all))
    where
      one_more : (K d : ℕ) → K * (d + 1) ≡ K * d + K
      one_more K d = omega arith

      go : (b K S : ℕ) → 0 < b * 65536 → 0 < K → S ≤ K * (b * 65536 - 1) → S < b * (K * 65536)
      go b K S some p h =
          let c = b * 65536 in
          let e : K * c ≡ K * (c - 1) + K = ap (λ (t : ℕ). K * t) (sym (sub-add_cancel some)) ∙ one_more K (c - 1) in
          let f : b * (K * 65536) ≡ K * c = omega arith in
          omega arith

  pub whole_below : m.bits * 2 ^ (m.bits + 16) ≤ 2 ^ 53
  whole_below =
      let wide : m.bits + 16 ≤ 48 = omega arith in
      mul-le-mul narrow (pow_mono wide)

  pub part_fits : (k : ℕ) → k ≤ suc m.span → weighed log m k ≤ 2 ^ 53
  part_fits k h =
      let small : (i : ℕ) → i ≤ m.span → log (length_of m i) ≤ 2 ^ 21 = λ i b. omega (arith, row_log i b) in
      let passed : m.start k ≤ 2 ^ m.bits = start_bound m law k h in
      let wide : 2 ^ m.bits ≤ 2 ^ 32 = pow_mono narrow in
      omega (arith, weighed_bound m law log (2 ^ 21) small k h)

-- a turn of the walk: the row's length n and its logarithm v
pub turn :
    (log : ℕ → ℕ) (m : Meaning) (k sum s l n v : ℕ) → sum ≡ weighed log m k → Interval m k s l → n ≡ l → v ≡ log l
    → sum + n * v ≡ weighed log m (suc k)
turn log m k sum s l n v e row a b =
    rw (weighed_more log m k, interval_length m k s l row, a, b, e) refl
