-- The entropies from the floats that a call makes of whole numbers. Assumes nothing.
use Rattle.std.proofs.Common.{◌≡◌, ℕ, suc, ◌+◌, ◌*◌, ◌^◌, ◌<◌, ◌≤◌, List, ◌∷◌, length, get_or, drop, length-drop, drop-cons, sym, refl, ap, ◌∙◌, inl, inr, arith, pow-add}
use lib.Ieee.{Float, binary64, of_bits, of_int, add, sub, mul, div}
use Rattle.models.specs.Meaning.{Meaning, Partition, Interval}
use Rattle.rounding.specs.Fractions.{nought}
use Rattle.rounding.specs.Rounded.{Is}
use Rattle.measures.specs.Shares.{length_of}
use Rattle.measures.specs.Logarithms.{Bounds}
use Rattle.std.proofs.lemmas.Bool.{cases_lt}
use Rattle.rounding.proofs.Rounded.{rounds_exact}
use Rattle.measures.specs.Entropies.{weighed_rows, Entropy, taken, Taken, crossed}
use Rattle.measures.proofs.Dyadic.{number, quotient_exact, difference_rounds, difference_exact}
use Rattle.measures.proofs.Rows.{interval_length}
use Rattle.measures.proofs.Walks.{sum_below, whole_below}

module _ (m : Meaning) (law : Partition m) (log : ℕ → ℕ) (slack : ℕ) (bounds : Bounds log slack) (narrow : m.bits ≤ 32) where
  pub entropy :
      (p S q : ℕ) (x y z : Float) → p ≡ m.bits → S ≡ weighed_rows log m → q ≡ 2 ^ m.bits
      → x ≡ number p → y ≡ number S → z ≡ number (q * 65536) → Entropy log m (sub binary64 x (div binary64 y z))
  entropy p S q x y z a b d e f h =
      let scale : z ≡ number (2 ^ (m.bits + 16)) =
      h ∙ ap (λ (k : ℕ). number (k * 65536)) d ∙ ap number (sym (pow-add 2 m.bits 16)) in
      let below = sum_below m law log slack bounds narrow in
      let within = whole_below m law log slack bounds narrow in
      let quotient = quotient_exact (weighed_rows log m) (m.bits + 16) (omega arith) (omega arith) in
      rw (e, f, scale, a, b)
      record {
        value = refl;
        sum = omega arith;
        quotient = quotient;
        exact = difference_exact m.bits (weighed_rows log m) (m.bits + 16) _ (omega arith) (omega arith) within (omega arith) quotient;
      }

-- 65536.0
scale_bits : of_bits binary64 4679240012837945344 ≡ number 65536
unfolding of_bits of_int
scale_bits = refl

pub bits_taken :
    (log : ℕ → ℕ) (bits l v : ℕ) (x y : Float) → bits < 2 ^ 32 → v ≡ log l → v ≤ 2 ^ 21 → x ≡ number bits → y ≡ number v
    → Taken log bits l (sub binary64 x (div binary64 y (of_bits binary64 4679240012837945344)))
bits_taken log bits l v x y fits a small d e =
    let quotient = quotient_exact (log l) 16 (omega arith) (omega arith) in
    rw (scale_bits, d, e, a)
    record {
      value = refl;
      exact =
          rounds_exact binary64 _ (bits * 65536) (log l) 16 (omega arith) (omega arith) (omega arith)
          (difference_rounds bits (log l) 16 _ (omega arith) quotient);
    }

-- ---- the cross entropy after k rows
pub record Crossing (log : ℕ → ℕ) (m : Meaning) (weights : List Float) (k : ℕ) (sum : Float) : Type 0 where
  pub rows : k ≤ suc m.span
  pub value : sum ≡ crossed log m weights k
  pub exact : (i : ℕ) → i < k → Is (taken log m.bits (length_of m i)) (m.bits * 65536) (log (length_of m i)) 65536

module _ (log : ℕ → ℕ) (m : Meaning) (weights : List Float) where
  pub crossing_none : (x : Float) → x ≡ nought → Crossing log m weights 0 x
  unfolding crossed
  crossing_none x e = record { rows = omega arith; value = e; exact = λ i h. absurd (omega arith) }

  crossed_more :
      (k : ℕ) → crossed log m weights (suc k) ≡ add binary64 (crossed log m weights k) (mul binary64 (get_or weights k nought) (taken log m.bits (length_of m k)))
  unfolding crossed
  crossed_more k = refl

  -- a turn: the row's length l, and the weight beside it
  pub crossing_more :
      (k s l bits : ℕ) (sum w x : Float) → Crossing log m weights k sum → k ≤ m.span → Interval m k s l → bits ≡ m.bits
      → w ≡ get_or weights k nought → Taken log bits l x → Crossing log m weights (suc k) (add binary64 sum (mul binary64 w x))
  crossing_more k s l bits sum w x before b row e f h =
      let long = interval_length m k s l row in
      record {
        rows = omega arith;
        value = rw (crossed_more k, before.value, f, h.value, e, long) refl;
        exact = λ i below.
            elim (cases_lt i k) [
              | inl lower ↦ before.exact i lower
              | inr from ↦ let same : i ≡ k = omega arith in rw (same, long, ← e, ← h.value) h.exact
            ];
      }

  -- the next weight, where k of them are gone
  pub next_weight :
      (k : ℕ) (w : Float) (rest : List Float) → k ≤ length weights → drop k weights ≡ w ∷ rest
      → (k < length weights) × (w ≡ get_or weights k nought) × (rest ≡ drop (suc k) weights)
  next_weight k w rest h e =
      let long : k < length weights = omega (arith, length-drop k weights, ap length e) in
      let more = drop-cons weights k nought long in
      (long, cc, cc)
