-- Rows and their shares of 2 ^ bits. Assumes nothing.
use Rattle.std.proofs.Common.{◌≡◌, ℕ, ◌^◌, ◌<◌, ◌≤◌, ℤ, sym, refl, subst, arith, pow_mono}
use lib.Ieee.{Float, binary64, div}
use Rattle.std.proofs.lemmas.Int.{ints}
use Rattle.models.specs.Answers.{IsRow}
use Rattle.models.specs.Meaning.{Meaning, At, Interval}
use Rattle.measures.specs.Shares.{length_of, Share, Likely, IsShares}
use Rattle.measures.proofs.Dyadic.{number, quotient_exact}

-- the quotient of the floats of n and 2 ^ bits, as a call reads them: n from a probability type of w bits
pub share :
    (bits w n k q : ℕ) (x y : Float) → bits ≤ 32 → w ≤ 32 → k ≡ n → k < 2 ^ w → q ≡ 2 ^ bits → x ≡ number k → y ≡ number q
    → Share bits n (div binary64 x y)
share bits w n k q x y narrow thin d small e a b =
    let wide : 2 ^ w ≤ 2 ^ 32 = pow_mono thin in
    rw (a, b, d, e) record { value = refl; exact = quotient_exact n bits (omega arith) (omega arith) }

pub interval_length : (m : Meaning) (i s l : ℕ) → Interval m i s l → length_of m i ≡ l
interval_length m i s l h = omega (arith, h.start, h.end)

one_row : (m : Meaning) (z : ℤ) (i j : ℕ) → At m z i → At m z j → i ≡ j
one_row m z i j a b = omega (arith, ints, a.symbol, b.symbol)

pub likely : (m : Meaning) (z : ℤ) (i s l : ℕ) (r : Float) → At m z i → Interval m i s l → Share m.bits l r → Likely m z r
likely m z i s l r at interval h = record {
  outside = λ none. absurd (none i at);
  inside = λ j other.
      subst (λ (k : ℕ). Share m.bits (length_of m k) r) (one_row m z i j at other)
      (subst (λ (k : ℕ). Share m.bits k r) (sym (interval_length m i s l interval)) h);
}

pub shares :
    {S P : Type 0} (whole : S → ℤ) (value : P → ℕ) (m : Meaning) (i : ℕ) (r : S × P × P) (x y : Float)
    → IsRow whole value m i r → Share m.bits (value r.1) x → Share m.bits (value r.2) y
    → IsShares whole m i (r.0, x, y)
shares whole value m i r x y row a b = record {
  at = row.at;
  start = subst (λ (k : ℕ). Share m.bits k x) row.interval.start a;
  length = subst (λ (k : ℕ). Share m.bits k y) (sym (interval_length m i (value r.1) (value r.2) row.interval)) b;
}
