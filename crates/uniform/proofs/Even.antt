-- The law of the uniform model, and the row that a quotient finds. Assumes nothing.
use Rattle.std.proofs.Common.{◌≡◌, ℕ, suc, ◌-◌, ◌*◌, ◌/◌, ◌^◌, ◌<◌, ◌≤◌, ltb, mul-le-mul_right, suc-mul, div-mul-le_self, arith}
use native.Mathlib.Nat.{lt-div-mul-add}
use Rattle.std.proofs.lemmas.Bool.{cond-true, cond-false, lt-ltb, le-ltb}
use Rattle.models.specs.Meaning.{Partition, Holds}
use Rattle.uniform.specs.Uniform.{uniform}
use Rattle.uniform.specs.EvenCuts.{even_cuts}

module _ (bits range : ℕ) (many : 2 ≤ range) (room : range ≤ 2 ^ bits) where
  cuts : Partition (uniform bits range)
  cuts = even_cuts bits range many room

  start_inside : (i : ℕ) → i < range → (uniform bits range).start i ≡ i * (2 ^ bits / range)
  start_inside i h = cond-true (ltb i range) _ _ (lt-ltb i range h)

  start_past : (i : ℕ) → range ≤ i → (uniform bits range).start i ≡ 2 ^ bits
  start_past i h = cond-false (ltb i range) _ _ (le-ltb i range h)

  each_some : 0 < 2 ^ bits / range
  each_some = omega (arith, cuts.rises 0 (omega arith), start_inside 0 (omega arith), start_inside 1 (omega arith))

  -- a quantile's quotient by a row's length is its row, but for the last row, which takes the rest
  quotient : (q : ℕ) → q / (2 ^ bits / range) < range - 1 → Holds (uniform bits range) q (q / (2 ^ bits / range))
  quotient q h = record {
    within = omega arith;
    from = rw (start_inside (q / (2 ^ bits / range)) (omega arith)) (div-mul-le_self q (2 ^ bits / range));
    below =
        rw (start_inside (suc (q / (2 ^ bits / range))) (omega arith))
        (omega (arith, lt-div-mul-add {a = q} each_some, suc-mul (q / (2 ^ bits / range)) (2 ^ bits / range)));
  }

  rest : (q : ℕ) → q < 2 ^ bits → range - 1 ≤ q / (2 ^ bits / range) → Holds (uniform bits range) q (range - 1)
  rest q b h = record {
    within = omega arith;
    from =
        rw (start_inside (range - 1) (omega arith))
        (omega (arith, mul-le-mul_right (2 ^ bits / range) h, div-mul-le_self q (2 ^ bits / range)));
    below = rw (start_past (suc (range - 1)) (omega arith)) b;
  }

  -- the same of a length and a count that are known by their equations
  pub quotient_holds :
      (q length count : ℕ) → length ≡ 2 ^ bits / range → count ≡ range → q / length < count - 1
      → Holds (uniform bits range) q (q / length)
  quotient_holds q length count e f h = rw e (quotient q (rw (e, f) at h))

  pub last_holds :
      (q length count : ℕ) → length ≡ 2 ^ bits / range → count ≡ range → q < 2 ^ bits → count - 1 ≤ q / length
      → Holds (uniform bits range) q (count - 1)
  last_holds q length count e f b h = rw f (rest q b (rw (e, f) at h))
