-- The starts of a quantized distribution cut [0, 2 ^ bits): from the two laws of its heights, and from what rounding keeps of the
-- order. Assumes nothing.
use Rattle.std.specs.Prelude.{◌≡◌, ℕ, zero, suc, ◌+◌, ◌^◌, ◌<◌, ◌≤◌, true, false, ℤ, pos, negsuc, ◌+ℤ◌, ◌≤ℤ◌, nat_le, refl, Float}
use Rattle.std.proofs.Common.{inl, inr, arith, pow_mono}
use Rattle.std.specs.Float.Ieee.{le}
use Rattle.std.proofs.lemmas.Int.{ints}
use Rattle.std.proofs.lemmas.Bool.{cases_lt, cond-true, cond-false, le-leb, lt-leb}
use Rattle.models.specs.Heights.{Height, InReach, Lawful}
use Rattle.models.specs.Meaning.{Partition}
use Rattle.rounding.specs.Fractions.{nought, power}
use Rattle.rounding.specs.Order.{Between}
use Rattle.rounding.specs.Weights.{share, weighed, Height as Fraction}
use Rattle.rounding.proofs.Cuts.{share_short}
use Rattle.rounding.specs.Wholes.{half_below}
use Rattle.rounding.proofs.Order.{yes}
use Rattle.rounding.proofs.Weights.{weighed_bounded, weighed_rises}
use Rattle.rounding.proofs.Wholes.{half_fits, half_on_line, half_rises}
use Rattle.quantize.specs.Quantized.{free_weight_of, start_of, quantized}

-- half a step below a symbol is where the laws of heights hold
pub half_in_reach : (k : ℤ) → negsuc 2147483647 ≤ℤ k → k ≤ℤ pos 4294967295 → InReach (half_below k)
half_in_reach k from to =
    let line = half_on_line k (record { low = omega (arith, ints); high = omega (arith, ints) }) in
    record { held = yes _ (half_fits k); from = line.low; to = line.high }

pub half_climbs :
    (k l : ℤ) → negsuc 2147483647 ≤ℤ k → l ≤ℤ pos 4294967295 → k ≤ℤ l → le (half_below k) (half_below l) ≡ true
half_climbs k l from to h =
    half_rises k l (record { low = omega (arith, ints); high = omega (arith, ints) })
    (record { low = omega (arith, ints); high = omega (arith, ints) }) h

-- the height at a point in reach, as a fraction
pub height_there : (h : Height) → Lawful h → (x : Float) → InReach x → Fraction (h x)
height_there h law x at = record { low = law.from x at; high = law.to x at }

module _ (low : ℤ) (span bits : ℕ) (h : Height) (law : Lawful h)
    (from : negsuc 2147483647 ≤ℤ low) (to : (low +ℤ pos span) ≤ℤ pos 4294967295) (narrow : bits ≤ 32)
    (some : 0 < span) (room : span < 2 ^ bits) where
  weight_small : free_weight_of bits span ≤ 2 ^ 53
  weight_small = omega (arith, pow_mono narrow)

  in_reach : (i : ℕ) → i ≤ span → InReach (half_below (low +ℤ pos i))
  in_reach i b = half_in_reach (low +ℤ pos i) (omega (arith, ints)) (omega (arith, ints))

  -- the free weight below row i
  abbrev below : ℕ → ℕ
  below i = weighed (free_weight_of bits span) (h (half_below (low +ℤ pos i)))

  pub below_bounded :
      (i : ℕ) → i ≤ span → weighed (free_weight_of bits span) (h (half_below (low +ℤ pos i))) ≤ free_weight_of bits span
  below_bounded i b = weighed_bounded _ weight_small _ (height_there h law _ (in_reach i b))

  -- the weighed height is far below what can be cut by a sum
  pub share_there :
      (i : ℕ) → i ≤ span → Between nought (power false (pos 51)) (share (free_weight_of bits span) (h (half_below (low +ℤ pos i))))
  share_there i b = share_short _ _ (omega (arith, pow_mono narrow)) (height_there h law _ (in_reach i b))

  below_rises : (i j : ℕ) → i ≤ j → j ≤ span → below i ≤ below j
  below_rises i j le b =
      weighed_rises _ weight_small _ _
      (height_there h law _ (in_reach i (omega arith))) (height_there h law _ (in_reach j b))
      (law.rises _ _ (in_reach i (omega arith)) (in_reach j b)
      (half_climbs (low +ℤ pos i) (low +ℤ pos j) (omega (arith, ints)) (omega (arith, ints)) (omega (arith, ints))))

  start_inside : (i : ℕ) → suc i ≤ span → start_of low span bits h (suc i) ≡ below (suc i) + suc i
  start_inside i b = cond-true (nat_le (suc i) span) _ _ (le-leb (suc i) span b)

  start_past : (i : ℕ) → span ≤ i → start_of low span bits h (suc i) ≡ 2 ^ bits
  start_past i b = cond-false (nat_le (suc i) span) _ _ (lt-leb (suc i) span (omega arith))

  rises : (i : ℕ) → i ≤ span → start_of low span bits h i < start_of low span bits h (suc i)
  rises zero b = omega (arith, start_inside zero some)
  rises (suc i) b =
      elim (cases_lt (suc i) span) [
        | inl more ↦
            omega (arith, start_inside i b, start_inside (suc i) more, below_rises (suc i) (suc (suc i)) (omega arith) more)
        | inr end ↦ omega (arith, start_inside i b, start_past (suc i) end, below_bounded (suc i) b, room)
      ]

  pub quantized_cuts : Partition (quantized low span bits h)
  quantized_cuts = record { some = some; first = refl; rises = rises; last = start_past span (omega arith) }
