-- A whole weight times a height from 0 to 1, and its whole part.
-- Assumes nothing.
use Rattle.std.specs.Prelude.{◌≡◌, ℕ, ◌^◌, ◌<◌, ◌≤◌, true, T, pos, Float}
use Rattle.std.specs.Float.{Format, binary64}
use Rattle.std.specs.Float.Ieee.{prec, of_int, mul, to_unsigned, le, eq}
use Rattle.std.specs.Float.Ieee.Scale.{finite}
use Rattle.rounding.specs.Fractions.{nought, one}
use Rattle.rounding.specs.Order.{Between}

-- W × h, rounded once
abbrev pub share : ℕ → Float → Float
share W h = mul binary64 (of_int binary64 (pos W)) h

-- its fraction dropped
abbrev pub weighed : ℕ → Float → ℕ
weighed W h = to_unsigned 64 (share W h)

-- h is a number from 0 to 1
abbrev pub Height : Float → Type 0
Height h = Between nought one h

pub record WeightLaws : Type 0 where
  -- dropping a fraction keeps the order of any two floats, and does not tell 0 from -0
  pub cut_rises : (w : ℕ) (x y : Float) → le x y ≡ true → to_unsigned w x ≤ to_unsigned w y
  pub cut_same : (w : ℕ) (x y : Float) → eq x y ≡ true → to_unsigned w x ≡ to_unsigned w y
  -- the whole numbers up to the whole part of what is not negative are those up to it
  pub cut_reaches : (f : Format) (w n : ℕ) (x : Float) → n ≤ 2 ^ prec f → le nought x ≡ true → n ≤ to_unsigned w x → le (of_int f (pos n)) x ≡ true
  pub reaches_cut : (f : Format) (w n : ℕ) (x : Float) → n ≤ 2 ^ prec f → n < 2 ^ w → le (of_int f (pos n)) x ≡ true → n ≤ to_unsigned w x
  -- the product is a number from 0 to the weight
  pub share_finite : (W : ℕ) (h : Float) → W ≤ 2 ^ 53 → Height h → T (finite (share W h))
  pub share_between : (W : ℕ) (h : Float) → W ≤ 2 ^ 53 → Height h → Between nought (of_int binary64 (pos W)) (share W h)
  pub share_rises : (W : ℕ) (h h' : Float) → W ≤ 2 ^ 53 → Height h → Height h' → le h h' ≡ true → le (share W h) (share W h') ≡ true
  -- and so is its whole part
  pub bounded : (W : ℕ) (h : Float) → W ≤ 2 ^ 53 → Height h → weighed W h ≤ W
  pub rises : (W : ℕ) (h h' : Float) → W ≤ 2 ^ 53 → Height h → Height h' → le h h' ≡ true → weighed W h ≤ weighed W h'
  -- heights that agree as numbers weigh the same
  pub agrees : (W : ℕ) (h h' : Float) → W ≤ 2 ^ 53 → Height h → eq h h' ≡ true → weighed W h ≡ weighed W h'

-- what r is, as the whole part of W × h
pub record Weighed (W : ℕ) (h : Float) (r : ℕ) : Type 0 where
  pub value : r ≡ weighed W h
  pub bounded : W ≤ 2 ^ 53 → Height h → r ≤ W
