-- Whole numbers as floats, and the points halfway between them: exact as far as the digits reach, and rising everywhere.
-- Assumes nothing.
use Rattle.std.specs.Prelude.{◌≡◌, ℕ, ◌+◌, ◌-◌, ◌*◌, ◌^◌, true, false, T, ℤ, pos, neg_ℤ, ◌≤ℤ◌, ◌<ℤ◌, Float}
use borrow.Author.Differences.{up as ahead, down as behind}
use Rattle.std.proofs.Math.IntN.{pred_ℤ}
use Rattle.std.specs.Float.{Format, binary64}
use Rattle.std.specs.Float.Ieee.{prec, of_int, sub, le, lt, fits}
use Rattle.std.specs.Float.Ieee.Scale.{finite}
use Rattle.rounding.specs.Fractions.{power, half}
use Rattle.rounding.specs.Order.{Between}
use Rattle.rounding.specs.Rounded.{Is}

-- k lies from −b to b
pub record Within (b : ℕ) (k : ℤ) : Type 0 where
  pub low : neg_ℤ (pos b) ≤ℤ k
  pub high : k ≤ℤ pos b

-- k − 0.5
abbrev pub half_below : ℤ → Float
half_below k = sub binary64 (of_int binary64 k) half

-- from −2 ^ 33 to 2 ^ 33
abbrev pub OnLine : Float → Type 0
OnLine x = Between (power true (pos 33)) (power false (pos 33)) x

pub record WholeLaws : Type 0 where
  -- an integer rises as it is cast, where it is rounded too
  pub rises : (f : Format) (k l : ℤ) → k ≤ℤ l → le (of_int f k) (of_int f l) ≡ true
  -- up to 2 ^ prec it is `ahead k − behind k`, which is k
  pub exact : (f : Format) (k : ℤ) → Within (2 ^ prec f) k → Is (of_int f k) (ahead k) (behind k) 1
  pub strict : (f : Format) (k l : ℤ) → Within (2 ^ prec f) k → Within (2 ^ prec f) l → k <ℤ l → lt (of_int f k) (of_int f l) ≡ true
  -- k − 0.5 rises with k
  pub half_rises : (k l : ℤ) → Within (2 ^ 53) k → Within (2 ^ 53) l → k ≤ℤ l → le (half_below k) (half_below l) ≡ true
  -- short of 2 ^ 52 it is (2 k − 1) / 2, strictly between its neighbours
  pub half_exact : (k : ℤ) → Within (2 ^ 52 - 1) k → Is (half_below k) (2 * ahead k) (2 * behind k + 1) 2
  pub half_strict : (k l : ℤ) → Within (2 ^ 52 - 1) k → Within (2 ^ 52 - 1) l → k <ℤ l → lt (half_below k) (half_below l) ≡ true
  pub half_under : (k : ℤ) → Within (2 ^ 52 - 1) k → lt (half_below k) (of_int binary64 k) ≡ true
  pub half_over : (k : ℤ) → Within (2 ^ 52 - 1) k → lt (of_int binary64 (pred_ℤ k)) (half_below k) ≡ true
  pub half_fits : (k : ℤ) → T (fits binary64 (half_below k))
  -- of a symbol of 32 bits it is finite, from −2 ^ 33 to 2 ^ 33
  pub half_finite : (k : ℤ) → Within (2 ^ 32) k → T (finite (half_below k))
  pub half_on_line : (k : ℤ) → Within (2 ^ 32) k → OnLine (half_below k)

-- what r is, as k − 0.5
pub record HalfBelow (k : ℤ) (r : Float) : Type 0 where
  pub value : r ≡ half_below k
  pub exact : Within (2 ^ 52 - 1) k → Is r (2 * ahead k) (2 * behind k + 1) 2
  pub on_line : Within (2 ^ 32) k → OnLine r
