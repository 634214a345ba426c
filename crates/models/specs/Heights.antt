-- What a distribution means: its height, a function from floats to floats, and the two laws of every height.
-- Assumes nothing.
use Rattle.std.specs.Prelude.{◌≡◌, true, false, pos, Float}
use Rattle.std.specs.Float.{fin, binary64}
use Rattle.std.specs.Float.Ieee.{le, fits}

abbrev pub Height : Type 0
Height = Float → Float

-- x is an f64 from -2 ^ 33 to 2 ^ 33, so finite
pub record InReach (x : Float) : Type 0 where
  pub held : fits binary64 x ≡ true
  pub from : le (fin true 1 (pos 33)) x ≡ true
  pub to : le x (fin false 1 (pos 33)) ≡ true

-- In reach a height is a number from 0 to 1, and it never falls.
pub record Lawful (h : Height) : Type 0 where
  pub from : (x : Float) → InReach x → le (fin false 0 (pos 0)) (h x) ≡ true
  pub to : (x : Float) → InReach x → le (h x) (fin false 1 (pos 0)) ≡ true
  pub rises : (x y : Float) → InReach x → InReach y → le x y ≡ true → le (h x) (h y) ≡ true
