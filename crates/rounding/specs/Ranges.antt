-- Chains of operations that a distribution's height is made of, each step rounded once: an argument moved and scaled, and the curve 0.5 / (1 + u).
-- Within these ranges nothing overflows, and every step keeps the order.
-- Assumes nothing.
use Rattle.std.specs.Prelude.{◌≡◌, true, false, pos, negsuc, Float}
use Rattle.std.specs.Float.{binary64}
use Rattle.std.specs.Float.Ieee.{add, sub, div, le}
use Rattle.rounding.specs.Fractions.{nought, one, half, power}
use Rattle.rounding.specs.Order.{Between}
use Rattle.rounding.specs.Wholes.{OnLine}

-- (x − m) / s
abbrev pub scaled : (x m s : Float) → Float
scaled x m s = div binary64 (sub binary64 x m) s

-- a centre is from −2 ^ 40 to 2 ^ 40, a scale from 2 ^ -20 to 2 ^ 40
abbrev pub Centre : Float → Type 0
Centre m = Between (power true (pos 40)) (power false (pos 40)) m

abbrev pub Scale : Float → Type 0
Scale s = Between (power false (negsuc 19)) (power false (pos 40)) s

-- from 0 to 2 ^ 61
abbrev pub Away : Float → Type 0
Away u = Between nought (power false (pos 61)) u

-- 0.5 / (1 + u), and what it leaves of 1
abbrev pub tail : Float → Float
tail u = div binary64 half (add binary64 one u)

abbrev pub crest : Float → Float
crest u = sub binary64 one (tail u)

pub record RangeLaws : Type 0 where
  pub moved : (x m : Float) → OnLine x → Centre m → Between (power true (pos 41)) (power false (pos 41)) (sub binary64 x m)
  pub within : (x m s : Float) → OnLine x → Centre m → Scale s → Between (power true (pos 61)) (power false (pos 61)) (scaled x m s)
  pub rises : (x y m s : Float) → OnLine x → OnLine y → Centre m → Scale s → le x y ≡ true → le (scaled x m s) (scaled y m s) ≡ true
  pub tail_between : (u : Float) → Away u → Between nought half (tail u)
  pub tail_falls : (u v : Float) → Away u → Away v → le u v ≡ true → le (tail v) (tail u) ≡ true
  pub crest_between : (u : Float) → Away u → Between half one (crest u)
  pub crest_rises : (u v : Float) → Away u → Away v → le u v ≡ true → le (crest u) (crest v) ≡ true
