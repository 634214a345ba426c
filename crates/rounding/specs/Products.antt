-- Products of finite floats: the exact one rounded once.
-- Assumes nothing.
use Rattle.std.specs.Prelude.{◌≡◌, ◌+◌, ◌*◌, true, T, Float}
use Rattle.std.specs.Float.{Format}
use Rattle.std.specs.Float.Ieee.{mul, le, fits}
use Rattle.std.specs.Float.Ieee.Scale.{finite}
use Rattle.std.specs.Float.Ieee.Positive.{den}
use Rattle.rounding.specs.Fractions.{plus, less, nought, one}
use Rattle.rounding.specs.Order.{Between}
use Rattle.rounding.specs.Rounded.{Rounds}

pub record ProductLaws : Type 0 where
  pub product : (f : Format) (x y : Float) → T (finite x) → T (finite y) → Rounds f (mul f x y) (plus x * plus y + less x * less y) (plus x * less y + less x * plus y) (den x * den y)
  -- by a factor that is not negative it rises with the other
  pub rises_left : (f : Format) (x x' y : Float) → T (finite x) → T (finite x') → T (finite y) → le nought y ≡ true → le x x' ≡ true → le (mul f x y) (mul f x' y) ≡ true
  pub rises_right : (f : Format) (x y y' : Float) → T (finite x) → T (finite y) → T (finite y') → le nought x ≡ true → le y y' ≡ true → le (mul f x y) (mul f x y') ≡ true
  pub between : (f : Format) (a b c d x y : Float) → T (finite b) → T (finite d) → le nought a ≡ true → le nought c ≡ true → Between a b x → Between c d y → Between (mul f a c) (mul f b d) (mul f x y)
  pub positive : (f : Format) (x y : Float) → T (finite x) → T (finite y) → le nought x ≡ true → le nought y ≡ true → le nought (mul f x y) ≡ true
  -- by a factor of at most one it does not grow
  pub no_larger : (f : Format) (x y : Float) → T (finite x) → T (fits f x) → T (finite y) → le nought x ≡ true → le y one ≡ true → le (mul f x y) x ≡ true
