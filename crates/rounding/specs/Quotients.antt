-- Quotients of finite floats by one that is above zero: the exact one rounded once.
-- Assumes nothing.
use Rattle.std.specs.Prelude.{◌≡◌, ◌*◌, true, T, Float}
use Rattle.std.specs.Float.{Format}
use Rattle.std.specs.Float.Ieee.{div, le, lt, fits}
use Rattle.std.specs.Float.Ieee.Scale.{finite}
use Rattle.std.specs.Float.Ieee.Positive.{den}
use Rattle.rounding.specs.Fractions.{plus, less, nought, one}
use Rattle.rounding.specs.Order.{Between}
use Rattle.rounding.specs.Rounded.{Rounds}

pub record QuotientLaws : Type 0 where
  pub quotient : (f : Format) (x y : Float) → T (finite x) → T (finite y) → lt nought y ≡ true → Rounds f (div f x y) (plus x * den y) (less x * den y) (plus y * den x)
  -- it rises with the dividend
  pub rises : (f : Format) (x x' y : Float) → T (finite x) → T (finite x') → T (finite y) → lt nought y ≡ true → le x x' ≡ true → le (div f x y) (div f x' y) ≡ true
  -- of a dividend that is not negative it falls as the divisor grows
  pub falls : (f : Format) (x y y' : Float) → T (finite x) → T (finite y) → T (finite y') → le nought x ≡ true → lt nought y ≡ true → le y y' ≡ true → le (div f x y') (div f x y) ≡ true
  -- and of one that is not positive it rises
  pub rises_negative : (f : Format) (x y y' : Float) → T (finite x) → T (finite y) → T (finite y') → le x nought ≡ true → lt nought y ≡ true → le y y' ≡ true → le (div f x y) (div f x y') ≡ true
  pub between : (f : Format) (a b c d x y : Float) → T (finite b) → T (finite d) → le nought a ≡ true → lt nought c ≡ true → Between a b x → Between c d y → Between (div f a d) (div f b c) (div f x y)
  pub positive : (f : Format) (x y : Float) → T (finite x) → T (finite y) → le nought x ≡ true → lt nought y ≡ true → le nought (div f x y) ≡ true
  pub negative : (f : Format) (x y : Float) → T (finite x) → T (finite y) → le x nought ≡ true → lt nought y ≡ true → le (div f x y) nought ≡ true
  -- what is no larger than its divisor has a quotient of at most one
  pub at_most_one : (f : Format) (x y : Float) → T (finite x) → T (finite y) → lt nought y ≡ true → le x y ≡ true → le (div f x y) one ≡ true
  -- a divisor of at least one does not raise a value that is not negative
  pub no_larger : (f : Format) (x y : Float) → T (finite x) → T (fits f x) → T (finite y) → le nought x ≡ true → le one y ≡ true → le (div f x y) x ≡ true
