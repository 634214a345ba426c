-- Sums and differences of finite floats: the exact one rounded once, so it rises and falls with its parts. A result may be an infinity, and keeps its place in the order.
-- Assumes nothing.
use Rattle.std.specs.Prelude.{◌≡◌, ◌+◌, ◌*◌, true, T, Float}
use Rattle.std.specs.Float.{Format}
use Rattle.std.specs.Float.Ieee.{add, sub, le, fits}
use Rattle.std.specs.Float.Ieee.Scale.{finite}
use Rattle.std.specs.Float.Ieee.Positive.{den}
use Rattle.rounding.specs.Fractions.{plus, less, nought}
use Rattle.rounding.specs.Order.{Between}
use Rattle.rounding.specs.Rounded.{Rounds}

pub record SumLaws : Type 0 where
  -- x + y and x − y, exact and then rounded
  pub sum : (f : Format) (x y : Float) → T (finite x) → T (finite y) → Rounds f (add f x y) (plus x * den y + plus y * den x) (less x * den y + less y * den x) (den x * den y)
  pub difference : (f : Format) (x y : Float) → T (finite x) → T (finite y) → Rounds f (sub f x y) (plus x * den y + less y * den x) (less x * den y + plus y * den x) (den x * den y)
  -- a sum rises with both its parts
  pub sum_rises : (f : Format) (x x' y y' : Float) → T (finite x) → T (finite x') → T (finite y) → T (finite y') → le x x' ≡ true → le y y' ≡ true → le (add f x y) (add f x' y') ≡ true
  -- a difference rises with the first and falls with the second
  pub difference_rises : (f : Format) (x x' y y' : Float) → T (finite x) → T (finite x') → T (finite y) → T (finite y') → le x x' ≡ true → le y' y ≡ true → le (sub f x y) (sub f x' y') ≡ true
  -- so parts between bounds give a result between those of the bounds
  pub sum_between : (f : Format) (a b c d x y : Float) → T (finite a) → T (finite b) → T (finite c) → T (finite d) → Between a b x → Between c d y → Between (add f a c) (add f b d) (add f x y)
  pub difference_between : (f : Format) (a b c d x y : Float) → T (finite a) → T (finite b) → T (finite c) → T (finite d) → Between a b x → Between c d y → Between (sub f a d) (sub f b c) (sub f x y)
  -- what is not negative does not lessen a value that it is added to, and does not raise one that it is taken from
  pub sum_above : (f : Format) (x y : Float) → T (finite x) → T (fits f x) → T (finite y) → le nought y ≡ true → le x (add f x y) ≡ true
  pub difference_under : (f : Format) (x y : Float) → T (finite x) → T (fits f x) → T (finite y) → le nought y ≡ true → le (sub f x y) x ≡ true
  -- a difference is negative only where it has to be
  pub difference_positive : (f : Format) (x y : Float) → T (finite x) → T (finite y) → le y x ≡ true → le nought (sub f x y) ≡ true
  pub difference_negative : (f : Format) (x y : Float) → T (finite x) → T (finite y) → le x y ≡ true → le (sub f x y) nought ≡ true
