-- The order of floats: both signs, both zeros and the infinities. What holds of a comparison that came out true needs no premise that its sides are numbers.
-- Assumes nothing.
use Rattle.std.specs.Prelude.{◌≡◌, true, false, cond, T, ◌⊎◌, is_nan, Float}
use Rattle.std.specs.Float.Ieee.{lt, eq, le, neg}
use Rattle.std.specs.Float.Ieee.Scale.{finite}
use Rattle.rounding.specs.Fractions.{Cross}

-- `if x < y { x } else { y }`
abbrev pub lesser : Float → Float → Float
lesser x y = cond (lt x y) x y

-- x is a number from lo to hi
pub record Between (lo hi x : Float) : Type 0 where
  pub low : le lo x ≡ true
  pub high : le x hi ≡ true

pub record OrderLaws : Type 0 where
  pub reflexive : (x : Float) → is_nan x ≡ false → le x x ≡ true
  pub transitive : (x y z : Float) → le x y ≡ true → le y z ≡ true → le x z ≡ true
  pub total : (x y : Float) → is_nan x ≡ false → is_nan y ≡ false → (le x y ≡ true) ⊎ (le y x ≡ true)
  -- `lt` is the other side of `le`
  pub strict : (x y : Float) → lt x y ≡ true → le x y ≡ true
  pub not_lt : (x y : Float) → le x y ≡ true → lt y x ≡ false
  pub not_le : (x y : Float) → lt x y ≡ true → le y x ≡ false
  pub from_not_lt : (x y : Float) → is_nan x ≡ false → is_nan y ≡ false → lt x y ≡ false → le y x ≡ true
  -- equal as numbers: 0 and -0 are
  pub same : (x y : Float) → eq x y ≡ true → (le x y ≡ true) × (le y x ≡ true)
  pub antisymmetric : (x y : Float) → le x y ≡ true → le y x ≡ true → eq x y ≡ true
  -- as fractions
  pub crossed : (x y : Float) → T (finite x) → T (finite y) → le x y ≡ true → Cross x y
  pub uncrossed : (x y : Float) → T (finite x) → T (finite y) → Cross x y → le x y ≡ true
  -- what lies between two finite values is finite
  pub between : (lo hi x : Float) → T (finite lo) → T (finite hi) → Between lo hi x → T (finite x)
  pub widened : (lo lo' hi hi' x : Float) → le lo' lo ≡ true → le hi hi' ≡ true → Between lo hi x → Between lo' hi' x
  -- a negation turns the order
  pub turned : (x y : Float) → le x y ≡ true → le (neg y) (neg x) ≡ true
  -- the lesser of two
  pub lesser_left : (x y : Float) → is_nan x ≡ false → is_nan y ≡ false → le (lesser x y) x ≡ true
  pub lesser_right : (x y : Float) → is_nan x ≡ false → is_nan y ≡ false → le (lesser x y) y ≡ true
  pub lesser_above : (x y z : Float) → le z x ≡ true → le z y ≡ true → le z (lesser x y) ≡ true
  pub lesser_rises : (x x' y y' : Float) → le x x' ≡ true → le y y' ≡ true → le (lesser x y) (lesser x' y') ≡ true
