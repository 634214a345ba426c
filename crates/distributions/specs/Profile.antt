-- A Profile's height and its inverse. Each operation is rounded once.
-- Assumes nothing.
use Rattle.std.specs.Prelude.{ℕ, ◌+◌, ◌-◌, ◌*◌, cond, ◌||◌, length, pos, is_nan, slice_index, Float}
use Rattle.std.specs.Float.{binary64}
use Rattle.std.specs.Float.Ieee.{le, lt, add, sub, mul, div, of_int}
use Rattle.rounding.specs.Fractions.{nought, one}
use Rattle.rounding.specs.Order.{lesser}
use Rattle.distributions.specs.Greatest.{greatest}
use Rattle.distributions.specs.Tables.{Parts}

-- a whole number as a float, exact within 2 ^ 53
abbrev pub whole : ℕ → Float
whole n = of_int binary64 (pos n)

-- the last index
abbrev pub end : Parts → ℕ
end p = length p.knots - 1

-- where knot i lies, counted from the start
abbrev pub reach : Parts → ℕ → Float
reach p i = whole (i * p.width)

abbrev pub knot : Parts → ℕ → Float
knot p i = whole (slice_index p.knots i)

-- the line from knot i to knot i + 1, at t
abbrev pub line : Parts → ℕ → Float → Float
line p i t = add binary64 (knot p i) (mul binary64 (sub binary64 (knot p (i + 1)) (knot p i)) (div binary64 (sub binary64 t (reach p i)) (whole p.width)))

-- which never passes knot i + 1
unfoldable pub line_at : Parts → ℕ → Float → Float
line_at p i t = lesser (line p i t) (knot p (i + 1))

-- the last knot at or before t: the greatest i with i × w ≤ t
unfoldable pub piece_at : Parts → Float → ℕ
piece_at p t = greatest (λ i. le (reach p i) t) (end p)

-- how far x lies from the start
abbrev pub along : Parts → Float → Float
along p x = sub binary64 x (of_int binary64 p.start)

unfoldable pub height_at : Parts → Float → Float
height_at p x =
    cond (is_nan x || lt (along p x) nought) nought
    (cond (le (reach p (end p)) (along p x)) one (div binary64 (line_at p (piece_at p (along p x)) (along p x)) (knot p (end p))))

-- the last knot of at most y: the greatest i with knot i ≤ y
unfoldable pub last_up_to : Parts → Float → ℕ
last_up_to p y = greatest (λ i. le (knot p i) y) (end p)

-- where that knot lies for the share q of the last knot, and the start where there is none
unfoldable pub inverse_at : Parts → Float → Float
inverse_at p q = add binary64 (of_int binary64 p.start) (reach p (last_up_to p (mul binary64 q (knot p (end p)))))
