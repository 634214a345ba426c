-- Peak by its centre m and its scale s: the limits of both, its height and its inverse. Each operation is rounded once.
-- Assumes nothing.
use Rattle.std.specs.Prelude.{◌≡◌, Bool, true, false, cond, ◌&&◌, pos, negsuc, Some, None, Option, Float}
use Rattle.std.specs.Float.{fin, binary64}
use Rattle.std.specs.Float.Ieee.{le, lt, add, sub, mul, div, neg}
use Rattle.rounding.specs.Fractions.{nought, half, one}
use Rattle.distributions.specs.declared.fault.DistributionFault.{DistributionFault}
use Rattle.distributions.specs.declared.fault.DistributionFault.TheVariants.{Shape}

-- a centre lies from -2 ^ 40 to 2 ^ 40
abbrev pub lowest : Float
lowest = fin true 1 (pos 40)

abbrev pub highest : Float
highest = fin false 1 (pos 40)

-- a scale lies from 2 ^ -20 to 2 ^ 40
abbrev pub narrowest : Float
narrowest = fin false 1 (negsuc 19)

abbrev pub widest : Float
widest = fin false 1 (pos 40)

-- x is a number from low to high
abbrev pub within : (low high x : Float) → Bool
within low high x = le low x && le x high

abbrev pub in_limits : Float → Float → Bool
in_limits m s = within lowest highest m && within narrowest widest s

-- Shape exactly outside the limits
abbrev pub refusal : Float → Float → Option DistributionFault
refusal m s = cond (in_limits m s) None (Some Shape)

-- the peak that was made, by its centre and scale, is the one that was asked for
pub record Shaped (m s centre scale : Float) : Type 0 where
  pub middle : centre ≡ m
  pub width : scale ≡ s

-- how many scales x lies above the centre
unfoldable pub scaled : Float → Float → Float → Float
scaled m s x = div binary64 (sub binary64 x m) s

-- half the mass lies on each side of the centre
unfoldable pub mass_at : Float → Float
mass_at z = cond (lt z nought) (div binary64 half (add binary64 one (neg z))) (sub binary64 one (div binary64 half (add binary64 one z)))

abbrev pub height_at : Float → Float → Float → Float
height_at m s x = mass_at (scaled m s x)

unfoldable pub inverse_at : Float → Float → Float → Float
inverse_at m s p =
    cond (lt p half)
    (add binary64 m (mul binary64 s (sub binary64 one (div binary64 half p))))
    (add binary64 m (mul binary64 s (sub binary64 (div binary64 half (sub binary64 one p)) one)))
