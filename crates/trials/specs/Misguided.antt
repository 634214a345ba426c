-- A guess that is one float for the lower half of the quantiles and another for the upper one, and for what is no number. Assumes nothing.
use Rattle.std.specs.Prelude.{cond, Float}
use Rattle.std.specs.Float.Ieee.{lt}
use Rattle.rounding.specs.Fractions.{half}

abbrev pub guess_at : Float → Float → Float → Float
guess_at low high p = cond (lt p half) low high
