-- A literal of the code stands in a goal as the bits of a float: here the values of some. `simp literals` puts them in.
-- Assumes nothing.
use Rattle.std.proofs.Common.{◌≡◌, false, pos, refl}
use lib.Ieee.{binary64, of_bits}
use Rattle.rounding.specs.Fractions.{nought, one, half, power}

-- 0.0
pub nought_bits : of_bits binary64 0 ≡ nought
unfolding of_bits
nought_bits = refl

-- 0.5
pub half_bits : of_bits binary64 4602678819172646912 ≡ half
unfolding of_bits
half_bits = refl

-- 1.0
pub one_bits : of_bits binary64 4607182418800017408 ≡ one
unfolding of_bits
one_bits = refl

-- 2 ^ 52
pub wholes_bits : of_bits binary64 4841369599423283200 ≡ power false (pos 52)
unfolding of_bits
wholes_bits = refl

pub ruleset literals = (nought_bits, half_bits, one_bits, wholes_bits)
