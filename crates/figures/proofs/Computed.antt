-- The figures that evaluation settles. Assumes nothing.
use Rattle.std.proofs.Common.{◌≡◌, true, [], ◌∷◌, None, refl, lit<, lit≤}
use lib.Count.{count_leading_zeros}
use lib.Ieee.{to_unsigned, mul, sub, add, div, neg, lt, le, of_int, is_nan}
use Rattle.rounding.specs.Fractions.{half, one}
use Rattle.models.specs.Meaning.{Interval, Holds}
use Rattle.distributions.specs.Greatest.{greatest}
use Rattle.distributions.specs.Peak.{scaled, mass_at, refusal, lowest, highest, narrowest, widest}
use Rattle.distributions.specs.Profile.{height_at, line_at, piece_at}
use Rattle.measures.specs.Logarithms.{fine, fraction}
use Rattle.figures.specs.Samples.{below_zero, peaked, shifted, profiled, thirds, starts_of, lengths_of}

pub peak_starts : starts_of peaked ≡ 0 ∷ 15 ∷ 23 ∷ 26 ∷ 32 ∷ []
unfolding to_unsigned mul sub add div neg lt of_int scaled mass_at
peak_starts = refl

pub peak_shape : refusal half one ≡ None
unfolding le
peak_shape = refl

pub shifted_shape : refusal below_zero one ≡ None
unfolding le
shifted_shape = refl

pub shifted_starts : starts_of shifted ≡ 0 ∷ 15 ∷ 23 ∷ 26 ∷ 32 ∷ []
unfolding to_unsigned mul sub add div neg lt of_int scaled mass_at
shifted_starts = refl

pub profile_starts : starts_of profiled ≡ 0 ∷ 1 ∷ 2 ∷ 4 ∷ 5 ∷ 7 ∷ 10 ∷ 12 ∷ 16 ∷ []
unfolding to_unsigned mul sub add div neg lt le of_int is_nan height_at line_at piece_at greatest
profile_starts = refl

pub thirds_lengths : lengths_of thirds ≡ 21845 ∷ 21845 ∷ 21846 ∷ []
thirds_lengths = refl

pub fine_3 : fine 3 ≡ 103872
unfolding count_leading_zeros fraction
fine_3 = refl

pub fine_8 : fine 8 ≡ 196608
unfolding count_leading_zeros fraction
fine_8 = refl

-- three rows of the first model, and the quantiles that they hold
pub row_0 : Interval peaked 0 0 15
unfolding to_unsigned mul sub add div neg lt of_int scaled mass_at
row_0 = record { start = refl; end = refl; some = lit< tt }

pub row_1 : Interval peaked 1 15 8
unfolding to_unsigned mul sub add div neg lt of_int scaled mass_at
row_1 = record { start = refl; end = refl; some = lit< tt }

pub row_3 : Interval peaked 3 26 6
unfolding to_unsigned mul sub add div neg lt of_int scaled mass_at
row_3 = record { start = refl; end = refl; some = lit< tt }

pub holds_14 : Holds peaked 14 0
unfolding to_unsigned mul sub add div neg lt of_int scaled mass_at
holds_14 = record { within = lit≤ tt; from = lit≤ tt; below = lit< tt }

pub holds_15 : Holds peaked 15 1
unfolding to_unsigned mul sub add div neg lt of_int scaled mass_at
holds_15 = record { within = lit≤ tt; from = lit≤ tt; below = lit< tt }

pub holds_31 : Holds peaked 31 3
unfolding to_unsigned mul sub add div neg lt of_int scaled mass_at
holds_31 = record { within = lit≤ tt; from = lit≤ tt; below = lit< tt }

-- the Peak of the first model is within its limits
pub centre_from : le lowest half ≡ true
unfolding le
centre_from = refl

pub centre_to : le half highest ≡ true
unfolding le
centre_to = refl

pub scale_from : le narrowest one ≡ true
unfolding le
scale_from = refl

pub scale_to : le one widest ≡ true
unfolding le
scale_to = refl
