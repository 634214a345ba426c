use Rattle.std.proofs.Common.{refl}
use lib.Ieee.{of_bits, le}
use Rattle.trials.proofs.flat.Flat.half.Goals as goal

pub invariant_of-result : goal.invariant_of-result
unfolding of_bits le
invariant_of-result c = record { limits = refl }

pub returns : goal.returns
unfolding of_bits
returns c = refl
