-- The test of the range is the one of the definition.
use Rattle.std.proofs.Common.{sym, ◌∙◌}
use lib.Ieee.{of_bits}
use Rattle.distributions.proofs.Cuts.{range_tells}
use Rattle.rounding.specs.Fractions.{nought, one}
use Rattle.trials.proofs.flat.Flat.of.Goals as goal

pub invariant_of-result : goal.invariant_of-result
unfolding of_bits
invariant_of-result c =
    let v = c.new.ensures in
    record { limits = sym (c.contains.ensures.value ∙ range_tells nought one c.args.height _ _ _ v.start v.end v.exhausted) ∙ c.if-contains.true }

pub returns-else-contains : goal.returns-else-contains
unfolding of_bits
returns-else-contains c =
    let v = c.new.ensures in
    sym (c.contains.ensures.value ∙ range_tells nought one c.args.height _ _ _ v.start v.end v.exhausted) ∙ c.if-contains.false
