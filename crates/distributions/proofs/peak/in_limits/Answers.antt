-- Each range holds what lies within its limits.
use Rattle.std.proofs.Common.{sym, ◌∙◌}
use lib.Ieee.{of_bits, neg}
use Rattle.distributions.specs.Peak.{lowest, highest, narrowest, widest}
use Rattle.distributions.proofs.Cuts.{range_tells}
use Rattle.distributions.proofs.peak.in_limits.Goals as goal

pub returns-then-contains : goal.returns-then-contains
unfolding of_bits neg
returns-then-contains c =
    let v = c.new.ensures in
    let w = c.new-then-contains.ensures in
    let centre = c.contains.ensures.value ∙ range_tells lowest highest c.args.centre _ _ _ v.start v.end v.exhausted in
    let scale = c.contains-then-contains.ensures.value ∙ range_tells narrowest widest c.args.scale _ _ _ w.start w.end w.exhausted in
    rw (sym centre ∙ c.if-contains.true) scale

pub returns-else-contains : goal.returns-else-contains
unfolding of_bits neg
returns-else-contains c =
    let v = c.new.ensures in
    let centre = c.contains.ensures.value ∙ range_tells lowest highest c.args.centre _ _ _ v.start v.end v.exhausted in
    rw (sym centre ∙ c.if-contains.false) c.if-contains.false
