-- The two sides of the test are the two formulas.
use Rattle.std.proofs.Common.{sym}
use lib.Ieee.{of_bits}
use Rattle.std.proofs.lemmas.Bool.{cond-true, cond-false}
use Rattle.distributions.specs.Peak.{scaled, mass_at}
use Rattle.distributions.proofs.peak.heights.PeakDistribution.distribution.Goals as goal

pub returns-then-z : goal.returns-then-z
unfolding scaled mass_at of_bits
returns-then-z c = sym (cond-true _ _ _ c.if-z.true)

pub returns-else-z : goal.returns-else-z
unfolding scaled mass_at of_bits
returns-else-z c = sym (cond-false _ _ _ c.if-z.false)
