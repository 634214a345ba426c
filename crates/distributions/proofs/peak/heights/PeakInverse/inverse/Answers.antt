-- The two sides of the test are the two formulas.
use Rattle.std.proofs.Common.{sym}
use lib.Ieee.{of_bits}
use Rattle.std.proofs.lemmas.Bool.{cond-true, cond-false}
use Rattle.distributions.specs.Peak.{inverse_at}
use Rattle.distributions.proofs.peak.heights.PeakInverse.inverse.Goals as goal

pub returns-then-p : goal.returns-then-p
unfolding inverse_at of_bits
returns-then-p c = sym (cond-true _ _ _ c.if-p.true)

pub returns-else-p : goal.returns-else-p
unfolding inverse_at of_bits
returns-else-p c = sym (cond-false _ _ _ c.if-p.false)
