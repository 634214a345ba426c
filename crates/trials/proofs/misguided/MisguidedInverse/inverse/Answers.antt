-- The two sides of the test are those of the definition.
use Rattle.std.proofs.Common.{sym}
use lib.Ieee.{of_bits}
use Rattle.std.proofs.lemmas.Bool.{cond-true, cond-false}
use Rattle.trials.proofs.misguided.MisguidedInverse.inverse.Goals as goal

pub returns-then-p : goal.returns-then-p
unfolding of_bits
returns-then-p g c = sym (cond-true _ _ _ c.if-p.true)

pub returns-else-p : goal.returns-else-p
unfolding of_bits
returns-else-p g c = sym (cond-false _ _ _ c.if-p.false)
