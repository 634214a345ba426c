-- No knot so far is lower than the one before it.
use Rattle.std.proofs.Common.{ℕ, ◌-◌, ◌<◌, ◌≤◌, get_or}
use Rattle.distributions.proofs.profile.rules.first_fall.Given as goal

abbrev pub invariant-loop-i : goal.invariant-loop-i
invariant-loop-i l = (j : ℕ) → j < l.i → get_or l.knots (j - 1) 0 ≤ get_or l.knots j 0
