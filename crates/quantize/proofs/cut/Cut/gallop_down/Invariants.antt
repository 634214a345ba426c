use Rattle.std.proofs.Common.{◌≡◌, suc, ◌+◌, ◌<◌}
use Rattle.quantize.specs.Cuts.{cut}
use Rattle.quantize.proofs.cut.Cut.gallop_down.Given as goal

-- every step doubles the next, so that what is left and the step always make up the guess
abbrev pub invariant-loop-row : goal.invariant-loop-row
invariant-loop-row g l =
    (0 < l.stride)
    × (l.upper + l.stride ≡ suc l.guess)
    × (l.right ≡ (cut g.D.Distribution.height l.self).start l.upper)
    × (l.q < l.right)

abbrev pub decreases-loop-row : goal.decreases-loop-row
decreases-loop-row g l = l.upper
