use Rattle.std.proofs.Common.{◌≡◌, suc, ◌-◌, ◌<◌, ◌≤◌}
use Rattle.quantize.specs.Cuts.{cut}
use Rattle.quantize.proofs.cut.Cut.gallop_up.Given as goal

abbrev pub invariant-loop-row : goal.invariant-loop-row
invariant-loop-row g l =
    (0 < l.stride)
    × (l.stride ≤ suc l.lower)
    × (l.lower < l.end)
    × (l.left ≡ (cut g.D.Distribution.height l.self).start l.lower)
    × (l.left ≤ l.q)

abbrev pub decreases-loop-row : goal.decreases-loop-row
decreases-loop-row g l = l.end - l.lower
