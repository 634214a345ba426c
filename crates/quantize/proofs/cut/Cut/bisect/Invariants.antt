use Rattle.std.proofs.Common.{◌-◌}
use Rattle.quantize.specs.Brackets.{Bracket}
use Rattle.quantize.specs.Cuts.{cut}
use Rattle.quantize.proofs.cut.Cut.bisect.Given as goal

abbrev pub invariant-loop-step : goal.invariant-loop-step
invariant-loop-step g l =
    Bracket (cut g.D.Distribution.height l.self) l.q l.step l.row l.left l.right

abbrev pub decreases-loop-step : goal.decreases-loop-step
decreases-loop-step g l = l.step - 1
