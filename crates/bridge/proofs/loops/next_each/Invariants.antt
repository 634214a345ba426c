use Rattle.std.proofs.Common.{◌≡◌}
use Rattle.channel.specs.Pages.{KeptFrom}
use Rattle.bridge.specs.Entries.{Rows}
use Rattle.bridge.proofs.loops.next_each.Given as goal

abbrev pub invariant-loop-i : goal.invariant-loop-i
invariant-loop-i g l =
    (l.walk.model ≡ l.initial.walk.model)
    × (l.walk.row ≡ l.i)
    × Rows g.N.Wide.whole (g.M.EntropyModel.meaning l.initial.walk.model) l.i l.symbols l.starts l.lengths
    × KeptFrom l.i l.initial.symbols l.symbols
    × KeptFrom l.i l.initial.starts l.starts
    × KeptFrom l.i l.initial.lengths l.lengths
