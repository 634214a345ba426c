use Rattle.std.proofs.Common.{◌≡◌, ◌+◌}
use Rattle.channel.specs.Pages.{KeptFrom, Written}
use Rattle.channel.proofs.page.write_rows.Given as goal

abbrev pub invariant-loop-i : goal.invariant-loop-i
invariant-loop-i g l =
    (l.start ≡ (g.M.EntropyModel.meaning l.model).start (l.first + l.i))
    × Written g.M.Symbol.Symbol.whole g.M.Probability.BitArray.value (g.M.EntropyModel.meaning l.model) l.first l.i l.symbols l.starts l.lengths
    × KeptFrom l.i l.initial.symbols l.symbols
    × KeptFrom l.i l.initial.starts l.starts
    × KeptFrom l.i l.initial.lengths l.lengths
