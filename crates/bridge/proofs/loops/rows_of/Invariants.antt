use Rattle.std.proofs.Common.{ℕ, ◌<◌, slice_index_or}
use Rattle.channel.specs.Pages.{KeptFrom}
use Rattle.bridge.proofs.loops.rows_of.Given as goal

abbrev pub invariant-loop-i : goal.invariant-loop-i
invariant-loop-i g l =
    ((k : ℕ) (d : _) (n : _) (e f : _) → k < l.i → goal.F-post g l.of (slice_index_or l.asked k d) (slice_index_or l.symbols k n, slice_index_or l.starts k e, slice_index_or l.lengths k f))
    × KeptFrom l.i l.initial.symbols l.symbols
    × KeptFrom l.i l.initial.starts l.starts
    × KeptFrom l.i l.initial.lengths l.lengths
