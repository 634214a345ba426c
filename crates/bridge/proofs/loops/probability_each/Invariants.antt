use Rattle.channel.specs.Pages.{KeptFrom}
use Rattle.bridge.specs.Entries.{Shares}
use Rattle.bridge.proofs.loops.probability_each.Given as goal

abbrev pub invariant-loop-i : goal.invariant-loop-i
invariant-loop-i g l =
    Shares g.N.Wide.whole (g.M.EntropyModel.meaning l.model) l.i l.symbols l.probabilities
    × KeptFrom l.i l.initial.probabilities l.probabilities
