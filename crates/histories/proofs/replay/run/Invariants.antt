use Rattle.std.proofs.Common.{◌≡◌, map, take, vec_items}
use Rattle.histories.specs.Logs.{call_of, event_of}
use Rattle.channel.specs.Steps.{at, Run}
use Rattle.histories.proofs.replay.run.Given as goal

abbrev pub invariant-loop-call : goal.invariant-loop-call
invariant-loop-call g l =
    (map call_of (vec_items l.log) ≡ take l.call-index l.calls)
    × Run (at (g.M.EntropyModel.meaning l.initial.channel.model) l.initial.channel.row)
    (map (event_of g.M.Symbol.Symbol.whole g.M.Probability.BitArray.value g.M.Replayed.heights) (vec_items l.log))
    (at (g.M.EntropyModel.meaning l.channel.model) l.channel.row)
