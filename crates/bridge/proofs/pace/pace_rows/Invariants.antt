use Rattle.std.proofs.Common.{◌≡◌, suc, ◌-◌, ◌≤◌}
use Rattle.bridge.proofs.pace.pace_rows.Given as goal

-- the walk stands where the rows are counted to
abbrev pub invariant-loop-count : goal.invariant-loop-count
invariant-loop-count g l =
    (l.channel.model ≡ l.initial.channel.model)
    × (l.rows ≡ l.channel.row)
    × (l.rows ≤ suc (g.M.EntropyModel.meaning l.initial.channel.model).span)

abbrev pub decreases-loop-count : goal.decreases-loop-count
decreases-loop-count g l = suc (g.M.EntropyModel.meaning l.initial.channel.model).span - l.channel.row
