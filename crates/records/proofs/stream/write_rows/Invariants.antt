use Rattle.std.proofs.Common.{suc, ◌-◌}
use Rattle.records.specs.Buffer.{Room}
use Rattle.records.proofs.Tables.{Underway}
use Rattle.records.proofs.stream.write_rows.Given as goal

abbrev pub invariant-loop-next : goal.invariant-loop-next
invariant-loop-next g l = Room l.page 64 × Underway (g.M.EntropyModel.meaning l.model) l.initial.page l.from l.page

abbrev pub decreases-loop-next : goal.decreases-loop-next
decreases-loop-next g l = suc (suc (g.M.EntropyModel.meaning l.model).span) - l.from
