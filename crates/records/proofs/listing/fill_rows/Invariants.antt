use Rattle.std.proofs.Common.{◌≡◌, suc, ◌-◌}
use Rattle.records.specs.Buffer.{Added}
use Rattle.records.specs.Listing.{row_lines}
use Rattle.records.proofs.listing.fill_rows.Given as goal

abbrev pub invariant-loop-row : goal.invariant-loop-row
invariant-loop-row g l = record {
  all : l.rows ≡ suc (g.M.EntropyModel.meaning l.model).span;
  begins : l.start ≡ (g.M.EntropyModel.meaning l.model).start l.row;
  written : Added l.initial.out (row_lines (g.M.EntropyModel.meaning l.model) l.from (l.row - l.from)) l.out;
}
