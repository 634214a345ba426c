use Rattle.std.proofs.Common.{sym, ◌∙◌}
use Rattle.records.proofs.Described.{opens_peak}
use Rattle.records.proofs.opening.open_record.Goals as goal

pub returns-in_ok-open_peak-in-Peak : goal.returns-in_ok-open_peak-in-Peak
returns-in_ok-open_peak-in-Peak c =
    let lays = c.in_ok-fields.ensures in
    let opened = c.in_ok-open_peak-in-Peak.ensures in
    opens_peak _ _ _ lays.0 (sym c.in-Peak.is ∙ lays.1) opened.0 opened.1
