use Rattle.std.proofs.Common.{w32, SFits, rules}
use Rattle.std.proofs.lemmas.Int.{to_z-of_z}
use Rattle.records.proofs.Described.{peak_made}
use Rattle.records.proofs.opening.open_peak.Goals as goal

pub returns : goal.returns
returns c =
    let fields = c.args.fields in
    let low : SFits w32 fields.min = search rules in
    let high : SFits w32 fields.max = search rules in
    let made = c.in_ok-quantizer.ensures in
    let shaped = c.in_ok-peak.ensures in
    peak_made fields _ _ c.in_ok-quantizer.quantizer c.in_ok-peak.peak c.quantize.result (to_z-of_z w32 fields.min low) (to_z-of_z w32 fields.max high) made.0 made.1 shaped.0 shaped.1
    c.quantize.ensures.0 c.quantize.ensures.1
