use Rattle.std.proofs.Common.{subst}
use Rattle.models.specs.Meaning.{Holds}
use Rattle.models.proofs.Rows.{found}
use Rattle.quantize.specs.Extents.{means}
use Rattle.quantize.proofs.OneRow.{bracket_holds}
use Rattle.quantize.specs.ExtentsLemmas.{means_cut}
use Rattle.quantize.proofs.quantizer.LeakilyQuantizedDistributionDecoderModel.quantile_function.Goals as goal

pub returns : goal.returns
returns g c =
    let m = c.args.self.now in
    let e = m.quantizer.extent in
    let h = g.D.Distribution.height m.inner in
    let row = c.lookup-row.result.0 in
    let bracket = rw (c.cut.ensures.0, c.cut.ensures.1) at c.lookup-row.ensures in
    let held : Holds (means e h) c.to_u64-q.result row =
    bracket_holds (means e h) c.to_u64-q.result row c.lookup-row.result.1.0 c.lookup-row.result.1.1 bracket in
    let holds = subst (λ q. Holds (means e h) q row) c.to_u64-q.ensures.value held in
    found _ _ (means e h) (means_cut e h (g.D.Distribution.lawful m.inner)) _ row _
    (record { at = record { within = holds.within; symbol = c.symbol.ensures }; interval = c.interval-left.ensures })
    holds
