use Rattle.std.proofs.Common.{◌∙◌, arith}
use Rattle.channel.proofs.Pages.{kept_more}
use Rattle.channel.specs.Steps.{itself}
use Rattle.models.specs.Answers.{IsRow}
use Rattle.bridge.proofs.Entries.{rows_more, row_of}
use Rattle.bridge.proofs.loops.next_each.Goals as goal

pub loop-i-preserved : goal.loop-i-preserved
loop-i-preserved g c =
    let meaning = g.M.EntropyModel.meaning in
    let whole = g.N.Wide.whole in
    let i = c.loop-i.i in
    let inv = c.loop-i.invariant in
    let told = c.in-Some.ensures in (
      told.model ∙ inv.0,
      omega (arith, told.onward, inv.1),
      record {
        each =
            rows_more (λ k n s l. IsRow whole itself (meaning c.open-walk.result.model) k (n, s, l)) i _ _ _ _ _ _ 0 0
            (omega (arith, inv.3.long)) (omega (arith, inv.4.long)) (omega (arith, inv.5.long))
            inv.2.each
            (row_of whole meaning _ _ _ i _ inv.0 inv.1 told.row);
      },
      kept_more i _ _ _ inv.3,
      kept_more i _ _ _ inv.4,
      kept_more i _ _ _ inv.5,
    )
