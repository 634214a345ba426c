use Rattle.std.proofs.Common.{get_or, subst, arith}
use Rattle.std.proofs.lemmas.List.{get_or_read}
use Rattle.channel.proofs.Pages.{kept_more}
use Rattle.measures.specs.Shares.{Likely}
use Rattle.bridge.proofs.Entries.{ones_more}
use Rattle.bridge.proofs.loops.probability_each.Goals as goal

pub loop-i-preserved : goal.loop-i-preserved
loop-i-preserved g c =
    let m = g.M.EntropyModel.meaning c.args.model.now in
    let symbols = c.args.symbols.now in
    let i = c.loop-i.i in
    let inv = c.loop-i.invariant in
    let read = c.index-symbols-i in
    let p = c.probability_one.result in (
      record {
        each = λ k d e h.
            ones_more (λ k x. Likely m (g.N.Wide.whole (get_or symbols k d)) x) i _ p
            (omega (arith, inv.1.long))
            (λ k e h. inv.0.each k d e h)
            (subst (λ x. Likely m (g.N.Wide.whole x) p) (get_or_read symbols i read.result (omega arith) read.is d) c.probability_one.ensures)
            k e h;
      },
      kept_more i _ _ _ inv.1,
    )
