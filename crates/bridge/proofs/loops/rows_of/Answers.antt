use Rattle.std.proofs.Common.{get_or, subst, arith}
use Rattle.std.proofs.lemmas.List.{get_or_read}
use Rattle.channel.proofs.Pages.{kept_more}
use Rattle.bridge.proofs.Entries.{rows_more}
use Rattle.bridge.proofs.loops.rows_of.Goals as goal

pub loop-i-preserved : goal.loop-i-preserved
loop-i-preserved g c =
    let post = g.F.Fn.post c.args.of in
    let asked = c.args.asked.now in
    let i = c.loop-i.i in
    let inv = c.loop-i.invariant in
    let read = c.index-asked-i in
    let r = c.of-symbol.result in (
      λ k d n e f h.
          rows_more (λ k n s l. post (get_or asked k d, tt) (n, s, l)) i _ _ _ r.0 r.1 r.2 e f
          (omega (arith, inv.1.long)) (omega (arith, inv.2.long)) (omega (arith, inv.3.long))
          (λ k n h. inv.0 k d n e f h)
          (subst (λ x. post (x, tt) r) (get_or_read asked i read.result (omega arith) read.is d) c.of-symbol.ensures)
          k n h,
      kept_more i _ _ _ inv.1,
      kept_more i _ _ _ inv.2,
      kept_more i _ _ _ inv.3,
    )
