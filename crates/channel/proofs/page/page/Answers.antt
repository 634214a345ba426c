use Rattle.std.proofs.Common.{arith}
use Rattle.channel.proofs.Pages.{page_filled, untouched}
use Rattle.channel.proofs.page.page.Goals as goal

pub returns-then-count-gt0 : goal.returns-then-count-gt0
returns-then-count-gt0 g c =
    page_filled _ _ _ c.args.first _ _ _ _ _ _ _ c.write_rows.ensures.symbols c.write_rows.ensures.starts c.write_rows.ensures.lengths
    (omega (arith, c.min-count.ensures, c.min-room.ensures, c.min.ensures))
    (omega (arith, c.min-count.ensures, c.saturating_sub.ensures, c.rows.ensures))
    (λ _ _. c.if-count-gt0.true)
    c.write_rows.ensures.written

pub returns-else-count-gt0 : goal.returns-else-count-gt0
returns-else-count-gt0 g c =
    page_filled _ _ _ c.args.first c.min-count.result _ _ _ _ _ _
    (untouched c.min-count.result c.args.symbols.now) (untouched c.min-count.result c.args.starts.now) (untouched c.min-count.result c.args.lengths.now)
    (omega (arith, c.if-count-gt0.false))
    (omega (arith, c.if-count-gt0.false))
    (λ slot left. omega (arith, slot, left, c.if-count-gt0.false, c.min-count.ensures, c.min-room.ensures, c.min.ensures, c.saturating_sub.ensures, c.rows.ensures))
    (record { rows = λ k d e f h. absurd (omega (arith, h, c.if-count-gt0.false)) })
