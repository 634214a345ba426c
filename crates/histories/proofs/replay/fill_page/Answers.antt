use Rattle.std.proofs.Common.{sym, ◌∙◌, arith}
use Rattle.channel.proofs.Pages.{lent_back, renamed}
use Rattle.histories.proofs.replay.fill_page.Goals as goal

pub returns : goal.returns
returns g c = record {
  model = c.fill-count.ensures.model;
  step =
      renamed g.M.Symbol.Symbol.whole g.M.Probability.BitArray.value _ _ c.fill-count.result
      _ _ c.fill-count.new.symbols _ _ _ _ _ c.fill-count.new.starts _ c.fill-count.new.lengths _
      (c.deref_mut.ensures.value ∙ c.in_ok-symbols.ensures)
      (c.deref_mut-2.ensures.value ∙ c.in_ok-starts.ensures)
      (c.deref_mut-3.ensures.value ∙ c.in_ok-lengths.ensures)
      (sym (lent_back _ _ c.fill-count.new.symbols (omega (arith, c.fill-count.auto.symbols, c.deref_mut.ensures.len))))
      (sym (lent_back _ _ c.fill-count.new.starts (omega (arith, c.fill-count.auto.starts, c.deref_mut-2.ensures.len))))
      (sym (lent_back _ _ c.fill-count.new.lengths (omega (arith, c.fill-count.auto.lengths, c.deref_mut-3.ensures.len))))
      c.fill-count.ensures.step;
}
