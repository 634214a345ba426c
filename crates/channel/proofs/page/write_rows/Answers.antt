use Rattle.std.proofs.Common.{◌≡◌, ap, ◌∙◌, subst, add_assoc, arith}
use Rattle.channel.specs.Pages.{KeptFrom, Written}
use Rattle.channel.proofs.Pages.{kept_more, written_more}
use Rattle.models.proofs.Room.{rows_few}
use Rattle.channel.proofs.page.write_rows.Goals as goal

pub overflow_add-row : goal.overflow_add-row
overflow_add-row g c =
    let laws = g.met.M.EntropyModel in
    let model = c.args.model.now in
    omega (arith, c.requires.rows, rows_few _ _ (g.M.EntropyModel.cuts model) (laws.fits model) g.met.M.Probability.BitArray.narrow)

pub overflow_add-row-in-loop-i : goal.overflow_add-row-in-loop-i
overflow_add-row-in-loop-i g c =
    let laws = g.met.M.EntropyModel in
    let model = c.args.model.now in
    omega (arith, c.requires.rows, rows_few _ _ (g.M.EntropyModel.cuts model) (laws.fits model) g.met.M.Probability.BitArray.narrow)

pub loop-i-preserved : goal.loop-i-preserved
loop-i-preserved g c =
    let m = g.M.EntropyModel.meaning c.args.model.now in
    let i = c.loop-i.i in
    let inv = c.loop-i.invariant in (
      c.boundary-end.ensures ∙ ap m.start (add_assoc c.args.first i 1),
      written_more _ _ m c.args.first i _ _ _ _ _ _
          (omega (arith, inv.2.long, c.requires.symbols)) (omega (arith, inv.3.long, c.requires.starts)) (omega (arith, inv.4.long, c.requires.lengths))
          inv.1 c.entry-symbol.ensures,
      kept_more i _ _ _ inv.2,
      kept_more i _ _ _ inv.3,
      kept_more i _ _ _ inv.4,
    )

pub returns : goal.returns
returns g c =
    let inv = c.loop-i.invariant in
    let all : c.loop-i.i ≡ c.args.count = omega arith in
    record {
      written =
          subst (λ n. Written g.M.Symbol.Symbol.whole g.M.Probability.BitArray.value (g.M.EntropyModel.meaning c.args.model.now) c.args.first n c.loop-i.symbols c.loop-i.starts c.loop-i.lengths) all
          inv.1;
      symbols = subst (λ n. KeptFrom n c.args.symbols.now c.loop-i.symbols) all inv.2;
      starts = subst (λ n. KeptFrom n c.args.starts.now c.loop-i.starts) all inv.3;
      lengths = subst (λ n. KeptFrom n c.args.lengths.now c.loop-i.lengths) all inv.4;
    }
