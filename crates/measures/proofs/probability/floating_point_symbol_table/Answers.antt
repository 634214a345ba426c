use Rattle.measures.proofs.Rows.{share, shares}
use Rattle.measures.proofs.probability.floating_point_symbol_table.Goals as goal

pub returns : goal.returns
returns g c =
    shares _ _ (g.M.EntropyModel.meaning c.args.model.now) _ _ _ _ c.in_ok-symbol.ensures
    (share _ g.M.Probability.BitArray.width _ _ c.quantiles.result _ _
    c.quantiles.ensures.narrow g.met.M.Probability.BitArray.narrow c.to_u64.ensures.value c.to_u64.ensures.within
    c.quantiles.ensures.value c.natural.ensures c.natural-whole.ensures)
    (share _ g.M.Probability.BitArray.width _ _ c.quantiles.result _ _
    c.quantiles.ensures.narrow g.met.M.Probability.BitArray.narrow c.to_u64-2.ensures.value c.to_u64-2.ensures.within
    c.quantiles.ensures.value c.natural-2.ensures c.natural-whole.ensures)
