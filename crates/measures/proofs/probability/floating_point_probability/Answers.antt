use Rattle.measures.proofs.Rows.{share, likely}
use Rattle.measures.proofs.probability.floating_point_probability.Goals as goal

pub returns : goal.returns
returns g c =
    let found = c.in-Some.ensures in
    let m = g.M.EntropyModel.meaning c.args.model.now in
    likely m (g.M.Symbol.Symbol.whole c.args.symbol) found.0 _ _ _ found.1 found.2
    (share m.bits g.M.Probability.BitArray.width _ _ c.quantiles.result _ _
    c.quantiles.ensures.narrow g.met.M.Probability.BitArray.narrow c.to_u64.ensures.value c.to_u64.ensures.within
    c.quantiles.ensures.value c.natural.ensures c.natural-2.ensures)
