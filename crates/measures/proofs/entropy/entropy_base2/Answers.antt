use Rattle.measures.proofs.Means.{entropy}
use Rattle.measures.proofs.entropy.entropy_base2.Goals as goal

pub returns : goal.returns
returns g c =
    entropy (g.M.EntropyModel.meaning c.args.model.now) (g.M.EntropyModel.cuts c.args.model.now)
    g.L.Logarithm.value g.L.Logarithm.slack g.met.L.Logarithm.bounds c.quantiles-parts.ensures.narrow
    _ _ _ _ _ _ c.precision.ensures c.weigh_rows-sum.ensures c.quantiles-parts.ensures.value
    c.natural.ensures c.natural-2.ensures c.natural-3.ensures
