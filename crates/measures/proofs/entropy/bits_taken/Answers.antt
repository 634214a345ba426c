use Rattle.std.proofs.Common.{arith}
use Rattle.measures.proofs.Means.{bits_taken}
use Rattle.measures.proofs.entropy.bits_taken.Goals as goal

pub returns : goal.returns
returns g c =
    bits_taken g.L.Logarithm.value c.args.precision _ _ _ _ (omega arith) c.log2_of.ensures.value c.log2_of.ensures.small
    c.natural.ensures c.natural-2.ensures
