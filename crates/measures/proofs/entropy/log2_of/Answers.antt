use Rattle.std.proofs.Common.{◌^◌, ◌<◌, ap, ◌∙◌, arith, pow_mono}
use Rattle.measures.specs.Logs.{log_small}
use Rattle.measures.proofs.entropy.log2_of.Goals as goal

pub returns : goal.returns
returns g c =
    let small : c.to_u64.result < 2 ^ 32 = omega (arith, c.to_u64.ensures.within, pow_mono g.met.P.BitArray.narrow) in
    record {
      value = c.log2.ensures ∙ ap g.L.Logarithm.value c.to_u64.ensures.value;
      small = omega (arith, c.log2.ensures, log_small g.L.Logarithm.value g.L.Logarithm.slack g.met.L.Logarithm.bounds c.to_u64.result small);
    }
