use Rattle.std.proofs.Common.{ap, ◌∙◌}
use Rattle.quantize.specs.Extents.{means}
use Rattle.quantize.specs.declared.quantizer.LeakyQuantizer.{LeakyQuantizer}
use Rattle.channel.proofs.tune.LeakilyQuantizedDistributionTunable.tuned.Goals as goal

pub returns : goal.returns
returns g c =
    let m = c.args.self.now in
    let e = m.quantizer.extent in
    record {
      lawful = g.D.Distribution.lawful c.args.tuning;
      from = e.from;
      to = e.to;
      narrow = e.narrow;
      means =
          ap (λ (q : LeakyQuantizer g.row.S.Denot g.row.P.Denot g.S.Symbol g.P.BitArray). means q.extent (g.D.Distribution.height c.quantize.result.inner))
          (c.quantize.ensures.0 ∙ c.quantizer.ensures)
          ∙ ap (λ d. means e (g.D.Distribution.height d)) c.quantize.ensures.1;
    }
