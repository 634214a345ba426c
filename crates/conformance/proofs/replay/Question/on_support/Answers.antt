-- The quantizer that was made means the model of the case.
use Rattle.std.proofs.Common.{◌≡◌, Some, rules}
use Rattle.models.specs.Answers.{Between, FromWhole}
use Rattle.quantize.specs.Extents.{means}
use Rattle.conformance.proofs.Supports.{support_tried}
use Rattle.conformance.proofs.replay.Question.on_support.Goals as goal

pub returns : goal.returns
returns g c =
    let least = g.S.Symbol.least in
    let most = g.S.Symbol.most in
    let case = c.args.self.model in
    let height = g.D.Distribution.height c.args.self.distribution in
    let made = c.in_ok-quantizer.ensures in
    let low : FromWhole g.S.Symbol.whole least most case.min (Some c.in_ok-min.min) = search rules in
    let high : FromWhole g.S.Symbol.whole least most case.max (Some c.in_ok-max.max) = search rules in
    let kept = c.quantize.ensures in
    let same :
    means c.quantize.result.quantizer.extent (g.D.Distribution.height c.quantize.result.inner)
    ≡ means c.in_ok-quantizer.quantizer.extent height = cc in
    support_tried least most g.P.BitArray.width height case c.args.self.claim
    c.judge.result _ _ c.in_ok-quantizer.quantizer.extent _ low.0 high.0 low.1 high.1
    made.0 made.1 same c.judge.ensures

pub returns-in_err-max : goal.returns-in_err-max
returns-in_err-max g c =
    let none : Between g.S.Symbol.least g.S.Symbol.most c.args.self.model.max → ⊥ = search rules in
    record { typed = λ t. absurd (none t.to); strange = λ _. search rules }

pub returns-in_err-quantizer : goal.returns-in_err-quantizer
returns-in_err-quantizer g c =
    let case = c.args.self.model in
    let low : FromWhole g.S.Symbol.whole g.S.Symbol.least g.S.Symbol.most case.min (Some c.in_ok-min.min) = search rules in
    let high : FromWhole g.S.Symbol.whole g.S.Symbol.least g.S.Symbol.most case.max (Some c.in_ok-max.max) = search rules in
    record {
      typed = λ _. rw (← low.1, ← high.1) (search rules);
      strange = λ none. absurd (none (record { from = low.0; to = high.0 }));
    }
