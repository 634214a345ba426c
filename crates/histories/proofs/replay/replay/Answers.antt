use Rattle.std.proofs.Common.{◌≡◌, map, vec_items, sym, refl, ap, ◌∙◌, subst, true≢false}
use Rattle.std.proofs.lemmas.Result.{IfOk-from_err}
use Rattle.quantize.specs.Extents.{means}
use Rattle.quantize.specs.declared.quantizer.LeakilyQuantizedDistribution.{LeakilyQuantizedDistribution}
use Rattle.quantize.specs.declared.quantizer.LeakyQuantizer.{LeakyQuantizer}
use Rattle.histories.specs.Logs.{event_of}
use Rattle.channel.specs.Steps.{State, at, Run}
use Rattle.histories.proofs.Ends.{two_ends}
use Rattle.histories.proofs.Histories.{every_history}
use Rattle.histories.proofs.replay.replay.Goals as goal

pub returns-in_err-log : goal.returns-in_err-log
returns-in_err-log g c = record {
  calls = IfOk-from_err c.from_residual.result _ c.from_residual.ensures.0;
  succeeds = λ none. absurd (true≢false (sym (c.in_err-log.ensures.succeeds none)));
  run = IfOk-from_err c.from_residual.result _ c.from_residual.ensures.0;
  histories = every_history;
  ends = two_ends;
}

pub returns : goal.returns
returns g c =
    let e = c.args.quantizer.extent in
    let h = g.D.Distribution.height in
    let first : means c.open-channel.result.model.quantizer.extent (h c.open-channel.result.model.inner) ≡ means e (h c.args.distribution) =
    ap (λ (m : LeakilyQuantizedDistribution g.row.S.Denot g.row.P.Denot g.row.D.Denot g.S.Symbol g.P.BitArray). means m.quantizer.extent (h m.inner)) c.open-channel.ensures.0
    ∙ ap (λ (q : LeakyQuantizer g.row.S.Denot g.row.P.Denot g.S.Symbol g.P.BitArray). means q.extent (h c.quantize.result.inner)) c.quantize.ensures.0
    ∙ ap (λ d. means e (h d)) c.quantize.ensures.1 in
    let start = ap (λ m. at m c.open-channel.result.row) first ∙ ap (at (means e (h c.args.distribution))) c.open-channel.ensures.1 in
    let events = map (event_of g.S.Symbol.whole g.P.BitArray.value h) (vec_items c.in_ok-log.log) in
    let last = c.run.new.channel in
    let end = at (means last.model.quantizer.extent (h last.model.inner)) last.row in
    record {
      calls = c.in_ok-log.ensures.calls;
      succeeds = λ _. refl;
      run = subst (λ (s : State). Run s events end) start c.in_ok-log.ensures.run;
      histories = every_history;
      ends = two_ends;
    }
