use Rattle.std.proofs.Common.{◌≡◌, [], ◌∷◌, ◌++◌, vec_items, refl, ◌∙◌, arith, take_all}
use Rattle.std.proofs.lemmas.Result.{IfOk-from_err}
use Rattle.histories.specs.Logs.{call_of, event_of}
use Rattle.channel.specs.Steps.{at}
use Rattle.histories.proofs.Logged.{calls_more, events_more}
use Rattle.histories.proofs.replay.run.Goals as goal

pub returns-in_err-apply : goal.returns-in_err-apply
returns-in_err-apply g c = record {
  calls = IfOk-from_err c.from_residual.result _ c.from_residual.ensures.0;
  succeeds = λ none. absurd (omega (arith, c.loop-call-test.true, none));
  run = IfOk-from_err c.from_residual.result _ c.from_residual.ensures.0;
}

pub returns-in_err-push : goal.returns-in_err-push
returns-in_err-push g c = record {
  calls = IfOk-from_err c.from_residual-in_err-push.result _ c.from_residual-in_err-push.ensures.0;
  succeeds = λ none. absurd (omega (arith, c.loop-call-test.true, none));
  run = IfOk-from_err c.from_residual-in_err-push.result _ c.from_residual-in_err-push.ensures.0;
}

pub loop-call-preserved : goal.loop-call-preserved
loop-call-preserved g c =
    let before = vec_items c.loop-call.log in
    let after = vec_items c.push.new.self in
    let entry = c.in_ok-apply.field-0 in
    let grown : after ≡ before ++ entry ∷ [] = c.in_ok-push.ensures.items in (
      calls_more before after entry grown call_of c.args.calls.now c.loop-call.call-index c.call-item.result
          c.loop-call-test.true c.call-item.is c.in_ok-apply.ensures.call c.loop-call.invariant.0,
      events_more (event_of g.M.Symbol.Symbol.whole g.M.Probability.BitArray.value g.M.Replayed.heights) before after entry grown
          (at (g.M.EntropyModel.meaning c.args.channel.now.model) c.args.channel.now.row)
          (at (g.M.EntropyModel.meaning c.loop-call.channel.model) c.loop-call.channel.row)
          (at (g.M.EntropyModel.meaning c.apply.new.channel.model) c.apply.new.channel.row)
          c.loop-call.invariant.1 c.in_ok-apply.ensures.step,
    )

pub returns : goal.returns
returns g c = record {
  succeeds = λ _. refl;
  calls = c.loop-call.invariant.0 ∙ take_all _ _ c.loop-call-test.false;
  run = c.loop-call.invariant.1;
}
