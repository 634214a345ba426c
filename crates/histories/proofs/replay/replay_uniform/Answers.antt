use Rattle.std.proofs.Common.{map, pos, vec_items, sym, refl, ap, ◌∙◌, subst, true≢false}
use Rattle.std.proofs.lemmas.Result.{IfOk-from_err}
use Rattle.uniform.specs.Uniform.{uniform}
use Rattle.uniform.specs.declared.model.UniformModel.{UniformModel}
use Rattle.histories.specs.Logs.{event_of, untunable}
use Rattle.channel.specs.Steps.{State, at, Run}
use Rattle.histories.proofs.Histories.{every_uniform_history}
use Rattle.histories.proofs.Logged.{never_tuned}
use Rattle.histories.proofs.replay.replay_uniform.Goals as goal

pub returns-in_err-log : goal.returns-in_err-log
returns-in_err-log g c = record {
  calls = IfOk-from_err c.from_residual.result _ c.from_residual.ensures.0;
  succeeds = λ none. absurd (true≢false (sym (c.in_err-log.ensures.succeeds none)));
  run = IfOk-from_err c.from_residual.result _ c.from_residual.ensures.0;
  untuned = IfOk-from_err c.from_residual.result _ c.from_residual.ensures.0;
  histories = every_uniform_history;
}

pub returns : goal.returns
returns g c =
    let of = λ (u : UniformModel g.row.P.Denot g.P.BitArray). uniform u.precision u.range in
    let start = ap (λ u. at (of u) c.open-channel.result.row) c.open-channel.ensures.0 ∙ ap (at (of c.args.model)) c.open-channel.ensures.1 in
    let events = map (event_of pos g.P.BitArray.value untunable) (vec_items c.in_ok-log.log) in
    let last = c.run.new.channel in
    record {
      calls = c.in_ok-log.ensures.calls;
      succeeds = λ _. refl;
      run = subst (λ (s : State). Run s events (at (of last.model) last.row)) start c.in_ok-log.ensures.run;
      untuned = never_tuned _ _ (vec_items c.in_ok-log.log);
      histories = every_uniform_history;
    }
