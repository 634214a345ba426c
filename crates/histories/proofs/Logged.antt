-- One call more at the end of a log. Assumes nothing.
use Rattle.std.proofs.Common.{◌≡◌, ℕ, ◌+◌, ◌<◌, List, [], ◌∷◌, ◌++◌, map, length, get_or, take, ℤ, sym, refl, ap, ◌∙◌, subst}
use Rattle.std.proofs.lemmas.List.{map_push, take_more}
use Rattle.channel.specs.Events.{Event, Untuned}
use Rattle.histories.specs.Logs.{event_of, untunable}
use Rattle.channel.specs.Steps.{State, Step, Run}
use Rattle.histories.specs.declared.replay.Entry.{Entry}
use Rattle.histories.specs.declared.replay.Entry.TheVariants.{Encoded, Searched, Likely, Tabled, Measured, Stepped, Filled, Rewound, Retuned}
use Rattle.std.specs.declared.convert.Infallible.{Infallible}

run_more : (s t u : State) (es : List Event) (e : Event) → Run s es t → Step t e u → Run s (es ++ e ∷ []) u
run_more s t u [] e run step = (u, subst (λ (x : State). Step x e u) run step, refl)
run_more s t u (x ∷ es) e run step = (run.0, run.1, run_more run.0 t u es e run.2 step)

module _ {A B : Type 0} (xs ys : List A) (x : A) (grown : ys ≡ xs ++ x ∷ []) where
  -- what was called, call by call
  pub calls_more :
      (call : A → B) (calls : List B) (i : ℕ) (c : B) → i < length calls → c ≡ get_or calls i c → call x ≡ c
      → map call xs ≡ take i calls → map call ys ≡ take (i + 1) calls
  calls_more call calls i c h item same before =
      ap (map call) grown ∙ map_push call xs x ∙ ap (λ l. l ++ call x ∷ []) before
      ∙ ap (λ r. take i calls ++ r ∷ []) (same ∙ item) ∙ sym (take_more calls i c h)

module _ {A : Type 0} (event : A → Event) (xs ys : List A) (x : A) (grown : ys ≡ xs ++ x ∷ []) where
  -- what happened, step by step
  pub events_more : (s t u : State) → Run s (map event xs) t → Step t (event x) u → Run s (map event ys) u
  events_more s t u run step =
      subst (λ es. Run s es u) (sym (ap (map event) grown ∙ map_push event xs x)) (run_more s t u (map event xs) (event x) run step)

-- a log with nothing to tune by has no retune
pub never_tuned :
    {S P : Type 0} (whole : S → ℤ) (value : P → ℕ) (log : List (Entry S P Infallible)) → Untuned (map (event_of whole value untunable) log)
never_tuned whole value [] = tt
never_tuned whole value (Encoded s a ∷ log) = (refl, never_tuned whole value log)
never_tuned whole value (Searched q a ∷ log) = (refl, never_tuned whole value log)
never_tuned whole value (Likely s r ∷ log) = (refl, never_tuned whole value log)
never_tuned whole value (Tabled i a ∷ log) = (refl, never_tuned whole value log)
never_tuned whole value (Measured r ∷ log) = (refl, never_tuned whole value log)
never_tuned whole value (Stepped a ∷ log) = (refl, never_tuned whole value log)
never_tuned whole value (Filled slots page ∷ log) = (refl, never_tuned whole value log)
never_tuned whole value (Rewound ∷ log) = (refl, never_tuned whole value log)
never_tuned whole value (Retuned t ∷ log) = elim t [ ]
