-- What a call's tuning does to a channel, if the call brings one. Assumes nothing.
use Rattle.std.specs.Prelude.{◌≡◌, Option, Some, None}
use Rattle.models.specs.Heights.{Height}
use Rattle.channel.specs.Events.{retuned}
use Rattle.channel.specs.Steps.{State, Step}

-- From a channel before to the one after: retuned by what is there, or just as it was.
abbrev pub Retunes : {C T : Type 0} → (C → State) → (T → Height) → Option T → C → C → Type 0
Retunes state heights None before after = after ≡ before
Retunes state heights (Some t) before after = Step (state before) (retuned (heights t)) (state after)
