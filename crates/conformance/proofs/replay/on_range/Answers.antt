-- The model that was made means the uniform model of the case.
use Rattle.conformance.proofs.Supports.{tried_made}
use Rattle.conformance.proofs.replay.on_range.Goals as goal

pub returns : goal.returns
returns g c =
    let made = c.in_ok-even.ensures in
    tried_made _ _ _ _ _ _ _ made.0 made.1 _ c.judge.ensures
