use Rattle.bridge.proofs.loops.find_one.Goals as goal

pub returns : goal.returns
returns g c = rw c.unwrap_or.ensures (c.find_some.ensures c.zero.result)
