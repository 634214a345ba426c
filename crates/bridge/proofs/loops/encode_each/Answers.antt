use Rattle.bridge.proofs.loops.encode_each.Goals as goal

pub returns-clause-entries : goal.returns-clause-entries
returns-clause-entries g c = record { each = λ k d h. c.intervals_of.ensures.entries k d 0 0 h }
