use Rattle.bridge.proofs.loops.find_each.Goals as goal

pub returns-clause-entries : goal.returns-clause-entries
returns-clause-entries g c = record { each = λ k d h. c.rows_of.ensures.entries k 0 d 0 0 h }
