use Rattle.std.proofs.Common.{inr, ◌∙◌, rules}
use Rattle.records.proofs.Bytes.{good_head, first_head, head_fields}
use Rattle.records.proofs.layout.layout.Goals as goal

pub returns-in-Some-first_fault : goal.returns-in-Some-first_fault
returns-in-Some-first_fault c =
    let head = c.in-Some.ensures.cases in
    (c.in-Some-first_fault.place, inr (head.enough, first_head _ _ head.same _ c.in-Some-first_fault.ensures), search rules)

pub returns-in-None : goal.returns-in-None
returns-in-None c =
    let head = c.in-Some.ensures.cases in
    (good_head _ _ head.same head.enough c.in-None.ensures, c.read_fields.ensures ∙ head_fields _ _ head.same)
