use Rattle.std.proofs.Common.{◌≡◌, true, false, ◌∙◌, rules}
use Rattle.std.proofs.lemmas.Iterator.{first_from_Range}
use Rattle.records.specs.Record.{at_fault}
use Rattle.records.proofs.Bytes.{at_fault_of, first_of_found}
use Rattle.records.proofs.layout.first_fault.Goals as goal

pub returns : goal.returns
returns c =
    let bytes = c.args.head.now in
    first_of_found bytes _
    (first_from_Range _ _ _ _ (λ i. at_fault bytes i ≡ true) (λ i. at_fault bytes i ≡ false) c.find.ensures.ran (λ i q k. at_fault_of bytes c.args.kind i c.requires ∙ search rules) (λ i q k. (search rules, at_fault_of bytes c.args.kind i c.requires ∙ search rules)))
