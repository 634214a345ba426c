use Rattle.records.proofs.Appending.{added_both}
use Rattle.records.proofs.listing.RowText.put.Goals as goal

pub returns-clause-text : goal.returns-clause-text
returns-clause-text c =
    added_both c.put.ensures.text
    (added_both c.put_byte.ensures
    (added_both c.put-2.ensures.text
    (added_both c.put_byte-2.ensures (added_both c.put-3.ensures.text c.put_byte-3.ensures))))
