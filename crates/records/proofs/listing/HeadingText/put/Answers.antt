use Rattle.records.proofs.Appending.{added_both}
use Rattle.records.proofs.listing.HeadingText.put.Goals as goal

pub returns-clause-text : goal.returns-clause-text
returns-clause-text c = added_both c.put_text.ensures (added_both c.put.ensures.text c.put_byte.ensures)
