use Rattle.std.proofs.Common.{decimal, ap}
use Rattle.records.proofs.Appending.{added_both, added_same}
use Rattle.records.proofs.listing.RefusalText.put.Goals as goal

pub returns-clause-text : goal.returns-clause-text
returns-clause-text c =
    added_both c.put_text.ensures
    (added_both c.put.ensures.text
    (added_both c.put_text-2.ensures
    (added_both (added_same c.put-2.ensures.text (ap decimal c.layer.ensures))
    (added_both c.put_byte.ensures
    (added_both (added_same c.put-3.ensures.text (ap decimal c.number.ensures))
    (added_both c.put_byte-2.ensures
    (added_both (added_same c.put-4.ensures.text (ap decimal c.place.ensures)) c.put_byte-3.ensures)))))))
