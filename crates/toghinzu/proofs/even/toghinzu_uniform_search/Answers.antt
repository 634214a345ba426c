use Rattle.std.proofs.Common.{w32, rules}
use Rattle.std.proofs.lemmas.Int.{to_z-of_z}
use Rattle.toghinzu.proofs.even.toghinzu_uniform_search.Goals as goal

pub returns : goal.returns
returns c =
    rw (to_z-of_z w32 c.tell.result (search rules), c.tell.ensures.status, c.tell.ensures.place) (c.search.ensures c.args.row.now)
