use Rattle.std.proofs.Common.{◌<◌, arith, rules}
use Rattle.records.proofs.Tables.{part_moves, page_out, last_page, listed_grown, underway_within}
use Rattle.records.proofs.stream.write_rows.Goals as goal

pub loop-next-smaller : goal.loop-next-smaller
loop-next-smaller g c =
    let part = c.in-Some.ensures in
    let moves : c.loop-next.from < c.in-Some.next = part_moves _ _ _ _ _ part c.loop-next.invariant.0 in
    omega (arith, moves, part.within moves)

pub loop-next-preserved : goal.loop-next-preserved
loop-next-preserved g c =
    let part = c.in-Some.ensures in
    let moves : c.loop-next.from < c.in-Some.next = part_moves _ _ _ _ _ part c.loop-next.invariant.0 in
    (search rules, page_out _ _ _ _ _ _ _ c.loop-next.invariant.1 part c.in_ok-write_page.ensures moves)

pub returns-clause-listed : goal.returns-clause-listed
returns-clause-listed g c =
    listed_grown _ _ _ _ c.reserve.ensures.items c.reserve.ensures.len c.reserve.ensures.capacity
    (last_page _ _ _ _ _ c.loop-next.invariant.1 c.in_default.ensures.lines)

pub returns-clause-room : goal.returns-clause-room
returns-clause-room g c = c.in_default.ensures.room (underway_within _ _ _ _ c.loop-next.invariant.1)
