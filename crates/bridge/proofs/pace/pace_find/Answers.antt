use Rattle.std.proofs.Common.{arith}
use Rattle.bridge.proofs.pace.pace_find.Goals as goal

pub returns : goal.returns
returns g c =
    let told = c.rows_of-count.ensures in
    record { each = λ k d h. told.entries k 0 d 0 0 (omega (arith, told.count, h)) }
