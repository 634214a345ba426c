use Rattle.std.proofs.Common.{arith}
use Rattle.bridge.proofs.pace.pace_encode.Goals as goal

pub returns : goal.returns
returns g c =
    let told = c.intervals_of-count.ensures in
    record { each = λ k d h. told.entries k d 0 0 (omega (arith, told.count, h)) }
