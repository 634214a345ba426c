-- The make that is chosen has the width of the case.
use Rattle.conformance.proofs.replay.of_uniform.Goals as goal

pub returns-in-Bits16 : goal.returns-in-Bits16
returns-in-Bits16 c = rw c.in-Bits16.is c.on_range.ensures

pub returns-in-Bits32 : goal.returns-in-Bits32
returns-in-Bits32 c = rw c.in-Bits32.is c.on_range-in-Bits32.ensures
