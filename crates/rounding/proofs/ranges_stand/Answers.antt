-- The laws, as `Laws` has them.
use Rattle.rounding.proofs.Laws.{range_laws}
use Rattle.rounding.proofs.ranges_stand.Goals as goal

pub returns : goal.returns
returns c = range_laws
