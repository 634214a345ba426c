-- The laws, as `Laws` has them.
use Rattle.rounding.proofs.Laws.{sum_laws}
use Rattle.rounding.proofs.sums_stand.Goals as goal

pub returns : goal.returns
returns c = sum_laws
