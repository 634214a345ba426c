-- The laws, as `Laws` has them.
use Rattle.rounding.proofs.Laws.{whole_laws}
use Rattle.rounding.proofs.wholes_stand.Goals as goal

pub returns : goal.returns
returns c = whole_laws
