-- The laws, as `Laws` has them.
use Rattle.rounding.proofs.Laws.{quotient_laws}
use Rattle.rounding.proofs.quotients_stand.Goals as goal

pub returns : goal.returns
returns c = quotient_laws
