-- The laws, as `Laws` has them.
use Rattle.rounding.proofs.Laws.{weight_laws}
use Rattle.rounding.proofs.weights_stand.Goals as goal

pub returns : goal.returns
returns c = weight_laws
