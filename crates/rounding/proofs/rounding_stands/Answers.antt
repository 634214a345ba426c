-- The laws, as `Laws` has them.
use Rattle.rounding.proofs.Laws.{rounding_laws}
use Rattle.rounding.proofs.rounding_stands.Goals as goal

pub returns : goal.returns
returns c = rounding_laws
