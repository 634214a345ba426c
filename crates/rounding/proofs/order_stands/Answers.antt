-- The laws, as `Laws` has them.
use Rattle.rounding.proofs.Laws.{order_laws}
use Rattle.rounding.proofs.order_stands.Goals as goal

pub returns : goal.returns
returns c = order_laws
