-- The laws, as `Laws` has them.
use Rattle.rounding.proofs.Laws.{product_laws}
use Rattle.rounding.proofs.products_stand.Goals as goal

pub returns : goal.returns
returns c = product_laws
