-- The figures, as `Shown` has them.
use Rattle.figures.proofs.Shown.{figures}
use Rattle.figures.proofs.figures_stand.Goals as goal

pub returns : goal.returns
returns c = figures
