use Rattle.std.proofs.Common.{refl}
use Rattle.toghinzu.specs.Calls.{refused}
use Rattle.toghinzu.proofs.Told.{carried}
use Rattle.toghinzu.proofs.calls.open.Goals as goal

pub returns-in_err-model : goal.returns-in_err-model
returns-in_err-model g c before =
    rw (carried c.in_err-model.field-0.0 c.from_residual.result c.from_residual.ensures.1) (refused _ c.in_err-model.ensures refl refl)
