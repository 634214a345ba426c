use Rattle.std.proofs.Common.{refl, arith}
use Rattle.models.proofs.Room.{rows_few}
use Rattle.toghinzu.specs.Calls.{refused}
use Rattle.toghinzu.proofs.Told.{carried}
use Rattle.toghinzu.proofs.calls.fill.Goals as goal

pub returns-in_err-model : goal.returns-in_err-model
returns-in_err-model g c before =
    rw (carried c.in_err-model.field-0.0 c.from_residual.result c.from_residual.ensures.1) (refused _ c.in_err-model.ensures refl refl)

-- a walk past the last row stays where it is
pub advance-requires : goal.advance-requires
advance-requires g c =
    let model = c.in_ok-model.model in
    let few = rows_few _ 32 (g.C.Model.EntropyModel.cuts model) (g.met.C.Model.EntropyModel.fits model) (omega arith) in
    omega (arith, few, c.handed.ensures, c.handed.type_inv, c.page-written.ensures.left)
