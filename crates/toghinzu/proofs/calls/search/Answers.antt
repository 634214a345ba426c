use Rattle.std.proofs.Common.{refl}
use Rattle.toghinzu.specs.Calls.{refused, answered}
use Rattle.toghinzu.proofs.Answers.{searches_as}
use Rattle.toghinzu.proofs.Told.{carried}
use Rattle.toghinzu.proofs.calls.search.Goals as goal

pub returns-in_err-model : goal.returns-in_err-model
returns-in_err-model g c before =
    rw (carried c.in_err-model.field-0.0 c.from_residual.result c.from_residual.ensures.1) (refused _ c.in_err-model.ensures refl refl)

pub returns : goal.returns
returns g c before =
    let made = c.in_ok-model.ensures in
    let found = c.in_ok-symbol in
    let meaning = g.C.Model.EntropyModel.meaning c.in_ok-model.model in
    let means = g.C.Described.means c.args.channel.now in
    answered made.0 refl (searches_as g.C.Model.Symbol.Symbol.whole meaning means c.args.quantile (found.symbol, found.start, found.length) (g.C.Described.reads c.row_of.result) made.1 c.row_of.ensures found.ensures)
