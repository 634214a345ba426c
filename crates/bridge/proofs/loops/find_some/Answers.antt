use Rattle.std.proofs.Common.{Ok, refl, arith, pow_mono, rules}
use Rattle.models.specs.Answers.{Searches}
use Rattle.bridge.specs.Entries.{beyond, unfit}
use Rattle.bridge.proofs.Entries.{as_numbers}
use Rattle.bridge.proofs.loops.find_some.Goals as goal

-- a quantile that takes more than the width is 2 ^ P or more
pub returns-in_err-quantile : goal.returns-in_err-quantile
returns-in_err-quantile g c n =
    let laws = g.met.M.EntropyModel in
    rw c.from_residual.ensures (beyond (omega (arith, c.in_err-quantile.ensures, pow_mono (laws.fits c.args.model.now)), refl) refl)

-- the buffers have no number for the symbol
pub returns-in_err-symbol-2 : goal.returns-in_err-symbol-2
returns-in_err-symbol-2 g c n =
    let whole = g.M.Symbol.Symbol.whole in
    let value = g.M.Probability.BitArray.value in
    let row = c.in_ok-symbol in
    let found : Searches whole value (g.M.EntropyModel.meaning c.args.model.now) (value c.in_ok-quantile.quantile) (Ok (row.symbol, row.start, row.length)) =
    search rules
    in
    rw c.from_residual-in_err-symbol-2.ensures (unfit _ (as_numbers whole value _ _ _ _ c.in_ok-quantile.ensures.1 found) c.in_err-symbol-2.ensures refl)
