use Rattle.std.proofs.Common.{◌≡◌, pos, ◌+ℤ◌, ◌≤ℤ◌, ◌∙◌, arith}
use Rattle.std.proofs.lemmas.Int.{ints}
use Rattle.models.specs.Meaning.{Meaning}
use Rattle.channel.proofs.page.symbol.Goals as goal

-- both ends are symbols, so what lies between them is within the type
pub returns : goal.returns
returns g c =
    let m : Meaning = g.M.EntropyModel.meaning c.args.model.now in
    let most = g.M.Symbol.Symbol.most in
    let low : g.M.Symbol.Symbol.whole c.lowest_symbol.result ≡ m.low = c.lowest_symbol.ensures in
    let high : c.to_whole-high.result ≡ m.low +ℤ pos m.span = c.to_whole-high.ensures.value ∙ c.highest_symbol.ensures in
    let under : (g.M.Symbol.Symbol.whole c.lowest_symbol.result +ℤ pos c.args.row) ≤ℤ most = omega (arith, ints, c.to_whole-high.ensures.within.to) in
    c.above.ensures.within under ∙ omega (arith, ints)
