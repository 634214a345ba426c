use Rattle.std.proofs.Common.{◌≡◌, suc, ◌^◌, ◌≤◌, pos, ◌+ℤ◌, ◌∙◌, arith}
use Rattle.std.proofs.lemmas.Int.{ints}
use Rattle.models.specs.Meaning.{Meaning}
use Rattle.models.proofs.Room.{rows_few}
use Rattle.channel.proofs.page.rows.Given as given
use Rattle.channel.proofs.page.rows.Goals as goal

abbrev model : (g : given.Over) → goal.After-to_whole-high g → Meaning
model g c = g.M.EntropyModel.meaning c.args.model.now

low : (g : given.Over) (c : goal.After-to_whole-high g) → c.to_whole-low.result ≡ (model g c).low
low g c = c.to_whole-low.ensures.value ∙ c.lowest_symbol.ensures

high : (g : given.Over) (c : goal.After-to_whole-high g) → c.to_whole-high.result ≡ (model g c).low +ℤ pos (model g c).span
high g c = c.to_whole-high.ensures.value ∙ c.highest_symbol.ensures

few : (g : given.Over) (c : goal.After-to_whole-high g) → suc (model g c).span ≤ 2 ^ 32
few g c =
    let laws = g.met.M.EntropyModel in
    rows_few _ _ (g.M.EntropyModel.cuts c.args.model.now) (laws.fits c.args.model.now) g.met.M.Probability.BitArray.narrow

pub overflow_sub-result : goal.overflow_sub-result
overflow_sub-result g c = omega (arith, ints, low g c, high g c, few g c)

pub overflow_cast-result : goal.overflow_cast-result
overflow_cast-result g c = (omega (arith, ints, low g c, high g c, few g c), omega (arith, ints, low g c, high g c, few g c))

pub overflow_add-result : goal.overflow_add-result
overflow_add-result g c = omega (arith, ints, low g c, high g c, few g c)

pub returns : goal.returns
returns g c = omega (arith, ints, low g c, high g c, few g c)
