use Rattle.std.proofs.Common.{ℕ, refl, rules}
use lib.Ieee.{of_bits}
use Rattle.models.specs.Meaning.{At}
use Rattle.bridge.proofs.loops.probability_one.Goals as goal

-- what the type has no symbol for is in no support
pub returns-in_default : goal.returns-in_default
unfolding of_bits
returns-in_default g c =
    let none : (i : ℕ) → At (g.M.EntropyModel.meaning c.args.model.now) (g.N.Wide.whole c.args.symbol) i → ⊥ = search rules in
    record { outside = λ _. refl; inside = λ i at. absurd (none i at) }
