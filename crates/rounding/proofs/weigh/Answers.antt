-- The weight is cast, multiplied and cut as the definition has it.
use Rattle.std.proofs.Common.{◌≡◌, ap, ◌∙◌}
use lib.Ieee.{Float, binary64, mul, to_unsigned}
use Rattle.rounding.proofs.Weights.{weighs}
use Rattle.rounding.proofs.weigh.Goals as goal

pub returns : goal.returns
returns c =
    let cut : c.saturating_f64_to_u64.result ≡ to_unsigned 64 (mul binary64 c.natural.result c.args.height) = c.saturating_f64_to_u64.ensures in
    weighs c.args.weight c.args.height c.saturating_f64_to_u64.result (cut ∙ ap (λ (w : Float). to_unsigned 64 (mul binary64 w c.args.height)) c.natural.ensures)
