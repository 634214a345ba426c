use Rattle.std.proofs.Common.{◌<◌, sym, ◌∙◌, mod-eq_of_lt, arith}
use lib.Pow.{pow-lt}
use Rattle.models.proofs.Powers.{shifted_one, power_wraps}
use Rattle.models.proofs.bits.pow2_modulo.Goals as goal

pub returns-then-exponent-width : goal.returns-then-exponent-width
returns-then-exponent-width c = sym (power_wraps c.args.width c.args.exponent (omega arith))

pub returns-else-exponent-width : goal.returns-else-exponent-width
returns-else-exponent-width c =
    let below : c.args.exponent < c.args.width = omega arith in
    shifted_one c.args.exponent (omega arith) ∙ sym (mod-eq_of_lt (pow-lt below))
