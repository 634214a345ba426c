use Rattle.std.proofs.Common.{◌%◌, ◌^◌, ap, ◌∙◌, arith}
use native.Mathlib.Nat.{mod-mod}
use Rattle.models.proofs.bits.wrapping_pow2.Goals as goal

pub pow2_modulo-requires : goal.pow2_modulo-requires
pow2_modulo-requires g c = omega (arith, g.met.T.BitArray.narrow)

pub returns : goal.returns
returns g c =
    let w = g.T.BitArray.width in
    c.wrapping_from_u64.ensures
    ∙ ap (λ n. n % 2 ^ w) (c.pow2_modulo.ensures ∙ ap (λ v. 2 ^ c.args.exponent % 2 ^ v) c.bits.ensures)
    ∙ mod-mod (2 ^ c.args.exponent) (2 ^ w)
