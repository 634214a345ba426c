use Rattle.std.proofs.Common.{◌∙◌, arith}
use Rattle.std.proofs.lemmas.Int.{ints}
use Rattle.quantize.proofs.quantizer.LeakyQuantizer.symbol.Goals as goal

-- the support lies within the symbol type
pub unreachable-requires : goal.unreachable-requires
unreachable-requires g c =
    let self = c.args.self.now in
    c.in_default.ensures
    (record { from = omega (arith, ints, self.from); to = omega (arith, ints, self.to) })

pub returns : goal.returns
returns g c =
    let e = c.args.self.now.extent in
    c.in-Some.ensures.1 ∙ omega (arith, ints, e.from, e.to)
