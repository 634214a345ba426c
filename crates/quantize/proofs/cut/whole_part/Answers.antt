use Rattle.std.proofs.Common.{arith}
use Rattle.std.proofs.lemmas.Int.{ints}
use Rattle.rounding.proofs.Cuts.{cut_by_sum}
use Rattle.rounding.proofs.Literals.{wholes_bits}
use Rattle.quantize.proofs.cut.whole_part.Goals as goal

pub float_to_int-nearest : goal.float_to_int-nearest
float_to_int-nearest c = (cut_by_sum c.args.x _ wholes_bits c.requires.from c.requires.to).cast

pub overflow_cast-nearest : goal.overflow_cast-nearest
overflow_cast-nearest c =
    let cut = cut_by_sum c.args.x _ wholes_bits c.requires.from c.requires.to in
    (omega (arith, ints, cut.is), omega (arith, ints, cut.is))

pub overflow_sub-nearest : goal.overflow_sub-nearest
overflow_sub-nearest c =
    let cut = cut_by_sum c.args.x _ wholes_bits c.requires.from c.requires.to in
    omega (arith, ints, cut.is)

pub overflow_sub-result : goal.overflow_sub-result
overflow_sub-result c =
    let cut = cut_by_sum c.args.x _ wholes_bits c.requires.from c.requires.to in
    let over = cut.over c.if-x-raised.true in
    omega (arith, ints, cut.is)

pub returns-then-x-raised : goal.returns-then-x-raised
returns-then-x-raised c =
    let cut = cut_by_sum c.args.x _ wholes_bits c.requires.from c.requires.to in
    let over = cut.over c.if-x-raised.true in
    omega (arith, ints, cut.is)

pub returns-else-x-raised : goal.returns-else-x-raised
returns-else-x-raised c =
    let cut = cut_by_sum c.args.x _ wholes_bits c.requires.from c.requires.to in
    let within = cut.within c.if-x-raised.false in
    omega (arith, ints, cut.is)
