use Rattle.std.proofs.Common.{arith, rules, SFits}
use mir.Syntax.{w128}
use Rattle.std.proofs.lemmas.Int.{to_z-of_z}
use Rattle.records.proofs.Figures.{length_signed, length_signed_parts}
use Rattle.records.proofs.text.I128Text.put.Goals as goal

pub put_decimal-requires : goal.put_decimal-requires
put_decimal-requires c =
    let z = c.args.self.now in
    let fits : SFits w128 z = search rules in
    omega (arith, length_signed z fits, length_signed_parts z _ _ (to_z-of_z w128 z fits) c.unsigned_abs.ensures.value)

pub returns-clause-short : goal.returns-clause-short
returns-clause-short c =
    let z = c.args.self.now in
    let fits : SFits w128 z = search rules in
    length_signed z fits
