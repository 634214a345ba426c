use Rattle.std.proofs.Common.{arith}
use Rattle.records.proofs.Spelling.{length_decimal}
use Rattle.records.proofs.text.U128Text.put.Goals as goal

pub put_decimal-requires : goal.put_decimal-requires
put_decimal-requires c = omega (arith, length_decimal 38 c.args.self.now (omega arith) (omega arith))

pub returns-clause-short : goal.returns-clause-short
returns-clause-short c = omega (arith, length_decimal 38 c.args.self.now (omega arith) (omega arith))
