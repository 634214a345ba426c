use Rattle.std.proofs.Common.{arith}
use Rattle.std.proofs.lemmas.Int.{ints}
use Rattle.quantize.proofs.extent.Extent.row_of.Goals as goal

pub overflow_cast-result : goal.overflow_cast-result
overflow_cast-result c = (grind (arith, ints), omega (arith, ints))

pub returns : goal.returns
returns c = (omega (arith, ints), omega (arith, ints))
