use Rattle.rounding.proofs.Literals.{half_bits, one_bits}
use Rattle.quantize.proofs.extent.Extent.midpoint.Goals as goal

pub returns : goal.returns
returns c = cc (half_bits, one_bits)
