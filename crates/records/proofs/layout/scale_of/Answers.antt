use Rattle.std.proofs.Common.{◌≡◌, refl, ◌∙◌}
use lib.Ieee.{binary64, of_bits}
use Rattle.std.proofs.lemmas.Bool.{eq-eqb}
use Rattle.records.specs.Record.{default_scale}
use Rattle.records.proofs.layout.scale_of.Goals as goal

default-is : of_bits binary64 0x4030_0000_0000_0000 ≡ default_scale
unfolding of_bits
default-is = refl

pub returns-then-bits-eq0 : goal.returns-then-bits-eq0
returns-then-bits-eq0 c = default-is ∙ rw (eq-eqb c.args.bits 0 c.if-bits-eq0.true)
