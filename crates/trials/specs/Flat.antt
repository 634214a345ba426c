-- One height everywhere keeps both laws. Assumes nothing.
use Rattle.std.specs.Prelude.{◌≡◌, true, Float}
use Rattle.std.proofs.lemmas.Bool.{and_parts}
use Rattle.std.specs.Float.Ieee.{le}
use Rattle.distributions.specs.Peak.{within}
use Rattle.models.specs.Heights.{Height, Lawful}
use Rattle.rounding.specs.Fractions.{nought, one}
use Rattle.rounding.proofs.Order.{le_refl, right_number}

abbrev pub flat : Float → Height
flat h x = h

pub flat_lawful : (h : Float) → le nought h ≡ true → le h one ≡ true → Lawful (flat h)
flat_lawful h from to = record { from = λ x r. from; to = λ x r. to; rises = λ x y r q l. le_refl h (right_number nought h from) }

-- the same by the test of both limits
pub within_lawful : (h : Float) → within nought one h ≡ true → Lawful (flat h)
within_lawful h e =
    let both = and_parts (le nought h) (le h one) e in
    flat_lawful h both.0 both.1
