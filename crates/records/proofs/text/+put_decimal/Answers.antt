use Rattle.std.proofs.Common.{◌≡◌, ◌/◌, ◌<◌, length, decimal, sym, ap, ◌∙◌, arith, rules}
use native.Mathlib.Nat.{div-lt_self}
use Rattle.records.specs.Places.{places}
use Rattle.records.proofs.Appending.{added_both, added_same}
use Rattle.records.proofs.Figures.{decimal_places, decimal_halves, length_halves, length_places}
use Rattle.records.proofs.text.+put_decimal.Goals as goal

pub put_places-requires : goal.put_places-requires
put_places-requires t c =
    let e : decimal c.args.n ≡ places c.count_digits.result c.args.n =
    decimal_places _ _ c.count_digits.ensures.some c.count_digits.ensures.above c.count_digits.ensures.below (omega arith)
    in
    let long : length (decimal c.args.n) ≡ c.count_digits.result = ap length e ∙ length_places c.count_digits.result c.args.n in
    record { few = omega arith; room = omega arith }

pub put_decimal-requires : goal.put_decimal-requires
put_decimal-requires t c =
    let long = length_halves 9 c.args.n _ c.power_of_ten-billion.ensures (omega arith) (omega arith) in
    let less : c.args.n / c.power_of_ten-billion.result < c.args.n = div-lt_self (omega arith) (omega arith) in
    (search rules, omega (arith, long))

pub put_places-requires-else-n : goal.put_places-requires-else-n
put_places-requires-else-n t c =
    let long = length_halves 9 c.args.n _ c.power_of_ten-billion.ensures (omega arith) (omega arith) in
    record { few = omega arith; room = omega (arith, long) }

pub returns-then-n : goal.returns-then-n
returns-then-n t c =
    added_same c.put_places.ensures
    (sym (decimal_places _ _ c.count_digits.ensures.some c.count_digits.ensures.above c.count_digits.ensures.below (omega arith)))

pub returns-else-n : goal.returns-else-n
returns-else-n t c =
    added_same (added_both c.put_decimal.ensures c.put_places-else-n.ensures)
    (decimal_halves 9 c.args.n _ c.power_of_ten-billion.ensures (omega arith) (omega arith))
