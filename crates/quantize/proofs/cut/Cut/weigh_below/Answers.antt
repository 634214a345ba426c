use Rattle.std.proofs.Common.{◌≡◌, ℕ, ◌≤◌, false, pos, ◌+ℤ◌, sym, subst, arith, pow_mono, w64, to_z, of_z}
use lib.Ieee.{Float, binary64, mul, of_int}
use Rattle.std.proofs.lemmas.Int.{ints}
use Rattle.rounding.specs.Fractions.{nought, power}
use Rattle.rounding.specs.Order.{Between}
use Rattle.rounding.specs.Weights.{share, weighed}
use Rattle.rounding.specs.Wholes.{half_below}
use Rattle.rounding.proofs.Literals.{half_bits}
use Rattle.quantize.specs.declared.extent.Extent.{Extent}
use Rattle.quantize.specs.Quantized.{free_weight_of}
use Rattle.quantize.specs.Starts.{below_bounded, share_there}
use Rattle.quantize.proofs.cut.Cut.weigh_below.Goals as goal

-- the symbol and the free weight, as the code casts them
symbol-is :
    (e : Extent) (row : ℕ) → row ≤ e.span
    → to_z w64 (of_z w64 (to_z w64 (of_z w64 e.low) +ℤ to_z w64 row)) ≡ e.low +ℤ pos row
symbol-is e row h = omega (arith, ints, e.from, e.to)

weight_is : (e : Extent) → to_z w64 e.free_weight ≡ pos (free_weight_of e.precision e.span)
weight_is e = omega (arith, ints, e.weighs, pow_mono e.narrow)

pub whole_part-requires : goal.whole_part-requires
whole_part-requires g c =
    let e = c.args.self.now.extent in
    let h = g.D.Distribution.height c.args.self.now.by.now in
    let symbol = symbol-is e c.args.row c.requires in
    let product : share (free_weight_of e.precision e.span) (h (half_below (e.low +ℤ pos c.args.row))) ≡ mul binary64 (of_int binary64 (to_z w64 e.free_weight)) c.distribution.result =
    cc (half_bits, weight_is e) in
    let there = subst (λ (x : Float). Between nought (power false (pos 51)) x) product
    (share_there e.low e.span e.precision h (g.D.Distribution.lawful c.args.self.now.by.now)
    e.from e.to e.narrow e.some e.room c.args.row c.requires) in
    record { from = there.low; to = there.high }

pub returns : goal.returns
returns g c =
    let e = c.args.self.now.extent in
    let h = g.D.Distribution.height c.args.self.now.by.now in
    let symbol = symbol-is e c.args.row c.requires in
    let value : c.whole_part.result ≡ weighed (free_weight_of e.precision e.span) (h (half_below (e.low +ℤ pos c.args.row))) =
    cc (half_bits, weight_is e) in
    record {
      value = value;
      bound =
          subst (λ n. n ≤ free_weight_of e.precision e.span) (sym value)
          (below_bounded e.low e.span e.precision h (g.D.Distribution.lawful c.args.self.now.by.now)
          e.from e.to e.narrow e.some e.room c.args.row c.requires);
    }
