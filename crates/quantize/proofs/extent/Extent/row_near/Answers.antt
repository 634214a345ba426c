use Rattle.std.proofs.Common.{◌≡◌, ◌^◌, ◌≤◌, pos, le_trans, le_of_eq, arith, pow_mono, w64, to_z}
use Rattle.std.proofs.lemmas.Int.{ints}
use Rattle.quantize.specs.declared.extent.Extent.{Extent}
use Rattle.rounding.proofs.Cuts.{cut_under}
use Rattle.rounding.proofs.Literals.{one_bits}
use Rattle.quantize.proofs.extent.Extent.row_near.Goals as goal

small : (e : Extent) → e.span ≤ 2 ^ 51
small e = omega (arith, e.room, pow_mono e.narrow)

cast : (e : Extent) → to_z w64 e.span ≡ pos e.span
cast e = let h = small e in omega (arith, ints)

pub whole_part-requires : goal.whole_part-requires
whole_part-requires c =
    let e = c.args.self.now in
    let under = cut_under e.span _ _ _ (small e) one_bits (cast e) c.if-rows.true c.if-rows-self.false in
    record { from = under.0; to = under.1 }

pub returns-then-rows : goal.returns-then-rows
returns-then-rows c =
    let e = c.args.self.now in
    le_trans (le_of_eq c.whole_part.ensures)
    (cut_under e.span _ _ _ (small e) one_bits (cast e) c.if-rows.true c.if-rows-self.false).2
