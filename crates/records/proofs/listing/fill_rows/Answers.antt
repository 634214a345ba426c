use Rattle.std.proofs.Common.{◌≡◌, suc, ℤ, pos, ◌+ℤ◌, ◌^◌, ◌≤◌, ◌∙◌, sym, ap, ℕ, ◌-◌, true≢false, arith}
use Rattle.records.specs.Listing.{row_lines}
use Rattle.std.proofs.lemmas.Int.{ints}
use Rattle.models.specs.Meaning.{Meaning}
use Rattle.models.proofs.Room.{rows_few}
use Rattle.records.proofs.Appending.{added_both, added_none, added_same}
use Rattle.records.proofs.Tables.{Prints, row_line_between, row_prints, rows_more, rows_none, part_full}
use Rattle.records.proofs.listing.fill_rows.Given.{Over}
use Rattle.records.proofs.listing.fill_rows.Goals as goal

-- the ends of the support, as whole numbers, and how many rows lie between
record Ends (m : Meaning) (l h : ℤ) : Type 0 where
  low : l ≡ m.low
  high : h ≡ m.low +ℤ pos m.span
  few : suc m.span ≤ 2 ^ 32

ends : (g : Over) (c : goal.After-to_whole-high g) → Ends (g.M.EntropyModel.meaning c.args.model.now) c.to_whole-low.result c.to_whole-high.result
ends g c =
    let model = c.args.model.now in
    record {
      low = c.to_whole-low.ensures.value ∙ c.lowest_symbol.ensures;
      high = c.to_whole-high.ensures.value ∙ c.highest_symbol.ensures;
      few = rows_few _ _ (g.M.EntropyModel.cuts model) (g.met.M.EntropyModel.fits model) g.met.M.Probability.BitArray.narrow;
    }

pub overflow_sub-rows : goal.overflow_sub-rows
overflow_sub-rows g c =
    let e = ends g c in
    omega (arith, ints, e.low, e.high, e.few)

pub overflow_cast-rows : goal.overflow_cast-rows
overflow_cast-rows g c =
    let e = ends g c in
    omega (arith, ints, e.low, e.high, e.few)

pub overflow_add-rows : goal.overflow_add-rows
overflow_add-rows g c =
    let e = ends g c in
    omega (arith, ints, e.low, e.high, e.few)

pub loop-row-init : goal.loop-row-init
loop-row-init g c =
    let e = ends g c in
    let m : Meaning = g.M.EntropyModel.meaning c.args.model.now in
    record {
      all = omega (arith, ints, e.low, e.high, e.few);
      begins = c.in_ok-start.ensures.1;
      written = added_same (added_none _) (rows_none m c.args.from);
    }

-- the row's start and length are numbers of 32 bits
printed : (g : Over) (c : goal.In_ok-end g) → Prints c.loop-row.start c.in_ok-end.end
printed g c =
    let laws = g.met.M.EntropyModel in
    let model = c.args.model.now in
    row_prints _ _ _ _ _ (g.M.EntropyModel.cuts model) (laws.fits model) g.met.M.Probability.BitArray.narrow c.loop-row.invariant.begins c.in_ok-end.ensures

pub overflow_cast-line-in-loop-row : goal.overflow_cast-line-in-loop-row
overflow_cast-line-in-loop-row g c = omega (arith, (printed g c).start)

pub overflow_sub-line : goal.overflow_sub-line
overflow_sub-line g c = omega (arith, (printed g c).order)

pub overflow_cast-line-in-loop-row-2 : goal.overflow_cast-line-in-loop-row-2
overflow_cast-line-in-loop-row-2 g c = omega (arith, (printed g c).len)

pub loop-row-preserved : goal.loop-row-preserved
loop-row-preserved g c =
    let m : Meaning = g.M.EntropyModel.meaning c.args.model.now in
    let low : c.to_whole-low.result ≡ m.low = c.to_whole-low.ensures.value ∙ c.lowest_symbol.ensures in
    let inv = c.loop-row.invariant in
    let end = c.in_ok-end.ensures in
    record {
      all = inv.all;
      begins = end.1;
      written =
          added_same
          (added_both inv.written (added_same c.put.ensures.text (row_line_between m c.loop-row.row _ _ _ (omega (arith, ints, end.0)) inv.begins end)))
          (sym (rows_more m c.args.from c.loop-row.row c.loop-row.auto.row));
    }

pub returns-then-not-has_room : goal.returns-then-not-has_room
returns-then-not-has_room g c =
    part_full _ _ _ _ _ c.loop-row.auto.row (omega (arith, c.loop-row.invariant.all, c.loop-row-test.true)) c.loop-row.invariant.written
    (λ room. true≢false (sym (c.has_room.ensures.1 room) ∙ c.if-not-has_room.true))

-- the loop ends at the end of the table
pub returns-then-has_room : goal.returns-then-has_room
returns-then-has_room g c =
    let m : Meaning = g.M.EntropyModel.meaning c.args.model.now in
    let end : c.loop-row.row ≡ suc m.span = omega (arith, c.loop-row.invariant.all, c.in_ok-start.ensures.0) in
    record {
      lines = added_same c.loop-row.invariant.written (ap (λ (n : ℕ). row_lines m c.args.from (n - c.args.from)) end);
      room = λ h. c.has_room-2.ensures.0 c.if-has_room.true;
    }

pub returns-else-has_room : goal.returns-else-has_room
returns-else-has_room g c =
    let m : Meaning = g.M.EntropyModel.meaning c.args.model.now in
    let end : c.loop-row.row ≡ suc m.span = omega (arith, c.loop-row.invariant.all, c.in_ok-start.ensures.0) in
    part_full _ _ _ _ _ (omega (arith, c.loop-row.invariant.all, c.in_ok-start.ensures.0)) (omega (arith, c.loop-row.invariant.all))
    (added_same c.loop-row.invariant.written (ap (λ (n : ℕ). row_lines m c.args.from (n - c.args.from)) (end ∙ sym c.loop-row.invariant.all)))
    (λ room. true≢false (sym (c.has_room-2.ensures.1 room) ∙ c.if-has_room.false))
