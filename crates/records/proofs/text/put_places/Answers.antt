use Rattle.std.proofs.Common.{◌≡◌, ℕ, ◌-◌, [], ◌++◌, vec_items, sym, ap, ◌∙◌, append-nil, arith}
use Rattle.records.specs.Places.{places}
use Rattle.records.proofs.Appending.{added}
use Rattle.records.proofs.Figures.{ten_pos, places_more}
use Rattle.records.proofs.text.put_places.Goals as goal

pub nonzero_div-digit : goal.nonzero_div-digit
nonzero_div-digit c = omega (arith, ten_pos (c.loop-place.place - 1), c.power_of_ten.ensures)

pub loop-place-preserved : goal.loop-place-preserved
loop-place-preserved c = (places_more _ _ _ _ _ (omega arith) c.power_of_ten.ensures c.push_reserved.ensures.items ∙ c.loop-place.invariant.0, omega arith, omega arith)

pub returns : goal.returns
returns c =
    let none : c.loop-place.place ≡ 0 = omega arith in
    let e : vec_items c.loop-place.out ++ places c.loop-place.place c.args.n ≡ vec_items c.loop-place.out ++ [] =
    ap (λ (k : ℕ). vec_items c.loop-place.out ++ places k c.args.n) none
    in
    added _ _ _ (sym (append-nil (vec_items c.loop-place.out)) ∙ sym e ∙ c.loop-place.invariant.0) c.loop-place.invariant.2
