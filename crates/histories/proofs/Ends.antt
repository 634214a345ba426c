-- Two ends of a line: what one encodes, the other finds. Assumes nothing.
use Rattle.std.proofs.Common.{◌≡◌, ℕ, suc, ◌+◌, ◌-◌, ◌<◌, ◌≤◌, ℤ, pos, ◌+ℤ◌, Some, Ok, sym, ap, ◌∙◌, subst, arith}
use Rattle.models.specs.Heights.{Height}
use Rattle.models.specs.Meaning.{Meaning, Interval, Holds}
use Rattle.quantize.specs.Quantized.{quantized, start_of}
use Rattle.quantize.proofs.Agreement.{starts_agree}
use Rattle.channel.specs.Events.{heights_after}
use Rattle.histories.specs.Promises.{opened, means_after, TwoEnds}
use Rattle.channel.specs.Rows.{Row, row_of}
use Rattle.histories.proofs.Histories.{every_history, lawful_after}

-- models with one support whose starts agree hold a quantile in the same row
moved : (low : ℤ) (span bits : ℕ) (h h' : Height) → ((i : ℕ) → start_of low span bits h i ≡ start_of low span bits h' i)
    → (q i : ℕ) → Holds (quantized low span bits h) q i → Holds (quantized low span bits h') q i
moved low span bits h h' same q i at = record {
  within = at.within;
  from = subst (λ n. n ≤ q) (same i) at.from;
  below = subst (λ n. q < n) (same (suc i)) at.below;
}

-- an interval that holds q is the row that holds it
held : (m : Meaning) (q i start length : ℕ) → i ≤ m.span → Interval m i start length → start ≤ q → q < start + length → Holds m q i
held m q i start length within at from below = record {
  within = within;
  from = subst (λ n. n ≤ q) at.start from;
  below = subst (λ n. q < n) at.end below;
}

-- the row, by its symbol and its interval
same_row :
    (m : Meaning) (low : ℤ) (starts : ℕ → ℕ) (i : ℕ) (z : ℤ) (start length : ℕ) → z ≡ low +ℤ pos i
    → ((i : ℕ) → m.start i ≡ starts i) → Interval m i start length
    → ◌≡◌ {A = Row} (low +ℤ pos i, starts i, starts (suc i) - starts i) (z, start, length)
same_row m low starts i z start length symbol same at =
    let from : starts i ≡ start = sym (same i) ∙ sym at.start in
    let long : starts (suc i) - starts i ≡ length = omega (arith, same i, same (suc i), at.start, at.end) in
    cc

pub two_ends : TwoEnds
two_ends o o' es es' s s' run run' alike z start length q t step from below a t' step' =
    let h = heights_after o.heights es in
    let h' = heights_after o'.heights es' in
    let m = means_after o es in
    let other : means_after o' es' ≡ quantized o.low o.span o.bits h' = cc (alike.low, alike.span, alike.bits) in
    let same = starts_agree o.low o.span o.bits h h' (lawful_after o.heights (opened o) s es o.lawful run)
    o.from o.to o.narrow alike.heights in
    let there = (every_history o es s run).encodes z (Some (start, length)) t step in
    let i = there.0 in
    let here : Holds m q i = held m q i start length there.1.within there.2 from below in
    let found : a ≡ Ok (row_of (means_after o' es') i) =
    (every_history o' es' s' run').finds q i a t'
    (subst (λ (x : Meaning). Holds x q i) (sym other) (moved o.low o.span o.bits h h' same q i here)) step' in
    found ∙ ap Ok
    (ap (λ (x : Meaning). row_of x i) other
    ∙ same_row m o.low (start_of o.low o.span o.bits h') i z start length there.1.symbol same there.2)
