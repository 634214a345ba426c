-- Appending to a buffer, one piece after the other.
use Rattle.std.proofs.Common.{◌≡◌, ℕ, ◌+◌, List, [], ◌++◌, length, vec_items, vec_capacity, Vec, sym, refl, ap, ◌∙◌, subst, append_assoc, append-nil, length-append}
use Rattle.records.specs.Buffer.{Added}

module _ {Z : Type 0} where
  pub added : (v w : Vec ℕ Z) (bs : List ℕ) → vec_items w ≡ vec_items v ++ bs → vec_capacity w ≡ vec_capacity v → Added v bs w
  added v w bs e c =
      record { items = e; len = w.ok.0 ∙ ap length e ∙ length-append (vec_items v) bs ∙ ap (λ (n : ℕ). n + length bs) (sym v.ok.0); capacity = c }

  pub added_none : (v : Vec ℕ Z) → Added v [] v
  added_none v = added v v [] (sym (append-nil (vec_items v))) refl

  -- one piece after the other
  pub added_both : {v w x : Vec ℕ Z} {bs cs : List ℕ} → Added v bs w → Added w cs x → Added v (bs ++ cs) x
  added_both {v} {w} {x} {bs} {cs} p q =
      added v x (bs ++ cs)
      (q.items ∙ ap (λ (l : List ℕ). l ++ cs) p.items ∙ append_assoc (vec_items v) bs cs) (q.capacity ∙ p.capacity)

  pub added_same : {v w : Vec ℕ Z} {bs cs : List ℕ} → Added v bs w → bs ≡ cs → Added v cs w
  added_same {v} {w} {bs} {cs} p e = subst (λ (l : List ℕ). Added v l w) e p
