-- The bytes of a record: which are at fault, and the numbers that they write.
use Rattle.std.proofs.Common.{◌≡◌, ℕ, zero, suc, ◌+◌, ◌≤◌, ◌<◌, cond, true, false, not, ◌&&◌, ◌||◌, List, length, take, drop, get_or, to_z, w32, w64, zero-le, MatchOption, Some, None, Option, sym, refl, ap, ◌∙◌, arith, ◌==◌}
use Rattle.records.specs.Record.{byte, code_of, empty, at_fault, First, Good, little, scale_of, fields_of}
use Rattle.std.specs.Int.{from_le_bytes}
use Rattle.std.proofs.lemmas.List.{get_or-take, get_or-drop}
use Rattle.records.specs.declared.layout.Fields.TheVariants as fields
use Rattle.records.specs.declared.layout.Kind.{Kind}
use Rattle.records.specs.declared.layout.Kind.TheVariants.{Uniform, Peak}
use Rattle.records.specs.declared.layout.PeakFields.{PeakFields}
use Rattle.records.specs.declared.layout.UniformFields.{UniformFields}
use Rattle.std.specs.Prelude.{pos, ◌+ℤ◌, from_bits}
use Rattle.std.specs.Float.{binary64}

-- where byte 0 names a kind, a byte is at fault where the kind has zero and it is not
pub at_fault_of : (bytes : List ℕ) (kind : Kind) (i : ℕ) → code_of kind ≡ byte bytes 0 → at_fault bytes i ≡ (empty (code_of kind) i && not (byte bytes i == 0))
at_fault_of bytes Uniform zero e = ap (λ (b : ℕ). not (b == 1 || b == 2)) (sym e)
at_fault_of bytes Peak zero e = ap (λ (b : ℕ). not (b == 1 || b == 2)) (sym e)
at_fault_of bytes kind (suc i) e = ap (λ (b : ℕ). empty b (suc i) && not (byte bytes (suc i) == 0)) (sym e)

-- what a search of the offsets from 0 to 31 finds
pub first_of_found : (bytes : List ℕ) (r : Option ℕ) → MatchOption r ((i : ℕ) → 0 ≤ i → i < 32 → at_fault bytes i ≡ false) (λ p. (0 ≤ p) × (p < 32) × (at_fault bytes p ≡ true) × ((i : ℕ) → 0 ≤ i → i < p → at_fault bytes i ≡ false)) → MatchOption r ((i : ℕ) → i < 32 → at_fault bytes i ≡ false) (λ p. First bytes p)
first_of_found bytes None f = λ i h. f i zero-le h
first_of_found bytes (Some p) f = record { within = f.1; fault = f.2; before = λ i h. f.3 i zero-le h }

-- the byte at offset i of the n bytes from a place is the one at offset k of them all
in_cut : (bytes cut : List ℕ) (place n : ℕ) → cut ≡ take n (drop place bytes) → (i k : ℕ) → i < n → place + i ≡ k → get_or cut i 0 ≡ byte bytes k
in_cut bytes cut place n e i k h f =
    ap (λ (c : List ℕ). get_or c i 0) e ∙ get_or-take n (drop place bytes) i 0 h ∙ get_or-drop place bytes i 0 ∙ ap (byte bytes) f

-- the number that the four bytes from a place write
pub little_four : (bytes cut : List ℕ) (place : ℕ) → cut ≡ take 4 (drop place bytes) → from_le_bytes w32 cut ≡ little bytes place 4
little_four bytes cut place e =
    let at : (i k : ℕ) → i < 4 → place + i ≡ k → get_or cut i 0 ≡ byte bytes k = in_cut bytes cut place 4 e in
    omega (arith, at 0 place (omega arith) (omega arith), at 1 (suc place) (omega arith) (omega arith), at 2 (suc (suc place)) (omega arith) (omega arith), at 3 (suc (suc (suc place))) (omega arith) (omega arith))

-- the same of eight
pub little_eight : (bytes cut : List ℕ) (place : ℕ) → cut ≡ take 8 (drop place bytes) → from_le_bytes w64 cut ≡ little bytes place 8
little_eight bytes cut place e =
    let at : (i k : ℕ) → i < 8 → place + i ≡ k → get_or cut i 0 ≡ byte bytes k = in_cut bytes cut place 8 e in
    omega (arith, at 0 place (omega arith) (omega arith), at 1 (suc place) (omega arith) (omega arith), at 2 (suc (suc place)) (omega arith) (omega arith), at 3 (suc (suc (suc place))) (omega arith) (omega arith), at 4 (suc (suc (suc (suc place)))) (omega arith) (omega arith), at 5 (suc (suc (suc (suc (suc place))))) (omega arith) (omega arith), at 6 (suc (suc (suc (suc (suc (suc place)))))) (omega arith) (omega arith), at 7 (suc (suc (suc (suc (suc (suc (suc place))))))) (omega arith) (omega arith))

-- bytes past the first 32 do not count
module _ (bytes head : List ℕ) (e : head ≡ take 32 bytes) where
  head_at : (i : ℕ) → i < 32 → byte head i ≡ byte bytes i
  head_at i h = ap (λ (l : List ℕ). byte l i) e ∙ get_or-take 32 bytes i 0 h

  head_fault : (i : ℕ) → i < 32 → at_fault head i ≡ at_fault bytes i
  head_fault i h =
      let a = head_at 0 (omega arith) in
      let b = head_at i h in
      cc

  head_little : (i n : ℕ) → i + n ≤ 32 → little head i n ≡ little bytes i n
  head_little i zero h = refl
  head_little i (suc n) h =
      let a = head_at i (omega arith) in
      let b = head_little (suc i) n (omega arith) in
      cc

  pub first_head : (p : ℕ) → First head p → First bytes p
  first_head p f =
      record { within = f.within; fault = sym (head_fault p f.within) ∙ f.fault; before = λ i h. sym (head_fault i (omega (arith, f.within))) ∙ f.before i h }

  pub good_head : 32 ≤ length bytes → ((i : ℕ) → i < 32 → at_fault head i ≡ false) → Good bytes
  good_head long clean = record { long = long; clean = λ i h. sym (head_fault i h) ∙ clean i h }

  pub head_fields : fields_of head ≡ fields_of bytes
  head_fields =
      let kind = head_at 0 (omega arith) in
      let precision = head_at 1 (omega arith) in
      let min = head_little 4 4 (omega arith) in
      let max = head_little 8 4 (omega arith) in
      let centre = head_little 16 8 (omega arith) in
      let scale = head_little 24 8 (omega arith) in
      cc

one_of : {X : Type 0} (n : ℕ) (a b : X) → n ≡ 1 → a ≡ cond (n == 1) a b
one_of n a b e = ap (λ (m : ℕ). cond (m == 1) a b) (sym e)

two_of : {X : Type 0} (n : ℕ) (a b : X) → n ≡ 2 → b ≡ cond (n == 1) a b
two_of n a b e = ap (λ (m : ℕ). cond (m == 1) a b) (sym e)

-- the fields that were read of a record of either kind are its fields
module _ (bytes : List ℕ) (kind : Kind) (e : code_of kind ≡ byte bytes 0) where
  pub uniform_read : (f : UniformFields) → kind ≡ Uniform → f.precision ≡ byte bytes 1 → f.range ≡ to_z w32 (little bytes 8 4) +ℤ pos 1 → fields.Uniform f ≡ fields_of bytes
  uniform_read f is precision range = (λ i. fields.Uniform (record { precision = precision i; range = range i })) ∙ one_of _ _ _ (sym e ∙ ap code_of is)

  pub peak_read : (f : PeakFields) → kind ≡ Peak → f.precision ≡ byte bytes 1 → f.min ≡ to_z w32 (little bytes 4 4) → f.max ≡ to_z w32 (little bytes 8 4) → f.centre ≡ from_bits binary64 (little bytes 16 8) → f.scale ≡ scale_of (little bytes 24 8) → fields.Peak f ≡ fields_of bytes
  peak_read f is precision min max centre scale =
      (λ i. fields.Peak (record { precision = precision i; min = min i; max = max i; centre = centre i; scale = scale i })) ∙ two_of _ _ _ (sym e ∙ ap code_of is)
