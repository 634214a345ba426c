-- The lines of a table, row after row.
use Rattle.std.proofs.Common.{◌≡◌, ℕ, zero, suc, ◌+◌, ◌-◌, ◌^◌, ◌<◌, ◌≤◌, List, [], ◌++◌, length, ℤ, pos, ◌+ℤ◌, Some, vec_items, vec_len, vec_capacity, Vec, sym, ap, ◌∙◌, ⊎_elim, append_assoc, append-nil, zero-le, add-zero, add-suc, suc-add, add-one, arith, length-append, pow_mono}
use Rattle.models.proofs.Cuts.{interval_between, length_fits, start_fits}
use Rattle.models.specs.Answers.{IsRow, Starts}
use Rattle.models.specs.Meaning.{Meaning, Partition}
use Rattle.std.proofs.lemmas.Bool.{cases_lt}
use Rattle.records.specs.Buffer.{Room, Added, Emptied}
use Rattle.records.specs.Listing.{row_line, line_of, row_lines, table_lines, Part, Listed, whole_table, last_rows}

pub row_lines_more : (m : Meaning) (i n : ℕ) → row_lines m i (suc n) ≡ row_lines m i n ++ line_of m (i + n)
row_lines_more m i zero = append-nil (line_of m i) ∙ ap (line_of m) (sym (add-zero i))
row_lines_more m i (suc n) =
    ap (λ (l : List ℕ). line_of m i ++ l) (row_lines_more m (suc i) n ∙ ap (λ (k : ℕ). row_lines m (suc i) n ++ line_of m k) (suc-add i n ∙ sym (add-suc i n)))
    ∙ sym (append_assoc (line_of m i) (row_lines m (suc i) n) (line_of m (i + suc n)))

-- one more row is written
pub rows_more : (m : Meaning) (first row : ℕ) → first ≤ row → row_lines m first (row + 1 - first) ≡ row_lines m first (row - first) ++ line_of m row
rows_more m first row h =
    ap (row_lines m first) {x = row + 1 - first} {y = suc (row - first)} (omega arith) ∙ row_lines_more m first (row - first)
    ∙ ap (λ (k : ℕ). row_lines m first (row - first) ++ line_of m k) {x = first + (row - first)} {y = row} (omega arith)

-- no row is written yet
pub rows_none : (m : Meaning) (first : ℕ) → [] ≡ row_lines m first (first - first)
rows_none m first = ap (row_lines m first) {x = 0} {y = first - first} (omega arith)

-- from s to e, each of them a number of 32 bits but the end of the last row
pub record Prints (s e : ℕ) : Type 0 where
  pub order : s ≤ e
  pub start : s < 2 ^ 32
  pub len : e - s < 2 ^ 32

pub row_prints : (m : Meaning) (width i s e : ℕ) → Partition m → m.bits ≤ width → width ≤ 32 → s ≡ m.start i → Starts m (i + 1) (Some e) → Prints s e
row_prints m width i s e cuts fits narrow from to =
    let within : i ≤ m.span = omega (arith, to.0) in
    let small : m.bits ≤ 32 = omega arith in
    let wide = pow_mono small in
    let at = interval_between m cuts i s e within from (to.1 ∙ ap m.start (add-one i)) in
    record {
      order = omega (arith, at.end, at.some);
      start = omega (arith, wide, start_fits m cuts i s (e - s) within at);
      len = omega (arith, wide, length_fits m cuts i s (e - s) within at);
    }

-- what is printed of a row is its line
pub row_line_lem : {S P : Type 0} (whole : S → ℤ) (value : P → ℕ) (m : Meaning) (i : ℕ) (r : S × P × P) → IsRow whole value m i r → (z : ℤ) (s l : ℕ) → z ≡ whole r.0 → s ≡ value r.1 → l ≡ value r.2 → row_line z s l ≡ line_of m i
row_line_lem whole value m i r is z s l e f g =
    let a = e ∙ is.at.symbol in
    let b = f ∙ is.interval.start in
    let c : l ≡ m.start (suc i) - m.start i = omega (arith, g, is.interval.end, is.interval.start) in
    cc

-- the same of a row that is known by where it starts and where it ends
pub row_line_between : (m : Meaning) (i s e : ℕ) (z : ℤ) → z ≡ m.low +ℤ pos i → s ≡ m.start i → Starts m (i + 1) (Some e) → row_line z s (e - s) ≡ line_of m i
row_line_between m i s e z symbol from to =
    let end : e ≡ m.start (suc i) = to.1 ∙ ap m.start (add-one i) in
    cc

-- rows up to `next` fill the buffer
pub part_full : {Z : Type 0} (m : Meaning) (first : ℕ) (v w : Vec ℕ Z) (next : ℕ) → first ≤ next → next ≤ suc m.span → Added v (row_lines m first (next - first)) w → (Room w 64 → ⊥) → Part m first v w next
part_full m first v w next onward within lines full = record { onward = onward; within = λ h. within; lines = lines; full = full }

-- where there was room for a line, a row was written
pub part_moves : {Z : Type 0} (m : Meaning) (first : ℕ) (v w : Vec ℕ Z) (next : ℕ) → Part m first v w next → Room v 64 → first < next
part_moves m first v w next p room = ⊎_elim (λ l. l) (λ l. absurd (p.full (still l))) (cases_lt first next)
  where
    still : next ≤ first → Room w 64
    still l =
        let none : next - first ≡ 0 = omega arith in
        let len = p.lines.len ∙ ap (λ (k : ℕ). vec_len v + length (row_lines m first k)) none in
        omega (arith, len, p.lines.capacity)

-- fewer rows take no more bytes
pub rows_shorter : (m : Meaning) (i a b : ℕ) → a ≤ b → length (row_lines m i a) ≤ length (row_lines m i b)
rows_shorter m i zero b h = zero-le
rows_shorter m i (suc a) zero h = absurd (omega arith)
rows_shorter m i (suc a) (suc b) h =
    let less = rows_shorter m (suc i) a b (omega arith) in
    omega (arith, less, length-append (line_of m i) (row_lines m (suc i) a), length-append (line_of m i) (row_lines m (suc i) b))

-- where a listing of pages stands: it has yet to write the row `from`
pub data Underway {Z : Type 0} (m : Meaning) (v : Vec ℕ Z) (from : ℕ) (w : Vec ℕ Z) : Type 0 where
  begun : from ≡ 0 → vec_items w ≡ vec_items v → vec_len w ≡ vec_len v → vec_capacity v ≤ vec_capacity w → Underway m v from w
  later : from ≤ suc m.span → vec_items w ≡ [] → (Room v (length (table_lines m) + 64) → ⊥) → Underway m v from w

module _ {Z : Type 0} (m : Meaning) (v : Vec ℕ Z) where
  -- a page was written out
  pub page_out : (from next : ℕ) (w x y : Vec ℕ Z) → Underway m v from w → Part m from w x next → Emptied x y → from < next → Underway m v next y
  page_out from next w x y (begun z items len cap) p e h = later (p.within h) e.items (λ room. p.full (fits room))
    where
      fits : Room v (length (table_lines m) + 64) → Room x 64
      fits room =
          let few : next - from ≤ suc m.span = omega (arith, p.within h) in
          let lines = ap (λ (i : ℕ). length (row_lines m i (next - from))) z in
          omega (arith, room, rows_shorter m 0 (next - from) (suc m.span) few, lines, p.lines.len, p.lines.capacity)
  page_out from next w x y (later l items full) p e h = later (p.within h) e.items full

  -- the last rows are written
  pub last_page : (from : ℕ) (w x : Vec ℕ Z) → Underway m v from w → Added w (row_lines m from (suc m.span - from)) x → Listed m v x
  last_page from w x (begun z items len cap) a =
      whole_table
      (a.items ∙ ap (λ (l : List ℕ). l ++ row_lines m from (suc m.span - from)) items ∙ ap (λ (i : ℕ). vec_items v ++ row_lines m i (suc m.span - from)) z
      ∙ ap (λ (n : ℕ). vec_items v ++ row_lines m 0 n) {x = suc m.span - from} {y = suc m.span} (omega arith))
  last_page from w x (later l items full) a =
      last_rows from l full (a.items ∙ ap (λ (k : List ℕ). k ++ row_lines m from (suc m.span - from)) items)

  -- no row past the last is yet to be written
  pub underway_within : (from : ℕ) (w : Vec ℕ Z) → Underway m v from w → from ≤ suc m.span
  underway_within from w (begun z items len cap) = omega (arith, z)
  underway_within from w (later l items full) = l

  -- memory that was taken before does not count
  pub listed_grown : (u w : Vec ℕ Z) → vec_items u ≡ vec_items v → vec_len u ≡ vec_len v → vec_capacity v ≤ vec_capacity u → Listed m u w → Listed m v w
  listed_grown u w items len cap (whole_table e) = whole_table (e ∙ ap (λ (l : List ℕ). l ++ table_lines m) items)
  listed_grown u w items len cap (last_rows next l full e) = last_rows next l (λ room. full (omega (arith, room, len, cap))) e
