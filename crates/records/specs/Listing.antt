-- The lines of a listing: words with single blanks between them, and a newline.
use Rattle.std.specs.Prelude.{◌≡◌, ℕ, zero, suc, ◌+◌, ◌-◌, ◌<◌, ◌≤◌, List, [], ◌∷◌, ◌++◌, length, ℤ, pos, ◌+ℤ◌, Some, None, vec_items, codes, decimal, Option, Vec}
use Rattle.models.specs.Meaning.{Meaning}
use Rattle.records.specs.Buffer.{Room, Added}
use Rattle.records.specs.Faults.{layer_of, number_of, place_of}
use Rattle.records.specs.declared.fault.Refusal.{Refusal}
use Rattle.std.specs.Fmt.{signed_decimal}

abbrev pub line : List (List ℕ) → List ℕ
line [] = codes "\n"
line (word ∷ []) = word ++ codes "\n"
line (word ∷ next ∷ words) = word ++ (codes " " ++ line (next ∷ words))

-- the heading of a channel's table
abbrev pub channel_line : ℕ → List ℕ
channel_line n = line (codes "channel" ∷ decimal n ∷ [])

-- a symbol's row: the symbol, where its interval starts, and how long it is
abbrev pub row_line : ℤ → ℕ → ℕ → List ℕ
row_line symbol start len = line (signed_decimal symbol ∷ decimal start ∷ decimal len ∷ [])

-- what stands for a refused channel: layer, number and place of its fault
abbrev pub refused_line : Refusal → List ℕ
refused_line r =
    line (codes "channel" ∷ decimal r.channel ∷ codes "refused" ∷ decimal (layer_of r.fault) ∷ decimal (number_of r.fault) ∷ decimal (place_of r.fault) ∷ [])

-- the line of row i of a table
abbrev pub line_of : Meaning → ℕ → List ℕ
line_of m i = row_line (m.low +ℤ pos i) (m.start i) (m.start (suc i) - m.start i)

-- the lines of n rows, from row i on
abbrev pub row_lines : Meaning → ℕ → ℕ → List ℕ
row_lines m i zero = []
row_lines m i (suc n) = line_of m i ++ row_lines m (suc i) n

-- rows were written until the buffer was full, up to the row `next`
pub record Part {Z : Type 0} (m : Meaning) (first : ℕ) (v w : Vec ℕ Z) (next : ℕ) : Type 0 where
  pub onward : first ≤ next
  pub within : first < next → next ≤ suc m.span
  pub lines : Added v (row_lines m first (next - first)) w
  pub full : Room w 64 → ⊥

-- all rows from `first` on were written; where the table has reached its end so, a line more fits
pub record Whole {Z : Type 0} (m : Meaning) (first : ℕ) (v w : Vec ℕ Z) : Type 0 where
  pub lines : Added v (row_lines m first (suc m.span - first)) w
  pub room : first ≤ suc m.span → Room w 64

-- all rows from `first` on are written, or a part of them and the buffer is full
abbrev pub Fills : {Z : Type 0} → Meaning → ℕ → Vec ℕ Z → Vec ℕ Z → Option ℕ → Type 0
Fills m first v w None = Whole m first v w
Fills m first v w (Some next) = Part m first v w next

-- the lines of all rows
abbrev pub table_lines : Meaning → List ℕ
table_lines m = row_lines m 0 (suc m.span)

-- what stands on a page once the whole table is listed
pub data Listed {Z : Type 0} (m : Meaning) (v w : Vec ℕ Z) : Type 0 where
  -- all its lines, after what stood there before
  whole_table : vec_items w ≡ vec_items v ++ table_lines m → Listed m v w
  -- the lines from the row `next` on: the page was written out on the way, which only happens where the table and a line more do not fit
  last_rows : (next : ℕ) → next ≤ suc m.span → (Room v (length (table_lines m) + 64) → ⊥) → vec_items w ≡ row_lines m next (suc m.span - next) → Listed m v w
