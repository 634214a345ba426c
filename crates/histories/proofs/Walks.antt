-- Rows as whole numbers: what a call answers is the model's own row, and what is handed out is the first of them. Assumes nothing.
use Rattle.std.proofs.Common.{◌≡◌, ℕ, zero, suc, ◌+◌, ◌-◌, ◌<◌, [], ◌∷◌, ◌++◌, length, sym, refl, ap, ◌∙◌, append_assoc, append-nil, add-zero, add-suc, add-one, arith, length-append}
use Rattle.models.specs.Answers.{IsRow}
use Rattle.models.specs.Meaning.{Meaning}
use Rattle.channel.specs.Events.{Buffers, row_at, rows_in}
use Rattle.channel.specs.Rows.{Row, row_of, first_rows}
use Rattle.channel.specs.Steps.{itself}

-- a triple that is row i, is row i
pub is_row : (m : Meaning) (i : ℕ) (r : Row) → IsRow itself itself m i r → r ≡ row_of m i
is_row m i (z, s, l) row =
    let symbol = row.at.symbol in
    let start = row.interval.start in
    let length : l ≡ m.start (suc i) - m.start i = omega (arith, row.interval.start, row.interval.end) in
    cc

pub first_rows_length : (m : Meaning) (n : ℕ) → length (first_rows m n) ≡ n
first_rows_length m zero = refl
first_rows_length m (suc n) = length-append (first_rows m n) (row_of m n ∷ []) ∙ rw (first_rows_length m n) (add-one n)

-- rows that a fill wrote, behind those handed out before
pub filled_rows :
    (m : Meaning) (b : Buffers) (i n : ℕ) → ((k : ℕ) → k < n → IsRow itself itself m (i + k) (row_at b k))
    → first_rows m i ++ rows_in b n ≡ first_rows m (i + n)
filled_rows m b i zero rows = append-nil (first_rows m i) ∙ ap (first_rows m) (sym (add-zero i))
filled_rows m b i (suc n) rows =
    sym (append_assoc (first_rows m i) (rows_in b n) (row_at b n ∷ []))
    ∙ ap (λ xs. xs ++ row_at b n ∷ []) (filled_rows m b i n (λ k h. rows k (omega arith)))
    ∙ ap (λ r. first_rows m (i + n) ++ r ∷ []) (is_row m (i + n) (row_at b n) (rows n (omega arith)))
    ∙ ap (first_rows m) (sym (add-suc i n))
