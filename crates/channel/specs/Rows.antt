-- Rows of a table as whole numbers, so that channels of any make compare. Assumes nothing.
use Rattle.std.specs.Prelude.{ℕ, zero, suc, ◌-◌, List, [], ◌∷◌, ◌++◌, ℤ, pos, ◌+ℤ◌}
use Rattle.models.specs.Meaning.{Meaning}

-- a symbol, where its interval starts, and how long it is
abbrev pub Row : Type 0
Row = ℤ × ℕ × ℕ

-- row i of a model
abbrev pub row_of : Meaning → ℕ → Row
row_of m i = (m.low +ℤ pos i, m.start i, m.start (suc i) - m.start i)

-- the first n rows, rising from the lowest symbol without a gap
abbrev pub first_rows : Meaning → ℕ → List Row
first_rows m zero = []
first_rows m (suc n) = first_rows m n ++ row_of m n ∷ []
