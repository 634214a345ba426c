-- The answers of typed calls as whole numbers: what events hold. Assumes nothing.
use Rattle.std.specs.Prelude.{ℕ, List, map, ℤ, Ok, Err, Result, Float}
use Rattle.channel.specs.Events.{Buffers}
use Rattle.channel.specs.Rows.{Row}

-- a row with shares of 1
abbrev pub shares_is : {S : Type 0} → (S → ℤ) → S × Float × Float → ℤ × Float × Float
shares_is whole r = (whole r.0, r.1, r.2)

module _ {S P : Type 0} (whole : S → ℤ) (value : P → ℕ) where
  abbrev pub pair_of : P × P → ℕ × ℕ
  pair_of r = (value r.0, value r.1)

  abbrev pub row_is : S × P × P → Row
  row_is r = (whole r.0, value r.1, value r.2)

  abbrev pub found_is : {F : Type 0} → Result (S × P × P) F → Result Row F
  found_is (Ok r) = Ok (row_is r)
  found_is (Err f) = Err f

  abbrev pub buffers_of : List S → List P → List P → Buffers
  buffers_of symbols starts lengths =
      record { symbols = map whole symbols; starts = map value starts; lengths = map value lengths }
