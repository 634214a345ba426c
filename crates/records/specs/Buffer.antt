-- What appending to a buffer of bytes does.
use Rattle.std.specs.Prelude.{◌≡◌, ℕ, ◌+◌, ◌≤◌, true, cond, List, [], ◌++◌, length, is_ok, vec_items, vec_len, vec_capacity, Result, Vec}

module _ {Z : Type 0} where
  -- n more bytes fit without taking memory
  abbrev pub Room : Vec ℕ Z → ℕ → Type 0
  Room v n = vec_len v + n ≤ vec_capacity v

  -- w is v with the bytes bs at its end, in the same memory
  pub record Added (v : Vec ℕ Z) (bs : List ℕ) (w : Vec ℕ Z) : Type 0 where
    pub items : vec_items w ≡ vec_items v ++ bs
    pub len : vec_len w ≡ vec_len v + length bs
    pub capacity : vec_capacity w ≡ vec_capacity v

  -- the call appended all of bs, or answered an error and left the bytes as they were; where n more bytes fit, it appended
  pub record Appended {E : Type 0} (n : ℕ) (v : Vec ℕ Z) (bs : List ℕ) (r : Result (Unit {0}) E) (w : Vec ℕ Z) : Type 0 where
    pub items : vec_items w ≡ cond (is_ok r) (vec_items v ++ bs) (vec_items v)
    pub succeeds : Room v n → is_ok r ≡ true

  -- w is v with no bytes, in the same memory
  pub record Emptied (v w : Vec ℕ Z) : Type 0 where
    pub items : vec_items w ≡ []
    pub len : vec_len w ≡ 0
    pub capacity : vec_capacity w ≡ vec_capacity v
