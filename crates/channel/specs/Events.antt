-- The calls of a channel with their answers, in whole numbers, floats and heights, and what a list of them hands out. Assumes nothing.
use Rattle.std.specs.Prelude.{◌≡◌, ℕ, zero, suc, min, List, [], ◌∷◌, ◌++◌, length, ℤ, pos, Some, None, Option, Result, slice_index, slice_index_or, Float}
use Rattle.std.specs.Option.{unwrap_or}
use Rattle.models.specs.Heights.{Height}
use Rattle.models.specs.declared.fault.ModelFault.{ModelFault}
use Rattle.channel.specs.Rows.{Row}

-- the three buffers of a fill
pub record Buffers : Type 0 where
  pub symbols : List ℤ
  pub starts : List ℕ
  pub lengths : List ℕ

-- how many rows the shortest buffer holds
abbrev pub room : Buffers → ℕ
room b = min (length b.symbols) (min (length b.starts) (length b.lengths))

-- the row that stands at index k
abbrev pub row_at : Buffers → ℕ → Row
row_at b k = (slice_index_or b.symbols k (pos 0), slice_index b.starts k, slice_index b.lengths k)

-- the rows that stand at the first n indices
abbrev pub rows_in : Buffers → ℕ → List Row
rows_in b zero = []
rows_in b (suc n) = rows_in b n ++ row_at b n ∷ []

-- the calls that only ask, with their answers
pub data Asked : Type 0 where
  -- encode at a whole number
  encoded : ℤ → Option (ℕ × ℕ) → Asked
  -- search at a quantile
  searched : ℕ → Result Row ModelFault → Asked
  -- the probability of a whole number
  likely : ℤ → Float → Asked
  -- a row by its index, its start and length as shares of 1
  tabled : ℕ → Option (ℤ × Float × Float) → Asked
  -- the entropy by a logarithm
  measured : (ℕ → ℕ) → Float → Asked
  -- the cross entropy by a logarithm, with a list of weights
  compared : (ℕ → ℕ) → List Float → Float → Asked

pub data Event : Type 0 where
  asked : Asked → Event
  -- next, with its answer
  stepped : Option Row → Event
  -- fill, with the buffers before and after, and the count
  filled : Buffers → Buffers → ℕ → Event
  rewound : Event
  -- retune, with the new distribution's heights
  retuned : Height → Event

-- The rows handed out since the walk last started, after those in `rows`: what next answered, and what stands in the buffers
-- of each fill up to its count. Only rewind and retune start the walk over.
abbrev pub handed_after : List Row → List Event → List Row
handed_after rows [] = rows
handed_after rows (asked a ∷ es) = handed_after rows es
handed_after rows (stepped None ∷ es) = handed_after rows es
handed_after rows (stepped (Some r) ∷ es) = handed_after (rows ++ r ∷ []) es
handed_after rows (filled before after n ∷ es) = handed_after (rows ++ rows_in after n) es
handed_after rows (rewound ∷ es) = handed_after [] es
handed_after rows (retuned h ∷ es) = handed_after [] es

abbrev pub handed : List Event → List Row
handed es = handed_after [] es

-- the heights that a call hands over
abbrev pub tuning : Event → Option Height
tuning (asked a) = None
tuning (stepped a) = None
tuning (filled before after n) = None
tuning rewound = None
tuning (retuned h) = Some h

-- the heights of the last retune, or h where there was none
abbrev pub heights_after : Height → List Event → Height
heights_after h [] = h
heights_after h (e ∷ es) = heights_after (unwrap_or (tuning e) h) es

-- no call of the list is a retune
abbrev pub Untuned : List Event → Type 0
Untuned [] = Unit {0}
Untuned (e ∷ es) = (tuning e ≡ None) × Untuned es
