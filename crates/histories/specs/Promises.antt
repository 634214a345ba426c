-- What every history of every channel keeps, and what two ends of a line share. Assumes nothing.
use Rattle.std.specs.Prelude.{◌≡◌, ℕ, suc, ◌+◌, ◌^◌, ◌<◌, ◌≤◌, true, List, length, ℤ, pos, negsuc, ◌+ℤ◌, ◌≤ℤ◌, Some, None, Ok, Option, Result}
use Rattle.std.specs.Float.Ieee.{eq}
use Rattle.models.specs.Answers.{Encodes}
use Rattle.models.specs.Heights.{Height, Lawful}
use Rattle.models.specs.Meaning.{Meaning, Holds}
use Rattle.models.specs.declared.fault.ModelFault.{ModelFault}
use Rattle.quantize.specs.Quantized.{quantized}
use Rattle.rounding.specs.Wholes.{half_below}
use Rattle.uniform.specs.Uniform.{uniform}
use Rattle.channel.specs.Events.{encoded, searched, Event, asked, stepped, handed, heights_after, Untuned}
use Rattle.channel.specs.Rows.{Row, row_of, first_rows}
use Rattle.channel.specs.Steps.{State, at, itself, Step, Run}

-- What a quantized channel is opened with: a support and a precision as the quantizer checks them, and the heights of a lawful distribution.
pub record Opening : Type 0 where
  pub low : ℤ
  pub span : ℕ
  pub bits : ℕ
  pub heights : Height
  pub from : negsuc 2147483647 ≤ℤ low
  pub to : (low +ℤ pos span) ≤ℤ pos 4294967295
  pub narrow : bits ≤ 32
  pub some : 0 < span
  pub room : span < 2 ^ bits
  pub lawful : Lawful heights

-- what the channel means after a list of calls: the intervals by the heights of the last retune, or of the opening
abbrev pub means_after : Opening → List Event → Meaning
means_after o es = quantized o.low o.span o.bits (heights_after o.heights es)

-- the state of the opened channel, its walk at row 0
abbrev pub opened : Opening → State
opened o = at (quantized o.low o.span o.bits o.heights) 0

-- The channel that stands at s after the calls es means m, and keeps to it.
pub record Kept (m : Meaning) (es : List Event) (s : State) : Type 0 where
  pub means : s.means ≡ m
  -- encode gives the intervals of m
  pub encodes : (z : ℤ) (a : Option (ℕ × ℕ)) (t : State) → Step s (asked (encoded z a)) t → Encodes itself m z a
  -- every number below 2 ^ bits lies in the interval of exactly one symbol
  pub covered : (q : ℕ) → q < 2 ^ m.bits → (i : ℕ) × Holds m q i
  pub once : (q i j : ℕ) → Holds m q i → Holds m q j → i ≡ j
  -- search answers it with that symbol, start and length
  pub finds : (q i : ℕ) (a : Result Row ModelFault) (t : State) → Holds m q i → Step s (asked (searched q a)) t → a ≡ Ok (row_of m i)
  -- the rows handed out are the first ones, without a gap
  pub first : handed es ≡ first_rows m (length (handed es))
  pub few : length (handed es) ≤ suc m.span
  -- next says ended exactly when none is left
  pub ended : (a : Option Row) (t : State) → Step s (stepped a) t → a ≡ None → length (handed es) ≡ suc m.span
  pub goes_on : (a : Option Row) (t : State) → Step s (stepped a) t → length (handed es) ≡ suc m.span → a ≡ None

-- For every quantized channel, and every list of calls since it was opened.
abbrev pub EveryHistory : Type 0
EveryHistory = (o : Opening) (es : List Event) (s : State) → Run (opened o) es s → Kept (means_after o es) es s

-- For every uniform channel, and every list of its calls, none of which is a retune.
abbrev pub EveryUniformHistory : Type 0
EveryUniformHistory =
    (bits range : ℕ) → 2 ≤ range → range ≤ 2 ^ bits → (es : List Event) (s : State) → Untuned es → Run (at (uniform bits range) 0) es s
    → Kept (uniform bits range) es s

-- Two channels of any makes have equal supports and precisions, and heights that agree as numbers half a step below each symbol but
-- the lowest.
pub record Alike (o o' : Opening) (es es' : List Event) : Type 0 where
  pub low : o'.low ≡ o.low
  pub span : o'.span ≡ o.span
  pub bits : o'.bits ≡ o.bits
  pub heights :
      (i : ℕ) → 0 < i → i ≤ o.span
      → eq (heights_after o.heights es (half_below (o.low +ℤ pos i))) (heights_after o'.heights es' (half_below (o.low +ℤ pos i))) ≡ true

-- Then every number of a symbol's interval on the first is answered by the second with the same symbol, start and length.
abbrev pub TwoEnds : Type 0
TwoEnds =
    (o o' : Opening) (es es' : List Event) (s s' : State) → Run (opened o) es s → Run (opened o') es' s' → Alike o o' es es'
    → (z : ℤ) (start length q : ℕ) (t : State) → Step s (asked (encoded z (Some (start, length)))) t → start ≤ q → q < start + length
    → (a : Result Row ModelFault) (t' : State) → Step s' (asked (searched q a)) t' → a ≡ Ok (z, start, length)
