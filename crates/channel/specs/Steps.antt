-- What each call of a channel does, and what a list of calls does. Assumes nothing.
use Rattle.std.specs.Prelude.{◌≡◌, ℕ, suc, ◌+◌, ◌-◌, ◌<◌, ◌≤◌, List, [], ◌∷◌, length, ℤ, pos, negsuc, ◌+ℤ◌, ◌≤ℤ◌, Some, None, Option, slice_index_or}
use Rattle.measures.specs.Entropies.{Entropy, CrossEntropy}
use Rattle.measures.specs.Shares.{Likely, ListsShares}
use Rattle.models.specs.Answers.{Encodes, IsRow, Lists, Searches}
use Rattle.models.specs.Heights.{Height, Lawful}
use Rattle.models.specs.Meaning.{Meaning}
use Rattle.quantize.specs.Quantized.{quantized}
use Rattle.channel.specs.Events.{Buffers, room, row_at, Asked, encoded, searched, likely, tabled, measured, compared, Event, asked, stepped, filled, rewound, retuned}
use Rattle.channel.specs.Rows.{Row}
use Rattle.channel.specs.declared.walk.Channel.{Channel}

-- A channel as it stands: what its model means, and how many rows its walk has handed out. It knows nothing of its make.
pub record State : Type 0 where
  pub means : Meaning
  pub row : ℕ

abbrev pub at : Meaning → ℕ → State
at m i = record { means = m; row = i }

-- how a channel stands, by what its model means
abbrev pub state_of : {M : Type 0} → (M → Meaning) → Channel M → State
state_of meaning c = at (meaning c.model) c.row

-- a whole number is what it is
abbrev pub itself : {X : Type 0} → X → X
itself x = x

-- Where next stands after it answered: one row further, or where it was.
abbrev pub onward : State → Option Row → State
onward s None = s
onward s (Some r) = at s.means (suc s.row)

-- A fill writes n rows: at most as many as the shortest buffer holds and as there are rows left, and one at least where there is
-- a slot and a row. Entries past the count keep their contents. n is free between these bounds.
pub record Filled (s : State) (before after : Buffers) (n : ℕ) : Type 0 where
  pub held : n ≤ room before
  pub left : n ≤ suc s.means.span - s.row
  pub some : 0 < room before → s.row ≤ s.means.span → 0 < n
  pub rows : (k : ℕ) → k < n → IsRow itself itself s.means (s.row + k) (row_at after k)
  pub symbols_kept : (k : ℕ) (d : ℤ) → n ≤ k → slice_index_or after.symbols k d ≡ slice_index_or before.symbols k d
  pub starts_kept : (k d : ℕ) → n ≤ k → slice_index_or after.starts k d ≡ slice_index_or before.starts k d
  pub lengths_kept : (k d : ℕ) → n ≤ k → slice_index_or after.lengths k d ≡ slice_index_or before.lengths k d
  pub symbols_long : length after.symbols ≡ length before.symbols
  pub starts_long : length after.starts ≡ length before.starts
  pub lengths_long : length after.lengths ≡ length before.lengths

-- A retune hands over lawful heights. The support and P stay, and lie within what symbol and probability types have.
pub record Retuned (m : Meaning) (h : Height) (m' : Meaning) : Type 0 where
  pub lawful : Lawful h
  pub from : negsuc 2147483647 ≤ℤ m.low
  pub to : (m.low +ℤ pos m.span) ≤ℤ pos 4294967295
  pub narrow : m.bits ≤ 32
  pub means : m' ≡ quantized m.low m.span m.bits h

-- What is asked is answered by what the model means.
abbrev pub Truthful : Meaning → Asked → Type 0
Truthful m (encoded z a) = Encodes itself m z a
Truthful m (searched q a) = Searches itself itself m q a
Truthful m (likely z r) = Likely m z r
Truthful m (tabled i a) = ListsShares itself m i a
Truthful m (measured log r) = Entropy log m r
Truthful m (compared log weights r) = CrossEntropy log m weights r

-- One call, from a state to the next. To ask changes nothing.
abbrev pub Step : State → Event → State → Type 0
Step s (asked a) t = (t ≡ s) × Truthful s.means a
Step s (stepped a) t = (t ≡ onward s a) × Lists itself itself s.means s.row a
Step s (filled before after n) t = (t ≡ at s.means (s.row + n)) × Filled s before after n
Step s rewound t = t ≡ at s.means 0
Step s (retuned h) t = (t.row ≡ 0) × Retuned s.means h t.means

-- A call that asks, and leaves the channel as it stands.
abbrev pub Asks : State → Asked → Type 0
Asks s a = Step s (asked a) s

-- A list of calls, one after the other.
abbrev pub Run : State → List Event → State → Type 0
Run s [] t = t ≡ s
Run s (e ∷ es) u = (t : State) × Step s e t × Run t es u
