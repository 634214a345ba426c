-- A log of typed calls with their answers, as calls and as events. Assumes nothing.
use Rattle.std.specs.Prelude.{ℕ, replicate, ℤ, vec_items}
use Rattle.std.specs.Option.{option_map}
use Rattle.measures.specs.Logarithms.{fine}
use Rattle.models.specs.Heights.{Height}
use Rattle.channel.specs.Answered.{pair_of, row_is, found_is, shares_is, buffers_of}
use Rattle.channel.specs.Events.{encoded, searched, likely, tabled, measured, Event, asked, stepped, filled, rewound, retuned}
use Rattle.histories.specs.declared.replay.Call.{Call}
use Rattle.histories.specs.declared.replay.Call.TheVariants.{Encode, Search, Probability, TableRow, Entropy, Next, Fill, Rewind, Retune}
use Rattle.histories.specs.declared.replay.Entry.{Entry}
use Rattle.histories.specs.declared.replay.Entry.TheVariants.{Encoded, Searched, Likely, Tabled, Measured, Stepped, Filled, Rewound, Retuned}
use Rattle.histories.specs.declared.replay.Page.{Page}
use Rattle.histories.specs.declared.replay.Slots.{Slots}
use Rattle.std.specs.declared.convert.Infallible.{Infallible}

-- what tunes a model that cannot be tuned: nothing
abbrev pub untunable : Infallible → Height
untunable never = elim never [ ]

-- the call that an entry answers
abbrev pub call_of : {S P T : Type 0} → Entry S P T → Call S P T
call_of (Encoded s a) = Encode s
call_of (Searched q a) = Search q
call_of (Likely s r) = Probability s
call_of (Tabled i a) = TableRow i
call_of (Measured r) = Entropy
call_of (Stepped a) = Next
call_of (Filled slots page) = Fill slots
call_of Rewound = Rewind
call_of (Retuned t) = Retune t

module _ {S P : Type 0} (whole : S → ℤ) (value : P → ℕ) where
  -- a fill of fresh buffers
  abbrev pub page_event : Slots S P → Page S P → Event
  page_event slots page =
      filled
      (buffers_of whole value (replicate slots.symbols slots.symbol) (replicate slots.starts slots.probability) (replicate slots.lengths slots.probability))
      (buffers_of whole value (vec_items page.symbols) (vec_items page.starts) (vec_items page.lengths))
      page.count

  -- what happened, in whole numbers, floats and heights
  abbrev pub event_of : {T : Type 0} → (T → Height) → Entry S P T → Event
  event_of heights (Encoded s a) = asked (encoded (whole s) (option_map (pair_of whole value) a))
  event_of heights (Searched q a) = asked (searched (value q) (found_is whole value a))
  event_of heights (Likely s r) = asked (likely (whole s) r)
  event_of heights (Tabled i a) = asked (tabled i (option_map (shares_is whole) a))
  event_of heights (Measured r) = asked (measured fine r)
  event_of heights (Stepped a) = stepped (option_map (row_is whole value) a)
  event_of heights (Filled slots page) = page_event slots page
  event_of heights Rewound = rewound
  event_of heights (Retuned t) = retuned (heights t)
