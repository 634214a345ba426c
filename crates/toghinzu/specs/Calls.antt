-- What each call does with what it is handed. The status is 0 where it did what it says, the number of the refusal, or -1 where
-- there is nothing to answer. `due` is the refusal of the channel that was handed over, `m` what its model means. Assumes nothing.
use Rattle.std.specs.Prelude.{◌≡◌, ℕ, ℤ, pos, negsuc, Some, None, Ok, Err, Option}
use Rattle.models.specs.Answers.{Encodes, Searches}
use Rattle.models.specs.Meaning.{Meaning}
use Rattle.models.specs.declared.fault.ModelFault.TheVariants.{Beyond}
use Rattle.channel.specs.Events.{Buffers}
use Rattle.channel.specs.Rows.{Row}
use Rattle.channel.specs.Steps.{State, itself, Filled}
use Rattle.records.specs.Faults.{number_of}
use Rattle.records.specs.declared.fault.RecordFault.{RecordFault}
use Rattle.records.specs.declared.fault.RecordFault.TheVariants.{Model}
use Rattle.toghinzu.specs.declared.parts.Interval.{Interval}

-- Opening: the place holds the channel that was asked for, or it is refused and left as it was.
pub data Opened {C : Type 0} (due : Option RecordFault) (asked before after : C) (status : ℤ) : Type 0 where
  refused : (f : RecordFault) → due ≡ Some f → status ≡ pos (number_of f) → after ≡ before → Opened due asked before after status
  opened : due ≡ None → status ≡ pos 0 → after ≡ asked → Opened due asked before after status

-- Encode at the whole number z: the symbol's interval is written, or nothing is.
pub data Encoded (due : Option RecordFault) (m : Meaning) (z : ℤ) (before after : Interval) (status : ℤ) : Type 0 where
  refused : (f : RecordFault) → due ≡ Some f → status ≡ pos (number_of f) → after ≡ before → Encoded due m z before after status
  outside : due ≡ None → status ≡ negsuc 0 → Encodes {P = ℕ} itself m z None → after ≡ before → Encoded due m z before after status
  answered : due ≡ None → status ≡ pos 0 → Encodes itself m z (Some (after.start, after.length)) → Encoded due m z before after status

-- Search at the quantile q: the one row that holds it is written, or nothing is. `row` reads a written row.
pub data Searched {R : Type 0} (row : R → Row) (due : Option RecordFault) (m : Meaning) (q : ℕ) (before after : R) (status : ℤ) : Type 0 where
  refused : (f : RecordFault) → due ≡ Some f → status ≡ pos (number_of f) → after ≡ before → Searched row due m q before after status
  beyond :
      due ≡ None → status ≡ pos (number_of (Model Beyond)) → Searches {S = ℤ} {P = ℕ} itself itself m q (Err Beyond) → after ≡ before
      → Searched row due m q before after status
  answered : due ≡ None → status ≡ pos 0 → Searches itself itself m q (Ok (row after)) → Searched row due m q before after status

-- What a fill can change: the channel, the buffers and the count.
pub record Places (C : Type 0) : Type 0 where
  pub channel : C
  pub buffers : Buffers
  pub count : ℕ

-- Fill from the state s on: the rows and their count are written, and the walk goes on by as many, or nothing is written.
-- `onward` is the channel after so many rows.
pub data Paged {C : Type 0} (onward : C → ℕ → C) (due : Option RecordFault) (s : State) (before after : Places C) (status : ℤ) : Type 0 where
  refused : (f : RecordFault) → due ≡ Some f → status ≡ pos (number_of f) → after ≡ before → Paged onward due s before after status
  filled :
      due ≡ None → status ≡ pos 0 → Filled s before.buffers after.buffers after.count
      → after.channel ≡ onward before.channel after.count → Paged onward due s before after status
