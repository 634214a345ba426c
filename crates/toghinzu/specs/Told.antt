-- How an answer is told: its status, and what stands in the place of the caller afterwards. Assumes nothing.
use Rattle.std.specs.Prelude.{ℤ, pos, negsuc, Ok, Err, Result}
use Rattle.records.specs.Faults.{number_of}
use Rattle.toghinzu.specs.declared.refused.Refused.{Refused}
use Rattle.toghinzu.specs.declared.refused.Refused.TheVariants.{Fault, Outside}

abbrev pub status_of : {T : Type 0} → Result T Refused → ℤ
status_of (Ok x) = pos 0
status_of (Err (Fault f)) = pos (number_of f)
status_of (Err Outside) = negsuc 0

-- the answer, or what stood there before where there is none
abbrev pub place_of : {T : Type 0} → T → Result T Refused → T
place_of before (Ok x) = x
place_of before (Err r) = before
