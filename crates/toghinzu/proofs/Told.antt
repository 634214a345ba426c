-- What a `?` hands on where a model is refused. Assumes nothing.
use Rattle.std.proofs.Common.{◌≡◌, IsErrAnd, Ok, Err, Result, ap}
use Rattle.records.specs.declared.fault.RecordFault.{RecordFault}
use Rattle.toghinzu.specs.declared.refused.Refused.{Refused}
use Rattle.toghinzu.specs.declared.refused.Refused.TheVariants.{Fault}

pub carried : {T : Type 0} (f : RecordFault) (r : Result T Refused) → IsErrAnd r (λ e. e ≡ Fault f) → r ≡ Err (Fault f)
carried f (Ok x) is = absurd is
carried f (Err e) is = ap Err is
