use Rattle.std.proofs.Common.{◌≡◌, ◌-◌, ◌/◌, refl, inl, inr, arith}
use Rattle.std.proofs.lemmas.Bool.{cases_lt}
use Rattle.uniform.specs.Uniform.{uniform}
use Rattle.uniform.proofs.Even.{quotient_holds, last_holds}
use Rattle.uniform.proofs.model.UniformModel.row_of.Goals as goal

pub returns : goal.returns
returns g c =
    let self = c.args.self.now in
    let q = c.args.quantile in
    let m = uniform self.precision self.range in
    elim (cases_lt (q / self.length) (self.range - 1)) [
      | inl below ↦
          let at : c.min.result ≡ q / self.length = omega (arith, c.min.ensures, below) in
          rw at (quotient_holds _ _ self.many self.room q _ _ self.even refl below)
      | inr past ↦
          let at : c.min.result ≡ self.range - 1 = omega (arith, c.min.ensures, past) in
          rw at (last_holds _ _ self.many self.room q _ _ self.even refl c.requires past)
    ]
