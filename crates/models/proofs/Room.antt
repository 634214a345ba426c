-- A model has at most 2 ^ 32 rows, so that every row has its index. Assumes nothing.
use Rattle.std.proofs.Common.{ℕ, suc, ◌^◌, ◌≤◌, arith, pow_mono}
use Rattle.models.specs.Meaning.{Meaning, Partition}
use Rattle.models.proofs.Cuts.{span_fits}

pub rows_few : (m : Meaning) (width : ℕ) → Partition m → m.bits ≤ width → width ≤ 32 → suc m.span ≤ 2 ^ 32
rows_few m width cuts fits narrow =
    let within : m.bits ≤ 32 = omega arith in
    omega (arith, span_fits m cuts, pow_mono within)
