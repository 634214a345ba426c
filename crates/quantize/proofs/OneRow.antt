-- A bracket of one row is the row that holds the quantile. Assumes nothing.
use Rattle.std.proofs.Common.{ℕ, ◌<◌, ◌≤◌, subst, add-one, arith}
use Rattle.models.specs.Meaning.{Meaning, Holds}
use Rattle.quantize.specs.Brackets.{Bracket}

pub bracket_holds : (m : Meaning) (q row left right : ℕ) → Bracket m q 1 row left right → Holds m q row
bracket_holds m q row left right b = record {
  within = omega arith;
  from = subst (λ n. n ≤ q) b.left_is b.from;
  below = subst (λ n. q < m.start n) (add-one row) (subst (λ n. q < n) b.right_is b.below);
}
