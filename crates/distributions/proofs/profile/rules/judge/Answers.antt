-- Each exit is a case of `Breaks`, with what the tests before it left.
use Rattle.std.proofs.Common.{refl, arith}
use Rattle.std.proofs.lemmas.Bool.Decides.{nat_tests}
use Rattle.std.proofs.lemmas.Grind.{common_steps}
use Rattle.distributions.specs.Tables.{count, width, first, rising, last}
use Rattle.distributions.proofs.profile.rules.judge.Goals as goal
use Rattle.distributions.proofs.profile.rules.judge.Goals.{then-not-contains-via-then-not-contains, then-not-contains-via-else-not-contains+then-not-contains-2, then-not-contains-via-else-not-contains+else-not-contains-2+then-knots-ne0}

pub returns-then-not-contains : goal.returns-then-not-contains
returns-then-not-contains c =
    elim c.then-not-contains.branch [
      | then-not-contains-via-then-not-contains w ↦ record { place = 0; breaks = count (λ h. grind (arith, nat_tests, common_steps, h.some, h.most)); fault = refl }
      | then-not-contains-via-else-not-contains+then-not-contains-2 w ↦
          record { place = 0; breaks = width (grind (arith, nat_tests, common_steps)) (λ h. grind (arith, nat_tests, common_steps, h.some, h.most)); fault = refl }
      | then-not-contains-via-else-not-contains+else-not-contains-2+then-knots-ne0 w ↦
          record { place = 0; breaks = first (grind (arith, nat_tests, common_steps)) (grind (arith, nat_tests, common_steps)) w.if-knots-ne0.true; fault = refl }
    ]

pub returns-in-Some : goal.returns-in-Some
returns-in-Some c =
    record {
      place = c.in-Some.i;
      breaks = rising (grind (arith, nat_tests)) (grind (arith, nat_tests)) c.if-knots-ne0.false c.in-Some.ensures;
      fault = refl;
    }

pub returns-then-knots-n-eq0 : goal.returns-then-knots-n-eq0
returns-then-knots-n-eq0 c =
    record {
      place = _;
      breaks = last (grind (arith, nat_tests)) (grind (arith, nat_tests)) c.if-knots-ne0.false c.in_default.ensures c.if-knots-n-eq0.true refl;
      fault = refl;
    }
