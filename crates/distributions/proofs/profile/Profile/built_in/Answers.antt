-- The built-in table keeps the rules.
use Rattle.std.proofs.Common.{ℕ, zero, suc, ◌-◌, ◌<◌, ◌≤◌, [], ◌∷◌, get_or, refl, zero-le, arith, lit<, lit≤}
use Rattle.std.proofs.lemmas.Int.{ints}
use Rattle.distributions.proofs.profile.Profile.built_in.Goals as goal

ramp-rises : (i : ℕ) → i < 2 → get_or (0 ∷ 1 ∷ []) (i - 1) 0 ≤ get_or (0 ∷ 1 ∷ []) i 0
ramp-rises zero h = zero-le
ramp-rises (suc zero) h = zero-le
ramp-rises (suc (suc i)) h = omega arith

pub invariant_of-result : goal.invariant_of-result
invariant_of-result c =
    record {
      low = omega (arith, ints);
      high = omega (arith, ints);
      held = lit< tt;
      sound =
          record {
            counted = record { some = lit≤ tt; most = lit≤ tt };
            wide = record { some = lit≤ tt; most = lit≤ tt };
            first = refl;
            rising = ramp-rises;
            last = lit< tt;
          };
    }
