-- The knots rise, so those of at most y come first; after the first knot there are as many of them as the last one's index says.
use Rattle.std.proofs.Common.{◌≡◌, ◌+◌, ◌-◌, ◌<◌, ◌≤◌, ◌∙◌, ℕ, List, true, false, drop, get_or, length, take, sym, ap, subst, length-drop, rules, arith}
use lib.Ieee.{Float, le}
use Rattle.std.specs.List.Sorted.{IsPartitionedBy, IsPartitionPoint}
use Rattle.std.proofs.lemmas.List.{take_rest}
use Rattle.std.proofs.lemmas.Grind.{get_or_after_one}
use Rattle.std.proofs.lemmas.List.Sorted.{IsPartitionPoint-from_clause}
use Rattle.distributions.specs.Parts.{parts_of}
use Rattle.distributions.specs.Profile.{whole}
use Rattle.distributions.proofs.Pieces.{later_parted, last_is}
use Rattle.distributions.proofs.profile.Profile.last_up_to.Goals as goal

-- of the knots after the first, the one before n is knot n
passed : (c : List ℕ) (y : Float) (n : ℕ) → 0 < n → le (whole (get_or (drop 1 c) (n - 1) 0)) y ≡ true → le (whole (get_or c n 0)) y ≡ true
passed c y n h e =
    subst (λ (x : ℕ). le (whole x) y ≡ true) (get_or_after_one c (n - 1) 0 ∙ ap (λ (i : ℕ). get_or c i 0) {x = 1 + (n - 1)} {y = n} (omega (arith, h))) e

left : (c : List ℕ) (y : Float) (n : ℕ) → 0 < n → le (whole (get_or (drop 1 c) (n - 1) 0)) y ≡ false → le (whole (get_or c n 0)) y ≡ false
left c y n h e =
    subst (λ (x : ℕ). le (whole x) y ≡ false) (get_or_after_one c (n - 1) 0 ∙ ap (λ (i : ℕ). get_or c i 0) {x = 1 + (n - 1)} {y = n} (omega (arith, h))) e

pub returns : goal.returns
returns c =
    let d = c.args.self.now in
    let knots = d.knots.now in
    let n = c.partition_point.result in
    let within : n + 1 ≤ length knots = omega (arith, d.sound.counted.some, c.partition_point.ensures.bound, length-drop 1 knots) in
    let later : take (length knots - 1) (drop 1 knots) ≡ drop 1 knots = take_rest knots 1 in
    let point =
    subst (λ (l : List ℕ). IsPartitionPoint (λ k. le (whole k) c.args.y ≡ true) (λ k. le (whole k) c.args.y ≡ false) l n) later
    (IsPartitionPoint-from_clause (λ (k : ℕ). le (whole k) c.args.y) _ _ c.partition_point.ensures.partitioned
    (subst (IsPartitionedBy (λ k. le (whole k) c.args.y)) (sym later) (later_parted knots c.args.y d.sound.rising)) (λ a r f k. search rules)) in
    record {
      within = omega (arith, within);
      last =
          last_is (parts_of d) c.args.y n (omega (arith, within)) (λ h. passed knots c.args.y n h (point.0 (n - 1) 0 (omega arith) (omega (arith, h))))
          (λ j h k. left knots c.args.y j (omega (arith, h)) (point.1 (j - 1) 0 (omega (arith, h)) (omega (arith, h, k, length-drop 1 knots))));
    }
