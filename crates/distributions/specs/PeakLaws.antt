-- The two height laws of every Peak: below the centre a tail that rises to 0.5, from the centre on a crest that rises from it.
-- Assumes nothing.
use Rattle.std.specs.Prelude.{◌≡◌, true, false, cond, pos, refl, Float}
use Rattle.std.proofs.Common.{sym, ◌∙◌, true≢false}
use Rattle.std.specs.Float.Ieee.{le, lt, neg}
use Rattle.std.proofs.lemmas.Bool.{cond_both, and_parts}
use Rattle.models.specs.Heights.{InReach, Lawful}
use Rattle.rounding.specs.Fractions.{nought, half, one, power}
use Rattle.rounding.specs.Order.{Between}
use Rattle.rounding.specs.Ranges.{Centre, Scale, Away, tail, crest}
use Rattle.rounding.specs.Wholes.{OnLine}
use Rattle.rounding.proofs.Laws.{order_laws, range_laws}
use Rattle.rounding.proofs.Order.{finite_number, right_number}
use Rattle.distributions.specs.Peak.{lowest, highest, narrowest, widest, within, in_limits, scaled, mass_at, height_at}

-- a scaled distance goes no further than 2 ^ 61 either way
abbrev Near : Float → Type 0
Near z = Between (power true (pos 61)) (power false (pos 61)) z

zeros : le nought (neg nought) ≡ true
unfolding le neg
zeros = refl

half_above : le nought half ≡ true
unfolding le
half_above = refl

half_below_lem : le half one ≡ true
unfolding le
half_below_lem = refl

-- z as a distance, on either side of the centre
before : (z : Float) → Near z → lt z nought ≡ true → Away (neg z)
unfolding neg
before z r l = record { low = order_laws.transitive nought (neg nought) (neg z) zeros (order_laws.turned z nought (order_laws.strict z nought l)); high = order_laws.turned (power true (pos 61)) z r.low }

after : (z : Float) → Near z → lt z nought ≡ false → Away z
after z r l = record { low = order_laws.from_not_lt z nought (right_number (power true (pos 61)) z r.low) (finite_number nought tt) l; high = r.high }

mass_from : (z : Float) → Near z → le nought (mass_at z) ≡ true
unfolding mass_at
mass_from z r =
    cond_both (lt z nought) (tail (neg z)) (crest z) (λ h. le nought h ≡ true)
    (λ l. (range_laws.tail_between (neg z) (before z r l)).low)
    (λ l. order_laws.transitive nought half (crest z) half_above (range_laws.crest_between z (after z r l)).low)

mass_to : (z : Float) → Near z → le (mass_at z) one ≡ true
unfolding mass_at
mass_to z r =
    cond_both (lt z nought) (tail (neg z)) (crest z) (λ h. le h one ≡ true)
    (λ l. order_laws.transitive (tail (neg z)) half one (range_laws.tail_between (neg z) (before z r l)).high half_below_lem)
    (λ l. (range_laws.crest_between z (after z r l)).high)

mass_rises : (z w : Float) → Near z → Near w → le z w ≡ true → le (mass_at z) (mass_at w) ≡ true
unfolding mass_at
mass_rises z w r q l =
    cond_both (lt z nought) (tail (neg z)) (crest z) (λ h. le h (cond (lt w nought) (tail (neg w)) (crest w)) ≡ true)
    (λ a. cond_both (lt w nought) (tail (neg w)) (crest w) (λ h. le (tail (neg z)) h ≡ true)
    (λ b. range_laws.tail_falls (neg w) (neg z) (before w q b) (before z r a) (order_laws.turned z w l))
    (λ b. order_laws.transitive (tail (neg z)) half (crest w) (range_laws.tail_between (neg z) (before z r a)).high (range_laws.crest_between w (after w q b)).low))
    (λ a. cond_both (lt w nought) (tail (neg w)) (crest w) (λ h. le (crest z) h ≡ true)
    (λ b. absurd (true≢false (sym b ∙ order_laws.not_lt nought w (order_laws.transitive nought z w (after z r a).low l))))
    (λ b. range_laws.crest_rises z w (after z r a) (after w q b) l))

pub peak_lawful : (m s : Float) → le lowest m ≡ true → le m highest ≡ true → le narrowest s ≡ true → le s widest ≡ true → Lawful (height_at m s)
unfolding scaled
peak_lawful m s h k i j =
    let centre : Centre m = record { low = h; high = k } in
    let scale : Scale s = record { low = i; high = j } in
    let on : (x : Float) → InReach x → OnLine x = λ x r. record { low = r.from; high = r.to } in
    let near : (x : Float) → InReach x → Near (scaled m s x) = λ x r. range_laws.within x m s (on x r) centre scale in
    record {
      from = λ x r. mass_from (scaled m s x) (near x r);
      to = λ x r. mass_to (scaled m s x) (near x r);
      rises = λ x y r q l. mass_rises (scaled m s x) (scaled m s y) (near x r) (near y q) (range_laws.rises x y m s (on x r) (on y q) centre scale l);
    }

-- the same by the test of both limits
pub limits_lawful : (m s : Float) → in_limits m s ≡ true → Lawful (height_at m s)
limits_lawful m s h =
    let both = and_parts (within lowest highest m) (within narrowest widest s) h in
    let centre = and_parts (le lowest m) (le m highest) both.0 in
    let scale = and_parts (le narrowest s) (le s widest) both.1 in
    peak_lawful m s centre.0 centre.1 scale.0 scale.1
