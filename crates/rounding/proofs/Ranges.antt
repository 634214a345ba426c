-- The chains of `Ranges`: the order goes through each step, and the ends of a range compute.
-- Assumes nothing.
use Rattle.std.proofs.Common.{◌≡◌, true, false, T, pos, negsuc, refl, subst}
use lib.Ieee.{Float, binary64, add, sub, div, le, lt, fits}
use lib.Ieee.Scale.{finite}
use Rattle.rounding.specs.Fractions.{nought, one, half, power}
use Rattle.rounding.specs.Order.{Between}
use Rattle.rounding.specs.Wholes.{OnLine}
use Rattle.rounding.specs.Ranges.{scaled, Centre, Scale, Away, tail, crest}
use Rattle.rounding.proofs.Order.{le_trans, le_refl, le_between, between_widens, finite_number}
use Rattle.rounding.proofs.Rounded.{one_fits}
use Rattle.rounding.proofs.Sums.{add_rises, sub_rises, sub_between, add_above, sub_under}
use Rattle.rounding.proofs.Quotients.{above_zero, div_rises, div_falls, div_rises_negative, div_positive, div_no_larger, nought_one}

-- ---- the argument, moved and scaled
pub on_line_finite : (x : Float) → OnLine x → T (finite x)
on_line_finite x b = le_between (power true (pos 33)) (power false (pos 33)) x tt tt b

pub centre_finite : (m : Float) → Centre m → T (finite m)
centre_finite m b = le_between (power true (pos 40)) (power false (pos 40)) m tt tt b

pub scale_finite : (s : Float) → Scale s → T (finite s)
scale_finite s b = le_between (power false (negsuc 19)) (power false (pos 40)) s tt tt b

least_scale : lt nought (power false (negsuc 19)) ≡ true
unfolding lt
least_scale = refl

pub scale_positive : (s : Float) → Scale s → lt nought s ≡ true
scale_positive s b = above_zero (power false (negsuc 19)) s least_scale b.low

moved_low : le (power true (pos 41)) (sub binary64 (power true (pos 33)) (power false (pos 40))) ≡ true
unfolding le sub
moved_low = refl

moved_high : le (sub binary64 (power false (pos 33)) (power true (pos 40))) (power false (pos 41)) ≡ true
unfolding le sub
moved_high = refl

pub moved_between : (x m : Float) → OnLine x → Centre m → Between (power true (pos 41)) (power false (pos 41)) (sub binary64 x m)
moved_between x m b d =
    between_widens (sub binary64 (power true (pos 33)) (power false (pos 40))) (power true (pos 41)) (sub binary64 (power false (pos 33)) (power true (pos 40))) (power false (pos 41)) (sub binary64 x m) moved_low moved_high
    (sub_between binary64 (power true (pos 33)) (power false (pos 33)) (power true (pos 40)) (power false (pos 40)) x m tt tt tt tt b d)

pub moved_finite : (x m : Float) → OnLine x → Centre m → T (finite (sub binary64 x m))
moved_finite x m b d = le_between (power true (pos 41)) (power false (pos 41)) (sub binary64 x m) tt tt (moved_between x m b d)

-- the widest quotients
scaled_low : le (power true (pos 61)) (div binary64 (power true (pos 41)) (power false (negsuc 19))) ≡ true
unfolding le div
scaled_low = refl

scaled_high : le (div binary64 (power false (pos 41)) (power false (negsuc 19))) (power false (pos 61)) ≡ true
unfolding le div
scaled_high = refl

signs : (le (power true (pos 41)) nought ≡ true) × (le nought (power false (pos 41)) ≡ true)
unfolding le
signs = (refl, refl)

pub scaled_between : (x m s : Float) → OnLine x → Centre m → Scale s → Between (power true (pos 61)) (power false (pos 61)) (scaled x m s)
scaled_between x m s b d t =
    let p = moved_finite x m b d in
    let q = scale_finite s t in
    let h = scale_positive s t in
    let lo = power true (pos 41) in
    let hi = power false (pos 41) in
    let s' = power false (negsuc 19) in
    record {
      low =
          le_trans (power true (pos 61)) (div binary64 lo s) (scaled x m s)
          (le_trans (power true (pos 61)) (div binary64 lo s') (div binary64 lo s) scaled_low (div_rises_negative binary64 lo s' s tt tt q signs.0 least_scale t.low))
          (div_rises binary64 lo (sub binary64 x m) s tt p q h (moved_between x m b d).low);
      high =
          le_trans (scaled x m s) (div binary64 hi s) (power false (pos 61)) (div_rises binary64 (sub binary64 x m) hi s p tt q h (moved_between x m b d).high)
          (le_trans (div binary64 hi s) (div binary64 hi s') (power false (pos 61)) (div_falls binary64 hi s' s tt tt q signs.1 least_scale t.low) scaled_high);
    }

pub scaled_finite : (x m s : Float) → OnLine x → Centre m → Scale s → T (finite (scaled x m s))
scaled_finite x m s b d t = le_between (power true (pos 61)) (power false (pos 61)) (scaled x m s) tt tt (scaled_between x m s b d t)

pub scaled_rises : (x y m s : Float) → OnLine x → OnLine y → Centre m → Scale s → le x y ≡ true → le (scaled x m s) (scaled y m s) ≡ true
scaled_rises x y m s b c d t h =
    let q = centre_finite m d in
    div_rises binary64 (sub binary64 x m) (sub binary64 y m) s (moved_finite x m b d) (moved_finite y m c d) (scale_finite s t) (scale_positive s t)
    (sub_rises binary64 x y m m (on_line_finite x b) (on_line_finite y c) q q h (le_refl m (finite_number m q)))

-- ---- the curve
pub away_finite : (u : Float) → Away u → T (finite u)
away_finite u a = le_between nought (power false (pos 61)) u tt tt a

one_above : (u : Float) → Away u → le one (add binary64 one u) ≡ true
one_above u a = add_above binary64 one u tt (one_fits binary64) (away_finite u a) a.low

widest : le (add binary64 one (power false (pos 61))) (power false (pos 62)) ≡ true
unfolding le add
widest = refl

divisor_rises : (u v : Float) → Away u → Away v → le u v ≡ true → le (add binary64 one u) (add binary64 one v) ≡ true
divisor_rises u v a b h = add_rises binary64 one one u v tt tt (away_finite u a) (away_finite v b) (le_refl one (finite_number one tt)) h

divisor_finite : (u : Float) → Away u → T (finite (add binary64 one u))
divisor_finite u a =
    le_between one (power false (pos 62)) (add binary64 one u) tt tt
    (record { low = one_above u a; high = le_trans (add binary64 one u) (add binary64 one (power false (pos 61))) (power false (pos 62)) (add_rises binary64 one one u (power false (pos 61)) tt tt (away_finite u a) tt (le_refl one (finite_number one tt)) a.high) widest })

divisor_positive : (u : Float) → Away u → lt nought (add binary64 one u) ≡ true
divisor_positive u a = above_zero one (add binary64 one u) nought_one (one_above u a)

half_fits : T (fits binary64 half)
unfolding fits
half_fits = tt

half_positive : le nought half ≡ true
unfolding le
half_positive = refl

pub tail_between : (u : Float) → Away u → Between nought half (tail u)
tail_between u a = record {
  low = div_positive binary64 half (add binary64 one u) tt (divisor_finite u a) half_positive (divisor_positive u a);
  high = div_no_larger binary64 half (add binary64 one u) tt half_fits (divisor_finite u a) half_positive (one_above u a);
}

pub tail_falls : (u v : Float) → Away u → Away v → le u v ≡ true → le (tail v) (tail u) ≡ true
tail_falls u v a b h =
    div_falls binary64 half (add binary64 one u) (add binary64 one v) tt (divisor_finite u a) (divisor_finite v b) half_positive (divisor_positive u a) (divisor_rises u v a b h)

pub tail_finite : (u : Float) → Away u → T (finite (tail u))
tail_finite u a = le_between nought half (tail u) tt tt (tail_between u a)

halved : sub binary64 one half ≡ half
unfolding sub
halved = refl

pub crest_between : (u : Float) → Away u → Between half one (crest u)
crest_between u a = record {
  low = subst (λ (z : Float). le z (crest u) ≡ true) halved (sub_rises binary64 one one half (tail u) tt tt tt (tail_finite u a) (le_refl one (finite_number one tt)) (tail_between u a).high);
  high = sub_under binary64 one (tail u) tt (one_fits binary64) (tail_finite u a) (tail_between u a).low;
}

pub crest_rises : (u v : Float) → Away u → Away v → le u v ≡ true → le (crest u) (crest v) ≡ true
crest_rises u v a b h = sub_rises binary64 one one (tail u) (tail v) tt tt (tail_finite u a) (tail_finite v b) (le_refl one (finite_number one tt)) (tail_falls u v a b h)
