-- Products: each is the exact one rounded, and rounding keeps the order.
-- Assumes nothing.
use Rattle.std.proofs.Common.{◌≡◌, ℕ, ◌+◌, ◌*◌, ◌≤◌, Bool, true, false, T, ap, inl, inr, mul-le-mul_right, mul-pos, arith}
use lib.Ieee.{Float, nan, inf, fin, Format, unlike, up, down, round, mul, le, fits}
use lib.Ieee.Scale.{finite}
use lib.Ieee.Positive.{den, den_pos}
use Rattle.rounding.specs.Fractions.{gain, loss, plus, less, Under, nought, one}
use Rattle.rounding.specs.Order.{Between}
use Rattle.rounding.specs.Rounded.{Rounds}
use Rattle.rounding.proofs.Order.{le→cross, le_trans, le_between}
use Rattle.rounding.proofs.Rounded.{nought_fits, rounds_rise, rounds_under, rounds_over}
use Rattle.rounding.proofs.Sums.{nothing_less}

product_signed : (f : Format) (s t : Bool) (a b c : ℕ) → Rounds f (round f (unlike s t) (a * b) c) (gain s a * gain t b + loss s a * loss t b) (gain s a * loss t b + loss s a * gain t b) c
product_signed f false false a b c = inl (omega arith, ap (λ (x : ℕ). round f false x c) (omega arith))
product_signed f false true a b c = inr (omega arith, ap (λ (x : ℕ). round f true x c) (omega arith))
product_signed f true false a b c = inr (omega arith, ap (λ (x : ℕ). round f true x c) (omega arith))
product_signed f true true a b c = inl (omega arith, ap (λ (x : ℕ). round f false x c) (omega arith))

pub mul_rounds : (f : Format) (x y : Float) → T (finite x) → T (finite y) → Rounds f (mul f x y) (plus x * plus y + less x * less y) (plus x * less y + less x * plus y) (den x * den y)
unfolding mul
mul_rounds f nan y p q = absurd p
mul_rounds f (inf s) y p q = absurd p
mul_rounds f (fin s m e) nan p q = absurd q
mul_rounds f (fin s m e) (inf t) p q = absurd q
mul_rounds f (fin s m e) (fin t n d) p q = product_signed f s t (m * up e) (n * up d) (down e * down d)

-- ---- by a factor Y / C that is not negative
scaled : (X x D X' x' D' Y C : ℕ) → Under X x D X' x' D'
    → Under (X * Y + x * 0) (X * 0 + x * Y) (D * C) (X' * Y + x' * 0) (X' * 0 + x' * Y) (D' * C)
scaled X x D X' x' D' Y C h = go (mul-le-mul_right (Y * C) h)
  where
    go : (X * D' + x' * D) * (Y * C) ≤ (X' * D + x * D') * (Y * C)
        → (X * Y + x * 0) * (D' * C) + (X' * 0 + x' * Y) * (D * C) ≤ (X' * Y + x' * 0) * (D * C) + (X * 0 + x * Y) * (D' * C)
    go h = omega arith

pub mul_rises_left : (f : Format) (x x' y : Float) → T (finite x) → T (finite x') → T (finite y) → le nought y ≡ true → le x x' ≡ true → le (mul f x y) (mul f x' y) ≡ true
mul_rises_left f x x' y p p' q h k =
    rounds_rise f (mul f x y) (mul f x' y) (plus x * plus y + less x * less y) (plus x * less y + less x * plus y) (den x * den y)
    (plus x' * plus y + less x' * less y) (plus x' * less y + less x' * plus y) (den x' * den y) (mul-pos (den_pos x) (den_pos y)) (mul-pos (den_pos x') (den_pos y))
    (mul_rounds f x y p q) (mul_rounds f x' y p' q)
    (rw (nothing_less y q h) (scaled (plus x) (less x) (den x) (plus x') (less x') (den x') (plus y) (den y) (le→cross x x' p p' k)))

scaled_right : (Y C X x D X' x' D' : ℕ) → Under X x D X' x' D'
    → Under (Y * X + 0 * x) (Y * x + 0 * X) (C * D) (Y * X' + 0 * x') (Y * x' + 0 * X') (C * D')
scaled_right Y C X x D X' x' D' h = go (mul-le-mul_right (Y * C) h)
  where
    go : (X * D' + x' * D) * (Y * C) ≤ (X' * D + x * D') * (Y * C)
        → (Y * X + 0 * x) * (C * D') + (Y * x' + 0 * X') * (C * D) ≤ (Y * X' + 0 * x') * (C * D) + (Y * x + 0 * X) * (C * D')
    go h = omega arith

pub mul_rises_right : (f : Format) (x y y' : Float) → T (finite x) → T (finite y) → T (finite y') → le nought x ≡ true → le y y' ≡ true → le (mul f x y) (mul f x y') ≡ true
mul_rises_right f x y y' p q q' h k =
    rounds_rise f (mul f x y) (mul f x y') (plus x * plus y + less x * less y) (plus x * less y + less x * plus y) (den x * den y)
    (plus x * plus y' + less x * less y') (plus x * less y' + less x * plus y') (den x * den y') (mul-pos (den_pos x) (den_pos y)) (mul-pos (den_pos x) (den_pos y'))
    (mul_rounds f x y p q) (mul_rounds f x y' p q')
    (rw (nothing_less x p h) (scaled_right (plus x) (den x) (plus y) (less y) (den y) (plus y') (less y') (den y') (le→cross y y' q q' k)))

-- two factors that are not negative
pub mul_rises : (f : Format) (x x' y y' : Float) → T (finite x) → T (finite x') → T (finite y) → T (finite y') → le nought x' ≡ true → le nought y ≡ true → le x x' ≡ true → le y y' ≡ true → le (mul f x y) (mul f x' y') ≡ true
mul_rises f x x' y y' p p' q q' g h k l = le_trans (mul f x y) (mul f x' y) (mul f x' y') (mul_rises_left f x x' y p p' q h k) (mul_rises_right f x' y y' p' q q' g l)

pub mul_between : (f : Format) (a b c d x y : Float) → T (finite b) → T (finite d) → le nought a ≡ true → le nought c ≡ true → Between a b x → Between c d y → Between (mul f a c) (mul f b d) (mul f x y)
mul_between f a b c d x y B D g h p q =
    let gx = le_trans nought a x g p.low in
    let hy = le_trans nought c y h q.low in
    let X = le_between nought b x tt B (record { low = gx; high = p.high }) in
    let Y = le_between nought d y tt D (record { low = hy; high = q.high }) in
    let A = le_between nought x a tt X (record { low = g; high = p.low }) in
    let C = le_between nought y c tt Y (record { low = h; high = q.low }) in
    record {
      low = mul_rises f a x c y A X C Y gx h p.low q.low;
      high = mul_rises f x b y d X B Y D (le_trans nought x b gx p.high) hy p.high q.high;
    }

pub mul_positive : (f : Format) (x y : Float) → T (finite x) → T (finite y) → le nought x ≡ true → le nought y ≡ true → le nought (mul f x y) ≡ true
mul_positive f x y p q h k =
    rounds_over f (mul f x y) nought (plus x * plus y + less x * less y) (plus x * less y + less x * plus y) (den x * den y) (mul-pos (den_pos x) (den_pos y)) tt (nought_fits f)
    (mul_rounds f x y p q) (rw (nothing_less x p h, nothing_less y q k) (go (plus x) (den x) (plus y) (den y)))
  where
    go : (X D Y C : ℕ) → Under 0 0 1 (X * Y + 0 * 0) (X * 0 + 0 * Y) (D * C)
    go X D Y C = omega arith

pub mul_no_larger : (f : Format) (x y : Float) → T (finite x) → T (fits f x) → T (finite y) → le nought x ≡ true → le y one ≡ true → le (mul f x y) x ≡ true
mul_no_larger f x y p t q h k =
    rounds_under f (mul f x y) x (plus x * plus y + less x * less y) (plus x * less y + less x * plus y) (den x * den y) (mul-pos (den_pos x) (den_pos y)) p t
    (mul_rounds f x y p q) (rw (nothing_less x p h) (go (plus x) (den x) (plus y) (less y) (den y) (le→cross y one q tt k)))
  where
    go : (X D Y y C : ℕ) → Under Y y C 1 0 1 → Under (X * Y + 0 * y) (X * y + 0 * Y) (D * C) X 0 D
    go X D Y y C h = step (mul-le-mul_right (X * D) h)
      where
        step : (Y * 1 + 0 * C) * (X * D) ≤ (1 * C + y * 1) * (X * D) → (X * Y + 0 * y) * D + 0 * (D * C) ≤ X * (D * C) + (X * y + 0 * Y) * D
        step h = omega arith
