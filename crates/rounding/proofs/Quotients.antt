-- Quotients by a value above zero: each is the exact one rounded, and rounding keeps the order.
-- Assumes nothing.
use Rattle.std.proofs.Common.{◌≡◌, ℕ, ◌+◌, ◌*◌, ◌<◌, ◌≤◌, Bool, true, false, cond, T, eqb, sym, refl, ap, ◌∙◌, subst, inl, inr, true≢false, lt_irrefl, mul-le-mul_right, eq-zero-or-pos, mul-pos, zero-mul, arith}
use lib.Ieee.{Float, nan, inf, fin, Format, unlike, up, down, round, div, le, lt, fits}
use lib.Ieee.Scale.{finite}
use lib.Ieee.Positive.{den, den_pos}
use Rattle.std.proofs.lemmas.Bool.{eqb-true, cases_Bool}
use Rattle.rounding.specs.Fractions.{gain, loss, plus, less, Under, nought, one}
use Rattle.rounding.specs.Order.{Between}
use Rattle.rounding.specs.Rounded.{Rounds}
use Rattle.rounding.proofs.Order.{lt→le, lt→not_le, le→cross, cross→le, le_trans, le_between, not_lt→le, finite_number, right_number}
use Rattle.rounding.proofs.Rounded.{nought_fits, one_fits, rounds_rise, rounds_under, rounds_over}
use Rattle.rounding.proofs.Sums.{nothing_less, nothing_more}

-- a value above zero has a numerator above zero
pub plus_pos : (y : Float) → T (finite y) → lt nought y ≡ true → 0 < plus y
plus_pos y p h = elim (eq-zero-or-pos (plus y)) [ inl z ↦ absurd (true≢false (sym (cross→le y nought p tt (go (plus y) (less y) (den y) z)) ∙ lt→not_le nought y h)) | inr l ↦ l ]
  where
    go : (a b c : ℕ) → a ≡ 0 → a * 1 + 0 * c ≤ 0 * c + b * 1
    go a b c z = omega arith

quotient_signed : (f : Format) (s : Bool) (a b c : ℕ) → Rounds f (round f (unlike s false) (a * b) c) (gain s a * b) (loss s a * b) c
quotient_signed f false a b c = inl (omega arith, ap (λ (x : ℕ). round f false x c) (omega arith))
quotient_signed f true a b c = inr (omega arith, ap (λ (x : ℕ). round f true x c) (omega arith))

no_zero : (n u : ℕ) → 0 < n * u → eqb n 0 ≡ true → ⊥
no_zero n u h e = lt_irrefl 0 (subst (λ (k : ℕ). 0 < k) (ap (λ (k : ℕ). k * u) (eqb-true n 0 e) ∙ zero-mul u) h)

passes : (f : Format) (b : Bool) → (b ≡ true → ⊥) → (z w : Float) (p n d : ℕ) → Rounds f w p n d → Rounds f (cond b z w) p n d
passes f true k z w p n d r = absurd (k refl)
passes f false k z w p n d r = r

div_by : (f : Format) (x y : Float) → T (finite x) → T (finite y) → 0 < plus y → Rounds f (div f x y) (plus x * den y) (less x * den y) (plus y * den x)
unfolding div
div_by f nan y p q h = absurd p
div_by f (inf s) y p q h = absurd p
div_by f (fin s m e) nan p q h = absurd q
div_by f (fin s m e) (inf t) p q h = absurd q
div_by f (fin s m e) (fin true n d) p q h = absurd (lt_irrefl 0 h)
div_by f (fin s m e) (fin false n d) p q h =
    passes f (eqb n 0) (no_zero n (up d) h) (cond (eqb m 0) nan (inf (unlike s false))) (round f (unlike s false) (m * up e * down d) (n * up d * down e))
    (gain s (m * up e) * down d) (loss s (m * up e) * down d) (n * up d * down e) (quotient_signed f s (m * up e) (down d) (n * up d * down e))

pub div_rounds : (f : Format) (x y : Float) → T (finite x) → T (finite y) → lt nought y ≡ true → Rounds f (div f x y) (plus x * den y) (less x * den y) (plus y * den x)
div_rounds f x y p q h = div_by f x y p q (plus_pos y q h)

pub nought_one : lt nought one ≡ true
unfolding lt
nought_one = refl

-- ---- the order
quotient_under : (X x D X' x' D' Y C : ℕ) → Under X x D X' x' D' → Under (X * C) (x * C) (Y * D) (X' * C) (x' * C) (Y * D')
quotient_under X x D X' x' D' Y C h = go (mul-le-mul_right (Y * C) h)
  where
    go : (X * D' + x' * D) * (Y * C) ≤ (X' * D + x * D') * (Y * C) → X * C * (Y * D') + x' * C * (Y * D) ≤ X' * C * (Y * D) + x * C * (Y * D')
    go h = omega arith

pub div_rises : (f : Format) (x x' y : Float) → T (finite x) → T (finite x') → T (finite y) → lt nought y ≡ true → le x x' ≡ true → le (div f x y) (div f x' y) ≡ true
div_rises f x x' y p p' q h k =
    rounds_rise f (div f x y) (div f x' y) (plus x * den y) (less x * den y) (plus y * den x) (plus x' * den y) (less x' * den y) (plus y * den x')
    (mul-pos (plus_pos y q h) (den_pos x)) (mul-pos (plus_pos y q h) (den_pos x')) (div_rounds f x y p q h) (div_rounds f x' y p' q h)
    (quotient_under (plus x) (less x) (den x) (plus x') (less x') (den x') (plus y) (den y) (le→cross x x' p p' k))

divisor_under : (X D Y C Y' C' : ℕ) → Under Y 0 C Y' 0 C' → Under (X * C') (0 * C') (Y' * D) (X * C) (0 * C) (Y * D)
divisor_under X D Y C Y' C' h = go (mul-le-mul_right (X * D) h)
  where
    go : (Y * C' + 0 * C) * (X * D) ≤ (Y' * C + 0 * C') * (X * D) → X * C' * (Y * D) + 0 * C * (Y' * D) ≤ X * C * (Y' * D) + 0 * C' * (Y * D)
    go h = omega arith

-- what is above a value above zero is too
pub above_zero : (y y' : Float) → lt nought y ≡ true → le y y' ≡ true → lt nought y' ≡ true
above_zero y y' h k =
    elim (cases_Bool (lt nought y')) [
      | inl l ↦ l
      | inr l ↦ absurd (true≢false (sym (le_trans y y' nought k (not_lt→le nought y' (finite_number nought tt) (right_number y y' k) l)) ∙ lt→not_le nought y h))
    ]

pub div_falls : (f : Format) (x y y' : Float) → T (finite x) → T (finite y) → T (finite y') → le nought x ≡ true → lt nought y ≡ true → le y y' ≡ true → le (div f x y') (div f x y) ≡ true
div_falls f x y y' p q q' g h k =
    let h' = above_zero y y' h k in
    let c : Under (plus y) 0 (den y) (plus y') 0 (den y') = rw (nothing_less y q (lt→le nought y h), nothing_less y' q' (lt→le nought y' h')) at (le→cross y y' q q' k) in
    rounds_rise f (div f x y') (div f x y) (plus x * den y') (less x * den y') (plus y' * den x) (plus x * den y) (less x * den y) (plus y * den x)
    (mul-pos (plus_pos y' q' h') (den_pos x)) (mul-pos (plus_pos y q h) (den_pos x)) (div_rounds f x y' p q' h') (div_rounds f x y p q h)
    (rw (nothing_less x p g) (divisor_under (plus x) (den x) (plus y) (den y) (plus y') (den y') c))

divisor_over : (x D Y C Y' C' : ℕ) → Under Y 0 C Y' 0 C' → Under (0 * C) (x * C) (Y * D) (0 * C') (x * C') (Y' * D)
divisor_over x D Y C Y' C' h = go (mul-le-mul_right (x * D) h)
  where
    go : (Y * C' + 0 * C) * (x * D) ≤ (Y' * C + 0 * C') * (x * D) → 0 * C * (Y' * D) + x * C' * (Y * D) ≤ 0 * C' * (Y * D) + x * C * (Y' * D)
    go h = omega arith

pub div_rises_negative : (f : Format) (x y y' : Float) → T (finite x) → T (finite y) → T (finite y') → le x nought ≡ true → lt nought y ≡ true → le y y' ≡ true → le (div f x y) (div f x y') ≡ true
div_rises_negative f x y y' p q q' g h k =
    let h' = above_zero y y' h k in
    let c : Under (plus y) 0 (den y) (plus y') 0 (den y') = rw (nothing_less y q (lt→le nought y h), nothing_less y' q' (lt→le nought y' h')) at (le→cross y y' q q' k) in
    rounds_rise f (div f x y) (div f x y') (plus x * den y) (less x * den y) (plus y * den x) (plus x * den y') (less x * den y') (plus y' * den x)
    (mul-pos (plus_pos y q h) (den_pos x)) (mul-pos (plus_pos y' q' h') (den_pos x)) (div_rounds f x y p q h) (div_rounds f x y' p q' h')
    (rw (nothing_more x p g) (divisor_over (less x) (den x) (plus y) (den y) (plus y') (den y') c))

pub div_between : (f : Format) (a b c d x y : Float) → T (finite b) → T (finite d) → le nought a ≡ true → lt nought c ≡ true → Between a b x → Between c d y → Between (div f a d) (div f b c) (div f x y)
div_between f a b c d x y B D g h p q =
    let gx = le_trans nought a x g p.low in
    let hy = above_zero c y h q.low in
    let X = le_between nought b x tt B (record { low = gx; high = p.high }) in
    let Y = le_between nought d y tt D (record { low = lt→le nought y hy; high = q.high }) in
    let A = le_between nought x a tt X (record { low = g; high = p.low }) in
    let C = le_between nought y c tt Y (record { low = lt→le nought c h; high = q.low }) in
    record {
      low = le_trans (div f a d) (div f a y) (div f x y) (div_falls f a y d A Y D g hy q.high) (div_rises f a x y A X Y hy p.low);
      high = le_trans (div f x y) (div f b y) (div f b c) (div_rises f x b y X B Y hy p.high) (div_falls f b c y B C Y (le_trans nought x b gx p.high) h q.low);
    }

pub div_positive : (f : Format) (x y : Float) → T (finite x) → T (finite y) → le nought x ≡ true → lt nought y ≡ true → le nought (div f x y) ≡ true
div_positive f x y p q g h =
    rounds_over f (div f x y) nought (plus x * den y) (less x * den y) (plus y * den x) (mul-pos (plus_pos y q h) (den_pos x)) tt (nought_fits f) (div_rounds f x y p q h)
    (rw (nothing_less x p g) (go (plus x) (den x) (plus y) (den y)))
  where
    go : (X D Y C : ℕ) → Under 0 0 1 (X * C) (0 * C) (Y * D)
    go X D Y C = omega arith

pub div_negative : (f : Format) (x y : Float) → T (finite x) → T (finite y) → le x nought ≡ true → lt nought y ≡ true → le (div f x y) nought ≡ true
div_negative f x y p q g h =
    rounds_under f (div f x y) nought (plus x * den y) (less x * den y) (plus y * den x) (mul-pos (plus_pos y q h) (den_pos x)) tt (nought_fits f) (div_rounds f x y p q h)
    (go (plus x) (less x) (den x) (plus y) (den y) (le→cross x nought p tt g))
  where
    go : (X x D Y C : ℕ) → Under X x D 0 0 1 → Under (X * C) (x * C) (Y * D) 0 0 1
    go X x D Y C h = step (mul-le-mul_right C h)
      where
        step : (X * 1 + 0 * D) * C ≤ (0 * D + x * 1) * C → X * C * 1 + 0 * (Y * D) ≤ 0 * (Y * D) + x * C * 1
        step h = omega arith

pub div_at_most_one : (f : Format) (x y : Float) → T (finite x) → T (finite y) → lt nought y ≡ true → le x y ≡ true → le (div f x y) one ≡ true
div_at_most_one f x y p q h k =
    let c : Under (plus x) (less x) (den x) (plus y) 0 (den y) = rw (nothing_less y q (lt→le nought y h)) at (le→cross x y p q k) in
    rounds_under f (div f x y) one (plus x * den y) (less x * den y) (plus y * den x) (mul-pos (plus_pos y q h) (den_pos x)) tt (one_fits f) (div_rounds f x y p q h)
    (go (plus x) (less x) (den x) (plus y) (den y) c)
  where
    go : (X x D Y C : ℕ) → Under X x D Y 0 C → Under (X * C) (x * C) (Y * D) 1 0 1
    go X x D Y C h = omega arith

pub div_no_larger : (f : Format) (x y : Float) → T (finite x) → T (fits f x) → T (finite y) → le nought x ≡ true → le one y ≡ true → le (div f x y) x ≡ true
div_no_larger f x y p t q g k =
    let h : lt nought y ≡ true = above_zero one y nought_one k in
    rounds_under f (div f x y) x (plus x * den y) (less x * den y) (plus y * den x) (mul-pos (plus_pos y q h) (den_pos x)) p t (div_rounds f x y p q h)
    (rw (nothing_less x p g) (go (plus x) (den x) (plus y) (den y) (rw (nothing_less y q (lt→le nought y h)) at (le→cross one y tt q k))))
  where
    go : (X D Y C : ℕ) → Under 1 0 1 Y 0 C → Under (X * C) (0 * C) (Y * D) X 0 D
    go X D Y C h = step (mul-le-mul_right (X * D) h)
      where
        step : (1 * C + 0 * 1) * (X * D) ≤ (Y * 1 + 0 * C) * (X * D) → X * C * D + 0 * (Y * D) ≤ X * (Y * D) + 0 * C * D
        step h = omega arith
