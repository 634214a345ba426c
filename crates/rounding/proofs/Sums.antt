-- Sums and differences: each is the exact one rounded, and rounding keeps the order.
-- Assumes nothing.
use Rattle.std.proofs.Common.{◌≡◌, ℕ, ◌+◌, ◌-◌, ◌*◌, ◌<◌, ◌≤◌, Bool, true, false, cond, not, T, ltb, ◌⊎◌, sym, refl, ap, inl, inr, zero-le, mul-le-mul_right, mul_comm, add-mul, mul-pos, arith, ltb→lt, nltb→le}
use native.Mathlib.Nat.{sub-zero}
use lib.Ieee.{Float, nan, inf, fin, Format, up, down, round, sum, add, sub, neg, le, fits}
use lib.Ieee.Scale.{finite}
use lib.Ieee.Positive.{den, den_pos}
use Rattle.rounding.specs.Fractions.{gain, loss, plus, less, Under, nought}
use Rattle.rounding.specs.Order.{Between}
use Rattle.rounding.specs.Rounded.{Rounds}
use Rattle.rounding.proofs.Order.{gain_mul, loss_mul, le→cross, le_between, neg_plus, neg_less, neg_den, neg_finite, neg_turns}
use Rattle.rounding.proofs.Rounded.{nought_fits, rounds_rise, rounds_under, rounds_over}

sum_signed : (f : Format) (s : Bool) (a : ℕ) (t : Bool) (b c : ℕ) → Rounds f (sum f s a t b c) (gain s a + gain t b) (loss s a + loss t b) c
unfolding sum
sum_signed f false a false b c = inl (zero-le, ap (λ (x : ℕ). round f false x c) (sym (sub-zero (a + b))))
sum_signed f true a true b c = inr (zero-le, ap (λ (x : ℕ). round f true x c) (sym (sub-zero (a + b))))
sum_signed f false a true b c = go (ltb a b) (ltb→lt a b) (nltb→le a b)
  where
    go : (q : Bool) → (T q → a < b) → (T (not q) → b ≤ a) → Rounds f (cond q (round f true (b - a) c) (round f false (a - b) c)) (a + 0) (0 + b) c
    go true h k = let l = h tt in inr (omega arith, ap (λ (x : ℕ). round f true x c) (omega arith))
    go false h k = let l = k tt in inl (omega arith, ap (λ (x : ℕ). round f false x c) (omega arith))
sum_signed f true a false b c = go (ltb a b) (ltb→lt a b) (nltb→le a b) (ltb b a) (ltb→lt b a) (nltb→le b a)
  where
    go : (q : Bool) → (T q → a < b) → (T (not q) → b ≤ a) → (r : Bool) → (T r → b < a) → (T (not r) → a ≤ b)
        → Rounds f (cond q (round f false (b - a) c) (round f r (a - b) c)) (0 + b) (a + 0) c
    go true h k r i j = let l = h tt in inl (omega arith, ap (λ (x : ℕ). round f false x c) (omega arith))
    go false h k true i j = let l = k tt in inr (omega arith, ap (λ (x : ℕ). round f true x c) (omega arith))
    go false h k false i j = let l = k tt in let l' = j tt in inl (omega arith, ap (λ (x : ℕ). round f false x c) (omega arith))

pub add_rounds : (f : Format) (x y : Float) → T (finite x) → T (finite y) → Rounds f (add f x y) (plus x * den y + plus y * den x) (less x * den y + less y * den x) (den x * den y)
unfolding add
add_rounds f nan y p q = absurd p
add_rounds f (inf s) y p q = absurd p
add_rounds f (fin s m e) nan p q = absurd q
add_rounds f (fin s m e) (inf t) p q = absurd q
add_rounds f (fin s m e) (fin t n d) p q =
    rw (gain_mul s (m * up e) (down d), gain_mul t (n * up d) (down e), loss_mul s (m * up e) (down d), loss_mul t (n * up d) (down e))
    (sum_signed f s (m * up e * down d) t (n * up d * down e) (down e * down d))

pub sub_rounds : (f : Format) (x y : Float) → T (finite x) → T (finite y) → Rounds f (sub f x y) (plus x * den y + less y * den x) (less x * den y + plus y * den x) (den x * den y)
unfolding sub
sub_rounds f x y p q = rw (neg_plus y, neg_less y, neg_den y) at (add_rounds f x (neg y) p (neg_finite y q))

-- ---- the order
-- a sum over one denominator, brought over another
spread : (X C Y D D' C' : ℕ) → (X * C + Y * D) * (D' * C') ≡ X * D' * (C * C') + Y * C' * (D * D')
spread X C Y D D' C' = omega arith

pub sum_under : (X x D X' x' D' Y y C Y' y' C' : ℕ) → Under X x D X' x' D' → Under Y y C Y' y' C'
    → Under (X * C + Y * D) (x * C + y * D) (D * C) (X' * C' + Y' * D') (x' * C' + y' * D') (D' * C')
sum_under X x D X' x' D' Y y C Y' y' C' h k =
    rw (spread X C Y D D' C', spread x C y D D' C', spread X' C' Y' D' D C, spread x' C' y' D' D C, mul_comm C' C, mul_comm D' D)
    (go (X * D' * (C * C')) (x' * D * (C * C')) (X' * D * (C * C')) (x * D' * (C * C')) (Y * C' * (D * D')) (y' * C * (D * D')) (Y' * C * (D * D')) (y * C' * (D * D'))
    (simp add-mul at (mul-le-mul_right (C * C') h)) (simp add-mul at (mul-le-mul_right (D * D') k)))
  where
    go : (a b c d i j l m : ℕ) → a + b ≤ c + d → i + j ≤ l + m → (a + i) + (b + j) ≤ (c + l) + (d + m)
    go a b c d i j l m h k = omega arith

pub add_rises : (f : Format) (x x' y y' : Float) → T (finite x) → T (finite x') → T (finite y) → T (finite y') → le x x' ≡ true → le y y' ≡ true → le (add f x y) (add f x' y') ≡ true
add_rises f x x' y y' p p' q q' h k =
    rounds_rise f (add f x y) (add f x' y') (plus x * den y + plus y * den x) (less x * den y + less y * den x) (den x * den y)
    (plus x' * den y' + plus y' * den x') (less x' * den y' + less y' * den x') (den x' * den y') (mul-pos (den_pos x) (den_pos y)) (mul-pos (den_pos x') (den_pos y'))
    (add_rounds f x y p q) (add_rounds f x' y' p' q')
    (sum_under (plus x) (less x) (den x) (plus x') (less x') (den x') (plus y) (less y) (den y) (plus y') (less y') (den y') (le→cross x x' p p' h) (le→cross y y' q q' k))

pub sub_rises : (f : Format) (x x' y y' : Float) → T (finite x) → T (finite x') → T (finite y) → T (finite y') → le x x' ≡ true → le y' y ≡ true → le (sub f x y) (sub f x' y') ≡ true
unfolding sub
sub_rises f x x' y y' p p' q q' h k = add_rises f x x' (neg y) (neg y') p p' (neg_finite y q) (neg_finite y' q') h (neg_turns y' y k)

-- ---- between bounds
pub add_between : (f : Format) (a b c d x y : Float) → T (finite a) → T (finite b) → T (finite c) → T (finite d) → Between a b x → Between c d y → Between (add f a c) (add f b d) (add f x y)
add_between f a b c d x y A B C D p q =
    let X = le_between a b x A B p in
    let Y = le_between c d y C D q in
    record { low = add_rises f a x c y A X C Y p.low q.low; high = add_rises f x b y d X B Y D p.high q.high }

pub sub_between : (f : Format) (a b c d x y : Float) → T (finite a) → T (finite b) → T (finite c) → T (finite d) → Between a b x → Between c d y → Between (sub f a d) (sub f b c) (sub f x y)
sub_between f a b c d x y A B C D p q =
    let X = le_between a b x A B p in
    let Y = le_between c d y C D q in
    record { low = sub_rises f a x d y A X D Y p.low q.high; high = sub_rises f x b y c X B Y C p.high q.low }

-- ---- with a part that is not negative
-- one part of a numerator is 0
one_part : (x : Float) → (plus x ≡ 0) ⊎ (less x ≡ 0)
one_part nan = inl refl
one_part (inf s) = inl refl
one_part (fin true m e) = inl refl
one_part (fin false m e) = inr refl

-- y ≥ 0 takes nothing away
pub nothing_less : (y : Float) → T (finite y) → le nought y ≡ true → less y ≡ 0
nothing_less y p h = go (plus y) (less y) (den y) (one_part y) (le→cross nought y tt p h)
  where
    go : (a b c : ℕ) → (a ≡ 0) ⊎ (b ≡ 0) → 0 * c + b * 1 ≤ a * 1 + 0 * c → b ≡ 0
    go a b c z h = omega arith

-- y ≤ 0 adds nothing
pub nothing_more : (y : Float) → T (finite y) → le y nought ≡ true → plus y ≡ 0
nothing_more y p h = go (plus y) (less y) (den y) (one_part y) (le→cross y nought p tt h)
  where
    go : (a b c : ℕ) → (a ≡ 0) ⊎ (b ≡ 0) → a * 1 + 0 * c ≤ 0 * c + b * 1 → a ≡ 0
    go a b c z h = omega arith

over_self : (X x D Y C : ℕ) → Under X x D (X * C + Y * D) (x * C + 0 * D) (D * C)
over_self X x D Y C = omega arith

under_self : (X x D Y C : ℕ) → Under (X * C + 0 * D) (x * C + Y * D) (D * C) X x D
under_self X x D Y C = omega arith

pub add_above : (f : Format) (x y : Float) → T (finite x) → T (fits f x) → T (finite y) → le nought y ≡ true → le x (add f x y) ≡ true
add_above f x y p t q h =
    rounds_over f (add f x y) x (plus x * den y + plus y * den x) (less x * den y + less y * den x) (den x * den y) (mul-pos (den_pos x) (den_pos y)) p t (add_rounds f x y p q)
    (rw (nothing_less y q h) (over_self (plus x) (less x) (den x) (plus y) (den y)))

pub sub_under : (f : Format) (x y : Float) → T (finite x) → T (fits f x) → T (finite y) → le nought y ≡ true → le (sub f x y) x ≡ true
sub_under f x y p t q h =
    rounds_under f (sub f x y) x (plus x * den y + less y * den x) (less x * den y + plus y * den x) (den x * den y) (mul-pos (den_pos x) (den_pos y)) p t (sub_rounds f x y p q)
    (rw (nothing_less y q h) (under_self (plus x) (less x) (den x) (plus y) (den y)))

-- ---- the sign of a difference
pub sub_positive : (f : Format) (x y : Float) → T (finite x) → T (finite y) → le y x ≡ true → le nought (sub f x y) ≡ true
sub_positive f x y p q h =
    rounds_over f (sub f x y) nought (plus x * den y + less y * den x) (less x * den y + plus y * den x) (den x * den y) (mul-pos (den_pos x) (den_pos y)) tt (nought_fits f)
    (sub_rounds f x y p q) (go (plus x) (less x) (den x) (plus y) (less y) (den y) (le→cross y x q p h))
  where
    go : (X x D Y y C : ℕ) → Under Y y C X x D → Under 0 0 1 (X * C + y * D) (x * C + Y * D) (D * C)
    go X x D Y y C h = omega arith

pub sub_negative : (f : Format) (x y : Float) → T (finite x) → T (finite y) → le x y ≡ true → le (sub f x y) nought ≡ true
sub_negative f x y p q h =
    rounds_under f (sub f x y) nought (plus x * den y + less y * den x) (less x * den y + plus y * den x) (den x * den y) (mul-pos (den_pos x) (den_pos y)) tt (nought_fits f)
    (sub_rounds f x y p q) (go (plus x) (less x) (den x) (plus y) (less y) (den y) (le→cross x y p q h))
  where
    go : (X x D Y y C : ℕ) → Under X x D Y y C → Under (X * C + y * D) (x * C + Y * D) (D * C) 0 0 1
    go X x D Y y C h = omega arith
