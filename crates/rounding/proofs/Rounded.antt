-- Rounding keeps the order of signed fractions, and does not change what its format holds.
-- Assumes nothing.
use Rattle.std.proofs.Common.{◌≡◌, ℕ, zero, suc, ◌+◌, ◌-◌, ◌*◌, ◌%◌, ◌^◌, ◌<◌, ◌≤◌, Bool, true, false, cond, ◌&&◌, T, eqb, ltb, leb, ℤ, pos, negsuc, sym, refl, ap, ◌∙◌, subst, ap₂, inl, inr, true≢false, zero-le, lt_of_lt_of_le, le_of_suc-le-suc, zero-lt-suc, mul_assoc, add-mul, add_comm, mul-lt-mul_of_pos_right, lt_of_not-le, zero-mul, mul-one, sub-add_cancel, not-le_of_lt, le_of_mul-le-mul_right, arith, ltb→lt, leb→le, pow_pos, pow_mono, pow-add, shl_lt}
use mathlib.Core.Bool.{false≢true}
use native.Mathlib.Nat.{sub-zero}
use lib.Pow.{pow-lt}
use lib.Ieee.{Float, nan, inf, fin, Format, binary32, binary64, prec, emax, low, up, down, odd, units, round, neg, le, fits}
use lib.Ieee.Scale.{finite, round_same}
use lib.Ieee.Positive.{den, den_pos}
use lib.Ieee.Exact.{HasValue, round_exact}
use lib.Ieee.Fits.{round_is, reach, down_pos, and_l, and_r}
use lib.Ieee.Order.{round_mono, drop, kept}
use Rattle.rounding.specs.Fractions.{gain, loss, plus, less, Under, nought, one}
use Rattle.rounding.specs.Rounded.{Rounds, Is}
use Rattle.rounding.proofs.Order.{yes, le_trans, neg_turns, cross→le}

-- ---- the other sign
odd_turn : (d q k l : ℕ) → odd d true q k l ≡ neg (odd d false q k l)
unfolding odd neg
odd_turn d zero k l = refl
odd_turn d (suc q) k l = refl

units_turn : (f : Format) (q k : ℕ) → units f true q k ≡ neg (units f false q k)
unfolding units neg
units_turn f q k = go (ltb (q * 2 ^ k) (2 ^ (low f + suc (emax f))))
  where
    go : (b : Bool) → cond b (odd (suc (prec f)) true q k (low f)) (inf true) ≡ neg (cond b (odd (suc (prec f)) false q k (low f)) (inf false))
    go true = odd_turn (suc (prec f)) q k (low f)
    go false = refl

pub round_turn : (f : Format) (a b : ℕ) → round f true a b ≡ neg (round f false a b)
round_turn f a b =
    round_is f true a b
    ∙ units_turn f (kept (prec f) (a * 2 ^ low f) b) (drop (prec f) (a * 2 ^ low f) b)
    ∙ ap neg (sym (round_is f false a b))

-- ---- zero and one
pub nought_fits : (f : Format) → T (fits f nought)
unfolding fits
nought_fits f = tt

pub one_fits : (f : Format) → T (fits f one)
unfolding fits
one_fits binary32 = tt
one_fits binary64 = tt

abbrev pub zero_of : Bool → Float
zero_of s = fin s 0 (pos 0)

zero_one : (f : Format) (s : Bool) → round f s 0 1 ≡ zero_of s
unfolding round
zero_one binary32 false = refl
zero_one binary32 true = refl
zero_one binary64 false = refl
zero_one binary64 true = refl

pub round_zero : (f : Format) (s : Bool) (d : ℕ) → 0 < d → round f s 0 d ≡ zero_of s
round_zero f s d D = round_same f s 0 d 0 1 D (zero-lt-suc 0) (zero-mul 1 ∙ sym (zero-mul d)) ∙ zero_one f s

zeros : (s t : Bool) → le (zero_of s) (zero_of t) ≡ true
unfolding le
zeros true true = refl
zeros true false = refl
zeros false true = refl
zeros false false = refl

pub zero_le_round : (f : Format) (a b : ℕ) → 0 < b → le (zero_of false) (round f false a b) ≡ true
zero_le_round f a b B =
    yes (le (zero_of false) (round f false a b))
    (subst (λ (z : Float). T (le z (round f false a b))) (zero_one f false) (round_mono f 0 1 a b (zero-lt-suc 0) B (start a b)))
  where
    start : (a b : ℕ) → 0 * b ≤ a * 1
    start a b = omega arith

neg_zero : neg (zero_of false) ≡ zero_of true
unfolding neg
neg_zero = refl

pub round_le_zero : (f : Format) (a b : ℕ) → 0 < b → le (round f true a b) (zero_of false) ≡ true
round_le_zero f a b B =
    le_trans (round f true a b) (zero_of true) (zero_of false)
    (subst (λ (z : Float). le z (zero_of true) ≡ true) (sym (round_turn f a b))
    (subst (λ (z : Float). le (neg (round f false a b)) z ≡ true) neg_zero (neg_turns (zero_of false) (round f false a b) (zero_le_round f a b B))))
    (zeros true false)

-- ---- the order
-- p * c is what is left above n, and n, each times c
parts : (p n c : ℕ) → n ≤ p → p * c ≡ (p - n) * c + n * c
parts p n c h = ap (λ (x : ℕ). x * c) (sym (sub-add_cancel h)) ∙ add-mul (p - n) n c

apart : (p n d q o c : ℕ) → n ≤ p → o ≤ q → Under p n d q o c → (p - n) * c ≤ (q - o) * d
apart p n d q o c h k u = let a = parts p n c h in let b = parts q o d k in omega arith

none_left : (a c : ℕ) → 0 < c → a * c ≤ 0 → a ≡ 0
none_left a c C h = let l : a ≤ 0 = le_of_mul-le-mul_right (joined h (zero-mul c)) C in omega arith
  where
    joined : a * c ≤ 0 → 0 * c ≡ 0 → a * c ≤ 0 * c
    joined h e = omega arith

level_left : (p n d q o c : ℕ) → n ≤ p → q ≤ o → Under p n d q o c → (p - n) * c ≤ 0
level_left p n d q o c h k u = let a = parts p n c h in let b = parts o q d k in omega arith

level_right : (p n d q o c : ℕ) → n ≤ p → q ≤ o → Under p n d q o c → (o - q) * d ≤ 0
level_right p n d q o c h k u = let a = parts p n c h in let b = parts o q d k in omega arith

flipped : (p n d q o c : ℕ) → Under p n d q o c → Under o q c n p d
flipped p n d q o c u = omega arith

pub rounds_rise : (f : Format) (z w : Float) (p n d q o c : ℕ) → 0 < d → 0 < c → Rounds f z p n d → Rounds f w q o c → Under p n d q o c → le z w ≡ true
rounds_rise f z w p n d q o c D C (inl (h, e)) (inl (k, g)) u =
    rw (e, g) (yes (le (round f false (p - n) d) (round f false (q - o) c)) (round_mono f (p - n) d (q - o) c D C (apart p n d q o c h k u)))
rounds_rise f z w p n d q o c D C (inl (h, e)) (inr (k, g)) u =
    rw (e, g, none_left (p - n) c C (level_left p n d q o c h k u), none_left (o - q) d D (level_right p n d q o c h k u), round_zero f false d D, round_zero f true c C) (zeros false true)
rounds_rise f z w p n d q o c D C (inr (h, e)) (inl (k, g)) u =
    rw (e, g) (le_trans (round f true (n - p) d) (zero_of false) (round f false (q - o) c) (round_le_zero f (n - p) d D) (zero_le_round f (q - o) c C))
rounds_rise f z w p n d q o c D C (inr (h, e)) (inr (k, g)) u =
    rw (e, g, round_turn f (n - p) d, round_turn f (o - q) c)
    (neg_turns (round f false (o - q) c) (round f false (n - p) d)
    (yes (le (round f false (o - q) c) (round f false (n - p) d)) (round_mono f (o - q) c (n - p) d C D (apart o q c n p d k h (flipped p n d q o c u)))))

-- ---- what the format holds
-- a value by its sign and size
pub value_plus : (x : Float) (s : Bool) (a c : ℕ) → HasValue x s a c → plus x * c ≡ gain s a * den x
value_plus nan s a c h = absurd h
value_plus (inf t) s a c h = absurd h
value_plus (fin false m e) false a c h = h.1
value_plus (fin false m e) true a c h = absurd (false≢true h.0)
value_plus (fin true m e) false a c h = absurd (true≢false h.0)
value_plus (fin true m e) true a c h = zero-mul c ∙ sym (zero-mul (down e))

pub value_less : (x : Float) (s : Bool) (a c : ℕ) → HasValue x s a c → less x * c ≡ loss s a * den x
value_less nan s a c h = absurd h
value_less (inf t) s a c h = absurd h
value_less (fin false m e) false a c h = zero-mul c ∙ sym (zero-mul (down e))
value_less (fin false m e) true a c h = absurd (false≢true h.0)
value_less (fin true m e) false a c h = absurd (true≢false h.0)
value_less (fin true m e) true a c h = h.1

pub value_finite : (x : Float) (s : Bool) (a c : ℕ) → HasValue x s a c → T (finite x)
value_finite nan s a c h = absurd h
value_finite (inf t) s a c h = absurd h
value_finite (fin t m e) s a c h = tt

room : (p e l k : ℕ) → p ≤ suc e → p + (l - k) ≤ l + suc e
room p e l k h = omega arith

pub round_dyadic : (f : Format) (s : Bool) (a k : ℕ) → a < 2 ^ prec f → k ≤ low f → HasValue (round f s a (2 ^ k)) s a (2 ^ k)
round_dyadic f s a k small h =
    round_exact f s a (2 ^ k) a (low f - k) (pow_pos k) small
    (lt_of_lt_of_le (shl_lt (prec f) (low f - k) small) (pow_mono (room (prec f) (emax f) (low f) k (reach f))))
    (ap (λ (x : ℕ). a * 2 ^ x) (sym (sub-add_cancel h)) ∙ ap (λ (x : ℕ). a * x) (pow-add 2 (low f - k) k) ∙ sym (mul_assoc a (2 ^ (low f - k)) (2 ^ k)))

less_than : (p n b : ℕ) → p < b → p - n < b
less_than p n b h = omega arith

sum_positive : (X L d n p D : ℕ) → n ≤ p → X * d ≡ (p - n) * D → L * d ≡ 0 * D → X * d + n * D ≡ p * D + L * d
sum_positive X L d n p D h a b = let c = parts p n D h in omega arith

sum_negative : (X L d n p D : ℕ) → p ≤ n → X * d ≡ 0 * D → L * d ≡ (n - p) * D → X * d + n * D ≡ p * D + L * d
sum_negative X L d n p D h a b = let c = parts n p D h in omega arith

pub rounds_exact : (f : Format) (z : Float) (p n k : ℕ) → p < 2 ^ prec f → n < 2 ^ prec f → k ≤ low f → Rounds f z p n (2 ^ k) → Is z p n (2 ^ k)
rounds_exact f z p n k P N K (inl (h, e)) =
    let v : HasValue z false (p - n) (2 ^ k) = subst (λ (x : Float). HasValue x false (p - n) (2 ^ k)) (sym e) (round_dyadic f false (p - n) k (less_than p n (2 ^ prec f) P) K) in
    record {
      number = value_finite z false (p - n) (2 ^ k) v;
      value = sum_positive (plus z) (less z) (2 ^ k) n p (den z) h (value_plus z false (p - n) (2 ^ k) v) (value_less z false (p - n) (2 ^ k) v);
    }
rounds_exact f z p n k P N K (inr (h, e)) =
    let v : HasValue z true (n - p) (2 ^ k) = subst (λ (x : Float). HasValue x true (n - p) (2 ^ k)) (sym e) (round_dyadic f true (n - p) k (less_than n p (2 ^ prec f) N) K) in
    record {
      number = value_finite z true (n - p) (2 ^ k) v;
      value = sum_negative (plus z) (less z) (2 ^ k) n p (den z) h (value_plus z true (n - p) (2 ^ k) v) (value_less z true (n - p) (2 ^ k) v);
    }

-- what `fits` says of a value that is not zero
fits_says : (f : Format) (s : Bool) (m : ℕ) (e : ℤ) → T (fits f (fin s (suc m) e)) → (suc m < 2 ^ prec f) × (down e ≤ 2 ^ low f) × (suc m * up e < 2 ^ suc (emax f) * down e)
unfolding fits
fits_says f s m e t =
    let o = eqb (suc m % 2) 1 in
    let a = ltb (suc m) (2 ^ prec f) in
    let b = leb (down e) (2 ^ low f) in
    let c = ltb (suc m * up e) (2 ^ suc (emax f) * down e) in (
      ltb→lt (suc m) (2 ^ prec f) (and_r o a (and_l (o && a) b (and_l (o && a && b) c t))),
      leb→le (down e) (2 ^ low f) (and_r (o && a) b (and_l (o && a && b) c t)),
      ltb→lt (suc m * up e) (2 ^ suc (emax f) * down e) (and_r (o && a && b) c t),
    )

pow_back : (i j : ℕ) → 2 ^ i ≤ 2 ^ j → i ≤ j
pow_back i j h = le_of_suc-le-suc (lt_of_not-le (λ (g : suc j ≤ i). not-le_of_lt (pow-lt g) h))

own_value : (f : Format) (s : Bool) (m : ℕ) (e : ℤ) → T (fits f (fin s m e)) → HasValue (round f s (m * up e) (down e)) s (m * up e) (down e)
own_value f s zero e t =
    subst (λ (x : ℕ). HasValue (round f s x (down e)) s x (down e)) (sym (zero-mul (up e)))
    (subst (λ (x : Float). HasValue x s 0 (down e)) (sym (round_zero f s (down e) (down_pos e))) (refl, zero-mul (down e)))
own_value f s (suc m) (pos k) t =
    let a : suc m * 2 ^ k * 2 ^ low f ≡ suc m * 2 ^ (k + low f) = mul_assoc (suc m) (2 ^ k) (2 ^ low f) ∙ ap (λ (x : ℕ). suc m * x) (sym (pow-add 2 k (low f))) in
    let b : 2 ^ suc (emax f) * 1 * 2 ^ low f ≡ 2 ^ (low f + suc (emax f)) =
    ap (λ (x : ℕ). x * 2 ^ low f) (mul-one (2 ^ suc (emax f))) ∙ sym (pow-add 2 (suc (emax f)) (low f)) ∙ ap (λ (x : ℕ). 2 ^ x) (add_comm (suc (emax f)) (low f)) in
    let p = fits_says f s m (pos k) t in
    round_exact f s (suc m * 2 ^ k) 1 (suc m) (k + low f) (zero-lt-suc 0) p.0
    (subst (λ (x : ℕ). x < 2 ^ (low f + suc (emax f))) a (subst (λ (x : ℕ). suc m * 2 ^ k * 2 ^ low f < x) b (mul-lt-mul_of_pos_right p.2 (pow_pos (low f)))))
    (a ∙ sym (mul-one (suc m * 2 ^ (k + low f))))
own_value f s (suc m) (negsuc k) t =
    let p = fits_says f s m (negsuc k) t in
    subst (λ (x : ℕ). HasValue (round f s x (2 ^ suc k)) s x (2 ^ suc k)) (sym (mul-one (suc m))) (round_dyadic f s (suc m) (suc k) p.0 (pow_back (suc k) (low f) p.1))

-- a finite value that the format holds, rounded: the same number
rounded : Format → Float → Float
rounded f nan = nan
rounded f (inf s) = inf s
rounded f (fin s m e) = round f s (m * up e) (down e)

signed_rounds : (f : Format) (s : Bool) (a d : ℕ) → Rounds f (round f s a d) (gain s a) (loss s a) d
signed_rounds f false a d = inl (zero-le, ap (λ (x : ℕ). round f false x d) (sym (sub-zero a)))
signed_rounds f true a d = inr (zero-le, ap (λ (x : ℕ). round f true x d) (sym (sub-zero a)))

rounded_rounds : (f : Format) (x : Float) → T (finite x) → Rounds f (rounded f x) (plus x) (less x) (den x)
unfolding rounded
rounded_rounds f nan p = absurd p
rounded_rounds f (inf s) p = absurd p
rounded_rounds f (fin s m e) p = signed_rounds f s (m * up e) (down e)

rounded_has : (f : Format) (x : Float) → T (finite x) → T (fits f x) → Is (rounded f x) (plus x) (less x) (den x)
unfolding rounded
rounded_has f nan p t = absurd p
rounded_has f (inf s) p t = absurd p
rounded_has f (fin s m e) p t =
    let z = round f s (m * up e) (down e) in
    let v : HasValue z s (m * up e) (down e) = own_value f s m e t in
    record { number = value_finite z s (m * up e) (down e) v; value = ap₂ (λ a b. a + b) (value_plus z s (m * up e) (down e) v) (sym (value_less z s (m * up e) (down e) v)) }

pub is_le : (z x : Float) → T (finite x) → Is z (plus x) (less x) (den x) → le z x ≡ true
is_le z x p v = let e = v.value in cross→le z x v.number p (omega arith)

pub is_ge : (z x : Float) → T (finite x) → Is z (plus x) (less x) (den x) → le x z ≡ true
is_ge z x p v = let e = v.value in cross→le x z p v.number (omega arith)

pub rounds_under : (f : Format) (z x : Float) (p n d : ℕ) → 0 < d → T (finite x) → T (fits f x) → Rounds f z p n d → Under p n d (plus x) (less x) (den x) → le z x ≡ true
rounds_under f z x p n d D q t r u =
    le_trans z (rounded f x) x (rounds_rise f z (rounded f x) p n d (plus x) (less x) (den x) D (den_pos x) r (rounded_rounds f x q) u) (is_le (rounded f x) x q (rounded_has f x q t))

pub rounds_over : (f : Format) (z x : Float) (p n d : ℕ) → 0 < d → T (finite x) → T (fits f x) → Rounds f z p n d → Under (plus x) (less x) (den x) p n d → le x z ≡ true
rounds_over f z x p n d D q t r u =
    le_trans x (rounded f x) z (is_ge (rounded f x) x q (rounded_has f x q t)) (rounds_rise f (rounded f x) z (plus x) (less x) (den x) p n d (den_pos x) D (rounded_rounds f x q) r u)

-- ---- fractions of one size round alike
less_apart : (p n d q o c : ℕ) → n ≤ p → p * c + o * d ≡ q * d + n * c → 0 < c → 0 < d → o ≤ q
less_apart p n d q o c h e C D = le_of_mul-le-mul_right (go (parts p n c h)) D
  where
    go : p * c ≡ (p - n) * c + n * c → o * d ≤ q * d
    go a = omega arith

same_apart : (p n d q o c : ℕ) → n ≤ p → o ≤ q → p * c + o * d ≡ q * d + n * c → (p - n) * c ≡ (q - o) * d
same_apart p n d q o c h k e = let a = parts p n c h in let b = parts q o d k in omega arith

pub rounds_same : (f : Format) (z : Float) (p n d q o c : ℕ) → 0 < d → 0 < c → p * c + o * d ≡ q * d + n * c → Rounds f z p n d → Rounds f z q o c
rounds_same f z p n d q o c D C e (inl (h, g)) =
    let k : o ≤ q = less_apart p n d q o c h e C D in inl (k, g ∙ round_same f false (p - n) d (q - o) c D C (same_apart p n d q o c h k e))
rounds_same f z p n d q o c D C e (inr (h, g)) =
    let e' : n * c + q * d ≡ o * d + p * c = omega arith in
    let k : q ≤ o = less_apart n p d o q c h e' C D in inr (k, g ∙ round_same f true (n - p) d (o - q) c D C (same_apart n p d o q c h k e'))
