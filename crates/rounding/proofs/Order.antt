-- The laws of the order of floats, by the fractions that finite values are.
-- Assumes nothing.
use Rattle.std.proofs.Common.{◌≡◌, ℕ, ◌+◌, ◌*◌, ◌<◌, ◌≤◌, Bool, true, false, not, ◌||◌, T, ◌⊎◌, ℤ, sym, refl, ◌∙◌, inl, inr, true≢false, mul-le-mul_right, zero-mul, le_of_mul-le-mul_right, arith}
use mathlib.Core.Bool.{false≢true}
use lib.Ieee.{Float, nan, inf, fin, up, down, below, level, lt, eq, le, neg, is_nan}
use lib.Ieee.Scale.{finite}
use lib.Ieee.Positive.{den, den_pos}
use Rattle.std.proofs.lemmas.Bool.{cases_lt, cases_Bool, or_left, or_right, or_cases, cond_both}
use Rattle.rounding.specs.Fractions.{gain, loss, plus, less, Under, Cross}
use Rattle.rounding.specs.Order.{lesser, Between}

-- ---- a test as a fact
pub yes : (b : Bool) → T b → b ≡ true
yes true t = refl
yes false t = absurd t

pub so : (b : Bool) → b ≡ true → T b
so true e = tt
so false e = absurd (false≢true e)

pub refuted : (b : Bool) → (T b → ⊥) → b ≡ false
refuted true f = absurd (f tt)
refuted false f = refl

-- ---- two numbers with their signs
pub gain_mul : (s : Bool) (a d : ℕ) → gain s a * d ≡ gain s (a * d)
gain_mul false a d = refl
gain_mul true a d = zero-mul d

pub loss_mul : (s : Bool) (a d : ℕ) → loss s a * d ≡ loss s (a * d)
loss_mul false a d = zero-mul d
loss_mul true a d = refl

order→sum : (s t : Bool) (a b : ℕ) → T (below s a t b || level s a t b) → gain s a + loss t b ≤ gain t b + loss s a
order→sum false false a b h = grind arith
order→sum false true a b h = grind arith
order→sum true false a b h = grind arith
order→sum true true a b h = grind arith

sum→order : (s t : Bool) (a b : ℕ) → gain s a + loss t b ≤ gain t b + loss s a → T (below s a t b || level s a t b)
sum→order false false a b h = grind arith
sum→order false true a b h = grind arith
sum→order true false a b h = grind arith
sum→order true true a b h = grind arith

below→sum : (s t : Bool) (a b : ℕ) → T (below s a t b) → gain s a + loss t b < gain t b + loss s a
below→sum false false a b h = grind arith
below→sum false true a b h = absurd h
below→sum true false a b h = grind arith
below→sum true true a b h = grind arith

sum→below : (s t : Bool) (a b : ℕ) → gain s a + loss t b < gain t b + loss s a → T (below s a t b)
sum→below false false a b h = grind arith
sum→below false true a b h = grind arith
sum→below true false a b h = grind arith
sum→below true true a b h = grind arith

-- ---- the order as one of fractions
cross_is : (s : Bool) (m : ℕ) (e : ℤ) (t : Bool) (n : ℕ) (d : ℤ)
    → gain s (m * up e * down d) + loss t (n * up d * down e) ≤ gain t (n * up d * down e) + loss s (m * up e * down d) → Cross (fin s m e) (fin t n d)
cross_is s m e t n d h = rw (gain_mul s (m * up e) (down d), loss_mul t (n * up d) (down e), gain_mul t (n * up d) (down e), loss_mul s (m * up e) (down d)) h

cross_says : (s : Bool) (m : ℕ) (e : ℤ) (t : Bool) (n : ℕ) (d : ℤ)
    → Cross (fin s m e) (fin t n d) → gain s (m * up e * down d) + loss t (n * up d * down e) ≤ gain t (n * up d * down e) + loss s (m * up e * down d)
cross_says s m e t n d h = rw (gain_mul s (m * up e) (down d), loss_mul t (n * up d) (down e), gain_mul t (n * up d) (down e), loss_mul s (m * up e) (down d)) at h

-- x ≤ y of any two floats
abbrev pub Le : Float → Float → Type 0
Le nan y = ⊥
Le (inf s) nan = ⊥
Le (inf true) (inf t) = Unit {0}
Le (inf false) (inf true) = ⊥
Le (inf false) (inf false) = Unit {0}
Le (inf true) (fin t n d) = Unit {0}
Le (inf false) (fin t n d) = ⊥
Le (fin s m e) nan = ⊥
Le (fin s m e) (inf true) = ⊥
Le (fin s m e) (inf false) = Unit {0}
Le (fin s m e) (fin t n d) = Cross (fin s m e) (fin t n d)

pub le→Le : (x y : Float) → T (le x y) → Le x y
unfolding le
le→Le nan y h = h
le→Le (inf s) nan h = h
le→Le (inf true) (inf true) h = tt
le→Le (inf true) (inf false) h = tt
le→Le (inf false) (inf true) h = h
le→Le (inf false) (inf false) h = tt
le→Le (inf true) (fin t n d) h = tt
le→Le (inf false) (fin t n d) h = h
le→Le (fin s m e) nan h = h
le→Le (fin s m e) (inf true) h = h
le→Le (fin s m e) (inf false) h = tt
le→Le (fin s m e) (fin t n d) h = cross_is s m e t n d (order→sum s t (m * up e * down d) (n * up d * down e) h)

pub Le→le : (x y : Float) → Le x y → T (le x y)
unfolding le
Le→le nan y h = h
Le→le (inf s) nan h = h
Le→le (inf true) (inf true) h = tt
Le→le (inf true) (inf false) h = tt
Le→le (inf false) (inf true) h = h
Le→le (inf false) (inf false) h = tt
Le→le (inf true) (fin t n d) h = tt
Le→le (inf false) (fin t n d) h = h
Le→le (fin s m e) nan h = h
Le→le (fin s m e) (inf true) h = h
Le→le (fin s m e) (inf false) h = tt
Le→le (fin s m e) (fin t n d) h = sum→order s t (m * up e * down d) (n * up d * down e) (cross_says s m e t n d h)

pub to : (x y : Float) → le x y ≡ true → Le x y
to x y h = le→Le x y (so (le x y) h)

pub of : (x y : Float) → Le x y → le x y ≡ true
of x y h = yes (le x y) (Le→le x y h)

-- ---- fractions: p, n and d are those of the first, q, o and c of the second, and so on
pub under_trans : (p n d q o c r l b : ℕ) → 0 < c → Under p n d q o c → Under q o c r l b → Under p n d r l b
under_trans p n d q o c r l b C h k =
    le_of_mul-le-mul_right (joined (mul-le-mul_right b h) (mul-le-mul_right d k)) C
  where
    joined : (p * c + o * d) * b ≤ (q * d + n * c) * b → (q * b + l * c) * d ≤ (r * c + o * b) * d → (p * b + l * d) * c ≤ (r * d + n * b) * c
    joined h k = omega arith

Le-trans : (x y z : Float) → Le x y → Le y z → Le x z
Le-trans nan y z h k = absurd h
Le-trans (inf s) nan z h k = absurd h
Le-trans (fin s m e) nan z h k = absurd h
Le-trans (inf true) (inf t) nan h k = k
Le-trans (inf true) (inf t) (inf u) h k = tt
Le-trans (inf true) (inf t) (fin u n d) h k = tt
Le-trans (inf true) (fin t n d) nan h k = k
Le-trans (inf true) (fin t n d) (inf u) h k = tt
Le-trans (inf true) (fin t n d) (fin u o c) h k = tt
Le-trans (inf false) (inf true) z h k = absurd h
Le-trans (inf false) (inf false) z h k = k
Le-trans (inf false) (fin t n d) z h k = absurd h
Le-trans (fin s m e) (inf true) z h k = absurd h
Le-trans (fin s m e) (inf false) nan h k = k
Le-trans (fin s m e) (inf false) (inf true) h k = k
Le-trans (fin s m e) (inf false) (inf false) h k = tt
Le-trans (fin s m e) (inf false) (fin u o c) h k = absurd k
Le-trans (fin s m e) (fin t n d) nan h k = k
Le-trans (fin s m e) (fin t n d) (inf true) h k = k
Le-trans (fin s m e) (fin t n d) (inf false) h k = tt
Le-trans (fin s m e) (fin t n d) (fin u o c) h k = under_trans (gain s (m * up e)) (loss s (m * up e)) (down e) (gain t (n * up d)) (loss t (n * up d)) (down d) (gain u (o * up c)) (loss u (o * up c)) (down c) (den_pos (fin t n d)) h k

pub le_trans : (x y z : Float) → le x y ≡ true → le y z ≡ true → le x z ≡ true
le_trans x y z h k = of x z (Le-trans x y z (to x y h) (to y z k))

pub le_refl : (x : Float) → is_nan x ≡ false → le x x ≡ true
unfolding is_nan
le_refl nan h = absurd (true≢false h)
le_refl (inf true) h = unfold le in refl
le_refl (inf false) h = unfold le in refl
le_refl (fin s m e) h = of (fin s m e) (fin s m e) (omega arith)

pub finite_number : (x : Float) → T (finite x) → is_nan x ≡ false
unfolding is_nan
finite_number nan h = absurd h
finite_number (inf s) h = refl
finite_number (fin s m e) h = refl

pub le→cross : (x y : Float) → T (finite x) → T (finite y) → le x y ≡ true → Cross x y
le→cross nan y p q h = absurd p
le→cross (inf s) y p q h = absurd p
le→cross (fin s m e) nan p q h = absurd q
le→cross (fin s m e) (inf t) p q h = absurd q
le→cross (fin s m e) (fin t n d) p q h = to (fin s m e) (fin t n d) h

pub cross→le : (x y : Float) → T (finite x) → T (finite y) → Cross x y → le x y ≡ true
cross→le nan y p q h = absurd p
cross→le (inf s) y p q h = absurd p
cross→le (fin s m e) nan p q h = absurd q
cross→le (fin s m e) (inf t) p q h = absurd q
cross→le (fin s m e) (fin t n d) p q h = of (fin s m e) (fin t n d) h

-- ---- `lt` and `eq`
strict_says : (s : Bool) (m : ℕ) (e : ℤ) (t : Bool) (n : ℕ) (d : ℤ) → T (below s (m * up e * down d) t (n * up d * down e))
    → gain s (m * up e) * down d + loss t (n * up d) * down e < gain t (n * up d) * down e + loss s (m * up e) * down d
strict_says s m e t n d h =
    rw (gain_mul s (m * up e) (down d), loss_mul t (n * up d) (down e), gain_mul t (n * up d) (down e), loss_mul s (m * up e) (down d))
    (below→sum s t (m * up e * down d) (n * up d * down e) h)

strict_is : (s : Bool) (m : ℕ) (e : ℤ) (t : Bool) (n : ℕ) (d : ℤ)
    → gain s (m * up e) * down d + loss t (n * up d) * down e < gain t (n * up d) * down e + loss s (m * up e) * down d
    → T (below s (m * up e * down d) t (n * up d * down e))
strict_is s m e t n d h =
    sum→below s t (m * up e * down d) (n * up d * down e)
    (rw (gain_mul s (m * up e) (down d), loss_mul t (n * up d) (down e), gain_mul t (n * up d) (down e), loss_mul s (m * up e) (down d)) at h)

lt_clash : (x y : Float) → T (lt x y) → Le y x → ⊥
unfolding lt
lt_clash nan y h k = h
lt_clash (inf s) nan h k = h
lt_clash (inf true) (inf true) h k = h
lt_clash (inf true) (inf false) h k = k
lt_clash (inf false) (inf t) h k = h
lt_clash (inf true) (fin t n d) h k = k
lt_clash (inf false) (fin t n d) h k = h
lt_clash (fin s m e) nan h k = h
lt_clash (fin s m e) (inf true) h k = h
lt_clash (fin s m e) (inf false) h k = k
lt_clash (fin s m e) (fin t n d) h k = let l = strict_says s m e t n d h in omega arith

not_lt_Le : (x y : Float) → is_nan x ≡ false → is_nan y ≡ false → lt x y ≡ false → Le y x
unfolding lt is_nan
not_lt_Le nan y p q h = absurd (true≢false p)
not_lt_Le (inf s) nan p q h = absurd (true≢false q)
not_lt_Le (inf true) (inf true) p q h = tt
not_lt_Le (inf true) (inf false) p q h = absurd (true≢false h)
not_lt_Le (inf false) (inf true) p q h = tt
not_lt_Le (inf false) (inf false) p q h = tt
not_lt_Le (inf true) (fin t n d) p q h = absurd (true≢false h)
not_lt_Le (inf false) (fin t n d) p q h = tt
not_lt_Le (fin s m e) nan p q h = absurd (true≢false q)
not_lt_Le (fin s m e) (inf true) p q h = tt
not_lt_Le (fin s m e) (inf false) p q h = absurd (true≢false h)
not_lt_Le (fin s m e) (fin t n d) p q h =
    elim (cases_lt (gain s (m * up e) * down d + loss t (n * up d) * down e) (gain t (n * up d) * down e + loss s (m * up e) * down d)) [
      | inl l ↦ absurd (true≢false (sym (yes (below s (m * up e * down d) t (n * up d * down e)) (strict_is s m e t n d l)) ∙ h))
      | inr l ↦ omega arith
    ]

pub lt→le : (x y : Float) → lt x y ≡ true → le x y ≡ true
unfolding le
lt→le x y h = or_left (lt x y) (eq x y) h

pub le→not_lt : (x y : Float) → le x y ≡ true → lt y x ≡ false
le→not_lt x y h = refuted (lt y x) (λ (t : T (lt y x)). lt_clash y x t (to x y h))

pub lt→not_le : (x y : Float) → lt x y ≡ true → le y x ≡ false
lt→not_le x y h = refuted (le y x) (λ (t : T (le y x)). lt_clash x y (so (lt x y) h) (le→Le y x t))

pub not_lt→le : (x y : Float) → is_nan x ≡ false → is_nan y ≡ false → lt x y ≡ false → le y x ≡ true
not_lt→le x y p q h = of y x (not_lt_Le x y p q h)

-- strictly below, as fractions
pub strict→lt : (x y : Float) → T (finite x) → T (finite y) → plus x * den y + less y * den x < plus y * den x + less x * den y → lt x y ≡ true
unfolding lt
strict→lt nan y p q h = absurd p
strict→lt (inf s) y p q h = absurd p
strict→lt (fin s m e) nan p q h = absurd q
strict→lt (fin s m e) (inf t) p q h = absurd q
strict→lt (fin s m e) (fin t n d) p q h = yes (below s (m * up e * down d) t (n * up d * down e)) (strict_is s m e t n d h)

pub le_total : (x y : Float) → is_nan x ≡ false → is_nan y ≡ false → (le x y ≡ true) ⊎ (le y x ≡ true)
le_total x y p q = elim (cases_Bool (lt x y)) [ inl h ↦ inl (lt→le x y h) | inr h ↦ inr (not_lt→le x y p q h) ]

-- a side of a comparison that came out true is a number
pub left_number : (x y : Float) → le x y ≡ true → is_nan x ≡ false
unfolding is_nan
left_number nan y h = absurd (to nan y h)
left_number (inf s) y h = refl
left_number (fin s m e) y h = refl

pub right_number : (x y : Float) → le x y ≡ true → is_nan y ≡ false
unfolding is_nan
right_number x nan h = absurd (none x (to x nan h))
  where
    none : (x : Float) → Le x nan → ⊥
    none nan h = h
    none (inf s) h = h
    none (fin s m e) h = h
right_number x (inf s) h = refl
right_number x (fin s m e) h = refl

level_flip : (s : Bool) (a : ℕ) (t : Bool) (b : ℕ) → T (level s a t b) → T (level t b s a)
level_flip false a false b h = grind arith
level_flip false a true b h = grind arith
level_flip true a false b h = grind arith
level_flip true a true b h = grind arith

eq_flip : (x y : Float) → T (eq x y) → T (eq y x)
unfolding eq
eq_flip nan y h = absurd h
eq_flip (inf s) nan h = h
eq_flip (inf true) (inf true) h = h
eq_flip (inf true) (inf false) h = h
eq_flip (inf false) (inf true) h = h
eq_flip (inf false) (inf false) h = h
eq_flip (inf s) (fin t n d) h = h
eq_flip (fin s m e) nan h = h
eq_flip (fin s m e) (inf t) h = h
eq_flip (fin s m e) (fin t n d) h = level_flip s (m * up e * down d) t (n * up d * down e) h

pub eq→le : (x y : Float) → eq x y ≡ true → le x y ≡ true
unfolding le
eq→le x y h = or_right (lt x y) (eq x y) h

pub eq_sym : (x y : Float) → eq x y ≡ true → eq y x ≡ true
eq_sym x y h = yes (eq y x) (eq_flip x y (so (eq x y) h))

pub le_antisymm : (x y : Float) → le x y ≡ true → le y x ≡ true → eq x y ≡ true
unfolding le
le_antisymm x y h k = elim (or_cases (lt x y) (eq x y) h) [ inl l ↦ absurd (true≢false (sym l ∙ le→not_lt y x k)) | inr l ↦ l ]

-- ---- what lies between
pub le_between : (lo hi x : Float) → T (finite lo) → T (finite hi) → Between lo hi x → T (finite x)
le_between lo hi x p q b = go lo x hi p q (to lo x b.low) (to x hi b.high)
  where
    go : (lo x hi : Float) → T (finite lo) → T (finite hi) → Le lo x → Le x hi → T (finite x)
    go nan x hi p q h k = absurd p
    go (inf s) x hi p q h k = absurd p
    go (fin s m e) nan hi p q h k = h
    go (fin s m e) (inf true) hi p q h k = h
    go (fin s m e) (inf false) nan p q h k = q
    go (fin s m e) (inf false) (inf t) p q h k = q
    go (fin s m e) (inf false) (fin t n d) p q h k = k
    go (fin s m e) (fin t n d) hi p q h k = tt

pub between_widens : (lo lo' hi hi' x : Float) → le lo' lo ≡ true → le hi hi' ≡ true → Between lo hi x → Between lo' hi' x
between_widens lo lo' hi hi' x h k b = record { low = le_trans lo' lo x h b.low; high = le_trans x hi hi' b.high k }

-- ---- the negation
gain_not : (s : Bool) (a : ℕ) → gain (not s) a ≡ loss s a
gain_not true a = refl
gain_not false a = refl

loss_not : (s : Bool) (a : ℕ) → loss (not s) a ≡ gain s a
loss_not true a = refl
loss_not false a = refl

pub neg_plus : (x : Float) → plus (neg x) ≡ less x
unfolding neg
neg_plus nan = refl
neg_plus (inf s) = refl
neg_plus (fin s m e) = gain_not s (m * up e)

pub neg_less : (x : Float) → less (neg x) ≡ plus x
unfolding neg
neg_less nan = refl
neg_less (inf s) = refl
neg_less (fin s m e) = loss_not s (m * up e)

pub neg_den : (x : Float) → den (neg x) ≡ den x
unfolding neg
neg_den nan = refl
neg_den (inf s) = refl
neg_den (fin s m e) = refl

pub neg_finite : (x : Float) → T (finite x) → T (finite (neg x))
unfolding neg
neg_finite nan p = p
neg_finite (inf s) p = p
neg_finite (fin s m e) p = tt

Le-neg : (x y : Float) → Le x y → Le (neg y) (neg x)
unfolding neg
Le-neg nan y h = absurd h
Le-neg (inf s) nan h = absurd h
Le-neg (inf true) (inf true) h = tt
Le-neg (inf true) (inf false) h = tt
Le-neg (inf false) (inf true) h = h
Le-neg (inf false) (inf false) h = tt
Le-neg (inf true) (fin t n d) h = tt
Le-neg (inf false) (fin t n d) h = h
Le-neg (fin s m e) nan h = absurd h
Le-neg (fin s m e) (inf true) h = h
Le-neg (fin s m e) (inf false) h = tt
Le-neg (fin s m e) (fin t n d) h = rw (gain_not t (n * up d), loss_not s (m * up e), gain_not s (m * up e), loss_not t (n * up d)) (omega arith)

pub neg_turns : (x y : Float) → le x y ≡ true → le (neg y) (neg x) ≡ true
neg_turns x y h = of (neg y) (neg x) (Le-neg x y (to x y h))

-- ---- the lesser of two
pub lesser_left : (x y : Float) → is_nan x ≡ false → is_nan y ≡ false → le (lesser x y) x ≡ true
lesser_left x y p q = cond_both (lt x y) x y (λ z. le z x ≡ true) (λ h. le_refl x p) (λ h. not_lt→le x y p q h)

pub lesser_right : (x y : Float) → is_nan x ≡ false → is_nan y ≡ false → le (lesser x y) y ≡ true
lesser_right x y p q = cond_both (lt x y) x y (λ z. le z y ≡ true) (λ h. lt→le x y h) (λ h. le_refl y q)

pub lesser_above : (x y z : Float) → le z x ≡ true → le z y ≡ true → le z (lesser x y) ≡ true
lesser_above x y z h k = cond_both (lt x y) x y (λ w. le z w ≡ true) (λ l. h) (λ l. k)

pub lesser_rises : (x x' y y' : Float) → le x x' ≡ true → le y y' ≡ true → le (lesser x y) (lesser x' y') ≡ true
lesser_rises x x' y y' h k =
    let p = left_number x x' h in
    let q = left_number y y' k in
    cond_both (lt x' y') x' y' (λ z. le (lesser x y) z ≡ true) (λ l. le_trans (lesser x y) x x' (lesser_left x y p q) h) (λ l. le_trans (lesser x y) y y' (lesser_right x y p q) k)
