-- Whole numbers as floats, and the halves between them.
-- Assumes nothing.
use Rattle.std.proofs.Common.{◌≡◌, ℕ, zero, suc, ◌+◌, ◌-◌, ◌*◌, ◌^◌, ◌<◌, ◌≤◌, Bool, true, false, T, ℤ, pos, negsuc, neg_ℤ, ◌≤ℤ◌, ◌<ℤ◌, sym, refl, ap, inl, inr, zero-le, le_of_eq, zero-lt-suc, mul-pos, not-le_of_lt, arith, lit≤}
use native.Mathlib.Nat.{sub-zero}
use borrow.Author.Differences.{up as ahead, down as behind, le_out, lt_out, at_most_in}
use lib.IntN.{pred_ℤ}
use lib.Ieee.{Float, Format, binary64, prec, round, of_int, sub, le, lt, fits}
use lib.Ieee.Scale.{finite}
use lib.Ieee.Positive.{den, den_pos}
use lib.Ieee.Exact.{HasValue}
use lib.Ieee.Back.{round_whole}
use lib.Ieee.Fits.{sub-fits}
use Rattle.std.proofs.lemmas.Bool.{cases_lt}
use Rattle.rounding.specs.Fractions.{gain, loss, plus, less, Under, power, half}
use Rattle.rounding.specs.Rounded.{Rounds, Is}
use Rattle.rounding.specs.Wholes.{Within, half_below, OnLine, HalfBelow}
use Rattle.rounding.proofs.Order.{le_refl, le_trans, le_between, finite_number, strict→lt, cross→le, under_trans}
use Rattle.rounding.proofs.Rounded.{rounds_rise, rounds_same, rounds_exact, value_plus, value_less, value_finite}
use Rattle.rounding.proofs.Sums.{sub_rounds, sub_rises}

-- ---- an integer, rounded
pub of_int_rounds : (f : Format) (k : ℤ) → Rounds f (of_int f k) (ahead k) (behind k) 1
unfolding of_int
of_int_rounds f (pos n) = inl (zero-le, ap (λ (x : ℕ). round f false x 1) (sym (sub-zero n)))
of_int_rounds f (negsuc n) = inr (zero-le, ap (λ (x : ℕ). round f true x 1) (sym (sub-zero (suc n))))

pub of_int_rises : (f : Format) (k l : ℤ) → k ≤ℤ l → le (of_int f k) (of_int f l) ≡ true
of_int_rises f k l h =
    rounds_rise f (of_int f k) (of_int f l) (ahead k) (behind k) 1 (ahead l) (behind l) 1 (zero-lt-suc 0) (zero-lt-suc 0) (of_int_rounds f k) (of_int_rounds f l)
    (go (ahead k) (behind k) (ahead l) (behind l) (le_out k l h))
  where
    go : (a b c d : ℕ) → a + d ≤ c + b → Under a b 1 c d 1
    go a b c d h = omega arith

-- ---- exact
within_pos : (b n : ℕ) → Within b (pos n) → n ≤ b
within_pos b n w = let h = le_out (pos n) (pos b) w.high in omega arith

within_neg : (b n : ℕ) → Within b (negsuc n) → suc n ≤ b
within_neg zero n w = let h = le_out (pos zero) (negsuc n) w.low in omega arith
within_neg (suc b) n w = let h = le_out (negsuc b) (negsuc n) w.low in omega arith

pub within_ahead : (b : ℕ) (k : ℤ) → Within b k → ahead k ≤ b
within_ahead b (pos n) w = within_pos b n w
within_ahead b (negsuc n) w = zero-le

pub within_behind : (b : ℕ) (k : ℤ) → Within b k → behind k ≤ b
within_behind b (pos n) w = zero-le
within_behind b (negsuc n) w = within_neg b n w

is_of : (z : Float) (s : Bool) (a : ℕ) → HasValue z s a 1 → Is z (gain s a) (loss s a) 1
is_of z s a v = record { number = value_finite z s a 1 v; value = go (plus z) (less z) (gain s a) (loss s a) (den z) (value_plus z s a 1 v) (value_less z s a 1 v) }
  where
    go : (X L a b D : ℕ) → X * 1 ≡ a * D → L * 1 ≡ b * D → X * 1 + b * D ≡ a * D + L * 1
    go X L a b D h k = omega arith

pub of_int_exact : (f : Format) (k : ℤ) → Within (2 ^ prec f) k → Is (of_int f k) (ahead k) (behind k) 1
unfolding of_int
of_int_exact f (pos n) w = is_of (round f false n 1) false n (round_whole f false n (within_pos (2 ^ prec f) n w))
of_int_exact f (negsuc n) w = is_of (round f true (suc n) 1) true (suc n) (round_whole f true (suc n) (within_neg (2 ^ prec f) n w))

-- two exact values are in the order of their fractions
below_is : (x : Float) (p n d : ℕ) → Is x p n d → Under (plus x) (less x) (den x) p n d
below_is x p n d v = le_of_eq v.value

above_is : (x : Float) (p n d : ℕ) → Is x p n d → Under p n d (plus x) (less x) (den x)
above_is x p n d v = le_of_eq (sym v.value)

pub exact_le : (x y : Float) (p n d q o c : ℕ) → 0 < d → 0 < c → Is x p n d → Is y q o c → Under p n d q o c → le x y ≡ true
exact_le x y p n d q o c D C v w u =
    cross→le x y v.number w.number
    (under_trans (plus x) (less x) (den x) p n d (plus y) (less y) (den y) D (below_is x p n d v)
    (under_trans p n d q o c (plus y) (less y) (den y) C u (above_is y q o c w)))

pub exact_lt : (x y : Float) (p n d q o c : ℕ) → Is x p n d → Is y q o c → p * c + o * d < q * d + n * c → lt x y ≡ true
exact_lt x y p n d q o c v w h =
    strict→lt x y v.number w.number
    (elim (cases_lt (plus x * den y + less y * den x) (plus y * den x + less x * den y)) [
      | inl l ↦ l
      | inr l ↦
          absurd (not-le_of_lt h
          (under_trans q o c (plus y) (less y) (den y) p n d (den_pos y) (above_is y q o c w)
          (under_trans (plus y) (less y) (den y) (plus x) (less x) (den x) p n d (den_pos x) l (below_is x p n d v))))
    ])

pub of_int_strict : (f : Format) (k l : ℤ) → Within (2 ^ prec f) k → Within (2 ^ prec f) l → k <ℤ l → lt (of_int f k) (of_int f l) ≡ true
of_int_strict f k l v w h =
    exact_lt (of_int f k) (of_int f l) (ahead k) (behind k) 1 (ahead l) (behind l) 1 (of_int_exact f k v) (of_int_exact f l w)
    (go (ahead k) (behind k) (ahead l) (behind l) (lt_out k l h))
  where
    go : (a b c d : ℕ) → a + d < c + b → a * 1 + d * 1 < c * 1 + b * 1
    go a b c d h = omega arith

-- ---- k − 0.5
of_int_finite : (k : ℤ) → Within (2 ^ 53) k → T (finite (of_int binary64 k))
of_int_finite k w = (of_int_exact binary64 k w).number

pub half_rises : (k l : ℤ) → Within (2 ^ 53) k → Within (2 ^ 53) l → k ≤ℤ l → le (half_below k) (half_below l) ≡ true
half_rises k l v w h =
    sub_rises binary64 (of_int binary64 k) (of_int binary64 l) half half (of_int_finite k v) (of_int_finite l w) tt tt (of_int_rises binary64 k l h) (le_refl half (finite_number half tt))

-- a smaller reach lies within a larger one
pub within_more : (b c : ℕ) (k : ℤ) → b ≤ c → Within b k → Within c k
within_more b c k h w = record { low = at_most_in (neg_ℤ (pos c)) k (lower b c (le_out (neg_ℤ (pos b)) k w.low) h); high = at_most_in k (pos c) (let l = le_out k (pos b) w.high in omega arith) }
  where
    lower : (b c : ℕ) → ahead (neg_ℤ (pos b)) + behind k ≤ ahead k + behind (neg_ℤ (pos b)) → b ≤ c → ahead (neg_ℤ (pos c)) + behind k ≤ ahead k + behind (neg_ℤ (pos c))
    lower zero zero l h = l
    lower zero (suc c) l h = omega arith
    lower (suc b) zero l h = absurd (omega arith)
    lower (suc b) (suc c) l h = omega arith

pub half_rounds : (k : ℤ) → Within (2 ^ 53) k → Rounds binary64 (half_below k) (2 * ahead k) (2 * behind k + 1) 2
half_rounds k w =
    let z = of_int binary64 k in
    let v : Is z (ahead k) (behind k) 1 = of_int_exact binary64 k w in
    rounds_same binary64 (half_below k) (plus z * 2 + 0 * den z) (less z * 2 + 1 * den z) (den z * 2) (2 * ahead k) (2 * behind k + 1) 2
    (mul-pos (den_pos z) (zero-lt-suc 1)) (zero-lt-suc 1) (go (plus z) (less z) (den z) (ahead k) (behind k) v.value)
    (sub_rounds binary64 z half v.number tt)
  where
    go : (X L D a b : ℕ) → X * 1 + b * D ≡ a * D + L * 1 → (X * 2 + 0 * D) * 2 + (2 * b + 1) * (D * 2) ≡ 2 * a * (D * 2) + (L * 2 + 1 * D) * 2
    go X L D a b h = omega arith

pub half_exact : (k : ℤ) → Within (2 ^ 52 - 1) k → Is (half_below k) (2 * ahead k) (2 * behind k + 1) 2
half_exact k w =
    rounds_exact binary64 (half_below k) (2 * ahead k) (2 * behind k + 1) 1
    (go (ahead k) (within_ahead (2 ^ 52 - 1) k w)) (go' (behind k) (within_behind (2 ^ 52 - 1) k w)) (lit≤ tt)
    (half_rounds k (within_more (2 ^ 52 - 1) (2 ^ 53) k (lit≤ tt) w))
  where
    go : (a : ℕ) → a ≤ 2 ^ 52 - 1 → 2 * a < 2 ^ 53
    go a h = omega arith

    go' : (a : ℕ) → a ≤ 2 ^ 52 - 1 → 2 * a + 1 < 2 ^ 53
    go' a h = omega arith

pub half_strict : (k l : ℤ) → Within (2 ^ 52 - 1) k → Within (2 ^ 52 - 1) l → k <ℤ l → lt (half_below k) (half_below l) ≡ true
half_strict k l v w h =
    exact_lt (half_below k) (half_below l) (2 * ahead k) (2 * behind k + 1) 2 (2 * ahead l) (2 * behind l + 1) 2 (half_exact k v) (half_exact l w)
    (go (ahead k) (behind k) (ahead l) (behind l) (lt_out k l h))
  where
    go : (a b c d : ℕ) → a + d < c + b → 2 * a * 2 + (2 * d + 1) * 2 < 2 * c * 2 + (2 * b + 1) * 2
    go a b c d h = omega arith

pub half_under : (k : ℤ) → Within (2 ^ 52 - 1) k → lt (half_below k) (of_int binary64 k) ≡ true
half_under k w =
    exact_lt (half_below k) (of_int binary64 k) (2 * ahead k) (2 * behind k + 1) 2 (ahead k) (behind k) 1 (half_exact k w) (of_int_exact binary64 k (within_more (2 ^ 52 - 1) (2 ^ 53) k (lit≤ tt) w))
    (go (ahead k) (behind k))
  where
    go : (a b : ℕ) → 2 * a * 1 + b * 2 < a * 2 + (2 * b + 1) * 1
    go a b = omega arith

-- one less
pred_is : (k : ℤ) → ahead (pred_ℤ k) + behind k + 1 ≡ ahead k + behind (pred_ℤ k)
pred_is (pos zero) = refl
pred_is (pos (suc n)) = omega arith
pred_is (negsuc n) = omega arith

within_pred : (b : ℕ) (k : ℤ) → Within b k → Within (suc b) (pred_ℤ k)
within_pred b k w =
    let e = pred_is k in
    let l = le_out (neg_ℤ (pos b)) k w.low in
    let h = le_out k (pos b) w.high in
    record { low = at_most_in (negsuc b) (pred_ℤ k) (lower b l); high = at_most_in (pred_ℤ k) (pos (suc b)) (omega arith) }
  where
    lower : (b : ℕ) → ahead (neg_ℤ (pos b)) + behind k ≤ ahead k + behind (neg_ℤ (pos b)) → 0 + behind (pred_ℤ k) ≤ ahead (pred_ℤ k) + suc b
    lower zero l = let e = pred_is k in omega arith
    lower (suc b) l = let e = pred_is k in omega arith

pub half_over : (k : ℤ) → Within (2 ^ 52 - 1) k → lt (of_int binary64 (pred_ℤ k)) (half_below k) ≡ true
half_over k w =
    exact_lt (of_int binary64 (pred_ℤ k)) (half_below k) (ahead (pred_ℤ k)) (behind (pred_ℤ k)) 1 (2 * ahead k) (2 * behind k + 1) 2
    (of_int_exact binary64 (pred_ℤ k) (within_more (2 ^ 52) (2 ^ 53) (pred_ℤ k) (lit≤ tt) (within_pred (2 ^ 52 - 1) k w))) (half_exact k w)
    (go (ahead (pred_ℤ k)) (behind (pred_ℤ k)) (ahead k) (behind k) (pred_is k))
  where
    go : (c d a b : ℕ) → c + b + 1 ≡ a + d → c * 2 + (2 * b + 1) * 1 < 2 * a * 1 + d * 2
    go c d a b h = omega arith

pub half_fits : (k : ℤ) → T (fits binary64 (half_below k))
half_fits k = sub-fits binary64 (of_int binary64 k) half

-- ---- the ends, where the value computes
low_end : le (power true (pos 33)) (half_below (neg_ℤ (pos (2 ^ 32)))) ≡ true
unfolding le sub of_int
low_end = refl

high_end : le (half_below (pos (2 ^ 32))) (power false (pos 33)) ≡ true
unfolding le sub of_int
high_end = refl

end_low : Within (2 ^ 53) (neg_ℤ (pos (2 ^ 32)))
end_low = record { low = record { le = tt }; high = record { le = tt } }

end_high : Within (2 ^ 53) (pos (2 ^ 32))
end_high = record { low = record { le = tt }; high = record { le = tt } }

pub half_on_line : (k : ℤ) → Within (2 ^ 32) k → OnLine (half_below k)
half_on_line k w =
    let v = within_more (2 ^ 32) (2 ^ 53) k (lit≤ tt) w in
    record {
      low = le_trans (power true (pos 33)) (half_below (neg_ℤ (pos (2 ^ 32)))) (half_below k) low_end (half_rises (neg_ℤ (pos (2 ^ 32))) k end_low v w.low);
      high = le_trans (half_below k) (half_below (pos (2 ^ 32))) (power false (pos 33)) (half_rises k (pos (2 ^ 32)) v end_high w.high) high_end;
    }

pub half_finite : (k : ℤ) → Within (2 ^ 32) k → T (finite (half_below k))
half_finite k w = le_between (power true (pos 33)) (power false (pos 33)) (half_below k) tt tt (half_on_line k w)

-- ---- as code has it
pub half_below_lem : (k : ℤ) (r : Float) → r ≡ half_below k → HalfBelow k r
half_below_lem k r e = record { value = e; exact = λ w. rw e (half_exact k w); on_line = λ w. rw e (half_on_line k w) }
