-- The fine logarithm: its law, and the turns of the loop that finds its bits. Assumes nothing.
use Rattle.std.specs.Prelude.{◌≡◌, ℕ, suc, ◌+◌, ◌-◌, ◌*◌, ◌%◌, ◌^◌, ◌<◌, ◌≤◌, refl}
use Rattle.std.proofs.Common.{sym, ap, ◌∙◌, subst, add_assoc, mul_comm, mul-le-mul_right, mul-le-mul_left, le_of_mul-le-mul_right, lt_of_mul-lt-mul_right, mod-eq_of_lt, arith, lit≤, pow-add, pow_pos, pow_mono, shl_lt}
use Rattle.std.proofs.Math.Nat.{one-le-pow, two-pow-succ}
use Rattle.std.specs.Int.Count.{count_leading_zeros}
use Rattle.measures.specs.Logarithms.{Bounds, Squared, place, bit_of, kept_of, fraction, fine}
use Rattle.measures.specs.Powers.{power_product, power_power}
use Rattle.measures.specs.Logs.{place_is}
use Rattle.measures.specs.Squares.{less_than_twice, bit_below, fraction_none, fraction_more, fraction_below, fraction_under, fraction_over, losses}

-- ---- the losses stay below a factor of 2
fraction_slack :
    (k x : ℕ) → 2 ^ 31 ≤ x → x < 2 ^ 32 → 2 * losses k ≤ 2 ^ 31
    → x ^ (2 ^ k) < 2 ^ (fraction k x + 2) * (2 ^ 31) ^ (2 ^ k)
fraction_slack k x h l few =
    lt_of_mul-lt-mul_right ((2 ^ 31) ^ losses k)
    (go (x ^ (2 ^ k)) ((2 ^ 31) ^ losses k) (2 ^ fraction k x) ((2 ^ 31) ^ (2 ^ k)) (suc (2 ^ 31) ^ losses k)
    (2 ^ suc (fraction k x)) (2 ^ (fraction k x + 2)) (two-pow-succ (fraction k x)) (pow-add 2 (fraction k x) 2)
    (fraction_over k x h l) (less_than_twice (losses k) (2 ^ 31) (pow_pos 31) few))
  where
    go :
        (X A f K R g i : ℕ) → g ≡ f + f → i ≡ f * 4 → X * A < g * K * R → R ≤ 2 * A → X * A < i * K * A
    go X A f K R g i a b h r =
        let more : g * K * R ≤ g * K * (2 * A) = mul-le-mul_left (g * K) r in
        let e : g * K * (2 * A) ≡ i * K * A = rw (a, b) (omega arith) in
        omega arith

-- ---- back from the shifted number
module _ (E F n z j : ℕ) (shift : j + z ≡ 31) where
  shifted : (n * 2 ^ z) ^ E ≡ n ^ E * (2 ^ z) ^ E
  shifted = power_product n (2 ^ z) E

  unit : (2 ^ 31) ^ E ≡ 2 ^ (E * j) * (2 ^ z) ^ E
  unit =
      ap (λ (t : ℕ). (2 ^ t) ^ E) (sym shift)
      ∙ ap (λ (t : ℕ). t ^ E) (pow-add 2 j z)
      ∙ power_product (2 ^ j) (2 ^ z) E
      ∙ ap (λ (t : ℕ). t * (2 ^ z) ^ E) (power_power 2 j E ∙ ap (λ (t : ℕ). 2 ^ t) (mul_comm j E))

  back_under : 2 ^ F * (2 ^ 31) ^ E ≤ (n * 2 ^ z) ^ E → 2 ^ (E * j + F) ≤ n ^ E
  back_under h =
      le_of_mul-le-mul_right
      (rw (pow-add 2 (E * j) F) (go (2 ^ F) (2 ^ (E * j)) ((2 ^ z) ^ E) (n ^ E) (rw (unit, shifted) at h)))
      (one-le-pow E (2 ^ z) (pow_pos z))
    where
      go : (f t s m : ℕ) → f * (t * s) ≤ m * s → t * f * s ≤ m * s
      go f t s m h = let e : t * f * s ≡ f * (t * s) = omega arith in omega arith

  back_over : (n * 2 ^ z) ^ E < 2 ^ (F + 2) * (2 ^ 31) ^ E → n ^ E < 2 ^ (E * j + F + 2)
  back_over h =
      lt_of_mul-lt-mul_right ((2 ^ z) ^ E)
      (rw (add_assoc (E * j) F 2, pow-add 2 (E * j) (F + 2)) (go (2 ^ (F + 2)) (2 ^ (E * j)) ((2 ^ z) ^ E) (n ^ E) (rw (unit, shifted) at h)))
    where
      go : (f t s m : ℕ) → m * s < f * (t * s) → m * s < t * f * s
      go f t s m h = let e : t * f * s ≡ f * (t * s) = omega arith in omega arith

-- a number shifted so that bit 31 is its highest
pub record Normal (n : ℕ) : Type 0 where
  pub shift : place n + count_leading_zeros 32 n ≡ 31
  pub high : 2 ^ 31 ≤ n * 2 ^ count_leading_zeros 32 n
  pub low : n * 2 ^ count_leading_zeros 32 n < 2 ^ 32

pub normal : (n : ℕ) → 0 < n → n < 2 ^ 32 → Normal n
normal n some small =
    let top = place_is n some small in
    let z = count_leading_zeros 32 n in
    let shift : place n + z ≡ 31 = omega (arith, top.0, top.1) in
    record {
      shift = shift;
      high = subst (λ (t : ℕ). t ≤ n * 2 ^ z) (sym (pow-add 2 (place n) z) ∙ ap (λ (t : ℕ). 2 ^ t) shift) (mul-le-mul_right (2 ^ z) top.2);
      low = subst (λ (t : ℕ). n * 2 ^ z < 2 ^ t) (next (place n) z shift) (shl_lt (suc (place n)) z top.3);
    }
  where
    next : (j z : ℕ) → j + z ≡ 31 → suc j + z ≡ 32
    next j z e = omega arith

few : 2 * losses 16 ≤ 2 ^ 31
unfolding losses
few = lit≤ tt

fine_under : (n : ℕ) → Normal n → 2 ^ fine n ≤ n ^ 65536
fine_under n v =
    let x = n * 2 ^ count_leading_zeros 32 n in
    back_under 65536 (fraction 16 x) n (count_leading_zeros 32 n) (place n) v.shift (fraction_under 16 x v.high v.low)

fine_over : (n : ℕ) → Normal n → n ^ 65536 < 2 ^ (fine n + 2)
fine_over n v =
    let x = n * 2 ^ count_leading_zeros 32 n in
    back_over 65536 (fraction 16 x) n (count_leading_zeros 32 n) (place n) v.shift (fraction_slack 16 x v.high v.low few)

pub fine_bounds : Bounds fine 2
unfolding count_leading_zeros fraction
fine_bounds = record {
  none = refl;
  under = λ n some small. fine_under n (normal n some small);
  over = λ n some small. fine_over n (normal n some small);
}

-- ---- the loop: v has the bits so far, and x gives the rest
pub record Turning (n k x v : ℕ) : Type 0 where
  pub high : 2 ^ 31 ≤ x
  pub value : v + fraction (16 - k) x ≡ fine n

pub turning_none : (n : ℕ) → 0 < n → n < 2 ^ 32 → Turning n 0 ((n * 2 ^ count_leading_zeros 32 n) % 2 ^ 32) (65536 * place n)
turning_none n some small = let v = normal n some small in rw (mod-eq_of_lt v.low) record { high = v.high; value = refl }

rest : (k : ℕ) → k < 16 → 16 - k ≡ suc (15 - k)
rest k h = omega arith

bit_fits : (n k : ℕ) → k < 16 → bit_of n * 2 ^ (15 - k) < 2 ^ 32
bit_fits n k h =
    let short : 15 - k ≤ 15 = omega arith in
    let p : 2 ^ (15 - k) ≤ 2 ^ 15 = pow_mono short in
    omega (arith, mul-le-mul_right (2 ^ (15 - k)) (bit_below n))

pub turning_more :
    (n k x v : ℕ) (r : ℕ × ℕ) → Turning n k x v → k < 16 → Squared x r
    → Turning n (suc k) r.1 (v + (r.0 * 2 ^ (15 - k)) % 2 ^ 32)
turning_more n k x v r before h s =
    let e : v + fraction (suc (15 - k)) x ≡ fine n = rw (rest k h) at before.value in
    record {
      high = s.high;
      value =
          rw (s.bit, s.kept, mod-eq_of_lt (bit_fits x k h))
          (go (16 - suc k) (15 - k) (omega arith) v (bit_of x * 2 ^ (15 - k)) (kept_of x) (fine n) (rw (fraction_more (15 - k) x) at e));
    }
  where
    go : (a b : ℕ) → a ≡ b → (v p y w : ℕ) → v + (p + fraction b y) ≡ w → v + p + fraction a y ≡ w
    go a b f v p y w h = rw f (omega arith)

pub turning_all : (n k x v : ℕ) → Turning n k x v → 16 ≤ k → v ≡ fine n
turning_all n k x v h l =
    let done : 16 - k ≡ 0 = omega arith in
    let e : v + fraction 0 x ≡ fine n = rw done at h.value in
    omega (arith, fraction_none x)

pub fine_fits : (n : ℕ) → fine n < 2 ^ 21
fine_fits n = omega (arith, fraction_below 16 (n * 2 ^ count_leading_zeros 32 n))

-- two values
pub fine_three : fine 3 ≡ 103872
unfolding count_leading_zeros fraction
fine_three = refl

pub fine_eight : fine 8 ≡ 196608
unfolding count_leading_zeros fraction
fine_eight = refl
