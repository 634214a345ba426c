-- The decimal text of a number, by its places: how `decimal` splits at a power of ten.
use Rattle.std.proofs.Common.{◌≡◌, ℕ, zero, suc, ◌+◌, ◌-◌, ◌*◌, ◌/◌, ◌%◌, ◌^◌, ◌<◌, ◌≤◌, List, [], ◌∷◌, ◌++◌, length, ℤ, pos, negsuc, nat_abs, decimal, sym, refl, ap, ◌∙◌, append_assoc, append-nil, zero-le, mod-lt, mod-eq_of_lt, div-lt_iff_lt-mul, pow-suc, le-div_iff_mul-le, div-one, sub-one, arith, length-append, SFits}
use native.Mathlib.Nat.{div-div-eq-div-mul, pow-succ'}
use lib.Arith.{mod-mul, digits_div, digits_mod}
use mir.Syntax.{w128}
use lib.Signed.{lt_z}
use Rattle.std.specs.Fmt.{sign_text, signed_decimal}
use Rattle.std.proofs.lemmas.Bool.{le-ltb}
use Rattle.records.specs.Places.{places}
use Rattle.records.proofs.Spelling.{decimal_digit, decimal_step, length_decimal}

pub ten_pos : (k : ℕ) → 0 < 10 ^ k
ten_pos zero = omega arith
ten_pos (suc k) = rw pow-suc (omega (arith, ten_pos k))

pub length_places : (k n : ℕ) → length (places k n) ≡ k
length_places zero n = refl
length_places (suc k) n = ap suc (length_places k n)

shift : (k n : ℕ) → n / 10 ^ suc k ≡ n / 10 / 10 ^ k
shift k n = rw pow-succ' (sym (div-div-eq-div-mul n 10 (10 ^ k)))

-- the lowest place apart
pub places_push : (k n : ℕ) → places (suc k) n ≡ places k (n / 10) ++ ((48 + n % 10) ∷ [])
places_push zero n = ap (λ (m : ℕ). (48 + m % 10) ∷ []) (div-one n)
places_push (suc k) n =
    let e : places (suc k) n ≡ places k (n / 10) ++ ((48 + n % 10) ∷ []) = places_push k n in
    let s : n / 10 ^ suc k ≡ n / 10 / 10 ^ k = shift k n in
    cc

-- a number's text is that of its front, and then its lowest k places
pub decimal_split : (k n : ℕ) → (0 < k → 10 ^ k ≤ n) → n < 2 ^ 128 → decimal n ≡ decimal (n / 10 ^ k) ++ places k n
decimal_split zero n h f = rw div-one (sym (append-nil (decimal n)))
decimal_split (suc k) n h f =
    let all : 10 ^ suc k ≤ n = h (omega arith) in
    let front : 10 ^ k * 10 ≤ n = rw pow-suc at all in
    let some : 10 ≤ n = omega (arith, ten_pos k) in
    let step : decimal n ≡ decimal (n / 10) ++ ((48 + n % 10) ∷ []) = decimal_step n some f in
    let rest : decimal (n / 10) ≡ decimal (n / 10 / 10 ^ k) ++ places k (n / 10) =
    decimal_split k (n / 10) (λ _. (le-div_iff_mul-le (omega arith)).1 front) (omega arith)
    in
    let e : n / 10 ^ suc k ≡ n / 10 / 10 ^ k = shift k n in
    let p : places (suc k) n ≡ places k (n / 10) ++ ((48 + n % 10) ∷ []) = places_push k n in
    let a : (decimal (n / 10 / 10 ^ k) ++ places k (n / 10)) ++ ((48 + n % 10) ∷ []) ≡ decimal (n / 10 / 10 ^ k) ++ (places k (n / 10) ++ ((48 + n % 10) ∷ [])) =
    append_assoc (decimal (n / 10 / 10 ^ k)) (places k (n / 10)) ((48 + n % 10) ∷ [])
    in
    cc

-- all of a number's places are its text
pub decimal_places : (k n : ℕ) → 0 < k → n < 10 ^ k → (1 < k → 10 ^ (k - 1) ≤ n) → n < 2 ^ 128 → decimal n ≡ places k n
decimal_places zero n h b l f = absurd (omega arith)
decimal_places (suc k) n h b l f =
    let front : (0 < k → 10 ^ k ≤ n) = λ some. simp sub-one at (l (omega arith)) in
    let digit : n / 10 ^ k < 10 = (div-lt_iff_lt-mul (ten_pos k)).1 (rw pow-succ' at b) in
    let split : decimal n ≡ decimal (n / 10 ^ k) ++ places k n = decimal_split k n front f in
    let one : decimal (n / 10 ^ k) ≡ (48 + n / 10 ^ k) ∷ [] = decimal_digit (n / 10 ^ k) digit in
    let same : n / 10 ^ k % 10 ≡ n / 10 ^ k = mod-eq_of_lt digit in
    cc

-- the lowest k places are those of the remainder
pub places_mod : (k n : ℕ) → places k (n % 10 ^ k) ≡ places k n
places_mod zero n = refl
places_mod (suc k) n =
    let m : n % 10 ^ suc k ≡ (n / 10 % 10 ^ k) * 10 + n % 10 = rw pow-suc (mod-mul n (ten_pos k) (omega arith)) in
    let d : n % 10 ^ suc k / 10 ≡ n / 10 % 10 ^ k = rw m (digits_div (n / 10 % 10 ^ k) (mod-lt n (omega arith))) in
    let u : n % 10 ^ suc k % 10 ≡ n % 10 = rw m (digits_mod (n / 10 % 10 ^ k) (mod-lt n (omega arith))) in
    let p : places (suc k) (n % 10 ^ suc k) ≡ places k (n % 10 ^ suc k / 10) ++ ((48 + n % 10 ^ suc k % 10) ∷ []) = places_push k (n % 10 ^ suc k) in
    let q : places (suc k) n ≡ places k (n / 10) ++ ((48 + n % 10) ∷ []) = places_push k n in
    let i : places k (n / 10 % 10 ^ k) ≡ places k (n / 10) = places_mod k (n / 10) in
    cc

-- one more digit is written: k places were left
pub places_more : (before after : List ℕ) (k n power : ℕ) → 0 < k → power ≡ 10 ^ (k - 1) → after ≡ before ++ ((48 + n / power % 10) ∷ []) → after ++ places (k - 1) n ≡ before ++ places k n
places_more before after zero n power h p e = absurd (omega arith)
places_more before after (suc k) n power h p e =
    let q : power ≡ 10 ^ k = simp sub-one at p in
    let a = append_assoc before ((48 + n / power % 10) ∷ []) (places k n) in
    simp sub-one (cc)

-- past k places, the front and the lowest k places: d is the power of ten
pub decimal_halves : (k n d : ℕ) → d ≡ 10 ^ k → d ≤ n → n < 2 ^ 128 → decimal (n / d) ++ places k (n % d) ≡ decimal n
decimal_halves k n d e h f = rw (e, places_mod) (sym (decimal_split k n (λ _. rw e at h) f))

pub length_halves : (k n d : ℕ) → d ≡ 10 ^ k → d ≤ n → n < 2 ^ 128 → length (decimal n) ≡ length (decimal (n / d)) + k
length_halves k n d e h f =
    ap length (sym (decimal_halves k n d e h f)) ∙ length-append (decimal (n / d)) (places k (n % d)) ∙ ap (λ (m : ℕ). length (decimal (n / d)) + m) (length_places k (n % d))

-- the sign, and then the magnitude: y is z
pub signed_parts : (z y : ℤ) (n : ℕ) → y ≡ z → n ≡ nat_abs y → sign_text (lt_z y (pos 0)) ++ decimal n ≡ signed_decimal z
signed_parts z y n e f = ap (λ (m : ℕ). sign_text (lt_z y (pos 0)) ++ decimal m) f ∙ parts y ∙ ap signed_decimal e
  where
    parts : (x : ℤ) → sign_text (lt_z x (pos 0)) ++ decimal (nat_abs x) ≡ signed_decimal x
    parts (pos n) = rw (le-ltb n 0 zero-le)
    parts (negsuc n) = refl

pub length_signed_parts : (z y : ℤ) (n : ℕ) → y ≡ z → n ≡ nat_abs y → length (signed_decimal z) ≡ length (sign_text (lt_z y (pos 0))) + length (decimal n)
length_signed_parts z y n e f = ap length (sym (signed_parts z y n e f)) ∙ length-append (sign_text (lt_z y (pos 0))) (decimal n)

-- an i128 takes at most 40 bytes
pub length_signed : (z : ℤ) → SFits w128 z → length (signed_decimal z) ≤ 40
length_signed (pos n) f = omega (arith, length_decimal 38 n (omega (arith, f.sfits)) (omega (arith, f.sfits)))
length_signed (negsuc n) f = omega (arith, length_decimal 38 (suc n) (omega (arith, f.sfits)) (omega (arith, f.sfits)))
