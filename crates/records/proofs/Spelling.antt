-- What `decimal` writes, digit by digit, of every number of 128 bits.
use Rattle.std.proofs.Common.{◌≡◌, ℕ, zero, suc, ◌+◌, ◌/◌, ◌%◌, ◌^◌, ◌<◌, ◌≤◌, Bool, false, cond, List, [], ◌∷◌, ◌++◌, length, decimal, sym, refl, ap, ◌∙◌, ⊎_elim, append_assoc, div-lt_iff_lt-mul, pow-suc, arith, length-append}
use Rattle.std.specs.Fmt.{digit_glyph, digits_onto, digits}
use Rattle.std.proofs.lemmas.Bool.{eq-eqb, ne_eqb, lt-ltb, cases_lt}

abbrev spell : ℕ → ℕ → List ℕ → List ℕ
spell k n acc = digits_onto k 10 false n acc

abbrev low : ℕ → ℕ
low n = digit_glyph false (n % 10)

low_is : (n : ℕ) → low n ≡ 48 + n % 10
low_is n = ap (λ (b : Bool). cond b (48 + n % 10) (87 + n % 10)) (lt-ltb (n % 10) 10 (omega arith))

begins : (n : ℕ) → decimal n ≡ spell 64 n []
unfolding digits
begins n = refl

last : (k n : ℕ) (acc : List ℕ) → n < 10 → spell (suc k) n acc ≡ low n ∷ acc
last k n acc h = ap (λ (t : Bool). cond t (low n ∷ acc) (spell k (n / 10) (low n ∷ acc))) (eq-eqb (n / 10) 0 (omega arith))

next : (k n : ℕ) (acc : List ℕ) → 10 ≤ n → spell (suc k) n acc ≡ spell k (n / 10) (low n ∷ acc)
next k n acc h = ap (λ (t : Bool). cond t (low n ∷ acc) (spell k (n / 10) (low n ∷ acc))) (ne_eqb (n / 10) 0 (λ e. omega arith))

onto : (k n : ℕ) (acc : List ℕ) → spell k n acc ≡ spell k n [] ++ acc
onto zero n acc = refl
onto (suc k) n acc =
    ⊎_elim (λ l. last k n acc l ∙ ap (λ (x : List ℕ). x ++ acc) (sym (last k n [] l)))
    (λ l. next k n acc l ∙ onto k (n / 10) (low n ∷ acc) ∙ sym (append_assoc (spell k (n / 10) []) (low n ∷ []) acc) ∙ ap (λ (x : List ℕ). x ++ acc) (sym (next k n [] l ∙ onto k (n / 10) (low n ∷ []))))
    (cases_lt n 10)

front : (k n : ℕ) → n < 10 ^ suc k → n / 10 < 10 ^ k
front k n h = (div-lt_iff_lt-mul (omega arith)).1 (rw pow-suc at h)

-- turns to spare change nothing
turns : (j k n : ℕ) (acc : List ℕ) → n < 10 ^ suc j → n < 10 ^ suc k → spell (suc j) n acc ≡ spell (suc k) n acc
turns zero k n acc p q = last zero n acc (omega arith) ∙ sym (last k n acc (omega arith))
turns (suc j) zero n acc p q = last (suc j) n acc (omega arith) ∙ sym (last zero n acc (omega arith))
turns (suc j) (suc k) n acc p q =
    ⊎_elim (λ l. last (suc j) n acc l ∙ sym (last (suc k) n acc l))
    (λ l. next (suc j) n acc l ∙ turns j k (n / 10) (low n ∷ acc) (front (suc j) n p) (front (suc k) n q) ∙ sym (next (suc k) n acc l))
    (cases_lt n 10)

pub decimal_digit : (n : ℕ) → n < 10 → decimal n ≡ (48 + n) ∷ []
decimal_digit n h = begins n ∙ last 63 n [] h ∙ ap (λ (d : ℕ). d ∷ []) (low_is n ∙ omega arith)

pub decimal_step : (n : ℕ) → 10 ≤ n → n < 2 ^ 128 → decimal n ≡ decimal (n / 10) ++ ((48 + n % 10) ∷ [])
decimal_step n h small =
    begins n ∙ next 63 n [] h ∙ turns 62 63 (n / 10) (low n ∷ []) (omega arith) (omega arith) ∙ onto 64 (n / 10) (low n ∷ [])
    ∙ (λ i. sym (begins (n / 10)) i ++ (low_is n i ∷ []))

-- a number below 10 ^ k takes at most k bytes
pub length_decimal : (k n : ℕ) → n < 10 ^ suc k → n < 2 ^ 128 → length (decimal n) ≤ suc k
length_decimal zero n h small = omega (arith, ap length (decimal_digit n h))
length_decimal (suc k) n h small =
    ⊎_elim (λ l. omega (arith, ap length (decimal_digit n l)))
    (λ l. omega (arith, ap length (decimal_step n l small), length-append (decimal (n / 10)) ((48 + n % 10) ∷ []), length_decimal k (n / 10) (front (suc k) n h) (omega arith)))
    (cases_lt n 10)
