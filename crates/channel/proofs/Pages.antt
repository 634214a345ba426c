-- One row more on a page. Assumes nothing.
use Rattle.std.proofs.Common.{◌≡◌, ℕ, suc, ◌+◌, ◌-◌, ◌<◌, ◌≤◌, min, ◌≢◌, ◌⊎◌, List, [], ◌∷◌, ◌++◌, map, length, get_or, take, drop, set, ℤ, pos, sym, refl, ap, ◌∙◌, subst, inl, inr, arith, length-set, take_all, get_or-set_other, get_or-set_same}
use lib.ListN.{length-map}
use lib.Seq.{take-append-le}
use Rattle.std.proofs.lemmas.List.{get_or-map, get_or_past}
use Rattle.std.proofs.lemmas.Bool.{cases_eq, cases_lt}
use Rattle.models.specs.Answers.{IsRow}
use Rattle.models.specs.Meaning.{Meaning}
use Rattle.channel.specs.Answered.{row_is, buffers_of}
use Rattle.channel.specs.Events.{Buffers, filled}
use Rattle.channel.specs.Pages.{KeptFrom, Written}
use Rattle.channel.specs.Steps.{State, at, itself, Filled, Step}

-- what is not touched is kept
pub untouched : {X : Type 0} (n : ℕ) (xs : List X) → KeptFrom n xs xs
untouched n xs = record { same = λ k d h. refl; long = refl }

pub kept_more :
    {X : Type 0} (i : ℕ) (before after : List X) (x : X) → KeptFrom i before after → KeptFrom (i + 1) before (set after i x)
kept_more i before after x kept = record {
  same = λ k d h. let other : k ≢ i = omega arith in get_or-set_other after i k x d other ∙ kept.same k d (omega arith);
  long = length-set after i x ∙ kept.long;
}

-- a typed row is a row of whole numbers
as_numbers :
    {S P : Type 0} (whole : S → ℤ) (value : P → ℕ) (m : Meaning) (i : ℕ) (r : S × P × P)
    → IsRow whole value m i r → IsRow itself itself m i (row_is whole value r)
as_numbers whole value m i r row = record { at = row.at; interval = row.interval }

module _ {S P : Type 0} (whole : S → ℤ) (value : P → ℕ) (m : Meaning) (first : ℕ) where
  pub written_more :
      (i : ℕ) (symbols : List S) (starts lengths : List P) (s : S) (p l : P)
      → i < length symbols → i < length starts → i < length lengths
      → Written whole value m first i symbols starts lengths → IsRow whole value m (first + i) (s, p, l)
      → Written whole value m first (i + 1) (set symbols i s) (set starts i p) (set lengths i l)
  written_more i symbols starts lengths s p l a b c w row = record { rows = λ k d e f h. placed k d e f h (cases_eq k i) }
    where
      placed :
          (k : ℕ) (d : S) (e f : P) → k < i + 1 → (k ≡ i) ⊎ (k ≡ i → ⊥)
          → IsRow whole value m (first + k) (get_or (set symbols i s) k d, get_or (set starts i p) k e, get_or (set lengths i l) k f)
      placed k d e f h (inl here) =
          rw (here, get_or-set_same symbols i s d a, get_or-set_same starts i p e b, get_or-set_same lengths i l f c) row
      placed k d e f h (inr other) =
          rw (get_or-set_other symbols i k s d other, get_or-set_other starts i k p e other, get_or-set_other lengths i k l f other)
          (w.rows k d e f (omega (arith, other)))

-- some element of a list that has one
any : {X : Type 0} (xs : List X) (k : ℕ) → k < length xs → X
any [] k h = absurd (omega arith)
any (x ∷ xs) k h = x

-- what is kept is kept as whole numbers too
mapped_kept :
    {X Y : Type 0} (f : X → Y) (n : ℕ) (before after : List X) → KeptFrom n before after
    → (k : ℕ) (e : Y) → n ≤ k → get_or (map f after) k e ≡ get_or (map f before) k e
mapped_kept f n before after kept k e h =
    elim (cases_lt k (length after)) [
      | inl inside ↦
          let d = any after k inside in
          get_or-map f after k d e inside ∙ ap f (kept.same k d h)
          ∙ sym (get_or-map f before k d e (subst (λ (l : ℕ). k < l) kept.long inside))
      | inr past ↦
          get_or_past (map f after) k e (subst (λ (l : ℕ). l ≤ k) (sym (length-map after f)) past)
          ∙ sym (get_or_past (map f before) k e (subst (λ (l : ℕ). l ≤ k) (sym (length-map before f ∙ sym kept.long)) past))
    ]

mapped_long : {X Y : Type 0} (f : X → Y) (n : ℕ) (before after : List X) → KeptFrom n before after → length (map f after) ≡ length (map f before)
mapped_long f n before after kept = length-map after f ∙ kept.long ∙ sym (length-map before f)

module _ {S P : Type 0} (whole : S → ℤ) (value : P → ℕ) (m : Meaning) (row n : ℕ)
    (symbols symbols' : List S) (starts starts' lengths lengths' : List P)
    (symbols_kept : KeptFrom n symbols symbols') (starts_kept : KeptFrom n starts starts') (lengths_kept : KeptFrom n lengths lengths') where
  -- a written page is what a fill leaves
  pub page_filled :
      n ≤ min (length symbols) (min (length starts) (length lengths)) → n ≤ suc m.span - row
      → (0 < min (length symbols) (min (length starts) (length lengths)) → row ≤ m.span → 0 < n)
      → Written whole value m row n symbols' starts' lengths'
      → Filled (at m row) (buffers_of whole value symbols starts lengths) (buffers_of whole value symbols' starts' lengths') n
  page_filled held left some w = record {
    held = rw (length-map symbols whole, length-map starts value, length-map lengths value) held;
    left = left;
    some = rw (length-map symbols whole, length-map starts value, length-map lengths value) some;
    rows = λ k h.
        let a : k < length symbols' = omega (arith, held, symbols_kept.long) in
        let b : k < length starts' = omega (arith, held, starts_kept.long) in
        let c : k < length lengths' = omega (arith, held, lengths_kept.long) in
        let d = any symbols' k a in
        let e = any starts' k b in
        let f = any lengths' k c in
        rw (get_or-map whole symbols' k d (pos 0) a, get_or-map value starts' k e 0 b, get_or-map value lengths' k f 0 c)
        (as_numbers whole value m (row + k) (get_or symbols' k d, get_or starts' k e, get_or lengths' k f) (w.rows k d e f h));
    symbols_kept = mapped_kept whole n symbols symbols' symbols_kept;
    starts_kept = mapped_kept value n starts starts' starts_kept;
    lengths_kept = mapped_kept value n lengths lengths' lengths_kept;
    symbols_long = mapped_long whole n symbols symbols' symbols_kept;
    starts_long = mapped_long value n starts starts' starts_kept;
    lengths_long = mapped_long value n lengths lengths' lengths_kept;
  }

-- a buffer that was lent whole holds what was left in it
pub lent_back : {X : Type 0} (n : ℕ) (xs ws : List X) → length ws ≡ n → take n (ws ++ drop (length ws) xs) ≡ ws
lent_back n xs ws e =
    let within : n ≤ length ws = omega (arith, e) in
    take-append-le n ws (drop (length ws) xs) within ∙ take_all n ws (omega (arith, e))

-- a fill, by other names for its buffers
pub renamed :
    {S P : Type 0} (whole : S → ℤ) (value : P → ℕ) (s t : State) (n : ℕ)
    (a a' d d' : List S) (b b' c c' e e' f f' : List P)
    → a ≡ a' → b ≡ b' → c ≡ c' → d ≡ d' → e ≡ e' → f ≡ f'
    → Step s (filled (buffers_of whole value a b c) (buffers_of whole value d e f) n) t
    → Step s (filled (buffers_of whole value a' b' c') (buffers_of whole value d' e' f') n) t
renamed whole value s t n a a' d d' b b' c c' e e' f f' i j k l m o step =
    let before : buffers_of whole value a b c ≡ buffers_of whole value a' b' c' = cc in
    let after : buffers_of whole value d e f ≡ buffers_of whole value d' e' f' = cc in
    subst (λ (x : Buffers). Step s (filled x (buffers_of whole value d' e' f') n) t) before
    (subst (λ (x : Buffers). Step s (filled (buffers_of whole value a b c) x n) t) after step)
