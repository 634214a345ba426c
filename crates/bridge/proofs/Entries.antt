-- One entry more in a driver's buffers, and a row in other types. Assumes nothing.
use Rattle.std.proofs.Common.{◌≡◌, ℕ, ◌+◌, ◌<◌, ◌⊎◌, List, length, get_or, set, ℤ, Ok, subst, subst₂, inl, inr, arith, get_or-set_other, get_or-set_same}
use Rattle.std.proofs.lemmas.Bool.{cases_eq}
use Rattle.channel.specs.Answered.{row_is}
use Rattle.channel.specs.Steps.{itself}
use Rattle.models.specs.Answers.{IsRow, Searches}
use Rattle.models.specs.Meaning.{Meaning}

-- what is known of each entry below i, and of what is written at i, is known below i + 1
pub pairs_more :
    {T : Type 0} (P : ℕ → T → T → Type 0) (i : ℕ) (ss ls : List T) (s l : T) → i < length ss → i < length ls
    → ((k : ℕ) (e f : T) → k < i → P k (get_or ss k e) (get_or ls k f)) → P i s l
    → (k : ℕ) (e f : T) → k < i + 1 → P k (get_or (set ss i s) k e) (get_or (set ls i l) k f)
pairs_more {T} P i ss ls s l a b below here k e f h = placed (cases_eq k i)
  where
    placed : (k ≡ i) ⊎ (k ≡ i → ⊥) → P k (get_or (set ss i s) k e) (get_or (set ls i l) k f)
    placed (inl at) = rw (at, get_or-set_same ss i s e a, get_or-set_same ls i l f b) here
    placed (inr other) = rw (get_or-set_other ss i k s e other, get_or-set_other ls i k l f other) (below k e f (omega (arith, other)))

pub rows_more :
    {N T : Type 0} (P : ℕ → N → T → T → Type 0) (i : ℕ) (ns : List N) (ss ls : List T) (n : N) (s l e f : T)
    → i < length ns → i < length ss → i < length ls
    → ((k : ℕ) (d : N) → k < i → P k (get_or ns k d) (get_or ss k e) (get_or ls k f)) → P i n s l
    → (k : ℕ) (d : N) → k < i + 1 → P k (get_or (set ns i n) k d) (get_or (set ss i s) k e) (get_or (set ls i l) k f)
rows_more {N} {T} P i ns ss ls n s l e f a b c below here k d h = placed (cases_eq k i)
  where
    placed : (k ≡ i) ⊎ (k ≡ i → ⊥) → P k (get_or (set ns i n) k d) (get_or (set ss i s) k e) (get_or (set ls i l) k f)
    placed (inl at) = rw (at, get_or-set_same ns i n d a, get_or-set_same ss i s e b, get_or-set_same ls i l f c) here
    placed (inr other) =
        rw (get_or-set_other ns i k n d other, get_or-set_other ss i k s e other, get_or-set_other ls i k l f other) (below k d (omega (arith, other)))

-- a row that is found is found as whole numbers; the quantile may go by another name
pub as_numbers :
    {S P : Type 0} (whole : S → ℤ) (value : P → ℕ) (m : Meaning) (q q' : ℕ) (r : S × P × P)
    → q ≡ q' → Searches whole value m q (Ok r) → Searches itself itself m q' (Ok (row_is whole value r))
as_numbers whole value m q q' r e (below, found) =
    subst (λ (x : ℕ). Searches itself itself m x (Ok (row_is whole value r))) e (
      below,
      record { index = found.index; row = record { at = found.row.at; interval = found.row.interval }; holds = found.holds; only = found.only },
    )

pub ones_more :
    {X : Type 0} (P : ℕ → X → Type 0) (i : ℕ) (xs : List X) (x : X) → i < length xs
    → ((k : ℕ) (d : X) → k < i → P k (get_or xs k d)) → P i x → (k : ℕ) (d : X) → k < i + 1 → P k (get_or (set xs i x) k d)
ones_more {X} P i xs x a below here k d h = placed (cases_eq k i)
  where
    placed : (k ≡ i) ⊎ (k ≡ i → ⊥) → P k (get_or (set xs i x) k d)
    placed (inl e) = rw (e, get_or-set_same xs i x d a) here
    placed (inr other) = rw (get_or-set_other xs i k x d other) (below k d (omega (arith, other)))

-- a row of a model that goes by another name
pub row_of :
    {N M : Type 0} (whole : N → ℤ) (meaning : M → Meaning) (a b : M) (i j : ℕ) (r : N × ℕ × ℕ)
    → a ≡ b → i ≡ j → IsRow whole itself (meaning a) i r → IsRow whole itself (meaning b) j r
row_of {N} {M} whole meaning a b i j r e f row = subst₂ (λ (x : M) (y : ℕ). IsRow whole itself (meaning x) y r) e f row
