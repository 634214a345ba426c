-- The greatest index that passes a test. Assumes nothing.
use Rattle.std.specs.Prelude.{◌≡◌, ℕ, zero, suc, ◌<◌, ◌≤◌, Bool, true, false, cond, ◌⊎◌}
use Rattle.std.proofs.Common.{sym, ◌∙◌, true≢false, inl, inr, zero-le, le_refl, lt_irrefl, lt_of_lt_of_le, arith}
use Rattle.std.proofs.lemmas.Bool.{cond_both, cases_order}

-- the greatest index up to n that passes the test, and 0 where none does
unfoldable pub greatest : (ℕ → Bool) → ℕ → ℕ
greatest test zero = 0
greatest test (suc n) = cond (test (suc n)) (suc n) (greatest test n)

pub record Greatest (test : ℕ → Bool) (n i : ℕ) : Type 0 where
  pub within : i ≤ n
  pub passes : 0 < i → test i ≡ true
  pub above : (j : ℕ) → i < j → j ≤ n → test j ≡ false

-- it is what its name says
pub greatest_is : (test : ℕ → Bool) (n : ℕ) → Greatest test n (greatest test n)
unfolding greatest
greatest_is test zero = record { within = zero-le; passes = λ h. absurd (lt_irrefl 0 h); above = λ j h k. absurd (lt_irrefl 0 (lt_of_lt_of_le h k)) }
greatest_is test (suc n) =
    let g = greatest_is test n in
    cond_both (test (suc n)) (suc n) (greatest test n) (Greatest test (suc n))
    (λ e. record { within = le_refl (suc n); passes = λ h. e; above = λ j h k. absurd (lt_irrefl (suc n) (lt_of_lt_of_le h k)) })
    (λ e. record { within = omega (arith, g.within); passes = g.passes; above = λ j h k. last g e j h k (cases_order j (suc n)) })
  where
    last : Greatest test n (greatest test n) → test (suc n) ≡ false → (j : ℕ) → greatest test n < j → j ≤ suc n → (j ≡ suc n) ⊎ ((j < suc n) ⊎ (suc n < j)) → test j ≡ false
    last g e j h k (inl i) = rw i e
    last g e j h k (inr (inl i)) = g.above j h (omega arith)
    last g e j h k (inr (inr i)) = absurd (lt_irrefl (suc n) (lt_of_lt_of_le i k))

-- and nothing else is
pub greatest_only : (test : ℕ → Bool) (n i : ℕ) → Greatest test n i → i ≡ greatest test n
greatest_only test n i g = go (greatest_is test n) (cases_order i (greatest test n))
  where
    go : Greatest test n (greatest test n) → (i ≡ greatest test n) ⊎ ((i < greatest test n) ⊎ (greatest test n < i)) → i ≡ greatest test n
    go k (inl e) = e
    go k (inr (inl h)) = absurd (true≢false (sym (k.passes (omega arith)) ∙ g.above (greatest test n) h k.within))
    go k (inr (inr h)) = absurd (true≢false (sym (g.passes (omega arith)) ∙ k.above i h g.within))
