-- A power of two as a shift makes it, and as a remainder. Assumes nothing.
use Rattle.std.proofs.Common.{◌≡◌, ℕ, ◌+◌, ◌-◌, ◌*◌, ◌%◌, ◌^◌, ◌<◌, ◌≤◌, sym, ap, ◌∙◌, mod-eq_of_lt, one-mul, sub-add_cancel, pow-add}
use native.Mathlib.Nat.{mul-mod_left}
use lib.Pow.{pow-lt}

-- what `1u64 << k` computes
pub shifted_one : (k : ℕ) → k < 64 → (1 * 2 ^ k) % 2 ^ 64 ≡ 2 ^ k
shifted_one k h = ap (λ n. n % 2 ^ 64) (one-mul (2 ^ k)) ∙ mod-eq_of_lt (pow-lt h)

-- from the width on, a power is a multiple of 2 ^ width
pub power_wraps : (width k : ℕ) → width ≤ k → 2 ^ k % 2 ^ width ≡ 0
power_wraps width k h =
    let split : k ≡ (k - width) + width = sym (sub-add_cancel h) in
    ap (λ n. 2 ^ n % 2 ^ width) split
    ∙ ap (λ n. n % 2 ^ width) (pow-add 2 (k - width) width)
    ∙ mul-mod_left (2 ^ (k - width)) (2 ^ width)
