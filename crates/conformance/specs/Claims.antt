-- What is claimed of a model, in whole numbers, and when a claim is true: by the definitions that the contracts of models cite.
-- Assumes nothing.
use Rattle.std.specs.Prelude.{◌≡◌, ℕ, ◌^◌, ◌≤◌, ℤ, Bool, Ok, Err, Result, Decides, to_bits, Float, List, ◌++◌, codes, decimal}
use Rattle.std.specs.Float.{binary64}
use Rattle.models.specs.Answers.{Between, Encodes, Searches}
use Rattle.models.specs.Meaning.{Meaning}
use Rattle.models.specs.Faults as models
use Rattle.distributions.specs.Faults as distributions
use Rattle.measures.specs.Shares.{Likely}
use Rattle.samples.specs.declared.claim.Claim.{Claim}
use Rattle.samples.specs.declared.claim.Claim.TheVariants as claim
use Rattle.conformance.specs.declared.judging.Unjudged.{Unjudged}
use Rattle.conformance.specs.declared.judging.Unjudged.TheVariants.{Misfits, Model, Distribution}

-- the probability of z has these bits
pub record LikelyBits (m : Meaning) (z : ℤ) (bits : ℕ) : Type 0 where
  pub share : Float
  pub likely : Likely m z share
  pub same : to_bits binary64 share ≡ bits

abbrev pub Stands : Meaning → Claim → Type 0
Stands m (claim.Encoded z said) = Encodes (λ n. n) m z said
Stands m (claim.Searched q said) = Searches (λ k. k) (λ n. n) m q (Ok said)
Stands m (claim.Likely z bits) = LikelyBits m z bits

-- the symbol or the quantile of a claim has no place in the types of the model
abbrev pub Strange : ℤ → ℤ → ℕ → Claim → Type 0
Strange least most width (claim.Encoded z said) = Between least most z → ⊥
Strange least most width (claim.Searched q said) = 2 ^ width ≤ q
Strange least most width (claim.Likely z bits) = Between least most z → ⊥

-- whether a claim agrees with the model, or why it is not judged
abbrev pub Verdict : Type 0
Verdict = Result Bool Unjudged

-- What is said of a claim about a model that was made.
abbrev pub Judged : ℤ → ℤ → ℕ → Meaning → Claim → Verdict → Type 0
Judged least most width m c (Ok agrees) = Decides agrees (Stands m c)
Judged least most width m c (Err Misfits) = Strange least most width c
Judged least most width m c (Err (Model fault)) = ⊥
Judged least most width m c (Err (Distribution fault)) = ⊥

-- why a claim is not judged, as it is printed
abbrev pub text_of : Unjudged → List ℕ
text_of Misfits = codes "not of the model's types"
text_of (Model fault) = codes "refused " ++ decimal (models.number_of fault)
text_of (Distribution fault) = codes "refused " ++ decimal (distributions.number_of fault)
