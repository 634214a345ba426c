-- What a model answers by its own meaning, it answers by the meaning that the numbers describe. Assumes nothing.
use Rattle.std.proofs.Common.{◌≡◌, ℕ, ℤ, Ok, Err, Option, Result, sym, subst₂}
use Rattle.models.specs.Answers.{Makes, Searches}
use Rattle.models.specs.Meaning.{Meaning}
use Rattle.channel.specs.Answered.{row_is}
use Rattle.channel.specs.Rows.{Row}
use Rattle.channel.specs.Steps.{itself}

-- a typed row that is found is found as whole numbers
pub searches_as :
    {S : Type 0} (whole : S → ℤ) (m m' : Meaning) (q : ℕ) (r : S × ℕ × ℕ) (row : Row)
    → m ≡ m' → row ≡ row_is whole itself r → Searches whole itself m q (Ok r) → Searches itself itself m' q (Ok row)
searches_as whole m m' q r row e is (below, found) =
    subst₂ (λ (x : Meaning) (y : Row). Searches itself itself x q (Ok y)) e (sym is)
    (below, record { index = found.index; row = record { at = found.row.at; interval = found.row.interval }; holds = found.holds; only = found.only })

-- a maker's answer has what follows from what it promises
pub makes_as :
    {X F : Type 0} (due : Option F) (Q R : X → Type 0) (r : Result X F) → ((x : X) → Q x → R x) → Makes due Q r → Makes due R r
makes_as due Q R (Ok x) follows (none, has) = (none, follows x has)
makes_as due Q R (Err f) follows is = is
