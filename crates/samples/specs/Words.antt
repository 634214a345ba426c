-- The words that are names, and what a word is read as. Assumes nothing.
use Rattle.std.specs.Prelude.{◌≡◌, ◌≢◌, List, ℕ, Result, MatchResult, codes}
use Rattle.samples.specs.declared.case.SymbolType.{SymbolType}
use Rattle.samples.specs.declared.case.SymbolType.TheVariants.{I16, U16, I32, U32}
use Rattle.samples.specs.declared.case.Width.{Width}
use Rattle.samples.specs.declared.case.Width.TheVariants.{Bits16, Bits32}

abbrev pub type_word : SymbolType → List ℕ
type_word I16 = codes "i16"
type_word U16 = codes "u16"
type_word I32 = codes "i32"
type_word U32 = codes "u32"

abbrev pub width_word : Width → List ℕ
width_word Bits16 = codes "16"
width_word Bits32 = codes "32"

-- a text is read as the value whose word it is, and refused where it is the word of none
abbrev pub Names : {T E : Type 0} → (T → List ℕ) → List ℕ → Result T E → Type 0
Names word text r = MatchResult r (λ x. text ≡ word x) (λ _. (x : _) → text ≢ word x)
