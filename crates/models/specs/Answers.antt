-- What the calls of a model answer, by its meaning m. A symbol type says by `whole` which whole number a symbol is,
-- a probability type by `value` which number it holds. Assumes nothing.
use Rattle.std.specs.Prelude.{◌≡◌, ℕ, suc, ◌^◌, ◌<◌, ◌≤◌, ℤ, ◌≤ℤ◌, Some, None, Ok, Err, Option, Result}
use Rattle.models.specs.declared.fault.ModelFault.{ModelFault}
use Rattle.models.specs.declared.fault.ModelFault.TheVariants.{Beyond}
use Rattle.models.specs.Meaning.{Meaning, At, Interval, Holds}

-- Encode at the whole number z: the interval of its row, or nothing exactly where z is not in the support.
abbrev pub Encodes : {P : Type 0} → (P → ℕ) → Meaning → ℤ → Option (P × P) → Type 0
Encodes value m z None = (i : ℕ) → At m z i → ⊥
Encodes value m z (Some r) = (i : ℕ) × At m z i × Interval m i (value r.0) (value r.1)

-- The triple is row i: its symbol, its start and its length.
pub record IsRow {S P : Type 0} (whole : S → ℤ) (value : P → ℕ) (m : Meaning) (i : ℕ) (r : S × P × P) : Type 0 where
  pub at : At m (whole r.0) i
  pub interval : Interval m i (value r.1) (value r.2)

-- The row by its index: that row, or nothing exactly past the last.
abbrev pub Lists : {S P : Type 0} → (S → ℤ) → (P → ℕ) → Meaning → ℕ → Option (S × P × P) → Type 0
Lists whole value m i None = m.span < i
Lists whole value m i (Some r) = IsRow whole value m i r

-- Where row i starts, or where the last one ends at one past it; nothing exactly beyond.
abbrev pub Starts : Meaning → ℕ → Option ℕ → Type 0
Starts m i None = suc m.span < i
Starts m i (Some s) = (i ≤ suc m.span) × (s ≡ m.start i)

-- The triple is the one row whose interval holds q.
pub record Found {S P : Type 0} (whole : S → ℤ) (value : P → ℕ) (m : Meaning) (q : ℕ) (r : S × P × P) : Type 0 where
  pub index : ℕ
  pub row : IsRow whole value m index r
  pub holds : Holds m q index
  pub only : (j : ℕ) → Holds m q j → j ≡ index

-- Search at the quantile q: the one row that holds it, or the refusal exactly where q is 2 ^ bits or more.
abbrev pub Searches : {S P : Type 0} → (S → ℤ) → (P → ℕ) → Meaning → ℕ → Result (S × P × P) ModelFault → Type 0
Searches whole value m q (Ok r) = (q < 2 ^ m.bits) × Found whole value m q r
Searches whole value m q (Err f) = (2 ^ m.bits ≤ q) × (f ≡ Beyond)

-- z lies from least to most
pub record Between (least most z : ℤ) : Type 0 where
  pub from : least ≤ℤ z
  pub to : z ≤ℤ most

-- The symbol that stands for z, or nothing exactly where z is outside the type's range.
abbrev pub FromWhole : {S : Type 0} → (S → ℤ) → ℤ → ℤ → ℤ → Option S → Type 0
FromWhole whole least most z None = Between least most z → ⊥
FromWhole whole least most z (Some s) = Between least most z × (whole s ≡ z)

-- The symbol that stands for z, or for the greatest whole number of the type where z lies past it.
pub record Above {S : Type 0} (whole : S → ℤ) (most z : ℤ) (s : S) : Type 0 where
  pub within : z ≤ℤ most → whole s ≡ z
  pub past : most ≤ℤ z → whole s ≡ most

-- The probability that holds n, or nothing exactly where n takes more than the type's width.
abbrev pub FromValue : {P : Type 0} → (P → ℕ) → ℕ → ℕ → Option P → Type 0
FromValue value width n None = 2 ^ width ≤ n
FromValue value width n (Some p) = (n < 2 ^ width) × (value p ≡ n)

-- A maker's answer: a value with the property Q exactly where nothing is refused, else the refusal that is due.
abbrev pub Makes : {X F : Type 0} → Option F → (X → Type 0) → Result X F → Type 0
Makes due Q (Ok x) = (due ≡ None) × Q x
Makes due Q (Err f) = due ≡ Some f
