-- What a Profile is made of, and the rules of its table.
-- Assumes nothing.
use Rattle.std.specs.Prelude.{◌≡◌, ℕ, ◌-◌, ◌<◌, ◌≤◌, List, length, ℤ, Ok, Err, Result, slice_index}
use Rattle.distributions.specs.declared.fault.DistributionFault.{DistributionFault}
use Rattle.distributions.specs.declared.fault.DistributionFault.TheVariants.{Knots}

pub record Parts : Type 0 where
  pub start : ℤ
  pub width : ℕ
  pub knots : List ℕ

abbrev pub parts : ℤ → ℕ → List ℕ → Parts
parts a w c = record { start = a; width = w; knots = c }

-- ---- the rules of a table
pub record Counted (c : List ℕ) : Type 0 where
  pub some : 2 ≤ length c
  pub most : length c ≤ 1025

pub record Wide (w : ℕ) : Type 0 where
  pub some : 1 ≤ w
  pub most : w ≤ 65536

abbrev pub FromZero : List ℕ → Type 0
FromZero c = slice_index c 0 ≡ 0

-- each knot is at least the one before it (and knot 0 at least itself)
abbrev pub Rising : List ℕ → Type 0
Rising c = (i : ℕ) → i < length c → slice_index c (i - 1) ≤ slice_index c i

abbrev pub last_knot : List ℕ → ℕ
last_knot c = slice_index c (length c - 1)

pub record Sound (w : ℕ) (c : List ℕ) : Type 0 where
  pub counted : Counted c
  pub wide : Wide w
  pub first : FromZero c
  pub rising : Rising c
  pub last : 0 < last_knot c

-- knot i is the first that is lower than the one before it
pub record FirstFall (c : List ℕ) (i : ℕ) : Type 0 where
  pub within : i < length c
  pub falls : slice_index c i < slice_index c (i - 1)
  pub before : (j : ℕ) → j < i → slice_index c (j - 1) ≤ slice_index c j

-- the first rule that a table breaks, in the order of the checks, and the place of the knot that breaks it
pub data Breaks (w : ℕ) (c : List ℕ) : ℕ → Type 0 where
  count : (Counted c → ⊥) → Breaks w c 0
  width : Counted c → (Wide w → ⊥) → Breaks w c 0
  first : Counted c → Wide w → (FromZero c → ⊥) → Breaks w c 0
  rising : {i : ℕ} → Counted c → Wide w → FromZero c → FirstFall c i → Breaks w c i
  last : {i : ℕ} → Counted c → Wide w → FromZero c → Rising c → last_knot c ≡ 0 → i ≡ length c - 1 → Breaks w c i

-- the fault that is due
pub record Due (w : ℕ) (c : List ℕ) (f : DistributionFault) : Type 0 where
  pub place : ℕ
  pub breaks : Breaks w c place
  pub fault : f ≡ Knots place

-- a table passes exactly where no rule is broken
abbrev pub Judged : {U : Type 0} → ℕ → List ℕ → Result U DistributionFault → Type 0
Judged w c (Ok u) = Sound w c
Judged w c (Err f) = Due w c f

-- the new table is sound, and stands afterwards
pub record Laid (new after : Parts) : Type 0 where
  pub sound : Sound new.width new.knots
  pub stands : after ≡ new

-- the new table is refused, and what stood before stands afterwards
pub record Kept (new before after : Parts) (f : DistributionFault) : Type 0 where
  pub due : Due new.width new.knots f
  pub stands : after ≡ before

-- Laying a table: it passes exactly where no rule is broken.
abbrev pub Lays : {U : Type 0} → Parts → Parts → Parts → Result U DistributionFault → Type 0
Lays new before after (Ok u) = Laid new after
Lays new before after (Err f) = Kept new before after f
