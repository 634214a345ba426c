-- A finite float as a fraction of natural numbers, (plus − less) / den, where plus or less is 0, and the order of such fractions multiplied out.
-- Assumes nothing.
use Rattle.std.specs.Prelude.{ℕ, ◌+◌, ◌*◌, ◌≤◌, Bool, true, false, ℤ, pos, negsuc, Float}
use Rattle.std.specs.Float.{nan, inf, fin}
use Rattle.std.specs.Float.Ieee.{up}
use Rattle.std.specs.Float.Ieee.Positive.{den}

-- a with its sign: what it adds, and what it takes away
abbrev pub gain : Bool → ℕ → ℕ
gain false a = a
gain true a = 0

abbrev pub loss : Bool → ℕ → ℕ
loss false a = 0
loss true a = a

-- the two parts of a finite value's numerator, over `den`
abbrev pub plus : Float → ℕ
plus nan = 0
plus (inf s) = 0
plus (fin s m e) = gain s (m * up e)

abbrev pub less : Float → ℕ
less nan = 0
less (inf s) = 0
less (fin s m e) = loss s (m * up e)

-- (p − n) / d ≤ (q − o) / c
abbrev pub Under : (p n d q o c : ℕ) → Type 0
Under p n d q o c = p * c + o * d ≤ q * d + n * c

-- x ≤ y, for finite x and y
abbrev pub Cross : Float → Float → Type 0
Cross x y = Under (plus x) (less x) (den x) (plus y) (less y) (den y)

-- 2 ^ e, and its negative where s is true
abbrev pub power : Bool → ℤ → Float
power s e = fin s 1 e

abbrev pub nought : Float
nought = fin false 0 (pos 0)

abbrev pub one : Float
one = power false (pos 0)

abbrev pub half : Float
half = power false (negsuc 0)
