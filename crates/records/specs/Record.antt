-- The record of a channel: 32 bytes, little-endian.
-- Byte 0 is the kind, 1 uniform or 2 Peak, and byte 1 the precision. Bytes 4 to 7 are the lowest symbol and 8 to 11 the
-- highest (i32), 16 to 23 a Peak's centre and 24 to 31 its scale (f64). All other bytes are zero, and so are those of
-- the lowest symbol, the centre and the scale in a uniform record, whose range is the highest symbol and one.
use Rattle.std.specs.Prelude.{◌≡◌, ℕ, zero, suc, ◌+◌, ◌*◌, ◌<◌, ◌≤◌, Bool, true, false, cond, not, ◌&&◌, ◌||◌, ◌⊎◌, List, length, pos, ◌+ℤ◌, Ok, Err, Result, ◌==◌, from_bits, nat_le, nat_lt, slice_index, Float}
use Rattle.std.specs.Float.{fin, binary64}
use Rattle.std.specs.Int.{w32}
use Rattle.std.proofs.Common.{to_z}
use Rattle.records.specs.declared.fault.RecordFault.{RecordFault}
use Rattle.records.specs.declared.fault.RecordFault.TheVariants.{Malformed}
use Rattle.records.specs.declared.layout.Fields.{Fields}
use Rattle.records.specs.declared.layout.Fields.TheVariants.{Uniform, Peak}
use Rattle.records.specs.declared.layout.Kind.{Kind}
use Rattle.records.specs.declared.layout.Kind.TheVariants as kind

abbrev pub byte : List ℕ → ℕ → ℕ
byte bytes i = slice_index bytes i

abbrev from : ℕ → ℕ → ℕ → Bool
from first next i = nat_le first i && nat_lt i next

-- offsets whose byte is zero in every record
abbrev pub unused : ℕ → Bool
unused i = from 2 4 i || from 12 16 i

-- offsets that only a Peak uses
abbrev pub peak_only : ℕ → Bool
peak_only i = from 4 8 i || from 16 32 i

-- the offset i of a record of the given kind has to hold zero
abbrev pub empty : ℕ → ℕ → Bool
empty kind i = unused i || (kind == 1 && peak_only i)

-- the byte b is wrong at offset i of a record of the given kind
abbrev pub wrong : ℕ → ℕ → ℕ → Bool
wrong kind zero b = not (b == 1 || b == 2)
wrong kind (suc i) b = empty kind (suc i) && not (b == 0)

-- the byte that names a kind
abbrev pub code_of : Kind → ℕ
code_of kind.Uniform = 1
code_of kind.Peak = 2

-- the byte names the kind, or is at fault at offset 0
abbrev pub Decodes : ℕ → Result Kind RecordFault → Type 0
Decodes b (Ok kind) = code_of kind ≡ b
Decodes b (Err fault) = (fault ≡ Malformed 0) × (wrong b 0 b ≡ true)

-- the byte at offset i is at fault
abbrev pub at_fault : List ℕ → ℕ → Bool
at_fault bytes i = wrong (byte bytes 0) i (byte bytes i)

-- p is the lowest offset at fault
pub record First (bytes : List ℕ) (p : ℕ) : Type 0 where
  pub within : p < 32
  pub fault : at_fault bytes p ≡ true
  pub before : (i : ℕ) → i < p → at_fault bytes i ≡ false

-- the number that n bytes write, the lowest first
abbrev pub little : List ℕ → ℕ → ℕ → ℕ
little bytes i zero = 0
little bytes i (suc n) = byte bytes i + 256 * little bytes (suc i) n

-- 16
abbrev pub default_scale : Float
default_scale = fin false 1 (pos 4)

-- scale bytes that are all zero stand for the default
abbrev pub scale_of : ℕ → Float
scale_of bits = cond (bits == 0) default_scale (from_bits binary64 bits)

abbrev pub fields_of : List ℕ → Fields
fields_of bytes =
    cond (byte bytes 0 == 1) (Uniform (record { precision = byte bytes 1; range = to_z w32 (little bytes 8 4) +ℤ pos 1 }))
    (Peak (record {
      precision = byte bytes 1;
      min = to_z w32 (little bytes 4 4);
      max = to_z w32 (little bytes 8 4);
      centre = from_bits binary64 (little bytes 16 8);
      scale = scale_of (little bytes 24 8);
    }))

-- a short piece is at fault where it ends; else the lowest offset at fault
abbrev pub Bad : List ℕ → ℕ → Type 0
Bad bytes p = ((length bytes < 32) × (p ≡ length bytes)) ⊎ ((32 ≤ length bytes) × First bytes p)

pub record Good (bytes : List ℕ) : Type 0 where
  pub long : 32 ≤ length bytes
  pub clean : (i : ℕ) → i < 32 → at_fault bytes i ≡ false

-- the fields of a record, or its one fault of form; bytes past the first 32 do not count
abbrev pub Lays : List ℕ → Result Fields RecordFault → Type 0
Lays bytes (Ok fields) = Good bytes × (fields ≡ fields_of bytes)
Lays bytes (Err fault) = (p : ℕ) × Bad bytes p × (fault ≡ Malformed p)
