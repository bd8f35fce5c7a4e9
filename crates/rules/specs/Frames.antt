-- Frames: lines of lowercase hexadecimal digits with big-endian fields, each ended by one line feed.
use Rattle.std.specs.Prelude.{ℕ, cond, List, [], ◌∷◌, ◌++◌, eqb, leb, length, take, drop, replicate}
use Rattle.std.proofs.Math.Option.{Option, none, some}
use Rattle.laws.specs.Options.{then}
use Rattle.laws.specs.Digits.{field, value}
use Rattle.rules.specs.declared.frame_type.FrameType.{FrameType}
use Rattle.rules.specs.declared.frame_type.FrameType.TheVariants.{Header, Row, Verdict, Order, Slot, Totals, Refusal}

abbrev pub line_feed : ℕ
line_feed = 10

-- the numbers of the types of frame
abbrev pub type_number : FrameType → ℕ
type_number Header = 0x01
type_number Row = 0x02
type_number Verdict = 0x11
type_number Order = 0x12
type_number Slot = 0x13
type_number Totals = 0x14
type_number Refusal = 0x1f

-- a frame's type, and how many digits each of its fields has
pub record Shape : Type 0 where
  pub type : ℕ
  pub widths : List ℕ

-- `01`, m, n: header
abbrev pub header : Shape
header = record { type = type_number Header; widths = 2 ∷ 2 ∷ [] }

-- `02`, C, T: one row
abbrev pub row : Shape
row = record { type = type_number Row; widths = 4 ∷ 4 ∷ [] }

-- `11`, verdict, number of heavy tasks, H
abbrev pub verdict : Shape
verdict = record { type = type_number Verdict; widths = 2 ∷ 2 ∷ 8 ∷ [] }

-- `12`, n task numbers
abbrev pub order : ℕ → Shape
order n = record { type = type_number Order; widths = replicate n 2 }

-- `13`, slot, the task on core 1 to core m, moves, misses
abbrev pub slot : ℕ → Shape
slot m = record { type = type_number Slot; widths = 8 ∷ replicate m 2 ++ (2 ∷ 2 ∷ []) }

-- `14`, total moves, misses, dropped units
abbrev pub totals : Shape
totals = record { type = type_number Totals; widths = 16 ∷ 16 ∷ 16 ∷ [] }

-- `1f`, refusal, line
abbrev pub refusal : Shape
refusal = record { type = type_number Refusal; widths = 2 ∷ 4 ∷ [] }

-- numbers in fields of the widths given, one after the other
unfoldable pub fields : List ℕ → List ℕ → List ℕ
fields [] vs = []
fields (w ∷ ws) [] = []
fields (w ∷ ws) (v ∷ vs) = field w v ++ fields ws vs

-- the line of a frame that holds the numbers given
unfoldable pub frame : Shape → List ℕ → List ℕ
frame sh vs = field 2 sh.type ++ fields sh.widths vs ++ (line_feed ∷ [])

-- what was read off the front of a text, and what follows it
pub record Read (A : Type 0) : Type 0 where
  pub got : A
  pub rest : List ℕ

-- a number of w digits
unfoldable pub read_field : ℕ → List ℕ → Option (Read ℕ)
read_field w s = cond (leb w (length s)) (then (value (take w s)) (λ v. some (record { got = v; rest = drop w s }))) none

-- numbers of the widths given, one after the other
unfoldable pub read_fields : List ℕ → List ℕ → Option (Read (List ℕ))
read_fields [] s = some (record { got = []; rest = s })
read_fields (w ∷ ws) s =
    then (read_field w s) (λ a.
    then (read_fields ws a.rest) (λ b.
    some (record { got = a.got ∷ b.got; rest = b.rest })))

-- the text goes on with a line feed
unfoldable pub read_end : List ℕ → Option (List ℕ)
read_end [] = none
read_end (b ∷ bs) = cond (eqb b line_feed) (some bs) none

-- the line of a frame of a shape: the fields' numbers
unfoldable pub read_frame : Shape → List ℕ → Option (Read (List ℕ))
read_frame sh s =
    then (read_field 2 s) (λ a.
    cond (eqb a.got sh.type)
    (then (read_fields sh.widths a.rest) (λ b. then (read_end b.rest) (λ end. some (record { got = b.got; rest = end }))))
    none)
