-- Document 01, "The shape of a line": the pieces of a line and their texts. Where blanks may stand, and which pieces are right, is the grammar's.
use Rattle.std.specs.Prelude.{ℕ, ◌+◌, ◌/◌, ◌%◌, Bool, true, false, cond, List, [], ◌∷◌, ◌++◌, ltb}
use Rattle.signs.specs.Text.{bytes}
use Rattle.signs.specs.Digits.{zero_byte}
use Rattle.record.specs.declared.File.{File}
use Rattle.record.specs.declared.File.TheVariants.{Words, Halves, Doubles, Preds}
use Rattle.record.specs.Registers.{Place, reg}

-- Head: names joined by `.`; a name is one or more of a-z and 0-9
abbrev pub Name : Type 0
Name = List ℕ

abbrev pub dotted : List Name → List ℕ
dotted [] = []
dotted (n ∷ ns) = bytes "." ++ n ++ dotted ns

abbrev pub head_text : List Name → List ℕ
head_text [] = []
head_text (n ∷ ns) = n ++ dotted ns

-- a decimal number of 1 to 3 digits, no leading zero except 0 itself: the digits of a number below 1000
abbrev pub digit : ℕ → ℕ
digit n = n % 10 + zero_byte

abbrev pub number_text : ℕ → List ℕ
number_text n =
    cond (ltb n 10) (digit n ∷ [])
    (cond (ltb n 100) (digit (n / 10) ∷ digit n ∷ [])
    (digit (n / 100) ∷ digit (n / 10) ∷ digit n ∷ []))

-- Register: `%r`, `%rd` or `%p` (T-06: or `%rs`) and a number
abbrev pub file_text : File → List ℕ
file_text Words = bytes "%r"
file_text Halves = bytes "%rs"
file_text Doubles = bytes "%rd"
file_text Preds = bytes "%p"

abbrev pub register_text : Place → List ℕ
register_text (reg file n) = file_text file ++ number_text n

-- a place of a pair: a register or `_`
pub data Spot : Type 0 where
  at : Place → Spot
  nothing : Spot

abbrev pub spot_text : Spot → List ℕ
spot_text (at p) = register_text p
spot_text nothing = bytes "_"

-- Operand: `!` and a register; or two places joined by `|`, each a register or `_`; or a register, optionally with `.` and a name
pub data OperandTree : Type 0 where
  inverted : Place → OperandTree
  pair : Spot → Spot → OperandTree
  bare : Place → OperandTree
  part : Place → Name → OperandTree

abbrev pub operand_text : OperandTree → List ℕ
operand_text (inverted p) = bytes "!" ++ register_text p
operand_text (pair p q) = spot_text p ++ bytes "|" ++ spot_text q
operand_text (bare p) = register_text p
operand_text (part p n) = register_text p ++ bytes "." ++ n

-- Guard: `@`, optional `!`, a register
abbrev pub guard_text : Bool → Place → List ℕ
guard_text true p = bytes "@!" ++ register_text p
guard_text false p = bytes "@" ++ register_text p
