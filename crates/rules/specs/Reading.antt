-- Document 01, which record a line spells, and refusals 1 to 7 (T-07: and 12, T-09: and 15): said of the line's tree and of the records that it
-- spells. Apart from any reader.
use Rattle.std.specs.Prelude.{ℕ, ◌+◌, ◌≤◌, ◌<◌, ◌≡◌, Bool, true, false, List, [], ◌∷◌, ◌++◌, length}
use Rattle.signs.specs.Text.{bytes}
use Rattle.signs.specs.Lists.{Listed}
use Rattle.record.specs.Modifiers.{instruction_modifiers_fit, modifiers_fit}
use Rattle.record.specs.Operands.{lanes_fit, instruction_operands_fit, operands_fit}
use Rattle.record.specs.Registers.{Place, pred, p, number_of, file_size}
use Rattle.record.specs.declared.Guard.{Guard}
use Rattle.record.specs.declared.Guard.TheVariants.{Always, When}
use Rattle.record.specs.declared.Instruction.{Instruction}
use Rattle.record.specs.declared.Instruction.TheVariants.{Arithmetic, Vset, VsetLanes, ArithmeticLanes, Set, Setp, Selp, Slct}
use Rattle.record.specs.declared.Record.{Record}
use Rattle.record.specs.declared.Target.{Target}
use Rattle.record.specs.declared.Mode.{Mode}
use Rattle.rules.specs.Shape.{Name, register_text, at, OperandTree, pair}
use Rattle.rules.specs.Names.{head_names}
use Rattle.rules.specs.Spelling.{operand_trees, written_trees}
use Rattle.rules.specs.Grammar.{LineTree, GuardTree, unguarded, guarded, names_of, operands_of, Shaped}
use Rattle.rules.specs.Targets.{allows}
use Rattle.rules.specs.Strict.{passes, Readable}
use Rattle.rules.specs.BytePlaces.{FirstWrong, ShapedLine, guard_start, head_start, name_start, operands_start, operand_start, registers_of, FirstOutside}

-- ==== which record a line spells

-- The guard is a predicate, with optional `!`
abbrev pub GuardSpells : GuardTree → Guard → Type 0
GuardSpells unguarded Always = Unit {0}
GuardSpells unguarded (When c) = ⊥
GuardSpells (guarded negated q blanks) Always = ⊥
GuardSpells (guarded negated q blanks) (When c) = (negated ≡ c.inverted) × (q ≡ p c.pred)

-- A bare operand and its written default are one record: o stands as in the standard line, or written out
pub data OneOf (o standing written : OperandTree) : Type 0 where
  as_standard : o ≡ standing → OneOf o standing written
  as_written : o ≡ written → OneOf o standing written

pub data Spelled : List OperandTree → List OperandTree → List OperandTree → Type 0 where
  none : Spelled [] [] []
  more : {o s w : OperandTree} {os ss ws : List OperandTree} → OneOf o s w → Spelled os ss ws → Spelled (o ∷ os) (s ∷ ss) (w ∷ ws)

-- Mask on d: h0 h1 h10; the fifteen names of `b`. Selectors: `h` and two digits 0-3; `b` and four digits 0-7. No other has a name
abbrev pub lanes_named : Instruction → Bool
lanes_named (VsetLanes cmp l) = lanes_fit l
lanes_named (ArithmeticLanes op dtype sat l) = lanes_fit l
lanes_named (Arithmetic op dtype sat s) = true
lanes_named (Vset cmp s) = true
lanes_named (Set dtype d s) = true
lanes_named (Setp d s) = true
lanes_named (Selp s c) = true
lanes_named (Slct ctype s c) = true

pub record OperandsSpell (os : List OperandTree) (i : Instruction) : Type 0 where
  pub operands : Spelled os (operand_trees i) (written_trees i)
  pub named : lanes_named i ≡ true

-- the head names are the record's row of the modifier table, the operands spell the record
pub record Spells (t : LineTree) (m : Record) : Type 0 where
  pub guard : GuardSpells t.guard m.guard
  pub head : names_of t ≡ head_names m.instruction
  pub operands : OperandsSpell (operands_of t) m.instruction

-- A line has at most 160 bytes
abbrev pub line_limit : ℕ
line_limit = 160

-- the relation between a line and a record; legality is a condition beside it
pub record Relates (l : List ℕ) (m : Record) : Type 0 where
  pub short : length l ≤ line_limit
  pub tree : LineTree
  pub shaped : Shaped l tree
  pub spells : Spells tree m

-- ==== refusals 1 to 7, 12 and 15

-- Read, written and executed; T-01 adds the twelve in the third and fourth rows (Refusals: none new)
abbrev pub opcodes : List Name
opcodes =
    bytes "vadd" ∷ bytes "vsub" ∷ bytes "vabsdiff" ∷ bytes "vmin" ∷ bytes "vmax"
    ∷ bytes "vset" ∷ bytes "vset2" ∷ bytes "vset4"
    ∷ bytes "vadd2" ∷ bytes "vsub2" ∷ bytes "vavrg2" ∷ bytes "vabsdiff2" ∷ bytes "vmin2" ∷ bytes "vmax2"
    ∷ bytes "vadd4" ∷ bytes "vsub4" ∷ bytes "vavrg4" ∷ bytes "vabsdiff4" ∷ bytes "vmin4" ∷ bytes "vmax4"
    ∷ bytes "set" ∷ bytes "setp" ∷ bytes "selp" ∷ bytes "slct"
    ∷ []

-- names are a row of the table: an instruction with fitting modifiers has these
pub record Row (ns : List Name) (i : Instruction) : Type 0 where
  pub names : ns ≡ head_names i
  pub fit : instruction_modifiers_fit i ≡ true

-- the line spells the record, whose modifiers and operands fit; register numbers and pairs aside
pub record Fits (t : LineTree) (m : Record) : Type 0 where
  pub spells : Spells t m
  pub modifiers : modifiers_fit m ≡ true
  pub operands : operands_fit m ≡ true

-- the rows of the table, each said of the line alone, 12 of its record at the target, 15 of its record in the mode. 5 is asked of a head that is in
-- the table, since the row says which operands are right
pub data Applies (target : Target) (mode : Mode) (l : List ℕ) : ℕ → Type 0 where
  -- line over 160 bytes
  too_long : line_limit < length l → Applies target mode l 1
  -- line lacks the shape above
  shapeless : ((t : LineTree) → Shaped l t → ⊥) → Applies target mode l 2
  -- first name of the head is no opcode here
  unknown : (t : LineTree) → Shaped l t → (Listed t.opcode opcodes → ⊥) → Applies target mode l 3
  -- modifiers not in the table
  rowless : (t : LineTree) → Shaped l t → ((i : Instruction) → Row (names_of t) i → ⊥) → Applies target mode l 4
  -- guard or operands wrong in count, kind, `!`, pair or selector
  unfit : (t : LineTree) → Shaped l t → (i : Instruction) → Row (names_of t) i → ((m : Record) → Fits t m → ⊥) → Applies target mode l 5
  -- a register number at or over its file's size
  outside : (t : LineTree) → Shaped l t → (n : ℕ) (q : Place) → Listed (n, q) (registers_of t) → file_size q ≤ number_of q → Applies target mode l 6
  -- both places of a pair are the same predicate
  equal : (t : LineTree) → Shaped l t → (n : ℕ) → Listed (pair (at (pred n)) (at (pred n))) (operands_of t) → Applies target mode l 7
  -- T-07: target too old for the record that the line spells
  too_old : (m : Record) → Relates l m → allows target m ≡ false → Applies target mode l 12
  -- T-09: in strict reading, a masked lane's two selectors pick the same part of the same register
  against_self : (m : Record) → Relates l m → passes mode m ≡ false → Applies target mode l 15

-- Reading: 1 to 7, T-07: 12 after 7, T-09: 15 after 12,
abbrev pub reading_order : List ℕ
reading_order = 1 ∷ 2 ∷ 3 ∷ 4 ∷ 5 ∷ 6 ∷ 7 ∷ 12 ∷ 15 ∷ []

-- each looked at only when the earlier ones don't apply: n is the first of the numbers that applies
pub data FirstOf (target : Target) (mode : Mode) (l : List ℕ) (n : ℕ) : List ℕ → Type 0 where
  this : {ns : List ℕ} → Applies target mode l n → FirstOf target mode l n (n ∷ ns)
  next : {k : ℕ} {ns : List ℕ} → (Applies target mode l k → ⊥) → FirstOf target mode l n ns → FirstOf target mode l n (k ∷ ns)

-- ==== where the line went wrong

-- a legal list of modifiers, its opcode before it
pub record LegalNames (ns : List Name) : Type 0 where
  pub instruction : Instruction
  pub row : Row ns instruction

-- a legal list of operands under a head: an instruction of that row has them, and its operands fit; register numbers and equal pairs aside
pub record LegalOperands (head : List Name) (os : List OperandTree) : Type 0 where
  pub instruction : Instruction
  pub row : Row head instruction
  pub spells : OperandsSpell os instruction
  pub fit : instruction_operands_fit instruction ≡ true

-- T-05: refusals 2 to 7 shall carry a byte place
pub data Placed (l : List ℕ) : ℕ → ℕ → Type 0 where
  -- For 2: the first byte with which the line begins as no line of the right shape, however long, does, or the line's length if it is only unfinished
  at_byte : {p : ℕ} → FirstWrong ShapedLine l p → Placed l 2 p
  -- For 3 the opcode
  at_opcode : (t : LineTree) → Shaped l t → Placed l 3 (head_start t)
  -- For 4 [..]: the start of the first modifier [..] that no legal list has after the ones before it [..], or the end of the list if it is only too short
  at_modifier : (t : LineTree) → Shaped l t → (k : ℕ) → FirstWrong LegalNames (names_of t) k → Placed l 4 (head_start t + name_start (names_of t) k)
  -- For [..] 5: the start [..] of the guard [..] that no legal list has
  at_guard : (t : LineTree) → Shaped l t → ((g : Guard) → GuardSpells t.guard g → ⊥) → Placed l 5 (guard_start t)
  -- or [the first] operand, that no legal list has after the ones before it (register numbers and equal pairs aside), or the end of the list if it is only too short
  at_operand : (t : LineTree) → Shaped l t → (g : Guard) → GuardSpells t.guard g → (k : ℕ) → FirstWrong (LegalOperands (names_of t)) (operands_of t) k
      → Placed l 5 (operands_start t + operand_start t.first t.others k)
  -- for 6 the first such register
  at_register : (t : LineTree) → Shaped l t → {p : ℕ} → FirstOutside (registers_of t) p → Placed l 6 p
  -- for 7 the second place (of d: where 5 does not apply, only d of setp is a pair)
  at_second : (t : LineTree) → Shaped l t → (n : ℕ) → t.first ≡ pair (at (pred n)) (at (pred n)) → Placed l 7 (operands_start t + length (register_text (pred n) ++ bytes "|"))

-- 1 carries none; T-07: nor does 12; T-09: nor 15
abbrev pub placeless : List ℕ
placeless = 1 ∷ 12 ∷ 15 ∷ []

-- ==== the answer of reading

-- A refusal returns its number only, no record; T-05: and its place, if it has one
pub data Answer : Type 0 where
  read : Record → Answer
  refused : ℕ → Answer
  refused_at : ℕ → ℕ → Answer

-- accepted exactly when the grammar relates the line to a legal record, T-07: that the target allows, T-09: and that in strict reading is not against
-- itself; else the first refusal that applies, with its place
pub data Answers (target : Target) (mode : Mode) (l : List ℕ) : Answer → Type 0 where
  accepts : (m : Record) → Relates l m → Readable target mode m → Answers target mode l (read m)
  refuses : {n : ℕ} → FirstOf target mode l n reading_order → Listed n placeless → Answers target mode l (refused n)
  refuses_at : {n p : ℕ} → FirstOf target mode l n reading_order → Placed l n p → Answers target mode l (refused_at n p)
