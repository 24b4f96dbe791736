-- Document 01, "The shape of a line": a line's tree, its text, and what makes the tree good. Apart from any reader.
use Rattle.std.specs.Prelude.{ℕ, ◌<◌, ◌≡◌, Bool, List, [], ◌∷◌, ◌++◌, map}
use Rattle.signs.specs.Bytes.{is_blank, is_name_byte, All, Some}
use Rattle.signs.specs.Text.{bytes}
use Rattle.record.specs.Registers.{Place, reg}
use Rattle.rules.specs.Shape.{Name, head_text, Spot, at, nothing, OperandTree, inverted, pair, bare, part, operand_text, guard_text}

-- optionally a guard and at least one blank
pub data GuardTree : Type 0 where
  unguarded : GuardTree
  guarded : Bool → Place → List ℕ → GuardTree

abbrev pub guard_tree_text : GuardTree → List ℕ
guard_tree_text unguarded = []
guard_tree_text (guarded negated p blanks) = guard_text negated p ++ blanks

-- a comma with optional blanks around it, and the operand that follows
pub record Divided : Type 0 where
  pub before : List ℕ
  pub after : List ℕ
  pub operand : OperandTree

abbrev pub divided_text : List Divided → List ℕ
divided_text [] = []
divided_text (d ∷ ds) = d.before ++ bytes "," ++ d.after ++ operand_text d.operand ++ divided_text ds

-- Optional blanks; optionally a guard and at least one blank; the head; at least one blank; one or more operands divided by a comma with optional
-- blanks around it; optional blanks; `;`; optional blanks
pub record LineTree : Type 0 where
  pub before : List ℕ
  pub guard : GuardTree
  pub opcode : Name
  pub modifiers : List Name
  pub gap : List ℕ
  pub first : OperandTree
  pub others : List Divided
  pub ending : List ℕ
  pub behind : List ℕ

abbrev pub line_text : LineTree → List ℕ
line_text t =
    t.before
    ++ guard_tree_text t.guard
    ++ head_text (t.opcode ∷ t.modifiers)
    ++ t.gap
    ++ operand_text t.first
    ++ divided_text t.others
    ++ t.ending
    ++ bytes ";"
    ++ t.behind

-- the names of the head and the operands, apart from blanks
abbrev pub names_of : LineTree → List Name
names_of t = t.opcode ∷ t.modifiers

abbrev pub operands_of : LineTree → List OperandTree
operands_of t = t.first ∷ map (λ (d : Divided). d.operand) t.others

-- ==== what makes a tree good

-- a decimal number of 1 to 3 digits
abbrev pub number_limit : ℕ
number_limit = 1000

abbrev pub GoodPlace : Place → Type 0
GoodPlace (reg file n) = n < number_limit

-- a name is one or more of a-z and 0-9
abbrev pub GoodName : Name → Type 0
GoodName n = Some is_name_byte n

pub data GoodNames : List Name → Type 0 where
  none : GoodNames []
  more : {n : Name} {ns : List Name} → GoodName n → GoodNames ns → GoodNames (n ∷ ns)

abbrev pub GoodSpot : Spot → Type 0
GoodSpot (at p) = GoodPlace p
GoodSpot nothing = Unit {0}

abbrev pub GoodOperand : OperandTree → Type 0
GoodOperand (inverted p) = GoodPlace p
GoodOperand (pair p q) = GoodSpot p × GoodSpot q
GoodOperand (bare p) = GoodPlace p
GoodOperand (part p n) = GoodPlace p × GoodName n

abbrev pub GoodGuard : GuardTree → Type 0
GoodGuard unguarded = Unit {0}
GoodGuard (guarded negated p blanks) = GoodPlace p × Some is_blank blanks

-- each of a list is good: of laws alone, for the operands without what divides them
pub data GoodOperands : List OperandTree → Type 0 where
  none : GoodOperands []
  more : {o : OperandTree} {os : List OperandTree} → GoodOperand o → GoodOperands os → GoodOperands (o ∷ os)

pub record GoodDivided (d : Divided) : Type 0 where
  pub before : All is_blank d.before
  pub after : All is_blank d.after
  pub operand : GoodOperand d.operand

pub data GoodOthers : List Divided → Type 0 where
  none : GoodOthers []
  more : {d : Divided} {ds : List Divided} → GoodDivided d → GoodOthers ds → GoodOthers (d ∷ ds)

pub record Good (t : LineTree) : Type 0 where
  pub before : All is_blank t.before
  pub guard : GoodGuard t.guard
  pub opcode : GoodName t.opcode
  pub modifiers : GoodNames t.modifiers
  pub gap : Some is_blank t.gap
  pub first : GoodOperand t.first
  pub others : GoodOthers t.others
  pub ending : All is_blank t.ending
  pub behind : All is_blank t.behind

-- the line has the shape: it is the text of a good tree
pub record Shaped (l : List ℕ) (t : LineTree) : Type 0 where
  pub good : Good t
  pub text : line_text t ≡ l
