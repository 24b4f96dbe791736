-- Change request T-05, where a line went wrong: how far a list begins as some list of a set does, and where the pieces of a line stand. A place is
-- how many bytes of the line stand before it: 0 for the first.
use Rattle.std.specs.Prelude.{ℕ, zero, suc, ◌+◌, ◌≤◌, ◌<◌, true, false, List, [], ◌∷◌, ◌++◌, length, take}
use Rattle.signs.specs.Text.{bytes}
use Rattle.record.specs.Registers.{Place, Inside, number_of, file_size}
use Rattle.rules.specs.Shape.{Name, head_text, Spot, at, nothing, spot_text, OperandTree, inverted, pair, bare, part, operand_text}
use Rattle.rules.specs.Grammar.{LineTree, GuardTree, unguarded, guarded, guard_tree_text, Divided, names_of, Shaped}

-- ==== how far a list begins as some list of a set does: bytes, names or operands

module _ {A : Type 0} (L : List A → Type 0) where
  -- some list of the set, however long, begins with s
  pub record Begins (s : List A) : Type 0 where
    pub rest : List A
    pub whole : L (s ++ rest)

  -- the first p of l begin a list of the set, and with one more they begin none, or there is no more
  pub record FirstWrong (l : List A) (p : ℕ) : Type 0 where
    pub within : p ≤ length l
    pub begins : Begins (take p l)
    pub wrong : p < length l → Begins (take (suc p) l) → ⊥

-- a line of the right shape, however long
pub record ShapedLine (l : List ℕ) : Type 0 where
  pub tree : LineTree
  pub shaped : Shaped l tree

-- ==== where the pieces of a line stand

-- the guard's `@`, the first letter of the opcode, the first operand
abbrev pub guard_start : LineTree → ℕ
guard_start t = length t.before

abbrev pub head_start : LineTree → ℕ
head_start t = guard_start t + length (guard_tree_text t.guard)

abbrev pub operands_start : LineTree → ℕ
operands_start t = head_start t + length (head_text (names_of t)) + length t.gap

-- from the opcode on: the first letter of the name after k others, or the byte after the last name
abbrev pub name_start : List Name → ℕ → ℕ
name_start ns zero = 0
name_start [] (suc k) = 0
name_start (n ∷ []) (suc k) = length n
name_start (n ∷ m ∷ ns) (suc k) = length (n ++ bytes ".") + name_start (m ∷ ns) k

-- an operand with the comma behind it and the blanks around that
abbrev pub to_next_operand : OperandTree → Divided → ℕ
to_next_operand o d = length (operand_text o ++ d.before ++ bytes "," ++ d.after)

-- from the first operand on: the first byte of the operand after k others, or the byte after the last operand
abbrev pub operand_start : OperandTree → List Divided → ℕ → ℕ
operand_start o ds zero = 0
operand_start o [] (suc k) = length (operand_text o)
operand_start o (d ∷ ds) (suc k) = to_next_operand o d + operand_start d.operand ds k

-- ==== the registers of a line, from left to right: the byte place of its `%`, and the register (`Place` is a place in a file, Registers.antt)

abbrev pub Register : Type 0
Register = ℕ × Place

-- with n bytes more before them
abbrev pub after : ℕ → List Register → List Register
after n [] = []
after n (x ∷ xs) = (n + x.0, x.1) ∷ after n xs

abbrev pub spot_registers : Spot → List Register
spot_registers (at q) = (0, q) ∷ []
spot_registers nothing = []

abbrev pub operand_registers : OperandTree → List Register
operand_registers (inverted q) = after (length (bytes "!")) ((0, q) ∷ [])
operand_registers (pair u v) = spot_registers u ++ after (length (spot_text u ++ bytes "|")) (spot_registers v)
operand_registers (bare q) = (0, q) ∷ []
operand_registers (part q n) = (0, q) ∷ []

abbrev pub operands_registers : OperandTree → List Divided → List Register
operands_registers o [] = operand_registers o
operands_registers o (d ∷ ds) = operand_registers o ++ after (to_next_operand o d) (operands_registers d.operand ds)

abbrev pub guard_registers : GuardTree → List Register
guard_registers unguarded = []
guard_registers (guarded true q blanks) = after (length (bytes "@!")) ((0, q) ∷ [])
guard_registers (guarded false q blanks) = after (length (bytes "@")) ((0, q) ∷ [])

-- the guard's, then those of the operands
abbrev pub registers_of : LineTree → List Register
registers_of t = after (guard_start t) (guard_registers t.guard) ++ after (operands_start t) (operands_registers t.first t.others)

-- the place of the first of them whose number is at or over its file's size
pub data FirstOutside : List Register → ℕ → Type 0 where
  here : {n : ℕ} {q : Place} {rs : List Register} → file_size q ≤ number_of q → FirstOutside ((n, q) ∷ rs) n
  later : {n k : ℕ} {q : Place} {rs : List Register} → Inside q → FirstOutside rs k → FirstOutside ((n, q) ∷ rs) k
