-- Change request T-05, row by row, for someone who has a refused line and its place in hand: what stands there, and what is wrong with it. Laws of
-- `Answers`, which `read` promises; that there is one place, and one only, Demands.antt says. Assumes nothing.
use Rattle.std.specs.Prelude.{ℕ, suc, ◌+◌, ◌≤◌, ◌<◌, ◌≡◌, refl, Bool, List, [], ◌++◌, length, take, get_or}
use Rattle.std.proofs.Common.{arith, ap, subst, ◌∙◌}
use Rattle.signs.specs.Text.{bytes}
use Rattle.signs.specs.Lists.{Listed}
use Rattle.record.specs.Registers.{Place, pred, Inside, number_of, file_size}
use Rattle.record.specs.declared.Guard.{Guard}
use Rattle.record.specs.declared.Guard.TheVariants.{Always, When}
use Rattle.record.specs.declared.Instruction.{Instruction}
use Rattle.record.specs.declared.Record.{Record}
use Rattle.record.specs.declared.Target.{Target}
use Rattle.record.specs.declared.Mode.{Mode}
use Rattle.rules.specs.Shape.{head_text, register_text, operand_text, guard_text}
use Rattle.rules.specs.Grammar.{LineTree, GuardTree, unguarded, guarded, divided_text, names_of, operands_of, Shaped}
use Rattle.rules.specs.BytePlaces.{Begins, ShapedLine, guard_start, head_start, name_start, operands_start, operand_start, registers_of}
use Rattle.rules.specs.Reading.{GuardSpells, Spells, line_limit, opcodes, Row, Fits, reading_order, Applies, shapeless, unknown, rowless, unfit, LegalNames, LegalOperands, at_byte, at_opcode, at_modifier, at_guard, at_operand, at_register, at_second, Answers, refuses_at, refused_at}
use Rattle.begins.specs.FirstWrongLaws.{before_begins, behind_begins_none}
use Rattle.begins.specs.Standing.{Stands, names_end, operands_end, guard_at_lem, name_at_lem, operand_at, outside_at, before_outside, second_at}
use Rattle.read.specs.Laws.{spelled_by_all, row_by_all}
use Rattle.read.specs.Answering.{first_applies, placed_one, short_line}

-- For 2: the first byte with which the line begins as no line of the right shape, however long, does, or the line's length if it is only
-- unfinished: the first k bytes begin one exactly up to k = p
pub before_2 : (target : Target) (mode : Mode) (l : List ℕ) (p : ℕ) → Answers target mode l (refused_at 2 p) → (k : ℕ) → k ≤ p → Begins ShapedLine (take k l)
before_2 target mode l p (refuses_at f (at_byte x)) k h = before_begins ShapedLine l p k x h

pub behind_2 : (target : Target) (mode : Mode) (l : List ℕ) (p : ℕ) → Answers target mode l (refused_at 2 p) → (k : ℕ) → p < k → k ≤ length l → Begins ShapedLine (take k l) → ⊥
behind_2 target mode l p (refuses_at f (at_byte x)) k h i = behind_begins_none ShapedLine l p k x h i

-- (and the line has not the shape, so that the length is the place only of an unfinished one)
pub not_shaped_2 : (target : Target) (mode : Mode) (l : List ℕ) (p : ℕ) → Answers target mode l (refused_at 2 p) → ShapedLine l → ⊥
not_shaped_2 target mode l p (refuses_at f x) = go (first_applies target mode l 2 reading_order f)
  where
    go : Applies target mode l 2 → ShapedLine l → ⊥
    go (shapeless z) s = z s.tree s.shaped

-- what a line is held against is wide enough: every line of the right shape, and the names and the operands of every line that fits, register
-- numbers and equal pairs aside
pub shaped_in : (l : List ℕ) (t : LineTree) → Shaped l t → ShapedLine l
shaped_in l t s = record { tree = t; shaped = s }

pub names_in : (t : LineTree) (m : Record) → Fits t m → LegalNames (names_of t)
names_in t m f = record { instruction = m.instruction; row = record { names = f.spells.head; fit = f.modifiers } }

pub operands_in_lem : (t : LineTree) (m : Record) → Fits t m → LegalOperands (names_of t) (operands_of t)
operands_in_lem t m f = record {
  instruction = m.instruction;
  row = record { names = f.spells.head; fit = f.modifiers };
  spells = f.spells.operands;
  fit = f.operands;
}

-- For 3 the opcode
pub record WrongOpcode (l : List ℕ) (p : ℕ) : Type 0 where
  pub tree : LineTree
  pub shaped : Shaped l tree
  pub unlisted : Listed tree.opcode opcodes → ⊥
  pub stands : Stands l p tree.opcode

add_zero : (n : ℕ) → n + 0 ≡ n
add_zero n = omega arith

some_name : (t : LineTree) → 0 < length (names_of t)
some_name t = omega arith

pub place_3 : (target : Target) (mode : Mode) (l : List ℕ) (p : ℕ) → Answers target mode l (refused_at 3 p) → WrongOpcode l p
place_3 target mode l p (refuses_at f x) = go (first_applies target mode l 3 reading_order f)
  where
    go : Applies target mode l 3 → WrongOpcode l p
    go (unknown t s z) =
        let e : head_start t + 0 ≡ p = add_zero (head_start t) ∙ placed_one l (short_line target mode l 3 p f x) 3 (head_start t) p (at_opcode t s) x in
        record { tree = t; shaped = s; unlisted = z; stands = subst (λ (q : ℕ). Stands l q t.opcode) e (name_at_lem l t s 0 (some_name t)) }

-- For 4 and 5: the start of the first modifier, or of the guard or operand, that no legal list has after the ones before it (register numbers
-- and equal pairs aside), or the end of the list if it is only too short
pub record WrongModifier (l : List ℕ) (p : ℕ) : Type 0 where
  pub tree : LineTree
  pub shaped : Shaped l tree
  -- the names are no row; so many of them, the opcode among these, begin one
  pub not_legal : LegalNames (names_of tree) → ⊥
  pub right : ℕ
  pub within : right ≤ length (names_of tree)
  pub begins : Begins LegalNames (take right (names_of tree))
  -- the next stands at p, and with it no row begins
  pub next : right < length (names_of tree) → Stands l p (get_or (names_of tree) right []) × (Begins LegalNames (take (suc right) (names_of tree)) → ⊥)
  -- or there is none, and p is behind the head
  pub end : right ≡ length (names_of tree) → p ≡ head_start tree + length (head_text (names_of tree))

-- no tree of the line has the names of a row
rowless_all : (target : Target) (mode : Mode) (l : List ℕ) (t : LineTree) → Shaped l t → length l ≤ line_limit → Applies target mode l 4 → (i : Instruction) → Row (names_of t) i → ⊥
rowless_all target mode l t s h (rowless u v z) i r = z i (row_by_all l h t u s v i r)

pub place_4 : (target : Target) (mode : Mode) (l : List ℕ) (p : ℕ) → Answers target mode l (refused_at 4 p) → WrongModifier l p
place_4 target mode l p (refuses_at f (at_modifier t s k x)) = record {
  tree = t;
  shaped = s;
  not_legal = λ r. rowless_all target mode l t s (short_line target mode l 4 p f (at_modifier t s k x)) (first_applies target mode l 4 reading_order f) r.instruction r.row;
  right = k;
  within = x.within;
  begins = x.begins;
  next = λ h. (name_at_lem l t s k h, x.wrong h);
  end = λ e. ap (λ (n : ℕ). head_start t + name_start (names_of t) n) e ∙ ap (λ (n : ℕ). head_start t + n) (names_end (names_of t));
}

-- the guard is no predicate: it stands at p, with its `@`
pub record WrongGuard (l : List ℕ) (p : ℕ) : Type 0 where
  pub tree : LineTree
  pub shaped : Shaped l tree
  pub negated : Bool
  pub register : Place
  pub blanks : List ℕ
  pub guard : tree.guard ≡ guarded negated register blanks
  pub no_pred_lem : (n : ℕ) → register ≡ pred n → ⊥
  pub stands : Stands l p (guard_text negated register)

pub record WrongOperand (l : List ℕ) (p : ℕ) : Type 0 where
  pub tree : LineTree
  pub shaped : Shaped l tree
  -- the guard is right, or there is none
  pub guard : Guard
  pub spelled : GuardSpells tree.guard guard
  -- the operands are no legal list under the head; so many of them begin one
  pub not_legal : LegalOperands (names_of tree) (operands_of tree) → ⊥
  pub right : ℕ
  pub within : right ≤ length (operands_of tree)
  pub begins : Begins (LegalOperands (names_of tree)) (take right (operands_of tree))
  -- the next stands at p, and with it no list begins
  pub next : right < length (operands_of tree)
      → Stands l p (operand_text (get_or (operands_of tree) right tree.first)) × (Begins (LegalOperands (names_of tree)) (take (suc right) (operands_of tree)) → ⊥)
  -- or there is none, and p is behind the last
  pub end : right ≡ length (operands_of tree) → p ≡ operands_start tree + length (operand_text tree.first ++ divided_text tree.others)

pub data WrongFit (l : List ℕ) (p : ℕ) : Type 0 where
  of_guard : WrongGuard l p → WrongFit l p
  of_operand : WrongOperand l p → WrongFit l p

-- no tree of the line with a right guard has a legal list of operands
unfit_all : (target : Target) (mode : Mode) (l : List ℕ) (t : LineTree) → Shaped l t → (g : Guard) → GuardSpells t.guard g → length l ≤ line_limit → Applies target mode l 5
    → LegalOperands (names_of t) (operands_of t) → ⊥
unfit_all target mode l t s g e h (unfit u v i r z) o =
    let m : Record = record { guard = g; instruction = o.instruction } in
    let k : Spells t m = record { guard = e; head = o.row.names; operands = o.spells } in
    z m (record { spells = spelled_by_all l h t u s v m k; modifiers = o.row.fit; operands = o.fit })

pub place_5 : (target : Target) (mode : Mode) (l : List ℕ) (p : ℕ) → Answers target mode l (refused_at 5 p) → WrongFit l p
place_5 target mode l p (refuses_at f (at_guard t s k)) = go t.guard refl k
  where
    go : (g : GuardTree) → t.guard ≡ g → ((h : Guard) → GuardSpells g h → ⊥) → WrongFit l (guard_start t)
    go unguarded e z = absurd (z Always tt)
    go (guarded n q b) e z = of_guard (record {
      tree = t;
      shaped = s;
      negated = n;
      register = q;
      blanks = b;
      guard = e;
      no_pred_lem = λ i d. z (When (record { inverted = n; pred = record { 0 = i } })) (refl, d);
      stands = guard_at_lem l t s n q b e;
    })
place_5 target mode l p (refuses_at f (at_operand t s g h k x)) = of_operand (record {
  tree = t;
  shaped = s;
  guard = g;
  spelled = h;
  not_legal = unfit_all target mode l t s g h (short_line target mode l 5 p f (at_operand t s g h k x)) (first_applies target mode l 5 reading_order f);
  right = k;
  within = x.within;
  begins = x.begins;
  next = λ i. (operand_at l t s k i, x.wrong i);
  end = λ e. ap (λ (n : ℕ). operands_start t + operand_start t.first t.others n) e ∙ ap (λ (n : ℕ). operands_start t + n) (operands_end t.first t.others);
})

-- for 6 the first such register: it stands at p, with its `%`
pub record WrongRegister (l : List ℕ) (p : ℕ) : Type 0 where
  pub tree : LineTree
  pub shaped : Shaped l tree
  -- every register that stands before it is in its file
  pub before : (n : ℕ) (q : Place) → Listed (n, q) (registers_of tree) → n < p → Inside q
  pub register : Place
  pub outside : file_size register ≤ number_of register
  pub stands : Stands l p (register_text register)

pub place_6 : (target : Target) (mode : Mode) (l : List ℕ) (p : ℕ) → Answers target mode l (refused_at 6 p) → WrongRegister l p
place_6 target mode l p (refuses_at f (at_register t s o)) =
    let x = outside_at l t s p o in
    record { tree = t; shaped = s; before = before_outside l t s p o; register = x.0; outside = x.1; stands = x.2 }

-- for 7 the second place: it stands at p, behind the same predicate and `|`
pub record WrongPair (l : List ℕ) (p : ℕ) : Type 0 where
  pub number : ℕ
  pub start : ℕ
  pub first : Stands l start (register_text (pred number) ++ bytes "|")
  pub behind : p ≡ start + length (register_text (pred number) ++ bytes "|")
  pub second : Stands l p (register_text (pred number))

pub place_7 : (target : Target) (mode : Mode) (l : List ℕ) (p : ℕ) → Answers target mode l (refused_at 7 p) → WrongPair l p
place_7 target mode l p (refuses_at f (at_second t s n e)) =
    let x = second_at l t s (pred n) e in
    record { number = n; start = operands_start t; first = x.0; behind = refl; second = x.1 }
