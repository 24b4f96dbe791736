-- Document 01, "The standard line": its tree, and that it is related to its record when that is legal. Assumes nothing.
use Rattle.std.specs.Prelude.{ℕ, ◌≡◌, refl, Bool, true, false, cond, length}
use Rattle.std.proofs.Common.{arith, ap, lit<, ltb-true, le-leb}
use Rattle.std.proofs.Math.Bool.{and-eq-true_iff, or-true}
use Rattle.std.proofs.lemmas.Bool.{false≢true}
use mathlib.Core.List.{List, [], ◌∷◌, ◌++◌, map, tail, append-nil, append_assoc}
use Rattle.signs.specs.Text.{bytes}
use Rattle.signs.specs.Bytes.{is_blank, is_name_byte, Some}
use Rattle.base.specs.Values.{every, each, every_append}
use Rattle.base.specs.PackLaws.{all_of}
use Rattle.signs.specs.Bytes
use Rattle.record.specs.Registers.{is_inside, Place, reg, word, operand_place, r, p}
use Rattle.record.specs.Operands.{full_mask, default_a, default_b, instruction_operands_fit}
use Rattle.record.specs.Refusals.{is_legal, Legal, condition_in_range, guard_in_range, selected_in_range, form_in_range, scalar_in_range, lanes_in_range, combination_in_range, comparison_in_range, destination_in_range, choice_in_range, instruction_in_range}
use Rattle.record.specs.declared.VideoType.{VideoType}
use Rattle.record.specs.declared.SetType.{SetType}
use Rattle.record.specs.declared.SlctType.{SlctType}
use Rattle.record.specs.declared.DataType.{DataType}
use Rattle.record.specs.declared.Cmp6.{Cmp6}
use Rattle.record.specs.declared.CmpOp.{CmpOp}
use Rattle.record.specs.declared.BoolOp.{BoolOp}
use Rattle.record.specs.declared.Op2.{Op2}
use Rattle.record.specs.declared.Arith.{Arith}
use Rattle.record.specs.declared.LaneArith.{LaneArith}
use Rattle.record.specs.declared.File.TheVariants.{Words, Halves, Doubles, Preds}
use Rattle.record.specs.declared.Word.{Word}
use Rattle.record.specs.declared.Condition.{Condition}
use Rattle.record.specs.declared.Guard.{Guard}
use Rattle.record.specs.declared.Guard.TheVariants.{Always, When}
use Rattle.record.specs.declared.Combination.{Combination}
use Rattle.record.specs.declared.Combination.TheVariants.{Alone, With}
use Rattle.record.specs.declared.Selector.{Selector}
use Rattle.record.specs.declared.Selected.{Selected}
use Rattle.record.specs.declared.Selected.TheVariants.{Whole, Part}
use Rattle.record.specs.declared.Form.{Form}
use Rattle.record.specs.declared.Form.TheVariants.{Plain, Merge, Combine}
use Rattle.record.specs.declared.Scalar.{Scalar}
use Rattle.record.specs.declared.LaneWidth.{LaneWidth}
use Rattle.record.specs.declared.LaneWidth.TheVariants.{Half, Byte}
use Rattle.record.specs.declared.Mask.{Mask}
use Rattle.record.specs.declared.Digits.{Digits}
use Rattle.record.specs.declared.Lanes.{Lanes}
use Rattle.record.specs.declared.Comparison.{Comparison}
use Rattle.record.specs.declared.Choice.{Choice}
use Rattle.record.specs.declared.Destination.{Destination}
use Rattle.record.specs.declared.Destination.TheVariants.{One, Pair, First, Second}
use Rattle.record.specs.declared.Instruction.{Instruction}
use Rattle.record.specs.declared.Instruction.TheVariants.{Arithmetic, Vset, VsetLanes, ArithmeticLanes, Set, Setp, Selp, Slct}
use Rattle.record.specs.declared.Record.{Record}
use Rattle.rules.specs.Shape.{Name, digit, OperandTree, bare}
use Rattle.rules.specs.Names.{video_type_name, set_type_name, type_name, six_name, cmp_name, bool_name, op2_name, arith_name, lanes_name, lane_arith_name, braced, form_op2, combination_names, head_names, selector_name, mask_name, digits_name}
use Rattle.laws.specs.Choices.{video_types, set_types, types, sixes, cmps, bool_ops, op2s, ariths, lane_ariths, widths, selectors}
use Rattle.rules.specs.Spelling.{selected_tree, form_tree, form_last, same_mask, same_digits, mask_tree, digits_tree, condition_tree, combination_last, destination_tree, scalar_trees, lanes_trees, source_trees, choice_trees, operand_trees}
use Rattle.rules.specs.StandardLine.{guard_part, further, standard}
use Rattle.laws.specs.LineLengths.{standard_fits}
use Rattle.rules.specs.Grammar
use Rattle.rules.specs.Grammar.{GuardTree, unguarded, guarded, guard_tree_text, Divided, divided_text, LineTree, line_text, GoodPlace, GoodName, GoodNames, GoodOperand, GoodGuard, GoodOperands, GoodOthers, Good}
use Rattle.rules.specs.Reading
use Rattle.rules.specs.Spelling.{written_trees}
use Rattle.rules.specs.Reading.{GuardSpells, as_standard, Spelled, lanes_named, Spells, Relates}

-- ==== the tree

abbrev head_or : {A : Type 0} → A → List A → A
head_or d [] = d
head_or d (x ∷ l) = x

-- Guard, if any, and one space
abbrev standard_guard : Guard → GuardTree
standard_guard Always = unguarded
standard_guard (When c) = guarded c.inverted (p c.pred) (bytes " ")

-- comma and one space
abbrev spaced : OperandTree → Divided
spaced o = record { before = []; after = bytes " "; operand = o }

abbrev opcode_of : Instruction → Name
opcode_of i = head_or [] (head_names i)

abbrev modifiers_of : Instruction → List Name
modifiers_of i = tail (head_names i)

abbrev first_of : Instruction → OperandTree
first_of i = head_or (bare (word 0)) (operand_trees i)

abbrev others_of : Instruction → List OperandTree
others_of i = tail (operand_trees i)

abbrev pub standard_tree : Record → LineTree
standard_tree m = record {
  before = [];
  guard = standard_guard m.guard;
  opcode = opcode_of m.instruction;
  modifiers = modifiers_of m.instruction;
  gap = bytes " ";
  first = first_of m.instruction;
  others = map spaced (others_of m.instruction);
  ending = [];
  behind = [];
}

-- neither list is ever empty, so the defaults above never stand in a tree
names_whole : (i : Instruction) → opcode_of i ∷ modifiers_of i ≡ head_names i
names_whole (Arithmetic op dtype sat s) = refl
names_whole (Vset cmp s) = refl
names_whole (VsetLanes cmp l) = refl
names_whole (ArithmeticLanes op dtype sat l) = refl
names_whole (Set dtype d s) = refl
names_whole (Setp d s) = refl
names_whole (Selp s c) = refl
names_whole (Slct SlctType.S32 s c) = refl
names_whole (Slct (SlctType.F32 ftz) s c) = refl

operands_whole : (i : Instruction) → first_of i ∷ others_of i ≡ operand_trees i
operands_whole (Arithmetic op dtype sat s) = refl
operands_whole (Vset cmp s) = refl
operands_whole (VsetLanes cmp l) = refl
operands_whole (ArithmeticLanes op dtype sat l) = refl
operands_whole (Set dtype d s) = refl
operands_whole (Setp d s) = refl
operands_whole (Selp s c) = refl
operands_whole (Slct ctype s c) = refl

-- ==== its text

guard_text_lem : (g : Guard) → guard_tree_text (standard_guard g) ≡ guard_part g
guard_text_lem Always = refl
guard_text_lem (When c) = refl

others_text : (l : List OperandTree) → divided_text (map spaced l) ≡ further l
others_text [] = refl
others_text (o ∷ l) = rw (others_text l)

pub standard_text : (m : Record) → line_text (standard_tree m) ≡ standard m
unfolding standard
standard_text m =
    rw (← names_whole m.instruction, ← operands_whole m.instruction) (simp (guard_text_lem, others_text, append-nil, append_assoc))

-- ==== names

abbrev is_name : Name → Bool
is_name [] = false
is_name (b ∷ n) = every is_name_byte (b ∷ n)

pub named : {n : Name} → is_name n ≡ true → GoodName n
named {n = []} h = absurd (false≢true h)
named {n = b ∷ l} h = record { all = all_of (b ∷ l) h; some = omega arith }

all_named : (l : List Name) → every is_name l ≡ true → GoodNames l
all_named [] h = Grammar.none
all_named (n ∷ l) h = let k = simp and-eq-true_iff at h in Grammar.more (named k.0) (all_named l k.1)

video_named : (t : VideoType) → is_name (video_type_name t) ≡ true
video_named = each (λ t. is_name (video_type_name t)) video_types refl

set_named : (t : SetType) → is_name (set_type_name t) ≡ true
set_named = each (λ t. is_name (set_type_name t)) set_types refl

type_named : (t : DataType) → is_name (type_name t) ≡ true
type_named = each (λ t. is_name (type_name t)) types refl

six_named : (c : Cmp6) → is_name (six_name c) ≡ true
six_named = each (λ c. is_name (six_name c)) sixes refl

cmp_named : (op : CmpOp) → is_name (cmp_name op) ≡ true
cmp_named = each (λ op. is_name (cmp_name op)) cmps refl

bool_named : (op : BoolOp) → is_name (bool_name op) ≡ true
bool_named = each (λ op. is_name (bool_name op)) bool_ops refl

op2_named : (op : Op2) → is_name (op2_name op) ≡ true
op2_named = each (λ op. is_name (op2_name op)) op2s refl

arith_named : (op : Arith) → is_name (arith_name op) ≡ true
arith_named = each (λ op. is_name (arith_name op)) ariths refl

lanes_named_lem : (w : LaneWidth) → is_name (lanes_name w) ≡ true
lanes_named_lem = each (λ w. is_name (lanes_name w)) widths refl

lane_arith_named : (op : LaneArith) (w : LaneWidth) → is_name (lane_arith_name op w) ≡ true
lane_arith_named op = each (λ w. is_name (lane_arith_name op w)) widths (each (λ op. every (λ w. is_name (lane_arith_name op w)) widths.list) lane_ariths refl op)

selector_named : (sel : Selector) → is_name (selector_name sel) ≡ true
selector_named = each (λ sel. is_name (selector_name sel)) selectors refl

lane_named : (t : Bool) (b : ℕ) → is_name_byte b ≡ true → every is_name_byte (cond t (b ∷ []) []) ≡ true
lane_named true b h = rw h
lane_named false b h = refl

mask_bytes : (t u v x : Bool)
    → every is_name_byte (cond t (bytes "3") [] ++ cond u (bytes "2") [] ++ cond v (bytes "1") [] ++ cond x (bytes "0") []) ≡ true
mask_bytes t u v x = simp (every_append, lane_named)

pub mask_named : (w : LaneWidth) (m : Mask) → is_name (mask_name w m) ≡ true
mask_named Half m = mask_bytes m.lane3 m.lane2 m.lane1 m.lane0
mask_named Byte m = mask_bytes m.lane3 m.lane2 m.lane1 m.lane0

-- a digit is a byte of a name, whatever the number
digit_named : (n : ℕ) → is_name_byte (digit n) ≡ true
digit_named n = simp (le-leb 48 (digit n) (omega arith), le-leb (digit n) 57 (omega arith), or-true)

pub digits_named_lem : (w : LaneWidth) (s : Digits) → is_name (digits_name w s) ≡ true
digits_named_lem Half s = simp digit_named
digits_named_lem Byte s = simp digit_named

braced_named : (t : Bool) (n : Name) → is_name n ≡ true → every is_name (braced t n) ≡ true
braced_named true n h = rw h
braced_named false n h = refl

form_named : (f : Form) → every is_name (form_op2 f) ≡ true
form_named (Plain d) = refl
form_named (Merge d sel c) = refl
form_named (Combine op d c) = simp op2_named

combination_named : (c : Combination) → every is_name (combination_names c) ≡ true
combination_named Alone = refl
combination_named (With op c) = simp bool_named

ruleset namings = (every_append, video_named, set_named, type_named, six_named, cmp_named, arith_named, lanes_named_lem, lane_arith_named, braced_named, form_named, combination_named)

names_named : (i : Instruction) → every is_name (head_names i) ≡ true
names_named (Arithmetic op dtype sat s) = simp namings
names_named (Vset cmp s) = simp namings
names_named (VsetLanes cmp l) = simp namings
names_named (ArithmeticLanes op dtype sat l) = simp namings
names_named (Set dtype d s) = simp namings
names_named (Setp d s) = simp namings
names_named (Selp s c) = simp namings
names_named (Slct SlctType.S32 s c) = simp namings
names_named (Slct (SlctType.F32 ftz) s c) = simp namings

-- ==== registers and operands

-- a file has at most 64 registers, so that three digits hold any number of one
place_good : (q : Place) → is_inside q ≡ true → GoodPlace q
place_good (reg Words n) h = omega (arith, ltb-true)
place_good (reg Halves n) h = omega (arith, ltb-true)
place_good (reg Doubles n) h = omega (arith, ltb-true)
place_good (reg Preds n) h = omega (arith, ltb-true)

one_blank : Some is_blank (bytes " ")
one_blank = record { all = Bytes.more refl Bytes.none; some = lit< tt }

guard_good_lem : (g : Guard) → guard_in_range g ≡ true → GoodGuard (standard_guard g)
guard_good_lem Always h = tt
guard_good_lem (When c) h = (place_good (p c.pred) h, one_blank)

either_good : (t : Bool) (o q : OperandTree) → GoodOperand o → GoodOperand q → GoodOperand (cond t o q)
either_good true o q h k = h
either_good false o q h k = k

condition_good : (c : Condition) → condition_in_range c ≡ true → GoodOperand (condition_tree c)
condition_good c h = either_good c.inverted _ _ (place_good (p c.pred) h) (place_good (p c.pred) h)

combination_good : (c : Combination) → combination_in_range c ≡ true → GoodOperands (combination_last c)
combination_good Alone h = Grammar.none
combination_good (With op c) h = Grammar.more (condition_good c h) Grammar.none

selected_good : (a : Selected) → selected_in_range a ≡ true → GoodOperand (selected_tree a)
selected_good (Whole w) h = place_good (r w) h
selected_good (Part w sel) h = (place_good (r w) h, named (selector_named sel))

form_good : (f : Form) → form_in_range f ≡ true → GoodOperand (form_tree f)
form_good (Plain d) h = place_good (r d) h
form_good (Merge d sel c) h = let k = simp and-eq-true_iff at h in (place_good (r d) k.0, named (selector_named sel))
form_good (Combine op d c) h = let k = simp and-eq-true_iff at h in place_good (r d) k.0

form_last_good : (f : Form) → form_in_range f ≡ true → GoodOperands (form_last f)
form_last_good (Plain d) h = Grammar.none
form_last_good (Merge d sel c) h = let k = simp and-eq-true_iff at h in Grammar.more (place_good (r c) k.1) Grammar.none
form_last_good (Combine op d c) h = let k = simp and-eq-true_iff at h in Grammar.more (place_good (r c) k.1) Grammar.none

destination_good : (d : Destination) → destination_in_range d ≡ true → GoodOperand (destination_tree d)
destination_good (One a) h = place_good (p a) h
destination_good (Pair a b) h = let k = simp and-eq-true_iff at h in (place_good (p a) k.0, place_good (p b) k.1)
destination_good (First a) h = (place_good (p a) h, tt)
destination_good (Second b) h = (tt, place_good (p b) h)

mask_good : (w : LaneWidth) (d : Word) (m : Mask) → is_inside (r d) ≡ true → GoodOperand (mask_tree w d m)
mask_good w d m h = either_good (same_mask m (full_mask w)) _ _ (place_good (r d) h) (place_good (r d) h, named (mask_named w m))

digits_good : (w : LaneWidth) (default : Digits) (a : Word) (s : Digits) → is_inside (r a) ≡ true → GoodOperand (digits_tree w default a s)
digits_good w default a s h = either_good (same_digits s default) _ _ (place_good (r a) h) (place_good (r a) h, named (digits_named_lem w s))

scalar_good : (s : Scalar) → scalar_in_range s ≡ true → GoodOperands (scalar_trees s)
scalar_good s h =
    let k = simp and-eq-true_iff at h in
    Grammar.more (form_good s.form k.0.0)
    (Grammar.more (selected_good s.a k.0.1) (Grammar.more (selected_good s.b k.1) (form_last_good s.form k.0.0)))

lanes_good : (l : Lanes) → lanes_in_range l ≡ true → GoodOperands (lanes_trees l)
lanes_good l h =
    let k = simp and-eq-true_iff at h in
    let w = l.width in
    Grammar.more (mask_good w l.d l.mask k.0.0.0)
    (Grammar.more (digits_good w (default_a w) l.a l.asel k.0.0.1)
    (Grammar.more (digits_good w (default_b w) l.b l.bsel k.0.1) (Grammar.more (place_good (r l.c) k.1) Grammar.none)))

sources_good : (s : Comparison) → comparison_in_range s ≡ true → GoodOperands (source_trees s)
sources_good s h =
    let k = simp and-eq-true_iff at h in
    Grammar.more (place_good (operand_place s.a) k.0.0) (Grammar.more (place_good (operand_place s.b) k.0.1) (combination_good s.combination k.1))

choice_good : (s : Choice) (c : Place) → choice_in_range s ≡ true → GoodPlace c → GoodOperands (choice_trees s c)
choice_good s c h last =
    let k = simp and-eq-true_iff at h in
    Grammar.more (place_good (operand_place s.d) k.0.0)
    (Grammar.more (place_good (operand_place s.a) k.0.1) (Grammar.more (place_good (operand_place s.b) k.1) (Grammar.more last Grammar.none)))

operands_good : (i : Instruction) → instruction_in_range i ≡ true → GoodOperands (operand_trees i)
operands_good (Arithmetic op dtype sat s) h = scalar_good s h
operands_good (Vset cmp s) h = scalar_good s h
operands_good (VsetLanes cmp l) h = lanes_good l h
operands_good (ArithmeticLanes op dtype sat l) h = lanes_good l h
operands_good (Set dtype d s) h =
    let k = (and-eq-true_iff (is_inside (r d)) (comparison_in_range s)).0 h in
    Grammar.more (place_good (r d) k.0) (sources_good s k.1)
operands_good (Setp d s) h =
    let k = (and-eq-true_iff (destination_in_range d) (comparison_in_range s)).0 h in
    Grammar.more (destination_good d k.0) (sources_good s k.1)
operands_good (Selp s c) h = let k = (and-eq-true_iff (choice_in_range s) (is_inside (p c))).0 h in choice_good s (p c) k.0 (place_good (p c) k.1)
operands_good (Slct ctype s c) h = let k = (and-eq-true_iff (choice_in_range s) (is_inside (r c))).0 h in choice_good s (r c) k.0 (place_good (r c) k.1)

-- ==== the line

first_name : {n : Name} {l : List Name} → GoodNames (n ∷ l) → GoodName n
first_name (Grammar.more h k) = h

other_names : {n : Name} {l : List Name} → GoodNames (n ∷ l) → GoodNames l
other_names (Grammar.more h k) = k

first_operand : {o : OperandTree} {l : List OperandTree} → GoodOperands (o ∷ l) → GoodOperand o
first_operand (Grammar.more h k) = h

other_operands : {o : OperandTree} {l : List OperandTree} → GoodOperands (o ∷ l) → GoodOperands l
other_operands (Grammar.more h k) = k

spaced_good : {l : List OperandTree} → GoodOperands l → GoodOthers (map spaced l)
spaced_good Grammar.none = Grammar.none
spaced_good (Grammar.more h k) =
    Grammar.more (record { before = Bytes.none; after = one_blank.all; operand = h }) (spaced_good k)

pub standard_good : (m : Record) → Legal m → Good (standard_tree m)
unfolding is_legal
standard_good m h =
    let k = simp and-eq-true_iff at h in
    let i = m.instruction in
    let names : GoodNames (opcode_of i ∷ modifiers_of i) = rw names_whole (all_named (head_names i) (names_named i)) in
    let operands : GoodOperands (first_of i ∷ others_of i) = rw operands_whole (operands_good i k.0.1.1) in
    record {
      before = Bytes.none;
      guard = guard_good_lem m.guard k.0.1.0;
      opcode = first_name names;
      modifiers = other_names names;
      gap = one_blank;
      first = first_operand operands;
      others = spaced_good (other_operands operands);
      ending = Bytes.none;
      behind = Bytes.none;
    }

-- ==== what it spells

guard_spells : (g : Guard) → GuardSpells (standard_guard g) g
guard_spells Always = tt
guard_spells (When c) = (refl, refl)

as_standing : (l k : List OperandTree) → length l ≡ length k → Spelled l l k
as_standing [] [] h = Reading.none
as_standing [] (w ∷ k) h = absurd (omega arith)
as_standing (o ∷ l) [] h = absurd (omega arith)
as_standing (o ∷ l) (w ∷ k) h = Reading.more (as_standard refl) (as_standing l k (omega arith))

-- writing masks and selectors out adds no operand
operands_spelled : (i : Instruction) → Spelled (operand_trees i) (operand_trees i) (written_trees i)
operands_spelled (Arithmetic op dtype sat s) = as_standing _ _ refl
operands_spelled (Vset cmp s) = as_standing _ _ refl
operands_spelled (VsetLanes cmp l) = as_standing _ _ refl
operands_spelled (ArithmeticLanes op dtype sat l) = as_standing _ _ refl
operands_spelled (Set dtype d s) = as_standing _ _ refl
operands_spelled (Setp d s) = as_standing _ _ refl
operands_spelled (Selp s c) = as_standing _ _ refl
operands_spelled (Slct ctype s c) = as_standing _ _ refl

lanes_have_names : (i : Instruction) → instruction_operands_fit i ≡ true → lanes_named i ≡ true
lanes_have_names (VsetLanes cmp l) h = h
lanes_have_names (ArithmeticLanes op dtype sat l) h = h
lanes_have_names (Arithmetic op dtype sat s) h = refl
lanes_have_names (Vset cmp s) h = refl
lanes_have_names (Set dtype d s) h = refl
lanes_have_names (Setp d s) h = refl
lanes_have_names (Selp s c) h = refl
lanes_have_names (Slct ctype s c) h = refl

spaced_operands : (l : List OperandTree) → map (λ (d : Divided). d.operand) (map spaced l) ≡ l
spaced_operands [] = refl
spaced_operands (o ∷ l) = ap (◌∷◌ o) (spaced_operands l)

pub standard_spells : (m : Record) → Legal m → Spells (standard_tree m) m
unfolding is_legal
standard_spells m h =
    let k = simp and-eq-true_iff at h in
    let i = m.instruction in
    record {
      guard = guard_spells m.guard;
      head = names_whole i;
      operands = record {
        operands = simp (spaced_operands, operands_whole) (operands_spelled i);
        named = lanes_have_names i k.0.0.1;
      };
    }

pub standard_relates : (m : Record) → Legal m → Relates (standard m) m
standard_relates m h = record {
  short = standard_fits m h;
  tree = standard_tree m;
  shaped = record { good = standard_good m h; text = standard_text m };
  spells = standard_spells m h;
}
