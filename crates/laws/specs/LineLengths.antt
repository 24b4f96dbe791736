-- Document 01, "The standard line": the longest one of a legal record. Assumes nothing.
use Rattle.std.specs.Prelude.{ℕ, ◌+◌, ◌-◌, ◌≤◌, ◌≡◌, refl, Bool, true, false, cond, List, [], ◌∷◌, ◌++◌, map, eqb, leb, ltb, length}
use Rattle.std.proofs.Common.{arith, lit≤, length-append, eqb-true, leb-true, ltb-true, ltb-false}
use Rattle.std.proofs.Math.Bool.{and-eq-true_iff}
use Rattle.signs.specs.Text.{bytes}
use Rattle.base.specs.Values.{Values, every, each}
use Rattle.record.specs.Operands.{full_mask, default_a, default_b}
use Rattle.record.specs.Refusals.{is_legal, Legal, guard_in_range, selected_in_range, form_in_range, lanes_in_range, operand_in_range, combination_in_range, destination_in_range, instruction_in_range}
use Rattle.record.specs.declared.VideoType.{VideoType}
use Rattle.record.specs.declared.SetType.{SetType}
use Rattle.record.specs.declared.SlctType.{SlctType}
use Rattle.record.specs.declared.DataType.{DataType}
use Rattle.record.specs.declared.Cmp6.{Cmp6}
use Rattle.record.specs.declared.CmpOp.{CmpOp}
use Rattle.record.specs.declared.BoolOp.{BoolOp}
use Rattle.record.specs.declared.Op2.{Op2}
use Rattle.record.specs.declared.Arith.{Arith}
use Rattle.record.specs.declared.Arith.TheVariants.{Vabsdiff}
use Rattle.record.specs.declared.LaneArith.{LaneArith}
use Rattle.record.specs.declared.Word.{Word}
use Rattle.record.specs.declared.Condition.{Condition}
use Rattle.record.specs.declared.Guard.{Guard}
use Rattle.record.specs.declared.Guard.TheVariants.{Always, When}
use Rattle.record.specs.declared.Combination.{Combination}
use Rattle.record.specs.declared.Combination.TheVariants.{Alone, With}
use Rattle.record.specs.declared.Selector.{Selector}
use Rattle.record.specs.declared.Selected.{Selected}
use Rattle.record.specs.declared.Selected.TheVariants.{Whole, Part}
use Rattle.record.specs.declared.Form.{Form}
use Rattle.record.specs.declared.Form.TheVariants.{Plain, Merge, Combine}
use Rattle.record.specs.declared.LaneWidth.{LaneWidth}
use Rattle.record.specs.declared.LaneWidth.TheVariants.{Half, Byte}
use Rattle.record.specs.declared.Mask.{Mask}
use Rattle.record.specs.declared.Digits.{Digits}
use Rattle.record.specs.declared.Lanes.{Lanes}
use Rattle.record.specs.declared.Operand.{Operand}
use Rattle.record.specs.declared.Destination.{Destination}
use Rattle.record.specs.declared.Destination.TheVariants.{One, Pair, First, Second}
use Rattle.record.specs.declared.Instruction.{Instruction}
use Rattle.record.specs.declared.Instruction.TheVariants.{Arithmetic, Vset, VsetLanes, ArithmeticLanes, Set, Setp, Selp, Slct}
use Rattle.record.specs.declared.Record.{Record}
use Rattle.rules.specs.Numbers.{lanes, bit}
use Rattle.record.specs.Registers.{Place, operand_place, r, p}
use Rattle.rules.specs.Shape.{Name, dotted, head_text, number_text, register_text, OperandTree, bare, operand_text, guard_text}
use Rattle.rules.specs.Names.{video_type_name, set_type_name, type_name, six_name, cmp_name, bool_name, op2_name, arith_name, lanes_name, lane_arith_name, braced, form_op2, combination_names, head_names, selector_name, digits_name}
use Rattle.laws.specs.Choices.{video_types, set_types, types, sixes, cmps, bool_ops, op2s, ariths, lane_ariths, widths, selectors}
use Rattle.rules.specs.Spelling.{selected_tree, form_tree, form_last, same_mask, same_digits, mask_tree, digits_tree, condition_tree, combination_last, destination_tree, lanes_trees, operand_trees}
use Rattle.rules.specs.StandardLine.{guard_part, further, operands_text, standard}

-- ==== pieces with k bytes before each, and with k bytes between two

abbrev after : ℕ → List (List ℕ) → ℕ
after k [] = 0
after k (s ∷ l) = k + length s + after k l

abbrev joined : ℕ → List (List ℕ) → ℕ
joined k [] = 0
joined k (s ∷ l) = length s + after k l

after_append : (k : ℕ) (l m : List (List ℕ)) → after k (l ++ m) ≡ after k l + after k m
after_append k [] m = omega arith
after_append k (s ∷ l) m = omega (arith, after_append k l m)

dotted_length : (l : List Name) → length (dotted l) ≡ after 1 l
dotted_length [] = refl
dotted_length (n ∷ l) = simp length-append (omega (arith, dotted_length l))

head_length : (l : List Name) → length (head_text l) ≡ joined 1 l
head_length [] = refl
head_length (n ∷ l) = simp (length-append, dotted_length)

further_length : (l : List OperandTree) → length (further l) ≡ after 2 (map operand_text l)
further_length [] = refl
further_length (o ∷ l) = simp length-append (omega (arith, further_length l))

operands_length : (l : List OperandTree) → length (operands_text l) ≡ joined 2 (map operand_text l)
operands_length [] = refl
operands_length (o ∷ l) = simp (length-append, further_length)

-- ==== names

-- every name of a choice has k bytes, or at most k
long : {A : Type 0} (name : A → Name) (k : ℕ) (v : Values A) → every (λ (t : A). eqb (length (name t)) k) v.list ≡ true → (t : A) → length (name t) ≡ k
long name k v e t = eqb-true (length (name t)) k (each (λ t. eqb (length (name t)) k) v e t)

short : {A : Type 0} (name : A → Name) (k : ℕ) (v : Values A) → every (λ (t : A). leb (length (name t)) k) v.list ≡ true → (t : A) → length (name t) ≤ k
short name k v e t = leb-true (length (name t)) k (each (λ t. leb (length (name t)) k) v e t)

video_length : (t : VideoType) → length (video_type_name t) ≡ 3
video_length = long video_type_name 3 video_types refl

set_length : (t : SetType) → length (set_type_name t) ≡ 3
set_length = long set_type_name 3 set_types refl

type_length : (t : DataType) → length (type_name t) ≡ 3
type_length = long type_name 3 types refl

six_length : (c : Cmp6) → length (six_name c) ≡ 2
six_length = long six_name 2 sixes refl

op2_length : (op : Op2) → length (op2_name op) ≡ 3
op2_length = long op2_name 3 op2s refl

lanes_length : (w : LaneWidth) → length (lanes_name w) ≡ 5
lanes_length = long lanes_name 5 widths refl

selector_length : (sel : Selector) → length (selector_name sel) ≡ 2
selector_length = long selector_name 2 selectors refl

digits_length : (w : LaneWidth) (s : Digits) → length (digits_name w s) ≡ 1 + lanes w
digits_length Half s = refl
digits_length Byte s = refl

lane_length : (t : Bool) (b : ℕ) → length (cond t (b ∷ []) []) ≡ bit t
lane_length true b = refl
lane_length false b = refl

ruleset lengths = (length-append, after_append, video_length, set_length, type_length, six_length, op2_length, lanes_length, selector_length, digits_length, lane_length)

arith_short : (op : Arith) → length (arith_name op) ≤ 8
arith_short = short arith_name 8 ariths refl

lane_arith_short : (op : LaneArith) (w : LaneWidth) → length (lane_arith_name op w) ≤ 9
lane_arith_short op = short (lane_arith_name op) 9 widths (each (λ op. every (λ w. leb (length (lane_arith_name op w)) 9) widths.list) lane_ariths refl op)

cmp_short : (op : CmpOp) → length (cmp_name op) ≤ 3
cmp_short = short cmp_name 3 cmps refl

bool_short : (op : BoolOp) → length (bool_name op) ≤ 3
bool_short = short bool_name 3 bool_ops refl

braced_short : (t : Bool) (n : Name) → after 1 (braced t n) ≤ 1 + length n
braced_short true n = omega arith
braced_short false n = omega arith

-- ==== registers and operands

-- a number of a file of at most 100 has at most two digits
number_short : (n k : ℕ) → ltb n k ≡ true → length (number_text n) ≤ 2 + (k - 100)
number_short n k h = go (ltb n 10) (ltb n 100) refl refl
  where
    go : (p q : Bool) → ltb n 10 ≡ p → ltb n 100 ≡ q → length (number_text n) ≤ 2 + (k - 100)
    go true q e f = rw e (omega arith)
    go false true e f = rw (e, f) (omega arith)
    go false false e f = rw (e, f) (omega (arith, ltb-true, ltb-false))

guard_text_short : (t : Bool) (q : Place) → length (guard_text t q) ≤ 2 + length (register_text q)
guard_text_short true q = omega arith
guard_text_short false q = omega arith

guard_short : (g : Guard) → guard_in_range g ≡ true → length (guard_part g) ≤ 7
guard_short Always h = lit≤ tt
guard_short (When c) h = simp lengths (omega (arith, number_short, guard_text_short c.inverted (p c.pred)))

either_short : (t : Bool) (n : ℕ) (o q : OperandTree) → length (operand_text o) ≤ n → length (operand_text q) ≤ n → length (operand_text (cond t o q)) ≤ n
either_short true n o q h k = h
either_short false n o q h k = k

condition_short : (c : Condition) → length (operand_text (condition_tree c)) ≤ 1 + length (register_text (p c.pred))
condition_short c = either_short c.inverted _ _ _ (omega arith) (omega arith)

combination_short : (c : Combination) → combination_in_range c ≡ true → after 1 (combination_names c) + after 2 (map operand_text (combination_last c)) ≤ 11
combination_short Alone h = lit≤ tt
combination_short (With op c) h = omega (arith, number_short, bool_short op, condition_short c)

selected_short : (a : Selected) → selected_in_range a ≡ true → length (operand_text (selected_tree a)) ≤ 7
selected_short (Whole w) h = omega (arith, number_short)
selected_short (Part w sel) h = simp lengths (omega (arith, number_short))

form_short : (f : Form) → form_in_range f ≡ true → after 1 (form_op2 f) + length (operand_text (form_tree f)) + after 2 (map operand_text (form_last f)) ≤ 14
form_short (Plain d) h = omega (arith, number_short)
form_short (Merge d sel c) h = let k = simp and-eq-true_iff at h in simp lengths (omega (arith, number_short))
form_short (Combine op d c) h = let k = simp and-eq-true_iff at h in simp lengths (omega (arith, number_short))

operand_short : (o : Operand) → operand_in_range o ≡ true → length (operand_text (bare (operand_place o))) ≤ 5
operand_short (Operand.Word w) h = omega (arith, number_short)
operand_short (Operand.Half n) h = omega (arith, number_short)
operand_short (Operand.Double d) h = omega (arith, number_short)

destination_short : (d : Destination) → destination_in_range d ≡ true → length (operand_text (destination_tree d)) ≤ 9
destination_short (One p) h = omega (arith, number_short)
destination_short (Pair p q) h = let k = simp and-eq-true_iff at h in simp lengths (omega (arith, number_short))
destination_short (First p) h = simp lengths (omega (arith, number_short))
destination_short (Second q) h = omega (arith, number_short)

digits_short : (w : LaneWidth) (default : Digits) (a : Word) (s : Digits)
    → length (operand_text (digits_tree w default a s)) ≤ length (register_text (r a)) + (2 + lanes w)
digits_short w default a s = either_short (same_digits s default) _ _ _ (omega arith) (simp lengths (omega arith))

bit_le : (t : Bool) → bit t ≤ 1
bit_le true = lit≤ tt
bit_le false = lit≤ tt

-- a mask of four lanes that is written leaves a lane out
mask_short : (w : LaneWidth) (d : Word) (m : Mask) → length (operand_text (mask_tree w d m)) ≤ length (register_text (r d)) + (9 - lanes w)
mask_short Half d m =
    either_short (same_mask m (full_mask Half)) _ _ _ (omega arith)
    (simp lengths (omega (arith, bit_le m.lane0, bit_le m.lane1, bit_le m.lane2, bit_le m.lane3)))
mask_short Byte d m = go m.lane0 m.lane1 m.lane2 m.lane3
  where
    go : (t u v w : Bool) → length (operand_text (mask_tree Byte d (record { lane0 = t; lane1 = u; lane2 = v; lane3 = w }))) ≤ length (register_text (r d)) + 5
    go true true true true = omega arith
    go true true true false = simp lengths (omega arith)
    go true true false w = simp lengths (omega (arith, bit_le w))
    go true false v w = simp lengths (omega (arith, bit_le v, bit_le w))
    go false u v w = simp lengths (omega (arith, bit_le u, bit_le v, bit_le w))

at_most_four : (w : LaneWidth) → lanes w ≤ 4
at_most_four Half = lit≤ tt
at_most_four Byte = lit≤ tt

-- the operands of the forms with 2 and 4
lanes_short : (l : Lanes) → lanes_in_range l ≡ true → joined 2 (map operand_text (lanes_trees l)) ≤ 39
lanes_short l h =
    let k = simp and-eq-true_iff at h in
    let w = l.width in
    simp lengths
    (omega
    (arith, number_short, mask_short w l.d l.mask, digits_short w (default_a w) l.a l.asel, digits_short w (default_b w) l.b l.bsel, at_most_four w))

-- ==== lines

-- head and operands
instruction_short : (i : Instruction) → instruction_in_range i ≡ true → joined 1 (head_names i) + joined 2 (map operand_text (operand_trees i)) ≤ 68
instruction_short (Arithmetic op dtype sat s) h =
    let k = simp and-eq-true_iff at h in
    simp lengths (omega (arith, arith_short op, braced_short sat (bytes "sat"), form_short, selected_short))
instruction_short (Vset cmp s) h = let k = simp and-eq-true_iff at h in simp lengths (omega (arith, form_short, selected_short))
instruction_short (VsetLanes cmp l) h = simp lengths (omega (arith, braced_short l.add (bytes "add"), lanes_short l h))
instruction_short (ArithmeticLanes op dtype sat l) h =
    simp lengths
    (omega (arith, lane_arith_short op l.width, braced_short sat (bytes "sat"), braced_short l.add (bytes "add"), lanes_short l h))
instruction_short (Set dtype d s) h =
    let k = simp and-eq-true_iff at h in
    simp lengths (omega (arith, cmp_short s.cmp, braced_short s.ftz (bytes "ftz"), number_short, operand_short s.a k.1.0.0, operand_short s.b k.1.0.1, combination_short))
instruction_short (Setp d s) h =
    let k = simp and-eq-true_iff at h in
    simp lengths (omega (arith, cmp_short s.cmp, braced_short s.ftz (bytes "ftz"), destination_short, operand_short s.a k.1.0.0, operand_short s.b k.1.0.1, combination_short))
instruction_short (Selp s c) h = let k = simp and-eq-true_iff at h in simp lengths (omega (arith, number_short, operand_short s.d k.0.0.0, operand_short s.a k.0.0.1, operand_short s.b k.0.1))
instruction_short (Slct SlctType.S32 s c) h = let k = simp and-eq-true_iff at h in simp lengths (omega (arith, number_short, operand_short s.d k.0.0.0, operand_short s.a k.0.0.1, operand_short s.b k.0.1))
instruction_short (Slct (SlctType.F32 ftz) s c) h =
    let k = simp and-eq-true_iff at h in
    simp lengths (omega (arith, braced_short ftz (bytes "ftz"), number_short, operand_short s.d k.0.0.0, operand_short s.a k.0.0.1, operand_short s.b k.0.1))

abbrev pub longest_line : ℕ
longest_line = 77

pub standard_length : (r : Record) → Legal r → length (standard r) ≤ longest_line
unfolding standard is_legal
standard_length r h =
    let k = simp and-eq-true_iff at h in
    simp lengths
    (omega (arith, guard_short, instruction_short, head_length (head_names r.instruction), operands_length (operand_trees r.instruction)))

pub standard_fits : (r : Record) → Legal r → length (standard r) ≤ 160
standard_fits r h = omega (arith, standard_length r h)

-- ==== a line of that length

abbrev pub longest : Record
longest = record {
  guard = When (record { inverted = true; pred = record { 0 = 15 } });
  instruction = ArithmeticLanes (LaneArith.Scalar Vabsdiff) VideoType.U32 true
      (record {
        width = Byte;
        atype = VideoType.U32;
        btype = VideoType.U32;
        add = true;
        d = record { 0 = 63 };
        mask = record { lane0 = false; lane1 = true; lane2 = true; lane3 = true };
        a = record { 0 = 63 };
        asel = record { lane0 = 7; lane1 = 7; lane2 = 7; lane3 = 7 };
        b = record { 0 = 63 };
        bsel = record { lane0 = 7; lane1 = 7; lane2 = 7; lane3 = 7 };
        c = record { 0 = 63 };
      });
}

pub longest_legal : Legal longest
unfolding is_legal
longest_legal = refl

pub longest_text : standard longest ≡ bytes "@!%p15 vabsdiff4.u32.u32.u32.sat.add %r63.b321, %r63.b7777, %r63.b7777, %r63;"
unfolding standard
longest_text = refl

pub longest_length : length (standard longest) ≡ longest_line
unfolding standard
longest_length = refl
