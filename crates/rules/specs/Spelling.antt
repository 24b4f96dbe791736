-- Document 01, "Operands": the operands that a record has, as the pieces of a line. Default masks and selectors are left out, as in the standard line.
use Rattle.std.specs.Prelude.{Bool, ◌&&◌, cond, List, [], ◌∷◌, eqb}
use Rattle.std.specs.Bool.{beq}
use Rattle.record.specs.Operands.{full_mask, default_a, default_b}
use Rattle.record.specs.declared.Word.{Word}
use Rattle.record.specs.declared.Condition.{Condition}
use Rattle.record.specs.declared.Combination.{Combination}
use Rattle.record.specs.declared.Combination.TheVariants.{Alone, With}
use Rattle.record.specs.declared.Selected.{Selected}
use Rattle.record.specs.declared.Selected.TheVariants.{Whole, Part}
use Rattle.record.specs.declared.Form.{Form}
use Rattle.record.specs.declared.Form.TheVariants.{Plain, Merge, Combine}
use Rattle.record.specs.declared.Scalar.{Scalar}
use Rattle.record.specs.declared.LaneWidth.{LaneWidth}
use Rattle.record.specs.declared.Lanes.{Lanes}
use Rattle.record.specs.declared.Comparison.{Comparison}
use Rattle.record.specs.declared.Choice.{Choice}
use Rattle.record.specs.declared.Mask.{Mask}
use Rattle.record.specs.declared.Digits.{Digits}
use Rattle.record.specs.declared.Destination.{Destination}
use Rattle.record.specs.declared.Destination.TheVariants.{One, Pair, First, Second}
use Rattle.record.specs.declared.Instruction.{Instruction}
use Rattle.record.specs.declared.Instruction.TheVariants.{Arithmetic, Vset, VsetLanes, ArithmeticLanes, Set, Setp, Selp, Slct}
use Rattle.record.specs.Registers.{Place, r, p, operand_place}
use Rattle.rules.specs.Shape.{at, nothing, OperandTree, inverted, pair, bare, part}
use Rattle.rules.specs.Names.{selector_name, mask_name, digits_name}

-- ==== the operands of a record, in their order

abbrev pub selected_tree : Selected → OperandTree
selected_tree (Whole w) = bare (r w)
selected_tree (Part w sel) = part (r w) (selector_name sel)

abbrev pub form_tree : Form → OperandTree
form_tree (Plain d) = bare (r d)
form_tree (Merge d sel c) = part (r d) (selector_name sel)
form_tree (Combine op d c) = bare (r d)

abbrev pub form_last : Form → List OperandTree
form_last (Plain d) = []
form_last (Merge d sel c) = bare (r c) ∷ []
form_last (Combine op d c) = bare (r c) ∷ []

-- Default masks and selectors are left out
abbrev pub same_mask : Mask → Mask → Bool
same_mask m n = beq m.lane0 n.lane0 && beq m.lane1 n.lane1 && beq m.lane2 n.lane2 && beq m.lane3 n.lane3

abbrev pub same_digits : Digits → Digits → Bool
same_digits s t = eqb s.lane0 t.lane0 && eqb s.lane1 t.lane1 && eqb s.lane2 t.lane2 && eqb s.lane3 t.lane3

abbrev pub mask_tree : LaneWidth → Word → Mask → OperandTree
mask_tree w d m = cond (same_mask m (full_mask w)) (bare (r d)) (part (r d) (mask_name w m))

abbrev pub digits_tree : LaneWidth → Digits → Word → Digits → OperandTree
digits_tree w default a s = cond (same_digits s default) (bare (r a)) (part (r a) (digits_name w s))

-- a predicate with optional `!`
abbrev pub condition_tree : Condition → OperandTree
condition_tree c = cond c.inverted (inverted (p c.pred)) (bare (p c.pred))

abbrev pub combination_last : Combination → List OperandTree
combination_last Alone = []
combination_last (With op c) = condition_tree c ∷ []

-- d is one predicate, or a pair of which one may be `_`
abbrev pub destination_tree : Destination → OperandTree
destination_tree (One a) = bare (p a)
destination_tree (Pair a b) = pair (at (p a)) (at (p b))
destination_tree (First a) = pair (at (p a)) nothing
destination_tree (Second b) = pair nothing (at (p b))

-- d, a, b or d, a, b, c
abbrev pub scalar_trees : Scalar → List OperandTree
scalar_trees s = form_tree s.form ∷ selected_tree s.a ∷ selected_tree s.b ∷ form_last s.form

abbrev pub lanes_trees : Lanes → List OperandTree
lanes_trees l =
    mask_tree l.width l.d l.mask
    ∷ digits_tree l.width (default_a l.width) l.a l.asel
    ∷ digits_tree l.width (default_b l.width) l.b l.bsel
    ∷ bare (r l.c)
    ∷ []

-- a, b and, with BoolOp, c
abbrev pub source_trees : Comparison → List OperandTree
source_trees s = bare (operand_place s.a) ∷ bare (operand_place s.b) ∷ combination_last s.combination

abbrev pub choice_trees : Choice → Place → List OperandTree
choice_trees s c = bare (operand_place s.d) ∷ bare (operand_place s.a) ∷ bare (operand_place s.b) ∷ bare c ∷ []

abbrev pub operand_trees : Instruction → List OperandTree
operand_trees (Arithmetic op dtype sat s) = scalar_trees s
operand_trees (Vset cmp s) = scalar_trees s
operand_trees (VsetLanes cmp l) = lanes_trees l
operand_trees (ArithmeticLanes op dtype sat l) = lanes_trees l
operand_trees (Set dtype d s) = bare (r d) ∷ source_trees s
operand_trees (Setp d s) = destination_tree d ∷ source_trees s
operand_trees (Selp s c) = choice_trees s (p c)
operand_trees (Slct ctype s c) = choice_trees s (r c)

-- the operands with every mask and selector of the forms with 2 and 4 written out
abbrev pub written_lanes : Lanes → List OperandTree
written_lanes l =
    part (r l.d) (mask_name l.width l.mask)
    ∷ part (r l.a) (digits_name l.width l.asel)
    ∷ part (r l.b) (digits_name l.width l.bsel)
    ∷ bare (r l.c)
    ∷ []

abbrev pub written_trees : Instruction → List OperandTree
written_trees (VsetLanes cmp l) = written_lanes l
written_trees (ArithmeticLanes op dtype sat l) = written_lanes l
written_trees (Arithmetic op dtype sat s) = operand_trees (Arithmetic op dtype sat s)
written_trees (Vset cmp s) = operand_trees (Vset cmp s)
written_trees (Set dtype d s) = operand_trees (Set dtype d s)
written_trees (Setp d s) = operand_trees (Setp d s)
written_trees (Selp s c) = operand_trees (Selp s c)
written_trees (Slct ctype s c) = operand_trees (Slct ctype s c)
