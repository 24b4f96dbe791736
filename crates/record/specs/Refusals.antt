-- Document 01, "Refusal numbers", of the record: 6 and 7 said of a record, and 8.
use Rattle.std.specs.Prelude.{◌≡◌, Bool, true, not, ◌&&◌, eqb}
use Rattle.record.specs.declared.Condition.{Condition}
use Rattle.record.specs.declared.Guard.{Guard}
use Rattle.record.specs.declared.Guard.TheVariants.{Always, When}
use Rattle.record.specs.declared.Combination.{Combination}
use Rattle.record.specs.declared.Combination.TheVariants.{Alone, With}
use Rattle.record.specs.declared.Selected.{Selected}
use Rattle.record.specs.declared.Selected.TheVariants.{Whole, Part}
use Rattle.record.specs.declared.Form.{Form}
use Rattle.record.specs.declared.Form.TheVariants.{Plain, Merge, Combine}
use Rattle.record.specs.declared.Scalar.{Scalar}
use Rattle.record.specs.declared.Lanes.{Lanes}
use Rattle.record.specs.declared.Operand.{Operand}
use Rattle.record.specs.declared.Comparison.{Comparison}
use Rattle.record.specs.declared.Destination.{Destination}
use Rattle.record.specs.declared.Destination.TheVariants.{One, Pair, First, Second}
use Rattle.record.specs.declared.Choice.{Choice}
use Rattle.record.specs.declared.Instruction.{Instruction}
use Rattle.record.specs.declared.Instruction.TheVariants.{Arithmetic, Vset, VsetLanes, ArithmeticLanes, Set, Setp, Selp, Slct}
use Rattle.record.specs.declared.Record.{Record}
use Rattle.record.specs.Registers.{r, p, operand_place, is_inside}
use Rattle.record.specs.Modifiers.{modifiers_fit}
use Rattle.record.specs.Operands.{operands_fit}

-- ---- 6: a register number at or over its file's size (T-06: 6 and 8 include the new file). Below: every register that the record names is in its file

abbrev pub condition_in_range : Condition → Bool
condition_in_range c = is_inside (p c.pred)

abbrev pub guard_in_range : Guard → Bool
guard_in_range Always = true
guard_in_range (When c) = condition_in_range c

abbrev pub selected_in_range : Selected → Bool
selected_in_range (Whole w) = is_inside (r w)
selected_in_range (Part w sel) = is_inside (r w)

abbrev pub form_in_range : Form → Bool
form_in_range (Plain d) = is_inside (r d)
form_in_range (Merge d sel c) = is_inside (r d) && is_inside (r c)
form_in_range (Combine op d c) = is_inside (r d) && is_inside (r c)

abbrev pub scalar_in_range : Scalar → Bool
scalar_in_range s = form_in_range s.form && selected_in_range s.a && selected_in_range s.b

abbrev pub lanes_in_range : Lanes → Bool
lanes_in_range l = is_inside (r l.d) && is_inside (r l.a) && is_inside (r l.b) && is_inside (r l.c)

abbrev pub operand_in_range : Operand → Bool
operand_in_range o = is_inside (operand_place o)

abbrev pub combination_in_range : Combination → Bool
combination_in_range Alone = true
combination_in_range (With op c) = condition_in_range c

abbrev pub comparison_in_range : Comparison → Bool
comparison_in_range s = operand_in_range s.a && operand_in_range s.b && combination_in_range s.combination

abbrev pub destination_in_range : Destination → Bool
destination_in_range (One a) = is_inside (p a)
destination_in_range (Pair a b) = is_inside (p a) && is_inside (p b)
destination_in_range (First a) = is_inside (p a)
destination_in_range (Second b) = is_inside (p b)

abbrev pub choice_in_range : Choice → Bool
choice_in_range s = operand_in_range s.d && operand_in_range s.a && operand_in_range s.b

abbrev pub instruction_in_range : Instruction → Bool
instruction_in_range (Arithmetic op dtype sat scalar) = scalar_in_range scalar
instruction_in_range (Vset cmp scalar) = scalar_in_range scalar
instruction_in_range (VsetLanes cmp lanes) = lanes_in_range lanes
instruction_in_range (ArithmeticLanes op dtype sat lanes) = lanes_in_range lanes
instruction_in_range (Set dtype d comparison) = is_inside (r d) && comparison_in_range comparison
instruction_in_range (Setp d comparison) = destination_in_range d && comparison_in_range comparison
instruction_in_range (Selp choice c) = choice_in_range choice && is_inside (p c)
instruction_in_range (Slct ctype choice c) = choice_in_range choice && is_inside (r c)

abbrev pub numbers_in_range : Record → Bool
numbers_in_range x = guard_in_range x.guard && instruction_in_range x.instruction

-- ---- 7: both places of a pair are the same predicate. Below: they are two

abbrev pub destination_apart : Destination → Bool
destination_apart (One a) = true
destination_apart (Pair a b) = not (eqb a.0 b.0)
destination_apart (First a) = true
destination_apart (Second b) = true

abbrev pub instruction_apart : Instruction → Bool
instruction_apart (Arithmetic op dtype sat scalar) = true
instruction_apart (Vset cmp scalar) = true
instruction_apart (VsetLanes cmp lanes) = true
instruction_apart (ArithmeticLanes op dtype sat lanes) = true
instruction_apart (Set dtype d comparison) = true
instruction_apart (Setp d comparison) = destination_apart d
instruction_apart (Selp choice c) = true
instruction_apart (Slct ctype choice c) = true

abbrev pub pair_apart : Record → Bool
pair_apart x = instruction_apart x.instruction

-- ---- 8: record is not legal: it breaks a rule above on modifiers, operands, register numbers or pairs (stated of the record, with no line)

unfoldable pub is_legal : Record → Bool
is_legal x = modifiers_fit x && operands_fit x && numbers_in_range x && pair_apart x

abbrev pub Legal : Record → Type 0
Legal x = is_legal x ≡ true
