-- An instruction with its operands left blank: what the reader knows after the head. No one has to believe it.
use Rattle.std.specs.Prelude.{false}
use Rattle.record.specs.Operands.{full_mask, default_a, default_b}
use Rattle.record.specs.declared.Word.{Word}
use Rattle.record.specs.declared.Pred.{Pred}
use Rattle.record.specs.declared.Condition.{Condition}
use Rattle.record.specs.declared.Operand.{Operand}
use Rattle.record.specs.declared.Selected.TheVariants.{Whole}
use Rattle.record.specs.declared.Form.{Form}
use Rattle.record.specs.declared.Form.TheVariants.{Plain, Merge, Combine}
use Rattle.record.specs.declared.Scalar.{Scalar}
use Rattle.record.specs.declared.Lanes.{Lanes}
use Rattle.record.specs.declared.Combination.{Combination}
use Rattle.record.specs.declared.Combination.TheVariants.{Alone, With}
use Rattle.record.specs.declared.Comparison.{Comparison}
use Rattle.record.specs.declared.Destination.TheVariants.{One}
use Rattle.record.specs.declared.DataType.{DataType}
use Rattle.record.specs.declared.Choice.{Choice}
use Rattle.record.specs.declared.Instruction.{Instruction}
use Rattle.record.specs.declared.Instruction.TheVariants.{Arithmetic, Vset, VsetLanes, ArithmeticLanes, Set, Setp, Selp, Slct}

abbrev pub no_word : Word
no_word = record { 0 = 0 }

abbrev pub no_pred : Pred
no_pred = record { 0 = 0 }

abbrev pub no_operand : Operand
no_operand = Operand.Word no_word

abbrev pub no_condition : Condition
no_condition = record { inverted = false; pred = no_pred }

-- OP2 is kept
abbrev pub blank_form : Form → Form
blank_form (Plain d) = Plain no_word
blank_form (Merge d sel c) = Plain no_word
blank_form (Combine op d c) = Combine op no_word no_word

abbrev pub blank_scalar : Scalar → Scalar
blank_scalar s = record { atype = s.atype; btype = s.btype; form = blank_form s.form; a = Whole no_word; b = Whole no_word }

abbrev pub blank_lanes : Lanes → Lanes
blank_lanes l = record {
  width = l.width;
  atype = l.atype;
  btype = l.btype;
  add = l.add;
  d = no_word;
  mask = full_mask l.width;
  a = no_word;
  asel = default_a l.width;
  b = no_word;
  bsel = default_b l.width;
  c = no_word;
}

-- BoolOp is kept
abbrev pub blank_combination : Combination → Combination
blank_combination Alone = Alone
blank_combination (With op c) = With op no_condition

abbrev pub blank_comparison : Comparison → Comparison
blank_comparison s = record {
  cmp = s.cmp;
  combination = blank_combination s.combination;
  ftz = s.ftz;
  stype = s.stype;
  a = no_operand;
  b = no_operand;
}

abbrev pub blank_choice : DataType → Choice
blank_choice t = record { dtype = t; d = no_operand; a = no_operand; b = no_operand }

abbrev pub blank : Instruction → Instruction
blank (Arithmetic op dtype sat s) = Arithmetic op dtype sat (blank_scalar s)
blank (Vset cmp s) = Vset cmp (blank_scalar s)
blank (VsetLanes cmp l) = VsetLanes cmp (blank_lanes l)
blank (ArithmeticLanes op dtype sat l) = ArithmeticLanes op dtype sat (blank_lanes l)
blank (Set dtype d s) = Set dtype no_word (blank_comparison s)
blank (Setp d s) = Setp (One no_pred) (blank_comparison s)
blank (Selp s c) = Selp (blank_choice s.dtype) no_pred
blank (Slct ctype s c) = Slct ctype (blank_choice s.dtype) no_word
