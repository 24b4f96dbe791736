-- The code's side of executing: what an instruction writes, and what the files hold after it. Laws join it to the rules.
use Rattle.std.specs.Prelude.{ℕ, ◌%◌, Bool, not, cond, List, get_or, set}
use Rattle.record.specs.declared.Arith.{Arith}
use Rattle.record.specs.declared.Choice.{Choice}
use Rattle.record.specs.declared.Cmp6.{Cmp6}
use Rattle.record.specs.declared.Comparison.{Comparison}
use Rattle.record.specs.declared.LaneArith.{LaneArith}
use Rattle.record.specs.declared.Lanes.{Lanes}
use Rattle.record.specs.declared.Pred.{Pred}
use Rattle.record.specs.declared.Scalar.{Scalar}
use Rattle.record.specs.declared.SetType.{SetType}
use Rattle.record.specs.declared.SlctType.{SlctType}
use Rattle.record.specs.declared.VideoType.{VideoType}
use Rattle.record.specs.declared.Word.{Word}
use Rattle.record.specs.declared.Destination.{Destination}
use Rattle.record.specs.declared.Destination.TheVariants.{One, Pair, First, Second}
use Rattle.record.specs.declared.Operand.{Operand}
use Rattle.record.specs.declared.Target.{Target}
use Rattle.record.specs.declared.Instruction.{Instruction}
use Rattle.record.specs.declared.Instruction.TheVariants.{Arithmetic, Vset, VsetLanes, ArithmeticLanes, Set, Setp, Selp, Slct}
use Rattle.rules.specs.Numbers.{bit, word_size, half_size}
use Rattle.rules.specs.Execution.{arithmetic_of, vset_of, lanes_of, arithmetic_lanes_of, comparison_of, set_of, selp_of, slct_of}
use Rattle.record.specs.declared.File.TheVariants.{Words, Halves, Doubles, Preds}
use Rattle.record.specs.Registers.{Files, with_file, reg}
use Rattle.rules.specs.Targets.{flushes, slct_type_at}
use Rattle.rules.specs.Executing.{word_of, pred_of, selected_word, form_c, form_d, combined_of, put}
use Rattle.execute.specs.declared.Write.{Write}

-- ---- what is read, of the files that an operand can name

abbrev pub operand_in : Files → Operand → ℕ
operand_in f (Operand.Word w) = get_or f.words w.0 0
operand_in f (Operand.Half h) = get_or f.halves h.0 0
operand_in f (Operand.Double d) = get_or f.doubles d.0 0

unfoldable pub test_in : Target → Files → Comparison → Bool
test_in target f s = comparison_of s.cmp (flushes target s.ftz) s.stype (operand_in f s.a) (operand_in f s.b)

-- ---- what each kind of instruction writes

unfoldable pub operand_write : Operand → ℕ → Write
operand_write (Operand.Word w) v = Write.Word w (v % word_size)
operand_write (Operand.Half h) v = Write.Half h (v % half_size)
operand_write (Operand.Double d) v = Write.Double d v

abbrev pub arithmetic_write : Arith → VideoType → Bool → Scalar → List ℕ → Write
arithmetic_write op dtype sat s words =
    Write.Word (form_d s.form)
    (arithmetic_of op dtype sat s (word_of words (selected_word s.a)) (word_of words (selected_word s.b)) (form_c words s.form))

abbrev pub vset_write : Cmp6 → Scalar → List ℕ → Write
vset_write cmp s words =
    Write.Word (form_d s.form) (vset_of cmp s (word_of words (selected_word s.a)) (word_of words (selected_word s.b)) (form_c words s.form))

abbrev pub lanes_write : Cmp6 → Lanes → List ℕ → Write
lanes_write cmp l words = Write.Word l.d (lanes_of cmp l (word_of words l.a) (word_of words l.b) (word_of words l.c))

abbrev pub arithmetic_lanes_write : LaneArith → VideoType → Bool → Lanes → List ℕ → Write
arithmetic_lanes_write op dtype sat l words =
    Write.Word l.d (arithmetic_lanes_of op dtype sat l (word_of words l.a) (word_of words l.b) (word_of words l.c))

abbrev pub set_write : Target → SetType → Word → Comparison → Files → Write
set_write target dtype d s f = Write.Word d (set_of dtype (combined_of f.preds s.combination (test_in target f s)))

abbrev pub setp_write : Target → Destination → Comparison → Files → Write
setp_write target d s f =
    Write.Preds d
    (combined_of f.preds s.combination (test_in target f s))
    (combined_of f.preds s.combination (not (test_in target f s)))

-- what selp and slct choose of a and b
abbrev pub either_of : Bool → Choice → Files → ℕ
either_of first s f = cond first (operand_in f s.a) (operand_in f s.b)

abbrev pub selp_write : Pred → Choice → Files → Write
selp_write c s f =
    operand_write s.d (selp_of (pred_of f.preds c) (operand_in f s.a) (operand_in f s.b))

abbrev pub slct_write : Target → SlctType → Word → Choice → Files → Write
slct_write target ctype c s f =
    operand_write s.d
    (slct_of (slct_type_at target ctype) (word_of f.words c) (operand_in f s.a) (operand_in f s.b))

unfoldable pub write_of : Target → Instruction → Files → Write
write_of target (Arithmetic op dtype sat s) f = arithmetic_write op dtype sat s f.words
write_of target (Vset cmp s) f = vset_write cmp s f.words
write_of target (VsetLanes cmp l) f = lanes_write cmp l f.words
write_of target (ArithmeticLanes op dtype sat l) f = arithmetic_lanes_write op dtype sat l f.words
write_of target (Set dtype d s) f = set_write target dtype d s f
write_of target (Setp d s) f = setp_write target d s f
write_of target (Selp s c) f = selp_write c s f
write_of target (Slct ctype s c) f = slct_write target ctype c s f

-- ---- what the files hold after it

-- one or two predicates get the first and the second place's value
unfoldable pub preds_with : Destination → Bool → Bool → List ℕ → List ℕ
preds_with (One p) first second preds = set preds p.0 (bit first)
preds_with (Pair p q) first second preds = set (set preds p.0 (bit first)) q.0 (bit second)
preds_with (First p) first second preds = set preds p.0 (bit first)
preds_with (Second q) first second preds = set preds q.0 (bit second)

unfoldable pub written : Write → Files → Files
written (Write.Word d v) f = put (reg Words d.0) v f
written (Write.Half d v) f = put (reg Halves d.0) v f
written (Write.Double d v) f = put (reg Doubles d.0) v f
written (Write.Preds d first second) f = with_file Preds (preds_with d first second f.preds) f
