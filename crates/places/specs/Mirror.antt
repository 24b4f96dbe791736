-- The code's side of the places. No one has to believe it: the laws beside it join it to `Placed`.
use Rattle.std.specs.Prelude.{ℕ, List, Bool, true, false, cond, eqb, drop, Result, Ok, Err}
use Rattle.signs.specs.Bytes.{is_blank}
use Rattle.tree.specs.declared.Place.{Place}
use Rattle.tree.specs.declared.Guarding.{Guarding}
use Rattle.tree.specs.declared.Guarding.TheVariants.{Unguarded, Guarded}
use Rattle.tree.specs.declared.Head.{Head}
use Rattle.tree.specs.declared.Operands.{Operands}
use Rattle.tree.specs.declared.Parts.{Parts}
use Rattle.scan.specs.Runs.{run_length, capped_sum}
use Rattle.shape.specs.Line.{parts_of, shape_of}
use Rattle.heads.specs.Rows.{row_of}
use Rattle.heads.specs.declared.HeadError.{HeadError}
use Rattle.viable.specs.States.{shape_place_of}
use Rattle.starts.specs.Starts.{head_at, name_from, operands_at, operand_from, bar_at}
use Rattle.starts.specs.Over.{over_at}
use Rattle.rowplace.specs.Tries.{row_place_of}
use Rattle.record.specs.declared.Instruction.{Instruction}
use Rattle.fillplace.specs.Tries.{operand_place_of}

abbrev pub pred_is : Place → Bool
pred_is (Place.Word w) = false
pred_is (Place.Half h) = false
pred_is (Place.Double d) = false
pred_is (Place.Pred q) = true

abbrev pub guard_good : Guarding → Bool
guard_good Unguarded = true
guard_good (Guarded negated p) = pred_is p

unfoldable pub modifier_place_of : List ℕ → Head → ℕ
modifier_place_of l h = capped_sum (head_at l) (name_from 0 (row_place_of h) (drop (head_at l) l))

abbrev pub operand_index_by : Result Instruction HeadError → Operands → ℕ
operand_index_by (Ok i) o = operand_place_of i o
operand_index_by (Err HeadError.NoOpcode) o = 0
operand_index_by (Err (HeadError.Wrong k)) o = 0

unfoldable pub operand_index_of : Head → Operands → ℕ
operand_index_of h o = operand_index_by (row_of h) o

unfoldable pub legal_place_of : List ℕ → Head → Operands → ℕ
legal_place_of l h o = capped_sum (operands_at l) (operand_from 0 (operand_index_of h o) (drop (operands_at l) l))

unfoldable pub guard_place_of : List ℕ → Guarding → Head → Operands → ℕ
guard_place_of l g h o = cond (guard_good g) (legal_place_of l h o) (run_length is_blank l)

unfoldable pub parts_place_of : ℕ → List ℕ → Parts → ℕ
parts_place_of n l x = cond (eqb n 4) (modifier_place_of l x.head) (guard_place_of l x.guard x.head x.operands)

unfoldable pub place_of : ℕ → List ℕ → ℕ
place_of n l =
    cond (eqb n 2) (shape_place_of l)
    (cond (eqb n 3) (head_at l)
    (cond (eqb n 6) (over_at 0 l)
    (cond (eqb n 7) (bar_at l)
    (parts_place_of n l (parts_of (shape_of l))))))
