-- What the reader computes, stage by stage, on lists. No one has to believe it: specs/Laws.antt joins it to the grammar.
use Rattle.std.specs.Prelude.{ℕ, zero, suc, Bool, true, false, not, ◌&&◌, ◌||◌, cond, List, length, eqb, ltb, Err, Ok, Result, is_ok}
use Rattle.record.specs.Modifiers.{modifiers_fit}
use Rattle.record.specs.Operands.{operands_fit}
use Rattle.record.specs.Refusals.{numbers_in_range, pair_apart}
use Rattle.record.specs.declared.Pred.{Pred}
use Rattle.record.specs.declared.DataType.TheVariants.{B32}
use Rattle.record.specs.declared.Guard.{Guard}
use Rattle.record.specs.declared.Guard.TheVariants.{Always, When}
use Rattle.record.specs.declared.Instruction.{Instruction}
use Rattle.record.specs.declared.Instruction.TheVariants.{Selp}
use Rattle.record.specs.declared.Record.{Record}
use Rattle.record.specs.declared.Target.{Target}
use Rattle.record.specs.declared.Mode.{Mode}
use Rattle.rules.specs.Targets.{allows}
use Rattle.rules.specs.Strict.{passes}
use Rattle.rules.specs.Reading.{line_limit, Answer, read, refused, refused_at}
use Rattle.tree.specs.Blank.{no_pred, blank_choice}
use Rattle.tree.specs.declared.Place.{Place}
use Rattle.tree.specs.declared.Guarding.{Guarding}
use Rattle.tree.specs.declared.Guarding.TheVariants.{Unguarded, Guarded}
use Rattle.tree.specs.declared.Parts.{Parts}
use Rattle.shape.specs.Line.{parts_of, shape_of}
use Rattle.heads.specs.Rows.{row_of}
use Rattle.heads.specs.declared.HeadError.{HeadError}
use Rattle.fills.specs.Fills.{filled_of}
use Rattle.refusals.specs.Order.{first_reading}
use Rattle.places.specs.Mirror.{guard_good, place_of}
use Rattle.refusals.specs.declared.Refusal.{Refusal}
use Rattle.refusals.specs.Numbers.{number_of}

-- ==== what the head gave

abbrev pub opcode_is : Result Instruction HeadError → Bool
opcode_is (Ok i) = true
opcode_is (Err HeadError.NoOpcode) = false
opcode_is (Err (HeadError.Wrong k)) = true

abbrev pub row_is : Result Instruction HeadError → Bool
row_is (Ok i) = true
row_is (Err HeadError.NoOpcode) = false
row_is (Err (HeadError.Wrong k)) = false

abbrev pub no_instruction : Instruction
no_instruction = Selp (blank_choice B32) no_pred

abbrev pub instruction_in : Result Instruction HeadError → Instruction
instruction_in (Ok i) = i
instruction_in (Err HeadError.NoOpcode) = no_instruction
instruction_in (Err (HeadError.Wrong k)) = no_instruction

-- ==== what the operands gave

abbrev pub full_is : Result Instruction ℕ → Bool
full_is (Ok i) = true
full_is (Err k) = false

abbrev pub filled_in : Result Instruction ℕ → Instruction
filled_in (Ok i) = i
filled_in (Err k) = no_instruction

-- ==== the guard

abbrev pub pred_in : Place → Pred
pred_in (Place.Word w) = no_pred
pred_in (Place.Half h) = no_pred
pred_in (Place.Double d) = no_pred
pred_in (Place.Pred q) = q

abbrev pub guard_at : Bool → Pred → Guard
guard_at negated q = When (record { inverted = negated; pred = q })

abbrev pub guard_in : Guarding → Guard
guard_in Unguarded = Always
guard_in (Guarded negated p) = guard_at negated (pred_in p)

-- ==== the stages

abbrev pub record_of : Guard → Instruction → Record
record_of g i = record { guard = g; instruction = i }

-- the record that the line spells as far as it spells one, and which stages it passed
pub record Candidate : Type 0 where
  pub spelled : Record
  pub opcode : Bool
  pub row : Bool
  pub fit : Bool

abbrev pub candidate_by : Guarding → Result Instruction HeadError → Result Instruction ℕ → Candidate
candidate_by g found filled =
    record {
      spelled = record_of (guard_in g) (filled_in filled);
      opcode = opcode_is found;
      row = row_is found && modifiers_fit (record_of (guard_in g) (instruction_in found));
      fit = guard_good g && full_is filled && operands_fit (record_of (guard_in g) (filled_in filled));
    }

unfoldable pub candidate_of : Parts → Candidate
candidate_of x = candidate_by x.guard (row_of x.head) (filled_of (instruction_in (row_of x.head)) x.operands)

-- a candidate whose head and operands were read
abbrev pub fit_by : Bool → Record → Candidate
fit_by good m = record { spelled = m; opcode = true; row = true; fit = good && operands_fit m }

abbrev pub refusal_of : Target → Mode → Bool → Bool → Candidate → ℕ
refusal_of target mode tooLong good c =
    first_reading tooLong (not good) (not c.opcode) (not c.row) (not c.fit) (not (numbers_in_range c.spelled)) (not (pair_apart c.spelled)) (not (allows target c.spelled)) (not (passes mode c.spelled))

-- a record, or the number of the refusal
abbrev pub Verdict : Type 0
Verdict = Result Record ℕ

abbrev pub numbered : Result Record Refusal → Verdict
numbered (Ok m) = Ok m
numbered (Err r) = Err (number_of r)

abbrev pub decided : ℕ → Record → Verdict
decided zero m = Ok m
decided (suc n) m = Err (suc n)

abbrev pub decided_by : Target → Mode → Bool → Bool → Candidate → Verdict
decided_by target mode tooLong good c = decided (refusal_of target mode tooLong good c) c.spelled

unfoldable pub verdict_of : Target → Mode → List ℕ → Verdict
verdict_of target mode l = decided_by target mode (ltb line_limit (length l)) (is_ok (shape_of l)) (candidate_of (parts_of (shape_of l)))

-- ==== the answer: 1, 12 and 15 carry no place

abbrev pub no_place : ℕ → Bool
no_place n = eqb n 1 || eqb n 12 || eqb n 15

unfoldable pub refused_by : ℕ → List ℕ → Answer
refused_by n l = cond (no_place n) (refused n) (refused_at n (place_of n l))

abbrev pub answer_by : Verdict → List ℕ → Answer
answer_by (Ok m) l = read m
answer_by (Err n) l = refused_by n l

unfoldable pub read_of : Target → Mode → List ℕ → Answer
read_of target mode l = answer_by (verdict_of target mode l) l
