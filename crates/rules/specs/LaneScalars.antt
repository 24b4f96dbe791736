-- Request T-14 of document 02, "One lane, one scalar": "People explain SIMD lines by taking them apart." A line of vset2, vset4 or of T-01's arithmetic but the average,
-- and the scalar lines of the lanes that its mask names. Nothing in the bench runs this; crates/bench/specs/TakenApart.antt has the laws.
use Rattle.std.specs.Prelude.{ℕ, zero, suc, ◌+◌, ◌-◌, ◌≡◌, Bool, true, false, cond, List, [], ◌∷◌, ◌++◌, ltb}
use Rattle.record.specs.Registers.{Files}
use Rattle.record.specs.declared.Word.{Word}
use Rattle.record.specs.declared.VideoType.{VideoType}
use Rattle.record.specs.declared.Cmp6.{Cmp6}
use Rattle.record.specs.declared.Arith.{Arith}
use Rattle.record.specs.declared.Arith.TheVariants.{Vadd}
use Rattle.record.specs.declared.LaneArith.{LaneArith}
use Rattle.record.specs.declared.LaneWidth.{LaneWidth}
use Rattle.record.specs.declared.LaneWidth.TheVariants.{Half, Byte}
use Rattle.record.specs.declared.Mask.{Mask}
use Rattle.record.specs.declared.Lanes.{Lanes}
use Rattle.record.specs.declared.Selector.{Selector}
use Rattle.record.specs.declared.Selector.TheVariants.{B0, B1, B2, B3, H0, H1}
use Rattle.record.specs.declared.Selected.{Selected}
use Rattle.record.specs.declared.Selected.TheVariants.{Whole, Part}
use Rattle.record.specs.declared.Op2.TheVariants.{Add}
use Rattle.record.specs.declared.Form.{Form}
use Rattle.record.specs.declared.Form.TheVariants.{Plain, Merge, Combine}
use Rattle.record.specs.declared.Scalar.{Scalar}
use Rattle.record.specs.declared.Guard.{Guard}
use Rattle.record.specs.declared.Instruction.{Instruction}
use Rattle.record.specs.declared.Instruction.TheVariants.{Arithmetic, Vset, VsetLanes, ArithmeticLanes}
use Rattle.record.specs.declared.Record.{Record}
use Rattle.record.specs.declared.Target.{Target}
use Rattle.rules.specs.Numbers.{word_size, lane_size, lanes, part_at, exact_of, is_signed, low_of}
use Rattle.rules.specs.Execution.{digit_at, mask_at}
use Rattle.rules.specs.Targets.{Allowed}
use Rattle.rules.specs.Executing.{Answer, run}

-- ==== one lane

-- what both kinds of line do: vset's comparison, or one of T-01's five operations that scalar video has, with dtype and `sat`. The average has no scalar form
pub data Operation : Type 0 where
  compares : Cmp6 → Operation
  computes : Arith → VideoType → Bool → Operation

-- the SIMD line: vset2 and vset4; vadd2 to vmax4
abbrev pub simd_of : Operation → Lanes → Instruction
simd_of (compares cmp) l = VsetLanes cmp l
simd_of (computes op dtype sat) l = ArithmeticLanes (LaneArith.Scalar op) dtype sat l

-- the scalar line with the same comparison, or with the same operation, dtype and `sat`: vset; vadd, vsub, vabsdiff, vmin, vmax
abbrev pub scalar_of : Operation → Scalar → Instruction
scalar_of (compares cmp) s = Vset cmp s
scalar_of (computes op dtype sat) s = Arithmetic op dtype sat s

-- whether `sat` stands there; vset has none
abbrev pub saturates : Operation → Bool
saturates (compares cmp) = false
saturates (computes op dtype sat) = sat

-- the scalar selector of part k, low part first: h0 h1; b0 b1 b2 b3. A word has no further parts
abbrev pub part_selector : LaneWidth → ℕ → Selector
part_selector Half zero = H0
part_selector Half (suc k) = H1
part_selector Byte zero = B0
part_selector Byte (suc zero) = B1
part_selector Byte (suc (suc zero)) = B2
part_selector Byte (suc (suc (suc k))) = B3

-- what digit k picks, as a scalar operand. Part numbers count through a first, low part first, then b: register a or b by the digit, and the selector of that part
abbrev pub digit_operand : Lanes → ℕ → Selected
digit_operand l k =
    cond (ltb k (lanes l.width)) (Part l.a (part_selector l.width k)) (Part l.b (part_selector l.width (k - lanes l.width)))

-- lane i as a scalar: what a's selector picks is its a, with a's type, and what b's selector picks is its b, with b's type, whichever register that is:
-- the type goes with the selector's side
abbrev pub lane_scalar : Lanes → ℕ → Form → Scalar
lane_scalar l i form = record {
  atype = l.atype;
  btype = l.btype;
  form = form;
  a = digit_operand l (digit_at l.asel i);
  b = digit_operand l (digit_at l.bsel i);
}

-- the scalar line of lane i, under the SIMD line's guard
abbrev pub lane_record : Guard → Operation → Lanes → ℕ → Form → Record
lane_record g o l i form = record { guard = g; instruction = scalar_of o (lane_scalar l i form) }

-- y is a line of scalar video under guard g, legal and allowed at the target
pub record ScalarLine (target : Target) (g : Guard) (y : Record) : Type 0 where
  pub allowed : Allowed target y
  pub guarded : y.guard ≡ g
  pub o : Operation
  pub s : Scalar
  pub scalar : y.instruction ≡ scalar_of o s

-- the sum of the first k numbers
abbrev pub sum : ℕ → (ℕ → ℕ) → ℕ
sum zero f = 0
sum (suc k) f = f 0 + sum k (λ i. f (suc i))

-- the sum over the lanes that the mask names
abbrev pub masked_sum : Lanes → (ℕ → ℕ) → ℕ
masked_sum l v = sum (lanes l.width) (λ i. cond (mask_at l.mask i) (v i) 0)

-- part i of a word v, read by dtype, as 32 bits
abbrev pub extended : Lanes → VideoType → ℕ → ℕ → ℕ
extended l dtype i v = low_of word_size (exact_of (is_signed dtype) (lane_size l.width) (part_at (lane_size l.width) v i))

-- ==== the whole line, taken apart into a register e

-- the lines of the n lanes from lane i on, low lane first, as far as the mask names them: `of i c` are those of lane i on top of what stands in c. The first masked lane
-- takes c, each later one takes e, where the one before it left its result
abbrev pub lines_from : (ℕ → Word → List Record) → Mask → Word → ℕ → ℕ → Word → List Record
lines_from of m e zero i c = []
lines_from of m e (suc n) i c = cond (mask_at m i) (of i c ++ lines_from of m e n (suc i) e) (lines_from of m e n (suc i) c)

-- those of all masked lanes
abbrev pub all_lanes : Lanes → (ℕ → Word → List Record) → Word → List Record
all_lanes l of e = lines_from of l.mask e (lanes l.width) 0 l.c

-- without `sat` or without `add`, one scalar line a masked lane: with `add` it is added to c; else it replaces its part of c
abbrev pub lane_form : Lanes → Word → ℕ → Word → Form
lane_form l e i c = cond l.add (Combine Add e c) (Merge e (part_selector l.width i) c)

abbrev pub lane_lines : Guard → Operation → Lanes → Word → ℕ → Word → List Record
lane_lines g o l e i c = lane_record g o l i (lane_form l e i c) ∷ []

abbrev pub taken_apart : Guard → Operation → Lanes → Word → List Record
taken_apart g o l e = all_lanes l (lane_lines g o l e) e

-- `sat` with `add`: no scalar line does both at the lane's width, since with `add` d is bare, and `sat` clamps at 32 bits then. Two lines a masked lane do: one clamps it into its
-- part of a spare register t, and one adds that part, read by dtype, to c
abbrev pub part_scalar : VideoType → Word → Selector → Word → Word → Scalar
part_scalar dtype t sel e c = record { atype = dtype; btype = dtype; form = Plain e; a = Part t sel; b = Whole c }

abbrev pub clamped_lines : Guard → Arith → VideoType → Lanes → Word → Word → ℕ → Word → List Record
clamped_lines g op dtype l t e i c =
    lane_record g (computes op dtype true) l i (Merge t (part_selector l.width i) t)
    ∷ record { guard = g; instruction = Arithmetic Vadd dtype false (part_scalar dtype t (part_selector l.width i) e c) }
    ∷ []

abbrev pub clamped_apart : Guard → Arith → VideoType → Lanes → Word → Word → List Record
clamped_apart g op dtype l t e = all_lanes l (clamped_lines g op dtype l t e) e

-- the files after the lines, one after another, and what each answers
abbrev pub run_all : Target → List Record → Files → Files
run_all target [] f = f
run_all target (x ∷ xs) f = run_all target xs (run target x f).files

abbrev pub answers_all : Target → List Record → Files → List Answer
answers_all target [] f = []
answers_all target (x ∷ xs) f = (run target x f).answer ∷ answers_all target xs (run target x f).files
