-- Document 01, "Operands", of the record: what its type leaves open of each sentence. Register numbers and pairs aside.
use Rattle.std.specs.Prelude.{ℕ, Bool, true, false, not, ◌&&◌, ◌||◌, cond, leb, eqb}
use Rattle.record.specs.declared.DataType.{DataType}
use Rattle.record.specs.declared.DataType.TheVariants.{B16, B32, B64, U16, U32, U64, S16, S32, S64, F32, F64}
use Rattle.record.specs.declared.Operand.{Operand}
use Rattle.record.specs.declared.Operand.TheVariants as operand
use Rattle.record.specs.declared.LaneWidth.{LaneWidth}
use Rattle.record.specs.declared.LaneWidth.TheVariants.{Half, Byte}
use Rattle.record.specs.declared.Mask.{Mask}
use Rattle.record.specs.declared.Digits.{Digits}
use Rattle.record.specs.declared.Lanes.{Lanes}
use Rattle.record.specs.declared.Comparison.{Comparison}
use Rattle.record.specs.declared.Choice.{Choice}
use Rattle.record.specs.declared.Instruction.{Instruction}
use Rattle.record.specs.declared.Instruction.TheVariants.{Arithmetic, Vset, VsetLanes, ArithmeticLanes, Set, Setp, Selp, Slct}
use Rattle.record.specs.declared.Record.{Record}
use Rattle.record.specs.Registers.{word_bits, half_bits, double_bits}

-- ==== Scalar video, vset included

-- without OP2 either `d, a, b` or `d.sel, a, b, c`; with OP2 `d, a, b, c`, d bare: held by the type `Form`
-- Selectors on a, b and d: b0 b1 b2 b3 h0 h1; on a and b optional: held by the types `Selector` and `Selected`

-- ==== vset2, vset4: `d, a, b, c`. T-01: masks and selectors as for vset2 and vset4, so what is said of vset2 holds of every form with 2, and of vset4 of every form with 4

-- some lane is named
abbrev pub some_lane : Mask → Bool
some_lane m = m.lane0 || m.lane1 || m.lane2 || m.lane3

-- vset2 has lanes 0 and 1: lanes 2 and 3 are spare room, and are not named
abbrev pub spare_lanes_fit : LaneWidth → Mask → Bool
spare_lanes_fit Half m = not m.lane2 && not m.lane3
spare_lanes_fit Byte m = true

-- Mask on d: h0 h1 h10; for vset4 the fifteen names of `b` and strictly falling digits from 3 2 1 0
abbrev pub mask_fits : LaneWidth → Mask → Bool
mask_fits w m = some_lane m && spare_lanes_fit w m

abbrev pub highest_digit : LaneWidth → ℕ
highest_digit Half = 3
highest_digit Byte = 7

abbrev pub digit_fits : LaneWidth → ℕ → Bool
digit_fits w k = leb k (highest_digit w)

-- lanes 2 and 3 of vset2 are spare room, and hold zero
abbrev pub spare_digit_fits : LaneWidth → ℕ → Bool
spare_digit_fits Half k = eqb k 0
spare_digit_fits Byte k = digit_fits Byte k

-- Selectors on a and b: `h` and two digits 0-3; `b` and four digits 0-7
abbrev pub digits_fit : LaneWidth → Digits → Bool
digits_fit w s = digit_fits w s.lane0 && digit_fits w s.lane1 && spare_digit_fits w s.lane2 && spare_digit_fits w s.lane3

-- All optional: mask full, a `.h10` / `.b3210`, b `.h32` / `.b7654`. A bare operand and its written default are one record: it holds these
abbrev pub full_mask : LaneWidth → Mask
full_mask Half = record { lane0 = true; lane1 = true; lane2 = false; lane3 = false }
full_mask Byte = record { lane0 = true; lane1 = true; lane2 = true; lane3 = true }

abbrev pub default_a : LaneWidth → Digits
default_a Half = record { lane0 = 0; lane1 = 1; lane2 = 0; lane3 = 0 }
default_a Byte = record { lane0 = 0; lane1 = 1; lane2 = 2; lane3 = 3 }

abbrev pub default_b : LaneWidth → Digits
default_b Half = record { lane0 = 2; lane1 = 3; lane2 = 0; lane3 = 0 }
default_b Byte = record { lane0 = 4; lane1 = 5; lane2 = 6; lane3 = 7 }

-- of a, or of b
abbrev pub default_digits : LaneWidth → Bool → Digits
default_digits w ofB = cond ofB (default_b w) (default_a w)

-- All video registers are `%r`. c is bare: held by the type `Lanes`
abbrev pub lanes_fit : Lanes → Bool
lanes_fit l = mask_fits l.width l.mask && digits_fit l.width l.asel && digits_fit l.width l.bsel

-- ==== set, setp, selp, slct

-- the width of a type: b32 b64 u32 u64 s32 s64 f32 f64; T-06: b16 u16 s16
abbrev pub type_bits : DataType → ℕ
type_bits B16 = half_bits
type_bits B32 = word_bits
type_bits B64 = double_bits
type_bits U16 = half_bits
type_bits U32 = word_bits
type_bits U64 = double_bits
type_bits S16 = half_bits
type_bits S32 = word_bits
type_bits S64 = double_bits
type_bits F32 = word_bits
type_bits F64 = double_bits

-- by width: a word for a type of 32 bits, a half for one of 16, a double for one of 64
abbrev pub operand_bits : Operand → ℕ
operand_bits (operand.Word w) = word_bits
operand_bits (operand.Half h) = half_bits
operand_bits (operand.Double d) = double_bits

abbrev pub by_width : DataType → Operand → Bool
by_width t o = eqb (operand_bits o) (type_bits t)

-- set: d `%r`; a, b by width. setp: d is one predicate, or a pair of which one may be `_`. `_|_` gives 5. `%p1` and `%p1|_` are two records.
-- Both have a last operand c, a predicate with optional `!`, exactly when BoolOp is present: d and c are held by the types `Destination` and `Combination`
abbrev pub sources_fit : Comparison → Bool
sources_fit s = by_width s.stype s.a && by_width s.stype s.b

-- selp: d, a, b by width, c a predicate without `!`. slct: d, a, b by width, c `%r`: c is held by the types `Pred` and `Word`
abbrev pub choice_fits : Choice → Bool
choice_fits s = by_width s.dtype s.d && by_width s.dtype s.a && by_width s.dtype s.b

abbrev pub instruction_operands_fit : Instruction → Bool
instruction_operands_fit (Arithmetic op dtype sat scalar) = true
instruction_operands_fit (Vset cmp scalar) = true
instruction_operands_fit (VsetLanes cmp lanes) = lanes_fit lanes
instruction_operands_fit (ArithmeticLanes op dtype sat lanes) = lanes_fit lanes
instruction_operands_fit (Set dtype d comparison) = sources_fit comparison
instruction_operands_fit (Setp d comparison) = sources_fit comparison
instruction_operands_fit (Selp choice c) = choice_fits choice
instruction_operands_fit (Slct ctype choice c) = choice_fits choice

-- The guard is a predicate. Guards and the operands of set, setp, selp and slct take no selector: held by the types `Guard` and `Operand`
abbrev pub operands_fit : Record → Bool
operands_fit r = instruction_operands_fit r.instruction
