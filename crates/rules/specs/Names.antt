-- Document 01, "Modifiers, in this order only" and the names in "Operands": how each choice of a record is spelled.
use Rattle.std.specs.Prelude.{ℕ, Bool, true, false, cond, List, [], ◌∷◌, ◌++◌}
use Rattle.signs.specs.Text.{bytes}
use Rattle.record.specs.declared.VideoType.{VideoType}
use Rattle.record.specs.declared.SetType.{SetType}
use Rattle.record.specs.declared.SlctType.{SlctType}
use Rattle.record.specs.declared.DataType.{DataType}
use Rattle.record.specs.declared.DataType.TheVariants.{B16, B32, B64, U16, U32, U64, S16, S32, S64, F32, F64}
use Rattle.record.specs.declared.Cmp6.{Cmp6}
use Rattle.record.specs.declared.Cmp6.TheVariants.{Eq, Ne, Lt, Le, Gt, Ge}
use Rattle.record.specs.declared.CmpU.TheVariants.{Lo, Ls, Hi, Hs}
use Rattle.record.specs.declared.CmpF.TheVariants.{Equ, Neu, Ltu, Leu, Gtu, Geu, Num, Nan}
use Rattle.record.specs.declared.CmpOp.{CmpOp}
use Rattle.record.specs.declared.BoolOp.{BoolOp}
use Rattle.record.specs.declared.BoolOp.TheVariants.{And, Or, Xor}
use Rattle.record.specs.declared.Op2.{Op2}
use Rattle.record.specs.declared.Op2.TheVariants.{Add, Min, Max}
use Rattle.record.specs.declared.Arith.{Arith}
use Rattle.record.specs.declared.Arith.TheVariants.{Vadd, Vsub, Vabsdiff, Vmin, Vmax}
use Rattle.record.specs.declared.LaneArith.{LaneArith}
use Rattle.record.specs.declared.Combination.{Combination}
use Rattle.record.specs.declared.Combination.TheVariants.{Alone, With}
use Rattle.record.specs.declared.Form.{Form}
use Rattle.record.specs.declared.Form.TheVariants.{Plain, Merge, Combine}
use Rattle.record.specs.declared.LaneWidth.{LaneWidth}
use Rattle.record.specs.declared.LaneWidth.TheVariants.{Half, Byte}
use Rattle.record.specs.declared.Selector.{Selector}
use Rattle.record.specs.declared.Selector.TheVariants.{B0, B1, B2, B3, H0, H1}
use Rattle.record.specs.declared.Mask.{Mask}
use Rattle.record.specs.declared.Digits.{Digits}
use Rattle.record.specs.declared.Instruction.{Instruction}
use Rattle.record.specs.declared.Instruction.TheVariants.{Arithmetic, Vset, VsetLanes, ArithmeticLanes, Set, Setp, Selp, Slct}
use Rattle.rules.specs.Shape.{Name, digit}

-- ==== modifiers

-- T is u32 or s32
abbrev pub video_type_name : VideoType → Name
video_type_name VideoType.U32 = bytes "u32"
video_type_name VideoType.S32 = bytes "s32"

-- dtype u32 s32 f32
abbrev pub set_type_name : SetType → Name
set_type_name SetType.U32 = bytes "u32"
set_type_name SetType.S32 = bytes "s32"
set_type_name SetType.F32 = bytes "f32"

-- b32 b64 u32 u64 s32 s64 f32 f64; T-06: b16 u16 s16
abbrev pub type_name : DataType → Name
type_name B16 = bytes "b16"
type_name B32 = bytes "b32"
type_name B64 = bytes "b64"
type_name U16 = bytes "u16"
type_name U32 = bytes "u32"
type_name U64 = bytes "u64"
type_name S16 = bytes "s16"
type_name S32 = bytes "s32"
type_name S64 = bytes "s64"
type_name F32 = bytes "f32"
type_name F64 = bytes "f64"

-- CMP6 is eq ne lt le gt ge
abbrev pub six_name : Cmp6 → Name
six_name Eq = bytes "eq"
six_name Ne = bytes "ne"
six_name Lt = bytes "lt"
six_name Le = bytes "le"
six_name Gt = bytes "gt"
six_name Ge = bytes "ge"

-- records keep the spelling of the comparison
abbrev pub cmp_name : CmpOp → Name
cmp_name (CmpOp.Six c) = six_name c
cmp_name (CmpOp.Unsigned Lo) = bytes "lo"
cmp_name (CmpOp.Unsigned Ls) = bytes "ls"
cmp_name (CmpOp.Unsigned Hi) = bytes "hi"
cmp_name (CmpOp.Unsigned Hs) = bytes "hs"
cmp_name (CmpOp.Float Equ) = bytes "equ"
cmp_name (CmpOp.Float Neu) = bytes "neu"
cmp_name (CmpOp.Float Ltu) = bytes "ltu"
cmp_name (CmpOp.Float Leu) = bytes "leu"
cmp_name (CmpOp.Float Gtu) = bytes "gtu"
cmp_name (CmpOp.Float Geu) = bytes "geu"
cmp_name (CmpOp.Float Num) = bytes "num"
cmp_name (CmpOp.Float Nan) = bytes "nan"

-- BoolOp is and, or, xor
abbrev pub bool_name : BoolOp → Name
bool_name And = bytes "and"
bool_name Or = bytes "or"
bool_name Xor = bytes "xor"

-- OP2 is add min max
abbrev pub op2_name : Op2 → Name
op2_name Add = bytes "add"
op2_name Min = bytes "min"
op2_name Max = bytes "max"

abbrev pub arith_name : Arith → Name
arith_name Vadd = bytes "vadd"
arith_name Vsub = bytes "vsub"
arith_name Vabsdiff = bytes "vabsdiff"
arith_name Vmin = bytes "vmin"
arith_name Vmax = bytes "vmax"

abbrev pub lanes_name : LaneWidth → Name
lanes_name Half = bytes "vset2"
lanes_name Byte = bytes "vset4"

-- T-01: vadd2, vsub2, vavrg2, vabsdiff2, vmin2, vmax2 and the six with 4. vavrg alone is no opcode
abbrev pub lane_arith_stem : LaneArith → List ℕ
lane_arith_stem (LaneArith.Scalar op) = arith_name op
lane_arith_stem LaneArith.Vavrg = bytes "vavrg"

abbrev pub lane_arith_name : LaneArith → LaneWidth → Name
lane_arith_name op Half = lane_arith_stem op ++ bytes "2"
lane_arith_name op Byte = lane_arith_stem op ++ bytes "4"

-- Braces mark what may be left out
abbrev pub braced : Bool → Name → List Name
braced true n = n ∷ []
braced false n = []

abbrev pub form_op2 : Form → List Name
form_op2 (Plain d) = []
form_op2 (Merge d sel c) = []
form_op2 (Combine op d c) = op2_name op ∷ []

abbrev pub combination_names : Combination → List Name
combination_names Alone = []
combination_names (With op c) = bool_name op ∷ []

-- the opcode and its modifiers, a row of the table each
abbrev pub head_names : Instruction → List Name
-- T(d) T(a) T(b) {sat} {OP2}
head_names (Arithmetic op dtype sat s) =
    arith_name op ∷ video_type_name dtype ∷ video_type_name s.atype ∷ video_type_name s.btype ∷ (braced sat (bytes "sat") ++ form_op2 s.form)
-- T T CMP6 {OP2}
head_names (Vset cmp s) = bytes "vset" ∷ video_type_name s.atype ∷ video_type_name s.btype ∷ six_name cmp ∷ form_op2 s.form
-- T T CMP6 {add}
head_names (VsetLanes cmp l) = lanes_name l.width ∷ video_type_name l.atype ∷ video_type_name l.btype ∷ six_name cmp ∷ braced l.add (bytes "add")
-- T-01: T(d) T(a) T(b) {sat} {add}. Both may stand: `add` adds the lane results, "clamped if `sat`"
head_names (ArithmeticLanes op dtype sat l) =
    lane_arith_name op l.width
    ∷ video_type_name dtype
    ∷ video_type_name l.atype
    ∷ video_type_name l.btype
    ∷ (braced sat (bytes "sat") ++ braced l.add (bytes "add"))
-- CmpOp {BoolOp} {ftz} dtype stype; dtype u32 s32 f32
head_names (Set dtype d s) =
    bytes "set" ∷ cmp_name s.cmp ∷ (combination_names s.combination ++ braced s.ftz (bytes "ftz") ++ set_type_name dtype ∷ type_name s.stype ∷ [])
-- CmpOp {BoolOp} {ftz} stype
head_names (Setp d s) =
    bytes "setp" ∷ cmp_name s.cmp ∷ (combination_names s.combination ++ braced s.ftz (bytes "ftz") ++ type_name s.stype ∷ [])
-- type
head_names (Selp s c) = bytes "selp" ∷ type_name s.dtype ∷ []
-- dtype s32, or {ftz} dtype f32
head_names (Slct SlctType.S32 s c) = bytes "slct" ∷ type_name s.dtype ∷ bytes "s32" ∷ []
head_names (Slct (SlctType.F32 ftz) s c) = bytes "slct" ∷ (braced ftz (bytes "ftz") ++ type_name s.dtype ∷ bytes "f32" ∷ [])

-- ==== selectors and masks

-- b0 b1 b2 b3 h0 h1
abbrev pub selector_name : Selector → Name
selector_name B0 = bytes "b0"
selector_name B1 = bytes "b1"
selector_name B2 = bytes "b2"
selector_name B3 = bytes "b3"
selector_name H0 = bytes "h0"
selector_name H1 = bytes "h1"

abbrev pub lane_letter : LaneWidth → List ℕ
lane_letter Half = bytes "h"
lane_letter Byte = bytes "b"

-- Mask on d: `h` or `b` and the digits of the lanes that it names, falling
abbrev pub mask_name : LaneWidth → Mask → Name
mask_name w m =
    lane_letter w ++ cond m.lane3 (bytes "3") [] ++ cond m.lane2 (bytes "2") [] ++ cond m.lane1 (bytes "1") [] ++ cond m.lane0 (bytes "0") []

-- Selectors on a and b: `h` and two digits 0-3; `b` and four digits 0-7. The leftmost digit names the highest lane
abbrev pub digits_name : LaneWidth → Digits → Name
digits_name Half s = lane_letter Half ++ digit s.lane1 ∷ digit s.lane0 ∷ []
digits_name Byte s = lane_letter Byte ++ digit s.lane3 ∷ digit s.lane2 ∷ digit s.lane1 ∷ digit s.lane0 ∷ []
