-- Document 01, "Modifiers, in this order only", of the record: what its type leaves open of each row of the table.
use Rattle.std.specs.Prelude.{Bool, true, false, not, ◌&&◌, ◌||◌}
use Rattle.record.specs.declared.DataType.{DataType}
use Rattle.record.specs.declared.DataType.TheVariants.{B16, B32, B64, U16, U32, U64, S16, S32, S64, F32, F64}
use Rattle.record.specs.declared.Kind.{Kind}
use Rattle.record.specs.declared.Kind.TheVariants.{B, U, S, F}
use Rattle.record.specs.declared.Cmp6.TheVariants.{Eq, Ne, Lt, Le, Gt, Ge}
use Rattle.record.specs.declared.CmpOp.{CmpOp}
use Rattle.record.specs.declared.CmpOp.TheVariants.{Six, Unsigned, Float}
use Rattle.record.specs.declared.Comparison.{Comparison}
use Rattle.record.specs.declared.Instruction.{Instruction}
use Rattle.record.specs.declared.Instruction.TheVariants.{Arithmetic, Vset, VsetLanes, ArithmeticLanes, Set, Setp, Selp, Slct}
use Rattle.record.specs.declared.Record.{Record}

-- the letter of a type; T-06: the types b16, u16, s16 wherever 01 lists b32, u32, s32 as stype, type or slct's dtype
abbrev pub kind_of : DataType → Kind
kind_of B16 = B
kind_of B32 = B
kind_of B64 = B
kind_of U16 = U
kind_of U32 = U
kind_of U64 = U
kind_of S16 = S
kind_of S32 = S
kind_of S64 = S
kind_of F32 = F
kind_of F64 = F

-- eq ne
abbrev pub is_eq_ne : CmpOp → Bool
is_eq_ne (Six Eq) = true
is_eq_ne (Six Ne) = true
is_eq_ne (Six Lt) = false
is_eq_ne (Six Le) = false
is_eq_ne (Six Gt) = false
is_eq_ne (Six Ge) = false
is_eq_ne (Unsigned c) = false
is_eq_ne (Float c) = false

-- CMP6 is eq ne lt le gt ge
abbrev pub is_six : CmpOp → Bool
is_six (Six c) = true
is_six (Unsigned c) = false
is_six (Float c) = false

-- lo ls hi hs
abbrev pub is_unsigned_op : CmpOp → Bool
is_unsigned_op (Six c) = false
is_unsigned_op (Unsigned c) = true
is_unsigned_op (Float c) = false

-- equ neu ltu leu gtu geu num nan
abbrev pub is_float_op : CmpOp → Bool
is_float_op (Six c) = false
is_float_op (Unsigned c) = false
is_float_op (Float c) = true

-- CmpOp by stype: b: eq ne. s: CMP6. u: CMP6 and lo ls hi hs. f: CMP6 and equ neu ltu leu gtu geu num nan
abbrev pub cmp_fits : Kind → CmpOp → Bool
cmp_fits B c = is_eq_ne c
cmp_fits S c = is_six c
cmp_fits U c = is_six c || is_unsigned_op c
cmp_fits F c = is_six c || is_float_op c

abbrev pub is_f32 : DataType → Bool
is_f32 B16 = false
is_f32 B32 = false
is_f32 B64 = false
is_f32 U16 = false
is_f32 U32 = false
is_f32 U64 = false
is_f32 S16 = false
is_f32 S32 = false
is_f32 S64 = false
is_f32 F32 = true
is_f32 F64 = false

-- `ftz` in set and setp only with stype f32
abbrev pub ftz_fits : Bool → DataType → Bool
ftz_fits ftz stype = not ftz || is_f32 stype

-- CmpOp {BoolOp} {ftz} stype
abbrev pub comparison_fits : Comparison → Bool
comparison_fits s = cmp_fits (kind_of s.stype) s.cmp && ftz_fits s.ftz s.stype

abbrev pub instruction_modifiers_fit : Instruction → Bool
-- scalar arithmetic: T(d) T(a) T(b) {sat} {OP2}
instruction_modifiers_fit (Arithmetic op dtype sat scalar) = true
-- vset: T T CMP6 {OP2}
instruction_modifiers_fit (Vset cmp scalar) = true
-- vset2, vset4: T T CMP6 {add}
instruction_modifiers_fit (VsetLanes cmp lanes) = true
-- T-01, vadd2 .. vmax4: T(d) T(a) T(b) {sat} {add}
instruction_modifiers_fit (ArithmeticLanes op dtype sat lanes) = true
-- set: CmpOp {BoolOp} {ftz} dtype stype; dtype u32 s32 f32
instruction_modifiers_fit (Set dtype d comparison) = comparison_fits comparison
-- setp: CmpOp {BoolOp} {ftz} stype
instruction_modifiers_fit (Setp d comparison) = comparison_fits comparison
-- selp: type
instruction_modifiers_fit (Selp choice c) = true
-- slct: dtype s32, or {ftz} dtype f32
instruction_modifiers_fit (Slct ctype choice c) = true

abbrev pub modifiers_fit : Record → Bool
modifiers_fit r = instruction_modifiers_fit r.instruction
