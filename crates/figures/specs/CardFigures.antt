-- Figures for T-07, old yard cards: lines, each at its target, through `run`, and the whole outcome. Those of its issue come first. `%r0`, `%r1` and `%r2` hold a, b and c;
-- d is `%r3`; of `%rd` a, b and d likewise. One list with one claim.
use Rattle.std.specs.Prelude.{ℕ, ◌≡◌, refl, Bool, true, false, List, [], ◌∷◌, ◌++◌, map, replicate}
use Prim.Native.String.{String}
use Rattle.std.specs.Float.Ieee.{lt, eq, is_nan, of_bits, of_fields, odd}
use Rattle.record.specs.Refusals.{is_legal}
use Rattle.record.specs.Operands.{full_mask, default_a}
use Rattle.record.specs.Registers.{Files, files}
use Rattle.record.specs.declared.VideoType.TheVariants.{U32}
use Rattle.record.specs.declared.DataType.{DataType}
use Rattle.record.specs.declared.SetType.{SetType}
use Rattle.record.specs.declared.SlctType.{SlctType}
use Rattle.record.specs.declared.Cmp6.TheVariants.{Eq, Lt}
use Rattle.record.specs.declared.CmpOp.TheVariants.{Six}
use Rattle.record.specs.declared.Combination.TheVariants.{Alone}
use Rattle.record.specs.declared.Guard.TheVariants.{When}
use Rattle.record.specs.declared.Form.TheVariants.{Plain}
use Rattle.record.specs.declared.LaneWidth.TheVariants.{Half, Byte}
use Rattle.record.specs.declared.Arith.TheVariants.{Vadd}
use Rattle.record.specs.declared.LaneArith.TheVariants.{Scalar, Vavrg}
use Rattle.record.specs.declared.Operand.{Operand}
use Rattle.record.specs.declared.Destination.TheVariants.{One, Pair}
use Rattle.record.specs.declared.Instruction.TheVariants.{Set, Setp, Selp, Slct}
use Rattle.record.specs.declared.Record.{Record}
use Rattle.record.specs.declared.Target.{Target}
use Rattle.record.specs.declared.Target.TheVariants.{Sm10, Sm13, Sm20, Sm30}
use Rattle.rules.specs.Numbers.{exact_of, holds_z}
use Rattle.rules.specs.Execution.{selected_of, form_of, arithmetic_of, vset_of, lanes_of, lane_holds, lane_result, arithmetic_lanes_of, value_of, comparison_of, not_below_zero}
use Rattle.rules.specs.StandardLine.{standard}
use Rattle.rules.specs.Targets.{allows}
use Rattle.rules.specs.Executing.{done, skipped, refused, combined_of, test_of, writes, after, sizes_fit, preds_fit, guard_holds, run}
use Rattle.figures.specs.Figures.{Figure, always, r, p, four, three, lent, gives, leaves, answers, doubled, picks_a, picks_b, set_record, slct_record, vset_record, all_of, scalar_record, vset_word_record, said, given}

-- the figure at another target
abbrev at : Target → Figure → Figure
at t g = record { target = t; line = g.line; spelled = g.spelled; before = g.before; answer = g.answer; left = g.left }

-- one figure at each of the four
abbrev at_each : Figure → Figure → Figure → Figure → List Figure
at_each a b c d = at Sm10 a ∷ at Sm13 b ∷ at Sm20 c ∷ at Sm30 d ∷ []

-- ---- the records

-- set.eq and setp.eq of words, of a type
abbrev set_of_type : SetType → DataType → Record
set_of_type dtype t =
    always (Set dtype (r 3) (record { cmp = Six Eq; combination = Alone; ftz = false; stype = t; a = Operand.Word (r 0); b = Operand.Word (r 1) }))

abbrev setp_singles : Bool → Record
setp_singles ftz =
    always
    (Setp (Pair (p 1) (p 2)) (record { cmp = Six Eq; combination = Alone; ftz = ftz; stype = DataType.F32; a = Operand.Word (r 0); b = Operand.Word (r 1) }))

abbrev rd : ℕ → Operand
rd n = Operand.Double (record { 0 = n })

-- of double-words: set.eq, setp.lt, selp by `%p0`, slct by `%r2`
abbrev set_doubles : DataType → Record
set_doubles t = always (Set SetType.U32 (r 3) (record { cmp = Six Eq; combination = Alone; ftz = false; stype = t; a = rd 0; b = rd 1 }))

abbrev setp_doubles : DataType → Record
setp_doubles t = always (Setp (One (p 1)) (record { cmp = Six Lt; combination = Alone; ftz = false; stype = t; a = rd 0; b = rd 1 }))

abbrev selp_doubles : DataType → Record
selp_doubles t = always (Selp (record { dtype = t; d = rd 3; a = rd 0; b = rd 1 }) (p 0))

abbrev slct_doubles : SlctType → DataType → Record
slct_doubles ctype t = always (Slct ctype (record { dtype = t; d = rd 3; a = rd 0; b = rd 1 }) (r 2))

abbrev selp_singles : Record
selp_singles = always (Selp (record { dtype = DataType.F32; d = Operand.Word (r 3); a = Operand.Word (r 0); b = Operand.Word (r 1) }) (p 0))

-- vset4, a line under a guard, and a vadd into `%rn`
abbrev vset_lanes : Record
vset_lanes = vset_record Byte U32 Lt false (full_mask Byte) (default_a Byte)

abbrev guarded : Record → Record
guarded x = record { guard = When (record { inverted = false; pred = p 0 }); instruction = x.instruction }

abbrev plain_vadd : ℕ → Record
plain_vadd n = scalar_record Vadd U32 false U32 U32 (Plain (r n))

-- ---- the files

-- files that are admitted, files with a word too few, and with a predicate over 1
abbrev right : Files
right = lent (four 1 2 3 4) (three 0 0 0)

abbrev wrong_sizes : Files
wrong_sizes = files (replicate 63 0) (replicate 32 0) (replicate 32 0) (three 0 0 0)

abbrev wrong_preds : Files
wrong_preds = lent (four 1 2 3 4) (three 0 0 2)

-- what is compared: the least subnormal of either sign, and -0
abbrev least : ℕ
least = 0x00000001

abbrev minus_zero : ℕ
minus_zero = 0x80000000

abbrev minus_least : ℕ
minus_least = 0x80000001

-- ---- the figures

abbrev set_plain : ℕ → Figure
set_plain v = gives "set.eq.u32.f32 %r3, %r0, %r1;" (set_record (Six Eq) false SetType.U32) least minus_zero 0 v

abbrev set_ftz : Figure
set_ftz = gives "set.eq.ftz.u32.f32 %r3, %r0, %r1;" (set_record (Six Eq) true SetType.U32) least minus_zero 0 0xFFFFFFFF

abbrev slct_plain : String
slct_plain = "slct.f32.f32 %r3, %r0, %r1, %r2;"

abbrev slct_ftz : Figure
slct_ftz = picks_a "slct.ftz.f32.f32 %r3, %r0, %r1, %r2;" (slct_record true) minus_least

abbrev setp_plain : List ℕ → Figure
setp_plain left = leaves "setp.eq.f32 %p1|%p2, %r0, %r1;" (setp_singles false) least 0 (three 0 0 0) left

abbrev setp_ftz : Figure
setp_ftz = leaves "setp.eq.ftz.f32 %p1|%p2, %r0, %r1;" (setp_singles true) least 0 (three 0 0 0) (three 0 1 0)

-- a line that is done on files f and leaves files g
abbrev turns : String → Record → Files → Files → Figure
turns line spelled f g = record { target = Sm10; line = line; spelled = spelled; before = f; answer = done; left = g }

unfoldable pub cards : List Figure
cards =
    -- set.eq.u32.f32 of 00000001 and 80000000: FFFFFFFF at sm_10 and sm_13, 0 at sm_20 and sm_30, FFFFFFFF at each with ftz
    at_each (set_plain 0xFFFFFFFF) (set_plain 0xFFFFFFFF) (set_plain 0) (set_plain 0)
    ++ at_each set_ftz set_ftz set_ftz set_ftz
    -- slct f32 with c 80000001: a at sm_10 and sm_13, b at sm_20 and sm_30 without ftz, a with it. a and b, subnormal themselves, are copied as they are
    ++ at_each (picks_a slct_plain (slct_record false) minus_least) (picks_a slct_plain (slct_record false) minus_least) (picks_b slct_plain (slct_record false) minus_least)
    (picks_b slct_plain (slct_record false) minus_least)
    ++ at_each slct_ftz slct_ftz slct_ftz slct_ftz
    -- setp likewise
    ++ at_each (setp_plain (three 0 1 0)) (setp_plain (three 0 1 0)) (setp_plain (three 0 0 1)) (setp_plain (three 0 0 1))
    ++ at_each setp_ftz setp_ftz setp_ftz setp_ftz
    -- stype counts, whatever the dtype; 00800000, the least normal, is never flushed
    ++ (at Sm10 (gives "set.eq.f32.f32 %r3, %r0, %r1;" (set_record (Six Eq) false SetType.F32) 0x007FFFFF minus_least 0 0x3F800000)
    ∷ at Sm13 (gives "set.eq.s32.f32 %r3, %r0, %r1;" (set_record (Six Eq) false SetType.S32) 0x807FFFFF 0 0 0xFFFFFFFF)
    ∷ at Sm10 (gives "set.eq.u32.f32 %r3, %r0, %r1;" (set_record (Six Eq) false SetType.U32) 0x00800000 0 0 0)
    ∷ at Sm10 (gives "set.eq.f32.u32 %r3, %r0, %r1;" (set_of_type SetType.F32 DataType.U32) least 0 0 0)
    ∷ at Sm10 (gives "set.eq.f32.b32 %r3, %r0, %r1;" (set_of_type SetType.F32 DataType.B32) least 0 0 0)
    ∷ at Sm13 (picks_b slct_plain (slct_record false) 0x80800000)
    -- c of slct with s32, f64 and what selp copies are not flushed either
    ∷ at Sm10
    (picks_b "slct.f32.s32 %r3, %r0, %r1, %r2;"
    (always (Slct SlctType.S32 (record { dtype = DataType.F32; d = Operand.Word (r 3); a = Operand.Word (r 0); b = Operand.Word (r 1) }) (r 2))) minus_zero)
    ∷ at Sm10 (picks_b "selp.f32 %r3, %r0, %r1, %p0;" selp_singles 0)
    ∷ at Sm10
    (turns "selp.f32 %r3, %r0, %r1, %p0;" selp_singles (lent (four minus_least least 0 5) (three 1 0 0)) (lent (four minus_least least 0 minus_least) (three 1 0 0)))
    ∷ at Sm13
    (turns "set.eq.u32.f64 %r3, %rd0, %rd1;" (set_doubles DataType.F64) (files (four 0 0 0 5) (replicate 32 0) (1 ∷ replicate 31 0) (three 0 0 0))
    (files (four 0 0 0 0) (replicate 32 0) (1 ∷ replicate 31 0) (three 0 0 0)))
    -- f64 types need sm_13
    ∷ at Sm10 (answers "set.eq.u32.f64 %r3, %rd0, %rd1;" (set_doubles DataType.F64) right (refused 12))
    ∷ at Sm10 (answers "setp.lt.f64 %p1, %rd0, %rd1;" (setp_doubles DataType.F64) right (refused 12))
    ∷ at Sm10 (answers "selp.f64 %rd3, %rd0, %rd1, %p0;" (selp_doubles DataType.F64) right (refused 12))
    ∷ at Sm10 (answers "slct.f64.s32 %rd3, %rd0, %rd1, %r2;" (slct_doubles SlctType.S32 DataType.F64) right (refused 12))
    ∷ at Sm10 (answers "slct.f64.f32 %rd3, %rd0, %rd1, %r2;" (slct_doubles (SlctType.F32 false) DataType.F64) right (refused 12))
    ∷ at Sm13 (turns "selp.f64 %rd3, %rd0, %rd1, %p0;" (selp_doubles DataType.F64) (doubled 1 2 3 (three 1 0 0)) (doubled 1 2 1 (three 1 0 0)))
    ∷ at Sm13 (turns "slct.f64.s32 %rd3, %rd0, %rd1, %r2;" (slct_doubles SlctType.S32 DataType.F64) (doubled 1 2 3 (three 0 0 0)) (doubled 1 2 1 (three 0 0 0)))
    ∷ at Sm13 (turns "slct.f64.f32 %rd3, %rd0, %rd1, %r2;" (slct_doubles (SlctType.F32 false) DataType.F64) (doubled 1 2 3 (three 0 0 0)) (doubled 1 2 1 (three 0 0 0)))
    ∷ at Sm13 (turns "setp.lt.f64 %p1, %rd0, %rd1;" (setp_doubles DataType.F64) (doubled 1 2 3 (three 0 0 0)) (doubled 1 2 3 (three 0 1 0)))
    -- b64, u64, s64 need nothing
    ∷ at Sm10 (turns "selp.b64 %rd3, %rd0, %rd1, %p0;" (selp_doubles DataType.B64) (doubled 1 2 3 (three 1 0 0)) (doubled 1 2 1 (three 1 0 0)))
    ∷ at Sm10 (turns "slct.s64.s32 %rd3, %rd0, %rd1, %r2;" (slct_doubles SlctType.S32 DataType.S64) (doubled 1 2 3 (three 0 0 0)) (doubled 1 2 1 (three 0 0 0)))
    ∷ at Sm10 (turns "setp.lt.u64 %p1, %rd0, %rd1;" (setp_doubles DataType.U64) (doubled 1 2 3 (three 0 0 0)) (doubled 1 2 3 (three 0 1 0)))
    -- scalar video needs sm_20, vset too
    ∷ at Sm13 (answers "vadd.u32.u32.u32 %r3, %r0, %r1;" (plain_vadd 3) right (refused 12))
    ∷ at Sm20 (gives "vadd.u32.u32.u32 %r3, %r0, %r1;" (plain_vadd 3) 1 2 0 3)
    ∷ at Sm13 (answers "vset.u32.u32.lt %r3, %r0, %r1;" (vset_word_record Lt (Plain (r 3))) right (refused 12))
    ∷ at Sm20 (gives "vset.u32.u32.lt %r3, %r0, %r1;" (vset_word_record Lt (Plain (r 3))) 1 2 0 1)
    -- forms with 2 or 4 need sm_30
    ∷ at Sm20 (answers "vset4.u32.u32.lt %r3, %r0, %r1, %r2;" vset_lanes right (refused 12))
    ∷ at Sm20 (answers "vset2.u32.u32.lt %r3, %r0, %r1, %r2;" (vset_record Half U32 Lt false (full_mask Half) (default_a Half)) right (refused 12))
    ∷ at Sm20 (answers "vavrg4.u32.u32.u32 %r3, %r0, %r1, %r2;" (all_of Vavrg Byte U32 false false) right (refused 12))
    ∷ at Sm20 (answers "vadd2.u32.u32.u32 %r3, %r0, %r1, %r2;" (all_of (Scalar Vadd) Half U32 false false) right (refused 12))
    -- 8, 12, 10, 11; a guard that is false comes after them
    ∷ at Sm10 (answers "vadd.u32.u32.u32 %r64, %r0, %r1;" (plain_vadd 64) wrong_sizes (refused 8))
    ∷ at Sm13 (answers "vadd.u32.u32.u32 %r3, %r0, %r1;" (plain_vadd 3) wrong_sizes (refused 12))
    ∷ at Sm13 (answers "vadd.u32.u32.u32 %r3, %r0, %r1;" (plain_vadd 3) wrong_preds (refused 12))
    ∷ at Sm20 (answers "vadd.u32.u32.u32 %r3, %r0, %r1;" (plain_vadd 3) wrong_sizes (refused 10))
    ∷ at Sm20 (answers "vadd.u32.u32.u32 %r3, %r0, %r1;" (plain_vadd 3) wrong_preds (refused 11))
    ∷ at Sm20 (answers "@%p0 vset4.u32.u32.lt %r3, %r0, %r1, %r2;" (guarded vset_lanes) right (refused 12))
    ∷ at Sm30 (answers "@%p0 vset4.u32.u32.lt %r3, %r0, %r1, %r2;" (guarded vset_lanes) right skipped)
    ∷ [])

pub cards_hold : map given cards ≡ map said cards
unfolding cards standard run allows is_legal sizes_fit preds_fit guard_holds after writes arithmetic_of vset_of form_of selected_of exact_of lanes_of lane_holds holds_z lane_result arithmetic_lanes_of combined_of test_of comparison_of value_of not_below_zero lt eq is_nan of_bits of_fields odd
cards_hold = refl
