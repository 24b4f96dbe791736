-- Document 01, "Bench figures": the starred ones; then fourteen for T-01, which came with its issue, and sixteen for T-02, of which document 02
-- has two; then document 01's seven of execution without a star, and ten of ours; then twenty-five for T-06, all at sm_30; CardFigures.antt has those
-- of T-07. One list with one claim. Each is a line with its record and its files, through `run`, and the whole outcome. `%r0`, `%r1` and `%r2` hold a, b and c; d is `%r3`; of `%rs` a, b and d likewise.
-- Predicate 0 holds c of setp; its places are 1 and 2.
use Rattle.std.specs.Prelude.{ℕ, ◌≡◌, refl, Bool, true, false, List, [], ◌∷◌, map, replicate}
use Prim.Native.String.{String}
use Rattle.std.specs.Float.Ieee.{lt, eq, is_nan, of_bits, of_fields, odd}
use Rattle.signs.specs.Text.{bytes}
use Rattle.record.specs.Refusals.{is_legal}
use Rattle.record.specs.Operands.{full_mask, default_a, default_b}
use Rattle.record.specs.declared.Word.{Word}
use Rattle.record.specs.declared.Pred.{Pred}
use Rattle.record.specs.declared.VideoType.{VideoType}
use Rattle.record.specs.declared.VideoType.TheVariants.{U32, S32}
use Rattle.record.specs.declared.DataType.{DataType}
use Rattle.record.specs.declared.SetType.{SetType}
use Rattle.record.specs.declared.SlctType.{SlctType}
use Rattle.record.specs.declared.Cmp6.{Cmp6}
use Rattle.record.specs.declared.Cmp6.TheVariants.{Eq, Lt, Gt, Ge}
use Rattle.record.specs.declared.CmpU.TheVariants.{Hi}
use Rattle.record.specs.declared.CmpF.TheVariants.{Ltu}
use Rattle.record.specs.declared.CmpOp.{CmpOp}
use Rattle.record.specs.declared.CmpOp.TheVariants.{Six, Unsigned, Float}
use Rattle.record.specs.declared.BoolOp.TheVariants.{And}
use Rattle.record.specs.declared.Guard.TheVariants.{Always, When}
use Rattle.record.specs.declared.Comparison.{Comparison}
use Rattle.record.specs.declared.Combination.{Combination}
use Rattle.record.specs.declared.Combination.TheVariants.{Alone, With}
use Rattle.record.specs.declared.Selector.TheVariants.{B1}
use Rattle.record.specs.declared.Selected.TheVariants.{Whole}
use Rattle.record.specs.declared.Form.{Form}
use Rattle.record.specs.declared.Form.TheVariants.{Plain, Merge, Combine}
use Rattle.record.specs.declared.LaneWidth.{LaneWidth}
use Rattle.record.specs.declared.LaneWidth.TheVariants.{Half, Byte}
use Rattle.record.specs.declared.Mask.{Mask}
use Rattle.record.specs.declared.Digits.{Digits}
use Rattle.record.specs.declared.Arith.{Arith}
use Rattle.record.specs.declared.Arith.TheVariants.{Vadd, Vsub, Vabsdiff, Vmin, Vmax}
use Rattle.record.specs.declared.LaneArith.{LaneArith}
use Rattle.record.specs.declared.LaneArith.TheVariants.{Scalar, Vavrg}
use Rattle.record.specs.declared.Lanes.{Lanes}
use Rattle.record.specs.declared.Operand.{Operand}
use Rattle.record.specs.declared.Op2.TheVariants.{Add, Min, Max}
use Rattle.record.specs.declared.Destination.{Destination}
use Rattle.record.specs.declared.Destination.TheVariants.{One, Pair, Second}
use Rattle.record.specs.declared.Instruction.{Instruction}
use Rattle.record.specs.declared.Instruction.TheVariants.{Arithmetic, Vset, VsetLanes, ArithmeticLanes, Set, Setp, Selp, Slct}
use Rattle.record.specs.declared.Record.{Record}
use Rattle.record.specs.declared.Target.{Target}
use Rattle.record.specs.declared.Target.TheVariants.{Sm30}
use Rattle.rules.specs.Numbers.{exact_of, holds_z}
use Rattle.rules.specs.Execution.{selected_of, form_of, arithmetic_of, vset_of, lane_holds, lanes_of, lane_result, arithmetic_lanes_of, value_of, comparison_of, not_below_zero}
use Rattle.record.specs.Registers.{Files, files}
use Rattle.rules.specs.StandardLine.{standard}
use Rattle.rules.specs.Targets.{allows}
use Rattle.rules.specs.Executing.{Answer, done, skipped, refused, Outcome, outcome, combined_of, test_of, writes, after, sizes_fit, preds_fit, guard_holds, run}

-- a target, a line, the record that it spells, the files before it, the answer, and the files that it leaves
pub record Figure : Type 0 where
  pub target : Target
  pub line : String
  pub spelled : Record
  pub before : Files
  pub answer : Answer
  pub left : Files

-- ---- the records that the figures' lines spell

abbrev pub always : Instruction → Record
always i = record { guard = Always; instruction = i }

abbrev pub r : ℕ → Word
r n = record { 0 = n }

abbrev pub p : ℕ → Pred
p n = record { 0 = n }

abbrev rs : ℕ → Operand
rs n = Operand.Half (record { 0 = n })

-- 64 words, 32 half-words, 32 double-words, 16 predicates, all 0 but the first few
abbrev pub lent : List ℕ → List ℕ → Files
lent words preds = files words (replicate 32 0) (replicate 32 0) preds

abbrev pub four : ℕ → ℕ → ℕ → ℕ → List ℕ
four a b c d = a ∷ b ∷ c ∷ d ∷ replicate 60 0

abbrev pub three : ℕ → ℕ → ℕ → List ℕ
three a b c = a ∷ b ∷ c ∷ replicate 13 0

-- %r3, %r0, %r1, %r2 with a mask and a's selector; b's selector is its default
abbrev lanes : LaneWidth → VideoType → VideoType → Bool → Mask → Digits → Lanes
lanes w atype btype add mask asel =
    record { width = w; atype = atype; btype = btype; add = add; d = r 3; mask = mask; a = r 0; asel = asel; b = r 1; bsel = default_b w; c = r 2 }

abbrev pub vset_record : LaneWidth → VideoType → Cmp6 → Bool → Mask → Digits → Record
vset_record w atype cmp add mask asel = always (VsetLanes cmp (lanes w atype U32 add mask asel))

abbrev lanes_record : LaneArith → LaneWidth → VideoType → VideoType → VideoType → Bool → Bool → Mask → Digits → Record
lanes_record op w dtype atype btype sat add mask asel = always (ArithmeticLanes op dtype sat (lanes w atype btype add mask asel))

-- all of one type, full mask, default selectors
abbrev pub all_of : LaneArith → LaneWidth → VideoType → Bool → Bool → Record
all_of op w t sat add = lanes_record op w t t t sat add (full_mask w) (default_a w)

abbrev pub scalar_record : Arith → VideoType → Bool → VideoType → VideoType → Form → Record
scalar_record op dtype sat atype btype form =
    always (Arithmetic op dtype sat (record { atype = atype; btype = btype; form = form; a = Whole (r 0); b = Whole (r 1) }))

-- vset of u32
abbrev pub vset_word_record : Cmp6 → Form → Record
vset_word_record cmp form = always (Vset cmp (record { atype = U32; btype = U32; form = form; a = Whole (r 0); b = Whole (r 1) }))

-- T-06: `%rs0` and `%rs1`, without BoolOp
abbrev halves : CmpOp → DataType → Comparison
halves cmp t = record { cmp = cmp; combination = Alone; ftz = false; stype = t; a = rs 0; b = rs 1 }

abbrev set_halves : SetType → CmpOp → DataType → Record
set_halves dtype cmp t = always (Set dtype (r 3) (halves cmp t))

abbrev setp_halves : CmpOp → DataType → Record
setp_halves cmp t = always (Setp (Pair (p 1) (p 2)) (halves cmp t))

abbrev selp_halves : DataType → Operand → Record
selp_halves t d = always (Selp (record { dtype = t; d = d; a = rs 0; b = rs 1 }) (p 0))

abbrev slct_halves : SlctType → DataType → Record
slct_halves ctype t = always (Slct ctype (record { dtype = t; d = rs 3; a = rs 0; b = rs 1 }) (r 2))

-- stype f32, without BoolOp
abbrev pub set_record : CmpOp → Bool → SetType → Record
set_record cmp ftz dtype =
    always
    (Set dtype (r 3)
    (record { cmp = cmp; combination = Alone; ftz = ftz; stype = DataType.F32; a = Operand.Word (r 0); b = Operand.Word (r 1) }))

-- setp.lt of s32
abbrev setp_record : Destination → Combination → Record
setp_record d c =
    always
    (Setp d (record { cmp = Six Lt; combination = c; ftz = false; stype = DataType.S32; a = Operand.Word (r 0); b = Operand.Word (r 1) }))

-- selp.b64 by predicate 1, under a guard by predicate 0
abbrev selp_record : Bool → Record
selp_record inverted = record {
  guard = When (record { inverted = inverted; pred = p 0 });
  instruction = Selp
      (record { dtype = DataType.B64; d = Operand.Double (record { 0 = 3 }); a = Operand.Double (record { 0 = 0 }); b = Operand.Double (record { 0 = 1 }) })
      (p 1);
}

-- slct.f32.f32 or slct.ftz.f32.f32
abbrev pub slct_record : Bool → Record
slct_record ftz =
    always
    (Slct (SlctType.F32 ftz)
    (record { dtype = DataType.F32; d = Operand.Word (r 3); a = Operand.Word (r 0); b = Operand.Word (r 1) }) (r 2))

-- h01, b0123, b20
abbrev h01 : Digits
h01 = record { lane0 = 1; lane1 = 0; lane2 = 0; lane3 = 0 }

abbrev b0123 : Digits
b0123 = record { lane0 = 3; lane1 = 2; lane2 = 1; lane3 = 0 }

abbrev b20 : Mask
b20 = record { lane0 = true; lane1 = false; lane2 = true; lane3 = false }

-- ---- a line's figure

-- what d holds before, which is no figure's result
abbrev other : ℕ
other = 0x55555555

-- d of a line whose words are a, b, c before
abbrev pub gives : String → Record → ℕ → ℕ → ℕ → ℕ → Figure
gives line spelled a b c d =
    record { target = Sm30; line = line; spelled = spelled; before = lent (four a b c other) (three 0 0 0); answer = done; left = lent (four a b c d) (three 0 0 0) }

-- the predicates of a line whose words are a and b before
abbrev pub leaves : String → Record → ℕ → ℕ → List ℕ → List ℕ → Figure
leaves line spelled a b before left =
    record { target = Sm30; line = line; spelled = spelled; before = lent (four a b 0 0) before; answer = done; left = lent (four a b 0 0) left }

-- the answer of a line that changes nothing
abbrev pub answers : String → Record → Files → Answer → Figure
answers line spelled f a = record { target = Sm30; line = line; spelled = spelled; before = f; answer = a; left = f }

-- double-words 0, 1 and 3
abbrev pub doubled : ℕ → ℕ → ℕ → List ℕ → Files
doubled a b d preds = files (replicate 64 0) (replicate 32 0) (a ∷ b ∷ 0 ∷ d ∷ replicate 28 0) preds

-- T-06: half-words 0, 1 and 3, words 2 and 3
abbrev halved : ℕ → ℕ → ℕ → ℕ → ℕ → List ℕ → Files
halved a b d c e preds = files (four 0 0 c e) (a ∷ b ∷ 0 ∷ d ∷ replicate 28 0) (replicate 32 0) preds

-- set into `%r3`: what it leaves there; setp into `%p1|%p2`
abbrev sets : String → Record → ℕ → ℕ → ℕ → Figure
sets line spelled a b v =
    record { target = Sm30; line = line; spelled = spelled; before = halved a b 0 0 other (three 0 0 0); answer = done; left = halved a b 0 0 v (three 0 0 0) }

abbrev sorts : String → Record → ℕ → ℕ → ℕ → ℕ → Figure
sorts line spelled a b first second =
    record { target = Sm30; line = line; spelled = spelled; before = halved a b 0 0 0 (three 0 0 0); answer = done; left = halved a b 0 0 0 (three 0 first second) }

-- selp by `%p0`, slct by `%r2`, into `%rs3`
abbrev copies : String → Record → ℕ → ℕ → ℕ → ℕ → ℕ → Figure
copies line spelled a b c q d =
    record { target = Sm30; line = line; spelled = spelled; before = halved a b 0x1234 c 0 (three q 0 0); answer = done; left = halved a b d c 0 (three q 0 0) }

-- slct by c. a and b are subnormal themselves, so that a flushed copy would show
abbrev pub picks_a : String → Record → ℕ → Figure
picks_a line spelled c = gives line spelled 0x80000001 0x007FFFFF c 0x80000001

abbrev pub picks_b : String → Record → ℕ → Figure
picks_b line spelled c = gives line spelled 0x80000001 0x007FFFFF c 0x007FFFFF

-- ---- the figures

unfoldable pub figures : List Figure
figures =
    -- vset4.s32.u32.lt, a 80FF0001, b 00000002: 01010001. Mask .b20, c AABBCCDD: AA01CC01. `add`, full mask, c FFFFFFFF: 00000002
    gives "vset4.s32.u32.lt %r3, %r0, %r1, %r2;" (vset_record Byte S32 Lt false (full_mask Byte) (default_a Byte)) 0x80FF0001 0x00000002 0 0x01010001
    ∷ gives "vset4.s32.u32.lt %r3.b20, %r0, %r1, %r2;" (vset_record Byte S32 Lt false b20 (default_a Byte)) 0x80FF0001 0x00000002 0xAABBCCDD 0xAA01CC01
    ∷ gives "vset4.s32.u32.lt.add %r3, %r0, %r1, %r2;" (vset_record Byte S32 Lt true (full_mask Byte) (default_a Byte)) 0x80FF0001 0x00000002 0xFFFFFFFF 0x00000002
    -- vset2.u32.u32.ge, a 00010002, b 00020002: 00000001. With a `.h01`: 00010000
    ∷ gives "vset2.u32.u32.ge %r3, %r0, %r1, %r2;" (vset_record Half U32 Ge false (full_mask Half) (default_a Half)) 0x00010002 0x00020002 0 0x00000001
    ∷ gives "vset2.u32.u32.ge %r3, %r0.h01, %r1, %r2;" (vset_record Half U32 Ge false (full_mask Half) h01) 0x00010002 0x00020002 0 0x00010000
    -- vadd all s32, 7FFFFFFF and 1: 80000000; sat 7FFFFFFF
    ∷ gives "vadd.s32.s32.s32 %r3, %r0, %r1;" (scalar_record Vadd S32 false S32 S32 (Plain (r 3))) 0x7FFFFFFF 1 0 0x80000000
    ∷ gives "vadd.s32.s32.s32.sat %r3, %r0, %r1;" (scalar_record Vadd S32 true S32 S32 (Plain (r 3))) 0x7FFFFFFF 1 0 0x7FFFFFFF
    -- vadd all u32 into `.b1`, 200 and 100, c 11223344: 11222C44; sat 1122FF44
    ∷ gives "vadd.u32.u32.u32 %r3.b1, %r0, %r1, %r2;" (scalar_record Vadd U32 false U32 U32 (Merge (r 3) B1 (r 2))) 200 100 0x11223344 0x11222C44
    ∷ gives "vadd.u32.u32.u32.sat %r3.b1, %r0, %r1, %r2;" (scalar_record Vadd U32 true U32 U32 (Merge (r 3) B1 (r 2))) 200 100 0x11223344 0x1122FF44
    -- vabsdiff.u32.s32.u32, 80000000 and FFFFFFFF: 7FFFFFFF
    ∷ gives "vabsdiff.u32.s32.u32 %r3, %r0, %r1;" (scalar_record Vabsdiff U32 false S32 U32 (Plain (r 3))) 0x80000000 0xFFFFFFFF 0 0x7FFFFFFF
    -- set.eq.f32.f32, 80000000 and 0: 3F800000
    ∷ gives "set.eq.f32.f32 %r3, %r0, %r1;" (set_record (Six Eq) false SetType.F32) 0x80000000 0 0 0x3F800000
    -- setp.lt.and.s32, -1 and 0, c 0: both places 0
    ∷ leaves "setp.lt.and.s32 %p1|%p2, %r0, %r1, %p0;" (setp_record (Pair (p 1) (p 2)) (With And (record { inverted = false; pred = p 0 }))) 0xFFFFFFFF 0
    (three 0 1 1) (three 0 0 0)
    -- for T-01. vavrg4 all u32, 00FF0102, 01FF0203: 01FF0203; all s32, FFFD8001, 00FE8002: FFFD8002. vavrg2 all s32, FFFF8000, 00008001: FFFF8000
    ∷ gives "vavrg4.u32.u32.u32 %r3, %r0, %r1, %r2;" (all_of Vavrg Byte U32 false false) 0x00FF0102 0x01FF0203 0 0x01FF0203
    ∷ gives "vavrg4.s32.s32.s32 %r3, %r0, %r1, %r2;" (all_of Vavrg Byte S32 false false) 0xFFFD8001 0x00FE8002 0 0xFFFD8002
    ∷ gives "vavrg2.s32.s32.s32 %r3, %r0, %r1, %r2;" (all_of Vavrg Half S32 false false) 0xFFFF8000 0x00008001 0 0xFFFF8000
    -- vadd4 all u32, FF800102, 01800304: 00000406; `sat` FFFF0406; `add` with c 0: 0000020A; `sat` and `add`: 00000208
    ∷ gives "vadd4.u32.u32.u32 %r3, %r0, %r1, %r2;" (all_of (Scalar Vadd) Byte U32 false false) 0xFF800102 0x01800304 0 0x00000406
    ∷ gives "vadd4.u32.u32.u32.sat %r3, %r0, %r1, %r2;" (all_of (Scalar Vadd) Byte U32 true false) 0xFF800102 0x01800304 0 0xFFFF0406
    ∷ gives "vadd4.u32.u32.u32.add %r3, %r0, %r1, %r2;" (all_of (Scalar Vadd) Byte U32 false true) 0xFF800102 0x01800304 0 0x0000020A
    ∷ gives "vadd4.u32.u32.u32.sat.add %r3, %r0, %r1, %r2;" (all_of (Scalar Vadd) Byte U32 true true) 0xFF800102 0x01800304 0 0x00000208
    -- vsub4 all u32 with `add`, 0, 01010101, c 10: 0000000C; with `sat` too: 00000010
    ∷ gives "vsub4.u32.u32.u32.add %r3, %r0, %r1, %r2;" (all_of (Scalar Vsub) Byte U32 false true) 0 0x01010101 0x10 0x0000000C
    ∷ gives "vsub4.u32.u32.u32.sat.add %r3, %r0, %r1, %r2;" (all_of (Scalar Vsub) Byte U32 true true) 0 0x01010101 0x10 0x00000010
    -- vsub4.s32.u32.u32 into `.b20`, 00FF0005, 01010101, c AABBCCDD: AAFECC04
    ∷ gives "vsub4.s32.u32.u32 %r3.b20, %r0, %r1, %r2;" (lanes_record (Scalar Vsub) Byte S32 U32 U32 false false b20 (default_a Byte)) 0x00FF0005 0x01010101 0xAABBCCDD 0xAAFECC04
    -- vabsdiff4.u32.s32.u32, 80FF0001, FF0102FE: 7F0202FD; all s32 `sat`, 80FF0001, 7F0102FE: 7F020203
    ∷ gives "vabsdiff4.u32.s32.u32 %r3, %r0, %r1, %r2;" (lanes_record (Scalar Vabsdiff) Byte U32 S32 U32 false false (full_mask Byte) (default_a Byte)) 0x80FF0001 0xFF0102FE 0 0x7F0202FD
    ∷ gives "vabsdiff4.s32.s32.s32.sat %r3, %r0, %r1, %r2;" (all_of (Scalar Vabsdiff) Byte S32 true false) 0x80FF0001 0x7F0102FE 0 0x7F020203
    -- vmin2.u32.s32.u32, FFFF0005, 00010006: FFFF0005
    ∷ gives "vmin2.u32.s32.u32 %r3, %r0, %r1, %r2;" (lanes_record (Scalar Vmin) Half U32 S32 U32 false false (full_mask Half) (default_a Half)) 0xFFFF0005 0x00010006 0 0xFFFF0005
    -- vmax4 all u32, a `.b0123` 01020304, 02020202: 04030202
    ∷ gives "vmax4.u32.u32.u32 %r3, %r0.b0123, %r1, %r2;" (lanes_record (Scalar Vmax) Byte U32 U32 U32 false false (full_mask Byte) b0123) 0x01020304 0x02020202 0 0x04030202
    -- T-02, slct: c 80000001 gives a with `ftz`, b without; 807FFFFF likewise
    ∷ picks_a "slct.ftz.f32.f32 %r3, %r0, %r1, %r2;" (slct_record true) 0x80000001
    ∷ picks_b "slct.f32.f32 %r3, %r0, %r1, %r2;" (slct_record false) 0x80000001
    ∷ picks_a "slct.ftz.f32.f32 %r3, %r0, %r1, %r2;" (slct_record true) 0x807FFFFF
    ∷ picks_b "slct.f32.f32 %r3, %r0, %r1, %r2;" (slct_record false) 0x807FFFFF
    -- 80800000 (the smallest normal number, negative) gives b in both, -0 a, NaN of either sign and -infinity b; 00000001 gives a
    ∷ picks_b "slct.ftz.f32.f32 %r3, %r0, %r1, %r2;" (slct_record true) 0x80800000
    ∷ picks_b "slct.f32.f32 %r3, %r0, %r1, %r2;" (slct_record false) 0x80800000
    ∷ picks_a "slct.ftz.f32.f32 %r3, %r0, %r1, %r2;" (slct_record true) 0x80000000
    ∷ picks_a "slct.f32.f32 %r3, %r0, %r1, %r2;" (slct_record false) 0x80000000
    ∷ picks_b "slct.ftz.f32.f32 %r3, %r0, %r1, %r2;" (slct_record true) 0x7FC00000
    ∷ picks_b "slct.f32.f32 %r3, %r0, %r1, %r2;" (slct_record false) 0x7FC00000
    ∷ picks_b "slct.ftz.f32.f32 %r3, %r0, %r1, %r2;" (slct_record true) 0xFFC00000
    ∷ picks_b "slct.f32.f32 %r3, %r0, %r1, %r2;" (slct_record false) 0xFFC00000
    ∷ picks_b "slct.ftz.f32.f32 %r3, %r0, %r1, %r2;" (slct_record true) 0xFF800000
    ∷ picks_b "slct.f32.f32 %r3, %r0, %r1, %r2;" (slct_record false) 0xFF800000
    ∷ picks_a "slct.ftz.f32.f32 %r3, %r0, %r1, %r2;" (slct_record true) 0x00000001
    ∷ picks_a "slct.f32.f32 %r3, %r0, %r1, %r2;" (slct_record false) 0x00000001
    -- without a star. vsub all u32, 1 and 2: FFFFFFFF; sat 0. vabsdiff.u32.s32.u32, 80000000 and FFFFFFFF, sat: FFFFFFFF
    ∷ gives "vsub.u32.u32.u32 %r3, %r0, %r1;" (scalar_record Vsub U32 false U32 U32 (Plain (r 3))) 1 2 0 0xFFFFFFFF
    ∷ gives "vsub.u32.u32.u32.sat %r3, %r0, %r1;" (scalar_record Vsub U32 true U32 U32 (Plain (r 3))) 1 2 0 0
    ∷ gives "vabsdiff.u32.s32.u32.sat %r3, %r0, %r1;" (scalar_record Vabsdiff U32 true S32 U32 (Plain (r 3))) 0x80000000 0xFFFFFFFF 0 0xFFFFFFFF
    -- set.ltu.u32.f32, 7FC00000 and 0: FFFFFFFF; `lt`: 0. set.eq.u32.f32, 00000001 and 80000000: 0; with ftz FFFFFFFF
    ∷ gives "set.ltu.u32.f32 %r3, %r0, %r1;" (set_record (Float Ltu) false SetType.U32) 0x7FC00000 0 0 0xFFFFFFFF
    ∷ gives "set.lt.u32.f32 %r3, %r0, %r1;" (set_record (Six Lt) false SetType.U32) 0x7FC00000 0 0 0
    ∷ gives "set.eq.u32.f32 %r3, %r0, %r1;" (set_record (Six Eq) false SetType.U32) 0x00000001 0x80000000 0 0
    ∷ gives "set.eq.ftz.u32.f32 %r3, %r0, %r1;" (set_record (Six Eq) true SetType.U32) 0x00000001 0x80000000 0 0xFFFFFFFF
    -- ours. OP2 on the exact number, and no second clamp; c of vset is unsigned
    ∷ gives "vadd.s32.s32.s32.sat.add %r3, %r0, %r1, %r2;" (scalar_record Vadd S32 true S32 S32 (Combine Add (r 3) (r 2))) 0x7FFFFFFF 1 1 0x80000000
    ∷ gives "vsub.u32.u32.u32.min %r3, %r0, %r1, %r2;" (scalar_record Vsub U32 false U32 U32 (Combine Min (r 3) (r 2))) 1 2 0 0xFFFFFFFF
    ∷ gives "vsub.u32.u32.u32.max %r3, %r0, %r1, %r2;" (scalar_record Vsub U32 false U32 U32 (Combine Max (r 3) (r 2))) 1 2 0 0
    ∷ gives "vset.u32.u32.lt.min %r3, %r0, %r1, %r2;" (vset_word_record Lt (Combine Min (r 3) (r 2))) 1 2 0xFFFFFFFF 1
    -- one place of setp: t, or not t
    ∷ leaves "setp.lt.s32 %p1, %r0, %r1;" (setp_record (One (p 1)) Alone) 0xFFFFFFFF 0 (three 0 0 0) (three 0 1 0)
    ∷ leaves "setp.lt.s32 _|%p2, %r0, %r1;" (setp_record (Second (p 2)) Alone) 0 0xFFFFFFFF (three 0 0 0) (three 0 0 1)
    -- a guard that holds, by `!`, and one that does not; a copy of 64 bits
    ∷ record {
      target = Sm30;
      line = "@!%p0 selp.b64 %rd3, %rd0, %rd1, %p1;";
      spelled = selp_record true;
      before = doubled 0x123456789ABCDEF0 1 other (three 0 1 0);
      answer = done;
      left = doubled 0x123456789ABCDEF0 1 0x123456789ABCDEF0 (three 0 1 0);
    }
    ∷ answers "@%p0 selp.b64 %rd3, %rd0, %rd1, %p1;" (selp_record false) (doubled 0x123456789ABCDEF0 1 other (three 0 1 0)) skipped
    -- some predicate byte over 1; file lengths not 64, 32, 32, 16
    ∷ answers "vadd.s32.s32.s32 %r3, %r0, %r1;" (scalar_record Vadd S32 false S32 S32 (Plain (r 3))) (lent (four 1 1 0 other) (three 0 0 2)) (refused 11)
    ∷ answers "vadd.s32.s32.s32 %r3, %r0, %r1;" (scalar_record Vadd S32 false S32 S32 (Plain (r 3)))
    (files (1 ∷ four 1 1 0 other) (replicate 32 0) (replicate 32 0) (three 0 0 2)) (refused 10)
    -- T-06. The new file's length counts also for a record that uses none of it; 10 reads 64, 32, 32, 16, and comes before 11
    ∷ answers "vadd.s32.s32.s32 %r3, %r0, %r1;" (scalar_record Vadd S32 false S32 S32 (Plain (r 3)))
    (files (four 1 1 0 other) (replicate 31 0) (replicate 32 0) (three 0 0 2)) (refused 10)
    ∷ answers "vadd.s32.s32.s32 %r3, %r0, %r1;" (scalar_record Vadd S32 false S32 S32 (Plain (r 3)))
    (files (four 1 1 0 other) (replicate 33 0) (replicate 32 0) (three 0 0 0)) (refused 10)
    ∷ answers "vadd.s32.s32.s32 %r3, %r0, %r1;" (scalar_record Vadd S32 false S32 S32 (Plain (r 3)))
    (files (four 1 1 0 other) (replicate 32 0) (replicate 31 0) (three 0 0 0)) (refused 10)
    ∷ answers "vadd.s32.s32.s32 %r3, %r0, %r1;" (scalar_record Vadd S32 false S32 S32 (Plain (r 3)))
    (files (four 1 1 0 other) (replicate 32 0) (replicate 33 0) (three 0 0 0)) (refused 10)
    ∷ answers "vadd.s32.s32.s32 %r3, %r0, %r1;" (scalar_record Vadd S32 false S32 S32 (Plain (r 3)))
    (files (four 1 1 0 other) (replicate 32 0) (replicate 32 0) (0 ∷ three 0 0 0)) (refused 10)
    -- exact numbers of 16 bits, signed or not: 7FFF and 8000, FFFF and 0
    ∷ sorts "setp.lt.u16 %p1|%p2, %rs0, %rs1;" (setp_halves (Six Lt) DataType.U16) 0x7FFF 0x8000 1 0
    ∷ sorts "setp.lt.s16 %p1|%p2, %rs0, %rs1;" (setp_halves (Six Lt) DataType.S16) 0x7FFF 0x8000 0 1
    ∷ sorts "setp.lt.s16 %p1|%p2, %rs0, %rs1;" (setp_halves (Six Lt) DataType.S16) 0x8000 0x7FFF 1 0
    ∷ sorts "setp.eq.b16 %p1|%p2, %rs0, %rs1;" (setp_halves (Six Eq) DataType.B16) 0x7FFF 0xFFFF 0 1
    ∷ sets "set.gt.u32.s16 %r3, %rs0, %rs1;" (set_halves SetType.U32 (Six Gt) DataType.S16) 0xFFFF 0 0
    ∷ sets "set.gt.u32.u16 %r3, %rs0, %rs1;" (set_halves SetType.U32 (Six Gt) DataType.U16) 0xFFFF 0 0xFFFFFFFF
    ∷ sets "set.hi.s32.u16 %r3, %rs0, %rs1;" (set_halves SetType.S32 (Unsigned Hi) DataType.U16) 0x8000 0x00FF 0xFFFFFFFF
    ∷ sets "set.eq.f32.b16 %r3, %rs0, %rs1;" (set_halves SetType.F32 (Six Eq) DataType.B16) 0xFFFF 0xFFFF 0x3F800000
    ∷ sets "set.eq.f32.b16 %r3, %rs0, %rs1;" (set_halves SetType.F32 (Six Eq) DataType.B16) 0x80FF 0x00FF 0
    -- selp and slct copy 16 bits; c of slct is a word
    ∷ copies "selp.b16 %rs3, %rs0, %rs1, %p0;" (selp_halves DataType.B16 (rs 3)) 0xFFFF 0x8001 0 1 0xFFFF
    ∷ copies "selp.u16 %rs3, %rs0, %rs1, %p0;" (selp_halves DataType.U16 (rs 3)) 0xFFFF 0x8001 0 0 0x8001
    ∷ copies "selp.s16 %rs3, %rs0, %rs1, %p0;" (selp_halves DataType.S16 (rs 3)) 0xFFFF 0x8001 0 1 0xFFFF
    ∷ copies "slct.b16.f32 %rs3, %rs0, %rs1, %r2;" (slct_halves (SlctType.F32 false) DataType.B16) 0xFFFF 0x8001 0x80000000 0 0xFFFF
    ∷ copies "slct.s16.s32 %rs3, %rs0, %rs1, %r2;" (slct_halves SlctType.S32 DataType.S16) 0xFFFF 0x8001 0x7FFFFFFF 0 0xFFFF
    ∷ copies "slct.s16.s32 %rs3, %rs0, %rs1, %r2;" (slct_halves SlctType.S32 DataType.S16) 0xFFFF 0x8001 0x80000000 0 0x8001
    ∷ copies "slct.u16.f32 %rs3, %rs0, %rs1, %r2;" (slct_halves (SlctType.F32 false) DataType.U16) 0xFFFF 0x8001 0x80000001 0 0x8001
    ∷ copies "slct.ftz.u16.f32 %rs3, %rs0, %rs1, %r2;" (slct_halves (SlctType.F32 true) DataType.U16) 0xFFFF 0x8001 0x80000001 0 0xFFFF
    -- 8: a register of another file, and one past the new file
    ∷ answers "selp.u16 %r3, %rs0, %rs1, %p0;" (selp_halves DataType.U16 (Operand.Word (r 3))) (halved 1 2 3 4 5 (three 0 0 0)) (refused 8)
    ∷ answers "selp.u16 %rs32, %rs0, %rs1, %p0;" (selp_halves DataType.U16 (rs 32)) (halved 1 2 3 4 5 (three 0 0 0)) (refused 8)
    ∷ answers "selp.u32 %rs3, %rs0, %rs1, %p0;" (selp_halves DataType.U32 (rs 3)) (halved 1 2 3 4 5 (three 0 0 0)) (refused 8)
    ∷ []

-- what a figure says: its line, its answer, and the files that it leaves
abbrev pub said : Figure → List ℕ × Outcome
said g = (bytes g.line, outcome g.answer g.left)

-- what the definitions give: the standard line of its record, and how that record's run on its files ends
abbrev pub given : Figure → List ℕ × Outcome
given g = (standard g.spelled, run g.target g.spelled g.before)

pub figures_hold : map given figures ≡ map said figures
unfolding figures standard run allows is_legal sizes_fit preds_fit guard_holds after writes arithmetic_of vset_of form_of selected_of exact_of lanes_of lane_holds holds_z lane_result arithmetic_lanes_of combined_of test_of comparison_of value_of not_below_zero lt eq is_nan of_bits of_fields odd
figures_hold = refl
