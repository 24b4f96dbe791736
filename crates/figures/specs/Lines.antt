-- Standard lines over the definition: those of document 01's example listing, and others of each kind of opcode, form and default. One list with one claim.
use Rattle.std.specs.Prelude.{ℕ, ◌≡◌, refl, true, false, List, [], ◌∷◌, map}
use Rattle.signs.specs.Text.{bytes}
use Rattle.record.specs.Operands.{full_mask, default_a, default_b}
use Rattle.record.specs.declared.Word.{Word}
use Rattle.record.specs.declared.Pred.{Pred}
use Rattle.record.specs.declared.Condition.{Condition}
use Rattle.record.specs.declared.VideoType.TheVariants.{U32, S32}
use Rattle.record.specs.declared.DataType.{DataType}
use Rattle.record.specs.declared.SetType.{SetType}
use Rattle.record.specs.declared.SlctType.{SlctType}
use Rattle.record.specs.declared.Cmp6.TheVariants.{Eq, Lt, Gt, Ge}
use Rattle.record.specs.declared.CmpF.TheVariants.{Ltu}
use Rattle.record.specs.declared.CmpU.TheVariants.{Lo}
use Rattle.record.specs.declared.CmpOp.{CmpOp}
use Rattle.record.specs.declared.BoolOp.TheVariants.{And, Xor}
use Rattle.record.specs.declared.Op2.TheVariants.{Min}
use Rattle.record.specs.declared.Arith.TheVariants.{Vadd, Vabsdiff}
use Rattle.record.specs.declared.LaneArith.TheVariants.{Scalar, Vavrg}
use Rattle.record.specs.declared.Guard.TheVariants.{Always, When}
use Rattle.record.specs.declared.Combination.TheVariants.{Alone, With}
use Rattle.record.specs.declared.Selector.TheVariants.{B0, B2, H1}
use Rattle.record.specs.declared.Selected.TheVariants.{Whole, Part}
use Rattle.record.specs.declared.Form.TheVariants.{Plain, Merge, Combine}
use Rattle.record.specs.declared.LaneWidth.TheVariants.{Half, Byte}
use Rattle.record.specs.declared.Operand.{Operand}
use Rattle.record.specs.declared.Destination.TheVariants.{One, Pair, First, Second}
use Rattle.record.specs.declared.Instruction.{Instruction}
use Rattle.record.specs.declared.Instruction.TheVariants.{Arithmetic, Vset, VsetLanes, ArithmeticLanes, Set, Setp, Selp, Slct}
use Rattle.record.specs.declared.Record.{Record}
use Rattle.rules.specs.StandardLine.{standard}

pub record Standing : Type 0 where
  pub meant : Record
  pub line : List ℕ

abbrev is : Record → List ℕ → Standing
is m l = record { meant = m; line = l }

abbrev always : Instruction → Record
always i = record { guard = Always; instruction = i }

abbrev r : ℕ → Word
r n = record { 0 = n }

abbrev rd : ℕ → Operand
rd n = Operand.Double (record { 0 = n })

abbrev rs : ℕ → Operand
rs n = Operand.Half (record { 0 = n })

abbrev p : ℕ → Pred
p n = record { 0 = n }

abbrev inverted : ℕ → Condition
inverted n = record { inverted = true; pred = p n }

abbrev plain : ℕ → Condition
plain n = record { inverted = false; pred = p n }

abbrev w : ℕ → Operand
w n = Operand.Word (r n)

-- ---- records that Answered.antt reads, too

abbrev pub example_vset4 : Record
example_vset4 =
    always
    (VsetLanes Lt
    (record {
      width = Byte;
      atype = U32;
      btype = U32;
      add = false;
      d = r 10;
      mask = full_mask Byte;
      a = r 1;
      asel = default_a Byte;
      b = r 2;
      bsel = default_b Byte;
      c = r 0;
    }))

abbrev pub example_setp : Record
example_setp = always (Setp (First (p 1)) (record { cmp = CmpOp.Six Lt; combination = Alone; ftz = false; stype = DataType.U32; a = w 1; b = w 2 }))

abbrev pub example_selp : Record
example_selp =
    record {
      guard = When (inverted 1);
      instruction = Selp (record { dtype = DataType.U32; d = w 11; a = w 1; b = w 2 }) (p 1);
    }

abbrev pub highest_word : Record
highest_word = always (Arithmetic Vadd U32 false (record { atype = U32; btype = U32; form = Plain (r 63); a = Whole (r 1); b = Whole (r 2) }))

abbrev pub half_selp : Record
half_selp = record { guard = When (plain 1); instruction = Selp (record { dtype = DataType.B16; d = rs 5; a = rs 31; b = rs 2 }) (p 1) }

abbrev pub half_set : Record
half_set = always (Set SetType.U32 (r 1) (record { cmp = CmpOp.Six Gt; combination = Alone; ftz = false; stype = DataType.S16; a = rs 5; b = rs 0 }))

-- T-07: read at old targets
abbrev pub double_set : Record
double_set = always (Set SetType.U32 (r 1) (record { cmp = CmpOp.Six Lt; combination = Alone; ftz = false; stype = DataType.F64; a = rd 2; b = rd 3 }))

abbrev pub bits_selp : Record
bits_selp = always (Selp (record { dtype = DataType.B64; d = rd 1; a = rd 2; b = rd 3 }) (p 1))

abbrev pub flushed_slct : Record
flushed_slct = always (Slct (SlctType.F32 true) (record { dtype = DataType.F32; d = w 1; a = w 2; b = w 3 }) (r 4))

-- T-09: a line against itself, and four that strict reading reads
abbrev pub same_vset4 : Record
same_vset4 =
    always
    (VsetLanes Lt
    (record {
      width = Byte;
      atype = U32;
      btype = U32;
      add = false;
      d = r 1;
      mask = full_mask Byte;
      a = r 2;
      asel = default_a Byte;
      b = r 2;
      bsel = default_b Byte;
      c = r 4;
    }))

abbrev pub apart_vset4 : Record
apart_vset4 =
    always
    (VsetLanes Lt
    (record {
      width = Byte;
      atype = U32;
      btype = S32;
      add = false;
      d = r 1;
      mask = record { lane0 = false; lane1 = false; lane2 = true; lane3 = true };
      a = r 2;
      asel = default_a Byte;
      b = r 3;
      bsel = record { lane0 = 0; lane1 = 5; lane2 = 6; lane3 = 7 };
      c = r 4;
    }))

abbrev pub apart_vset2 : Record
apart_vset2 =
    always
    (VsetLanes Eq
    (record {
      width = Half;
      atype = U32;
      btype = U32;
      add = false;
      d = r 1;
      mask = record { lane0 = true; lane1 = false; lane2 = false; lane3 = false };
      a = r 2;
      asel = record { lane0 = 1; lane1 = 0; lane2 = 0; lane3 = 0 };
      b = r 2;
      bsel = record { lane0 = 2; lane1 = 0; lane2 = 0; lane3 = 0 };
      c = r 4;
    }))

abbrev pub same_vadd4 : Record
same_vadd4 =
    always
    (ArithmeticLanes (Scalar Vadd) U32 false
    (record {
      width = Byte;
      atype = U32;
      btype = U32;
      add = false;
      d = r 1;
      mask = full_mask Byte;
      a = r 2;
      asel = default_a Byte;
      b = r 2;
      bsel = default_b Byte;
      c = r 4;
    }))

abbrev pub same_vset : Record
same_vset = always (Vset Lt (record { atype = U32; btype = U32; form = Plain (r 1); a = Part (r 2) B0; b = Part (r 2) B0 }))

-- ---- the lines

unfoldable pub lines : List Standing
lines =
    -- document 01's example
    is example_vset4 (bytes "vset4.u32.u32.lt %r10, %r1, %r2, %r0;")
    ∷ is example_setp (bytes "setp.lt.u32 %p1|_, %r1, %r2;")
    ∷ is example_selp (bytes "@!%p1 selp.u32 %r11, %r1, %r2, %p1;")
    -- the highest word register
    ∷ is highest_word (bytes "vadd.u32.u32.u32 %r63, %r1, %r2;")
    -- every other form
    ∷ is
    (always
    (Arithmetic Vadd S32 true (record { atype = S32; btype = U32; form = Combine Min (r 1) (r 4); a = Part (r 2) B0; b = Part (r 3) H1 })))
    (bytes "vadd.s32.s32.u32.sat.min %r1, %r2.b0, %r3.h1, %r4;")
    ∷ is
    (always
    (Arithmetic Vabsdiff U32 false (record { atype = U32; btype = S32; form = Merge (r 63) B2 (r 0); a = Whole (r 9); b = Whole (r 10) })))
    (bytes "vabsdiff.u32.u32.s32 %r63.b2, %r9, %r10, %r0;")
    ∷ is (always (Vset Ge (record { atype = S32; btype = S32; form = Plain (r 1); a = Whole (r 2); b = Whole (r 3) })))
    (bytes "vset.s32.s32.ge %r1, %r2, %r3;")
    ∷ is
    (always
    (VsetLanes Ge
    (record {
      width = Half;
      atype = U32;
      btype = S32;
      add = true;
      d = r 1;
      mask = record { lane0 = false; lane1 = true; lane2 = false; lane3 = false };
      a = r 2;
      asel = default_b Half;
      b = r 3;
      bsel = default_a Half;
      c = r 4;
    }))) (bytes "vset2.u32.s32.ge.add %r1.h1, %r2.h32, %r3.h10, %r4;")
    ∷ is
    (always
    (VsetLanes Lt
    (record {
      width = Byte;
      atype = U32;
      btype = U32;
      add = false;
      d = r 1;
      mask = record { lane0 = true; lane1 = false; lane2 = true; lane3 = true };
      a = r 2;
      asel = record { lane0 = 7; lane1 = 0; lane2 = 3; lane3 = 4 };
      b = r 3;
      bsel = default_b Byte;
      c = r 4;
    }))) (bytes "vset4.u32.u32.lt %r1.b320, %r2.b4307, %r3, %r4;")
    -- T-01
    ∷ is
    (always
    (ArithmeticLanes Vavrg S32 false
    (record {
      width = Half;
      atype = U32;
      btype = S32;
      add = true;
      d = r 1;
      mask = full_mask Half;
      a = r 2;
      asel = default_a Half;
      b = r 3;
      bsel = default_a Half;
      c = r 4;
    }))) (bytes "vavrg2.s32.u32.s32.add %r1, %r2, %r3.h10, %r4;")
    ∷ is
    (always
    (ArithmeticLanes (Scalar Vabsdiff) U32 true
    (record {
      width = Byte;
      atype = U32;
      btype = U32;
      add = true;
      d = r 1;
      mask = record { lane0 = true; lane1 = false; lane2 = true; lane3 = false };
      a = r 2;
      asel = record { lane0 = 7; lane1 = 0; lane2 = 3; lane3 = 4 };
      b = r 3;
      bsel = default_b Byte;
      c = r 4;
    }))) (bytes "vabsdiff4.u32.u32.u32.sat.add %r1.b20, %r2.b4307, %r3, %r4;")
    ∷ is
    (record {
      guard = When (plain 15);
      instruction = Set SetType.F32 (r 5)
          (record { cmp = CmpOp.Float Ltu; combination = With And (inverted 3); ftz = true; stype = DataType.F32; a = w 6; b = w 7 });
    }) (bytes "@%p15 set.ltu.and.ftz.f32.f32 %r5, %r6, %r7, !%p3;")
    ∷ is
    (always
    (Setp (Pair (p 0) (p 1))
    (record { cmp = CmpOp.Unsigned Lo; combination = With Xor (plain 2); ftz = false; stype = DataType.U64; a = rd 30; b = rd 31 })))
    (bytes "setp.lo.xor.u64 %p0|%p1, %rd30, %rd31, %p2;")
    ∷ is (always (Setp (Second (p 4)) (record { cmp = CmpOp.Six Lt; combination = Alone; ftz = false; stype = DataType.S32; a = w 1; b = w 2 })))
    (bytes "setp.lt.s32 _|%p4, %r1, %r2;")
    ∷ is (always (Setp (One (p 4)) (record { cmp = CmpOp.Six Lt; combination = Alone; ftz = false; stype = DataType.F64; a = rd 1; b = rd 2 })))
    (bytes "setp.lt.f64 %p4, %rd1, %rd2;")
    ∷ is (always (Slct SlctType.S32 (record { dtype = DataType.B64; d = rd 1; a = rd 2; b = rd 3 }) (r 4))) (bytes "slct.b64.s32 %rd1, %rd2, %rd3, %r4;")
    ∷ is flushed_slct (bytes "slct.ftz.f32.f32 %r1, %r2, %r3, %r4;")
    -- T-06
    ∷ is
    (always
    (Setp (First (p 0))
    (record { cmp = CmpOp.Unsigned Lo; combination = With Xor (inverted 2); ftz = false; stype = DataType.U16; a = rs 0; b = rs 31 })))
    (bytes "setp.lo.xor.u16 %p0|_, %rs0, %rs31, !%p2;")
    ∷ is (always (Set SetType.F32 (r 63) (record { cmp = CmpOp.Six Lt; combination = Alone; ftz = false; stype = DataType.S16; a = rs 1; b = rs 2 })))
    (bytes "set.lt.f32.s16 %r63, %rs1, %rs2;")
    ∷ is (always (Slct (SlctType.F32 true) (record { dtype = DataType.B16; d = rs 1; a = rs 2; b = rs 3 }) (r 4)))
    (bytes "slct.ftz.b16.f32 %rs1, %rs2, %rs3, %r4;")
    ∷ is half_selp (bytes "@%p1 selp.b16 %rs5, %rs31, %rs2, %p1;")
    ∷ is half_set (bytes "set.gt.u32.s16 %r1, %rs5, %rs0;")
    ∷ is double_set (bytes "set.lt.u32.f64 %r1, %rd2, %rd3;")
    ∷ is bits_selp (bytes "selp.b64 %rd1, %rd2, %rd3, %p1;")
    ∷ is same_vset4 (bytes "vset4.u32.u32.lt %r1, %r2, %r2, %r4;")
    ∷ is apart_vset4 (bytes "vset4.u32.s32.lt %r1.b32, %r2, %r3.b7650, %r4;")
    ∷ is apart_vset2 (bytes "vset2.u32.u32.eq %r1.h0, %r2.h01, %r2.h02, %r4;")
    ∷ is same_vadd4 (bytes "vadd4.u32.u32.u32 %r1, %r2, %r2, %r4;")
    ∷ is same_vset (bytes "vset.u32.u32.lt %r1, %r2.b0, %r2.b0;")
    ∷ []

-- each record's standard line is the text that stands beside it
pub lines_hold : map (λ (s : Standing). standard s.meant) lines ≡ map (λ (s : Standing). s.line) lines
unfolding lines standard
lines_hold = refl
