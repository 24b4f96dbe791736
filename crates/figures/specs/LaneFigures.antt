-- T-14 on examples: SIMD lines with their scalar lines, which leave the same, and with wrong ones, which do not. Each line is spelled out beside its record. a, b, c are `%r0`,
-- `%r1`, `%r2`; the SIMD line writes `%r3`.
use Rattle.std.specs.Prelude.{ℕ, suc, ◌-◌, ◌%◌, ◌<◌, ◌≡◌, Bool, true, false, not, cond, List, [], ◌∷◌, map, replicate, eqb, ltb}
use Prim.Native.String.{String}
use Rattle.std.proofs.Math.Path.{refl}
use Rattle.std.proofs.Common.{arith}
use Rattle.signs.specs.Text.{bytes}
use Rattle.record.specs.Refusals.{is_legal, Legal}
use Rattle.base.specs.Values.{every}
use Rattle.record.specs.Registers.{Files, files, r, at, Inside}
use Rattle.record.specs.Operands.{full_mask, default_a, default_b}
use Rattle.record.specs.declared.Word.{Word}
use Rattle.record.specs.declared.VideoType.{VideoType}
use Rattle.record.specs.declared.VideoType.TheVariants.{U32, S32}
use Rattle.record.specs.declared.Cmp6.{Cmp6}
use Rattle.record.specs.declared.Cmp6.TheVariants.{Lt, Ge}
use Rattle.record.specs.declared.Arith.TheVariants.{Vadd, Vsub, Vmin}
use Rattle.record.specs.declared.Guard.TheVariants.{Always}
use Rattle.record.specs.declared.LaneWidth.{LaneWidth}
use Rattle.record.specs.declared.LaneWidth.TheVariants.{Half, Byte}
use Rattle.record.specs.declared.Mask.{Mask}
use Rattle.record.specs.declared.Digits.{Digits}
use Rattle.record.specs.declared.Lanes.{Lanes}
use Rattle.record.specs.declared.Selector.TheVariants.{B0, B1, B3}
use Rattle.record.specs.declared.Selected.{Selected}
use Rattle.record.specs.declared.Selected.TheVariants.{Whole, Part}
use Rattle.record.specs.declared.Form.{Form}
use Rattle.record.specs.declared.Form.TheVariants.{Plain, Merge}
use Rattle.record.specs.declared.Scalar.{Scalar}
use Rattle.record.specs.declared.Record.{Record}
use Rattle.record.specs.declared.Target.TheVariants.{Sm30}
use Rattle.rules.specs.Numbers.{lane_size, lanes, part_at, exact_of, holds_z}
use Rattle.rules.specs.Execution.{selected_of, form_of, arithmetic_of, vset_of, digit_at, mask_at, lane_holds, lanes_of, lane_result, arithmetic_lanes_of}
use Rattle.rules.specs.StandardLine.{standard}
use Rattle.rules.specs.Targets.{allows}
use Rattle.rules.specs.Executing.{writes, after, sizes_fit, preds_fit, Admitted, guard_holds, run}
use Rattle.rules.specs.LaneScalars.{Operation, compares, computes, simd_of, scalar_of, part_selector, digit_operand, lane_scalar, taken_apart, clamped_apart, run_all}
use Rattle.laws.specs.TakenApartLaws.{vset_lane}
use Rattle.laws.specs.TargetLaws.{newest_allows}

-- a SIMD line, scalar lines, the files before both, and what `%r3` holds after the one and e after the others
pub record Pair : Type 0 where
  pub simd : String
  pub simd_record : Record
  pub lines : List String
  pub line_records : List Record
  pub before : Files
  pub e : Word
  pub after_simd : ℕ
  pub after_lines : ℕ

-- ---- the records of the lines

-- %r0 to %r4, and two more: what a lane may be put in, and what holds 0
abbrev a : Word
a = record { 0 = 0 }

abbrev b : Word
b = record { 0 = 1 }

abbrev c : Word
c = record { 0 = 2 }

abbrev d : Word
d = record { 0 = 3 }

abbrev e : Word
e = record { 0 = 4 }

abbrev spare : Word
spare = record { 0 = 5 }

abbrev none : Word
none = record { 0 = 6 }

-- what a pair says: its lines, and what they leave
abbrev pub said : Pair → List ℕ × List (List ℕ) × ℕ × ℕ
said g = (bytes g.simd, map bytes g.lines, g.after_simd, g.after_lines)

-- what the definitions give: the standard lines of its records, and what their runs leave
abbrev pub given : Pair → List ℕ × List (List ℕ) × ℕ × ℕ
given g =
    (standard g.simd_record, map standard g.line_records, at (run Sm30 g.simd_record g.before).files (r d), at (run_all Sm30 g.line_records g.before) (r g.e))

-- 64 words, of which the first three hold a, b and c; the others, half-words, double-words and predicates are 0
abbrev words : ℕ → ℕ → ℕ → Files
words a b c = files (a ∷ b ∷ c ∷ replicate 61 0) (replicate 32 0) (replicate 32 0) (replicate 16 0)

abbrev digits : ℕ → ℕ → ℕ → ℕ → Digits
digits d3 d2 d1 d0 = record { lane0 = d0; lane1 = d1; lane2 = d2; lane3 = d3 }

abbrev mask : Bool → Bool → Bool → Bool → Mask
mask m3 m2 m1 m0 = record { lane0 = m0; lane1 = m1; lane2 = m2; lane3 = m3 }

abbrev group : LaneWidth → VideoType → VideoType → Bool → Mask → Digits → Digits → Lanes
group w atype btype add m asel bsel =
    record { width = w; atype = atype; btype = btype; add = add; d = d; mask = m; a = a; asel = asel; b = b; bsel = bsel; c = c }

-- four lanes of u32 with default selectors
abbrev bytes_of : Bool → Mask → Lanes
bytes_of add m = group Byte U32 U32 add m (default_a Byte) (default_b Byte)

-- a line of scalar video without guard
abbrev scalar : Operation → VideoType → VideoType → Form → Selected → Selected → Record
scalar o atype btype form x y = record { guard = Always; instruction = scalar_of o (record { atype = atype; btype = btype; form = form; a = x; b = y }) }

abbrev pair : Operation → Lanes → String → List String → List Record → Word → ℕ → ℕ → ℕ → ℕ → ℕ → Pair
pair o l simd lines line_records e x y z v w =
    record { simd = simd; simd_record = record { guard = Always; instruction = simd_of o l }; lines = lines; line_records = line_records; before = words x y z; e = e; after_simd = v; after_lines = w }

-- ---- right: its scalar lines

abbrev right : Operation → Lanes → String → List String → ℕ → ℕ → ℕ → ℕ → Pair
right o l simd lines x y z v = pair o l simd lines (taken_apart Always o l e) e x y z v v

unfoldable pub rights : List Pair
rights =
    -- document 01's figures of vset4 and of `add`
    right (compares Lt) (group Byte S32 U32 false (full_mask Byte) (default_a Byte) (default_b Byte)) "vset4.s32.u32.lt %r3, %r0, %r1, %r2;"
    ("vset.s32.u32.lt %r4.b0, %r0.b0, %r1.b0, %r2;"
    ∷ "vset.s32.u32.lt %r4.b1, %r0.b1, %r1.b1, %r4;"
    ∷ "vset.s32.u32.lt %r4.b2, %r0.b2, %r1.b2, %r4;"
    ∷ "vset.s32.u32.lt %r4.b3, %r0.b3, %r1.b3, %r4;" ∷ [])
    0x80FF0001 0x00000002 0 0x01010001
    ∷ right (compares Lt) (group Byte S32 U32 true (full_mask Byte) (default_a Byte) (default_b Byte)) "vset4.s32.u32.lt.add %r3, %r0, %r1, %r2;"
    ("vset.s32.u32.lt.add %r4, %r0.b0, %r1.b0, %r2;"
    ∷ "vset.s32.u32.lt.add %r4, %r0.b1, %r1.b1, %r4;"
    ∷ "vset.s32.u32.lt.add %r4, %r0.b2, %r1.b2, %r4;"
    ∷ "vset.s32.u32.lt.add %r4, %r0.b3, %r1.b3, %r4;" ∷ [])
    0x80FF0001 0x00000002 0xFFFFFFFF 0x00000002
    -- a's selector picks a part of b, with a's type: FF is -1 on the left and 255 on the right. b's selector picks a part of a, with b's type
    ∷ right (compares Lt) (group Byte S32 U32 false (mask true false false true) (digits 7 2 1 0) (digits 7 6 5 1)) "vset4.s32.u32.lt %r3.b30, %r0.b7210, %r1.b7651, %r2;"
    ("vset.s32.u32.lt %r4.b0, %r0.b0, %r0.b1, %r2;" ∷ "vset.s32.u32.lt %r4.b3, %r1.b3, %r1.b3, %r4;" ∷ [])
    0x0000FF80 0xFF000000 0xAABBCCDD 0x01BBCC01
    -- halves
    ∷ right (compares Ge) (group Half U32 U32 false (mask false false true false) (digits 0 0 0 1) (default_b Half)) "vset2.u32.u32.ge %r3.h1, %r0.h01, %r1, %r2;"
    ("vset.u32.u32.ge %r4.h1, %r0.h0, %r1.h1, %r2;" ∷ []) 0x00010002 0x00020002 0xAABBCCDD 0x0001CCDD
    -- T-01's figures: `sat` clamps at the lane's width, the low bits of a lane, exact results added
    ∷ right (computes Vadd U32 true) (bytes_of false (full_mask Byte)) "vadd4.u32.u32.u32.sat %r3, %r0, %r1, %r2;"
    ("vadd.u32.u32.u32.sat %r4.b0, %r0.b0, %r1.b0, %r2;"
    ∷ "vadd.u32.u32.u32.sat %r4.b1, %r0.b1, %r1.b1, %r4;"
    ∷ "vadd.u32.u32.u32.sat %r4.b2, %r0.b2, %r1.b2, %r4;"
    ∷ "vadd.u32.u32.u32.sat %r4.b3, %r0.b3, %r1.b3, %r4;" ∷ [])
    0xFF800102 0x01800304 0 0xFFFF0406
    ∷ right (computes Vsub S32 false) (bytes_of false (mask false true false true)) "vsub4.s32.u32.u32 %r3.b20, %r0, %r1, %r2;"
    ("vsub.s32.u32.u32 %r4.b0, %r0.b0, %r1.b0, %r2;" ∷ "vsub.s32.u32.u32 %r4.b2, %r0.b2, %r1.b2, %r4;" ∷ []) 0x00FF0005 0x01010101 0xAABBCCDD 0xAAFECC04
    ∷ right (computes Vsub U32 false) (bytes_of true (full_mask Byte)) "vsub4.u32.u32.u32.add %r3, %r0, %r1, %r2;"
    ("vsub.u32.u32.u32.add %r4, %r0.b0, %r1.b0, %r2;"
    ∷ "vsub.u32.u32.u32.add %r4, %r0.b1, %r1.b1, %r4;"
    ∷ "vsub.u32.u32.u32.add %r4, %r0.b2, %r1.b2, %r4;"
    ∷ "vsub.u32.u32.u32.add %r4, %r0.b3, %r1.b3, %r4;" ∷ [])
    0 0x01010101 0x10 0x0000000C
    -- halves: -1 by a's type against FFFF by b's, and -32768 against 1
    ∷ right (computes Vmin U32 false) (group Half S32 U32 true (full_mask Half) (digits 0 0 1 2) (default_b Half)) "vmin2.u32.s32.u32.add %r3, %r0.h12, %r1, %r2;"
    ("vmin.u32.s32.u32.add %r4, %r1.h0, %r1.h0, %r2;" ∷ "vmin.u32.s32.u32.add %r4, %r0.h1, %r1.h1, %r4;" ∷ []) 0x80000005 0x0001FFFF 0x10 0xFFFF800F
    -- `sat` with `add`: a lane is clamped in its own part of %r5, and that part is added by dtype
    ∷ pair (computes Vsub S32 true) (bytes_of true (mask true false false true)) "vsub4.s32.u32.u32.sat.add %r3.b30, %r0, %r1, %r2;"
    ("vsub.s32.u32.u32.sat %r5.b0, %r0.b0, %r1.b0, %r5;"
    ∷ "vadd.s32.s32.s32 %r4, %r5.b0, %r2;"
    ∷ "vsub.s32.u32.u32.sat %r5.b3, %r0.b3, %r1.b3, %r5;"
    ∷ "vadd.s32.s32.s32 %r4, %r5.b3, %r4;" ∷ [])
    (clamped_apart Always Vsub S32 (bytes_of true (mask true false false true)) spare e) e 0x00FF1080 0xFF001001 0x10 0x0000000F 0x0000000F
    ∷ []

pub rights_hold : map given rights ≡ map said rights
unfolding rights standard run allows is_legal sizes_fit preds_fit guard_holds after writes arithmetic_of vset_of form_of selected_of exact_of lanes_of lane_holds holds_z lane_result arithmetic_lanes_of
rights_hold = refl

-- ---- wrong: SIMD lines taken apart by a wrong rule

unfoldable pub wrongs : List Pair
wrongs =
    -- the type goes with the register: b's FF is 255 on both sides
    pair (compares Lt) (group Byte S32 U32 false (mask true false false false) (digits 7 2 1 0) (default_b Byte)) "vset4.s32.u32.lt %r3.b3, %r0.b7210, %r1, %r2;"
    ("vset.u32.u32.lt %r4.b3, %r1.b3, %r1.b3, %r2;" ∷ []) (scalar (compares Lt) U32 U32 (Merge e B3 c) (Part b B3) (Part b B3) ∷ []) e
    0 0xFF000000 0 0x01000000 0
    -- a digit of b's selector counts b's own parts
    ∷ pair (compares Lt) (group Byte U32 U32 false (mask false false false true) (default_a Byte) (digits 7 6 5 0)) "vset4.u32.u32.lt %r3.b0, %r0, %r1.b7650, %r2;"
    ("vset.u32.u32.lt %r4.b0, %r0.b0, %r1.b0, %r2;" ∷ []) (scalar (compares Lt) U32 U32 (Merge e B0 c) (Part a B0) (Part b B0) ∷ []) e
    1 2 0 0 1
    -- the leftmost digit names lane 0
    ∷ pair (compares Lt) (group Byte U32 U32 false (mask false false false true) (digits 0 1 2 3) (default_b Byte)) "vset4.u32.u32.lt %r3.b0, %r0.b0123, %r1, %r2;"
    ("vset.u32.u32.lt %r4.b0, %r0.b0, %r1.b3, %r2;" ∷ []) (scalar (compares Lt) U32 U32 (Merge e B0 c) (Part a B0) (Part b B3) ∷ []) e
    0x05000001 0x02000002 0 0 1
    -- lanes that the mask does not name are added
    ∷ pair (compares Lt) (bytes_of true (mask false false false true)) "vset4.u32.u32.lt.add %r3.b0, %r0, %r1, %r2;"
    ("vset.u32.u32.lt.add %r4, %r0.b0, %r1.b0, %r2;"
    ∷ "vset.u32.u32.lt.add %r4, %r0.b1, %r1.b1, %r4;"
    ∷ "vset.u32.u32.lt.add %r4, %r0.b2, %r1.b2, %r4;"
    ∷ "vset.u32.u32.lt.add %r4, %r0.b3, %r1.b3, %r4;" ∷ [])
    (taken_apart Always (compares Lt) (bytes_of true (full_mask Byte)) e) e
    0 0x01010101 0 1 4
    -- each line takes c
    ∷ pair (compares Lt) (bytes_of false (mask false false true true)) "vset4.u32.u32.lt %r3.b10, %r0, %r1, %r2;"
    ("vset.u32.u32.lt %r4.b0, %r0.b0, %r1.b0, %r2;" ∷ "vset.u32.u32.lt %r4.b1, %r0.b1, %r1.b1, %r2;" ∷ [])
    (scalar (compares Lt) U32 U32 (Merge e B0 c) (Part a B0) (Part b B0) ∷ scalar (compares Lt) U32 U32 (Merge e B1 c) (Part a B1) (Part b B1) ∷ []) e
    0 0x01010101 0 0x00000101 0x00000100
    -- they write a, which later lines read
    ∷ pair (computes Vadd U32 false) (group Byte U32 U32 false (full_mask Byte) (digits 0 1 2 3) (default_b Byte)) "vadd4.u32.u32.u32 %r3, %r0.b0123, %r1, %r2;"
    ("vadd.u32.u32.u32 %r0.b0, %r0.b3, %r1.b0, %r2;"
    ∷ "vadd.u32.u32.u32 %r0.b1, %r0.b2, %r1.b1, %r0;"
    ∷ "vadd.u32.u32.u32 %r0.b2, %r0.b1, %r1.b2, %r0;"
    ∷ "vadd.u32.u32.u32 %r0.b3, %r0.b0, %r1.b3, %r0;" ∷ [])
    (taken_apart Always (computes Vadd U32 false) (group Byte U32 U32 false (full_mask Byte) (digits 0 1 2 3) (default_b Byte)) a) a
    0x04030201 0x10101010 0x04030201 0x11121314 0x24231314
    -- `add` adds the low bits of a lane
    ∷ pair (computes Vadd U32 false) (bytes_of true (mask true false false false)) "vadd4.u32.u32.u32.add %r3.b3, %r0, %r1, %r2;"
    ("vadd.u32.u32.u32 %r5.b3, %r0.b3, %r1.b3, %r6;" ∷ "vadd.u32.u32.u32 %r4, %r5.b3, %r2;" ∷ [])
    (scalar (computes Vadd U32 false) U32 U32 (Merge spare B3 none) (Part a B3) (Part b B3) ∷ scalar (computes Vadd U32 false) U32 U32 (Plain e) (Part spare B3) (Whole c) ∷ []) e
    0xFF000000 0x01000000 0 0x00000100 0
    -- `sat` with `add` in one scalar line, which clamps at 32 bits
    ∷ pair (computes Vadd U32 true) (bytes_of true (mask true false false false)) "vadd4.u32.u32.u32.sat.add %r3.b3, %r0, %r1, %r2;"
    ("vadd.u32.u32.u32.sat.add %r4, %r0.b3, %r1.b3, %r2;" ∷ []) (taken_apart Always (computes Vadd U32 true) (bytes_of true (mask true false false false)) e) e
    0xFF000000 0x01000000 0 0x000000FF 0x00000100
    -- `sat` with `add`, the clamped part read as unsigned although dtype is s32
    ∷ pair (computes Vsub S32 true) (bytes_of true (mask false false false true)) "vsub4.s32.u32.u32.sat.add %r3.b0, %r0, %r1, %r2;"
    ("vsub.s32.u32.u32.sat %r5.b0, %r0.b0, %r1.b0, %r6;" ∷ "vadd.u32.u32.u32 %r4, %r5.b0, %r2;" ∷ [])
    (scalar (computes Vsub S32 true) U32 U32 (Merge spare B0 none) (Part a B0) (Part b B0) ∷ scalar (computes Vadd U32 false) U32 U32 (Plain e) (Part spare B0) (Whole c) ∷ []) e
    0 1 0x10 0x0000000F 0x0000010F
    ∷ []

pub wrongs_hold : map given wrongs ≡ map said wrongs
unfolding wrongs standard run allows is_legal sizes_fit preds_fit guard_holds after writes arithmetic_of vset_of form_of selected_of exact_of lanes_of lane_holds holds_z lane_result arithmetic_lanes_of
wrongs_hold = refl

-- none of them leaves what the SIMD line leaves
pub wrongs_differ : every (λ g. not (eqb g.after_simd g.after_lines)) wrongs ≡ true
unfolding wrongs
wrongs_differ = refl

-- ---- which scalar a lane has: the rule of `lane_scalar` gives the lane, and no other of these does

-- the law of vset2 and vset4, for a rule that gives a lane its scalar
abbrev pub LaneIsVset : (Lanes → ℕ → Form → Scalar) → Type 0
LaneIsVset rule =
    (x : Record) (f : Files) → Legal x → Admitted f → guard_holds f.preds x.guard ≡ true
    → (l : Lanes) (cmp : Cmp6) → x.instruction ≡ simd_of (compares cmp) l → l.add ≡ false
    → (i : ℕ) → i < lanes l.width → mask_at l.mask i ≡ true → (d : Word) → Inside (r d)
    → part_at (lane_size l.width) (at (run Sm30 x f).files (r l.d)) i ≡ at (run Sm30 (record { guard = x.guard; instruction = scalar_of (compares cmp) (rule l i (Plain d)) }) f).files (r d)

pub by_the_side : LaneIsVset lane_scalar
by_the_side x f legal admitted guard l cmp is plain i h m d inside = vset_lane Sm30 x (record { legal = legal; allowed = newest_allows x }) l f admitted guard cmp is i h d inside plain m

-- what a wrong rule would give of a line's record and files
module _ (rule : Lanes → ℕ → Form → Scalar) (law : LaneIsVset rule) where
  part_by_lem : (l : Lanes) (f : Files) → is_legal (record { guard = Always; instruction = simd_of (compares Lt) l }) ≡ true → Admitted f
      → l.add ≡ false → (i : ℕ) → i < lanes l.width → mask_at l.mask i ≡ true
      → part_at (lane_size l.width) (at (run Sm30 (record { guard = Always; instruction = simd_of (compares Lt) l }) f).files (r l.d)) i
      ≡ at (run Sm30 (record { guard = Always; instruction = scalar_of (compares Lt) (rule l i (Plain e)) }) f).files (r e)
  unfolding guard_holds
  part_by_lem l f legal admitted plain i h m = law (record { guard = Always; instruction = simd_of (compares Lt) l }) f legal admitted refl l Lt refl plain i h m e (omega arith)

-- the type goes with the register
abbrev type_of : Lanes → ℕ → VideoType
type_of l k = cond (ltb k (lanes l.width)) l.atype l.btype

abbrev by_register : Lanes → ℕ → Form → Scalar
by_register l i form = record {
  atype = type_of l (digit_at l.asel i);
  btype = type_of l (digit_at l.bsel i);
  form = form;
  a = digit_operand l (digit_at l.asel i);
  b = digit_operand l (digit_at l.bsel i);
}

-- lane 3 of vset4.s32.u32.lt %r3, %r0.b7210, %r1, %r2; is 1, and vset.u32.u32.lt %r4, %r1.b3, %r1.b3; gives 0
pub not_by_register : LaneIsVset by_register → ⊥
unfolding run allows is_legal sizes_fit preds_fit guard_holds after writes vset_of form_of selected_of exact_of lanes_of lane_holds holds_z
not_by_register law =
    let z : ◌≡◌ {A = ℕ} 1 0 = part_by_lem by_register law (group Byte S32 U32 false (full_mask Byte) (digits 7 2 1 0) (default_b Byte)) (words 0 0xFF000000 0) refl (record { sizes = refl; bits = refl }) refl 3 (omega arith) refl in
    omega arith

-- a selector picks parts of its own register alone
abbrev own_parts : Lanes → ℕ → Form → Scalar
own_parts l i form = record {
  atype = l.atype;
  btype = l.btype;
  form = form;
  a = Part l.a (part_selector l.width (digit_at l.asel i % lanes l.width));
  b = Part l.b (part_selector l.width (digit_at l.bsel i % lanes l.width));
}

-- lane 0 of vset4.u32.u32.lt %r3, %r0, %r1.b7650, %r2; is 0, and vset.u32.u32.lt %r4, %r0.b0, %r1.b0; gives 1
pub not_own_parts : LaneIsVset own_parts → ⊥
unfolding run allows is_legal sizes_fit preds_fit guard_holds after writes vset_of form_of selected_of exact_of lanes_of lane_holds holds_z
not_own_parts law =
    let z : ◌≡◌ {A = ℕ} 0 1 = part_by_lem own_parts law (group Byte U32 U32 false (full_mask Byte) (default_a Byte) (digits 7 6 5 0)) (words 1 2 0) refl (record { sizes = refl; bits = refl }) refl 0 (omega arith) refl in
    omega arith

-- the leftmost digit names lane 0
abbrev leftmost_first : Lanes → ℕ → Form → Scalar
leftmost_first l i form = record {
  atype = l.atype;
  btype = l.btype;
  form = form;
  a = digit_operand l (digit_at l.asel (lanes l.width - suc i));
  b = digit_operand l (digit_at l.bsel (lanes l.width - suc i));
}

-- lane 0 of vset4.u32.u32.lt %r3, %r0.b0123, %r1, %r2; is 0, and vset.u32.u32.lt %r4, %r0.b0, %r1.b3; gives 1
pub not_leftmost_first : LaneIsVset leftmost_first → ⊥
unfolding run allows is_legal sizes_fit preds_fit guard_holds after writes vset_of form_of selected_of exact_of lanes_of lane_holds holds_z
not_leftmost_first law =
    let z : ◌≡◌ {A = ℕ} 0 1 = part_by_lem leftmost_first law (group Byte U32 U32 false (full_mask Byte) (digits 0 1 2 3) (default_b Byte)) (words 0x05000001 0x02000002 0) refl (record { sizes = refl; bits = refl }) refl 0 (omega arith) refl in
    omega arith
