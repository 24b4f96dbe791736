-- Document 01, "What execution does": its bullets in their order, with request T-01 after vset2 and vset4 and T-02 in slct, as functions of what the registers hold before. Each sentence stands above
-- what says it; those on files, guards and places are in Executing.antt. Words are untyped, so an f32 is its bits. Subnormal numbers are kept,
-- unless `ftz` stands there or, T-07, the target flushes (Targets.antt).
use Rattle.std.specs.Prelude.{ℕ, zero, suc, ◌+◌, ◌-◌, ◌/◌, ◌%◌, Bool, true, false, not, ◌&&◌, ◌||◌, cond, ℤ, pos, negsuc, neg_ℤ, ◌+ℤ◌, ◌-ℤ◌, ltb, leb, eqb, Float}
use Rattle.std.specs.Bool.{beq}
use Rattle.std.specs.Int.Signed.{lt_z, le_z}
use Rattle.std.specs.Float.{binary32, binary64}
use Rattle.std.specs.Float.Ieee.{of_bits, is_nan, lt, eq, top, hid}
use Rattle.record.specs.declared.VideoType.{VideoType}
use Rattle.record.specs.declared.LaneWidth.{LaneWidth}
use Rattle.record.specs.declared.LaneWidth.TheVariants.{Half, Byte}
use Rattle.record.specs.declared.Selector.{Selector}
use Rattle.record.specs.declared.Selector.TheVariants.{B0, B1, B2, B3, H0, H1}
use Rattle.record.specs.declared.Selected.{Selected}
use Rattle.record.specs.declared.Form.{Form}
use Rattle.record.specs.declared.Form.TheVariants.{Plain, Merge, Combine}
use Rattle.record.specs.declared.Scalar.{Scalar}
use Rattle.record.specs.declared.Arith.{Arith}
use Rattle.record.specs.declared.Arith.TheVariants.{Vadd, Vsub, Vabsdiff, Vmin, Vmax}
use Rattle.record.specs.declared.LaneArith.{LaneArith}
use Rattle.record.specs.declared.Op2.{Op2}
use Rattle.record.specs.declared.Op2.TheVariants.{Add, Min, Max}
use Rattle.record.specs.declared.Mask.{Mask}
use Rattle.record.specs.declared.Digits.{Digits}
use Rattle.record.specs.declared.Lanes.{Lanes}
use Rattle.record.specs.declared.Cmp6.{Cmp6}
use Rattle.record.specs.declared.Cmp6.TheVariants.{Eq, Ne, Lt, Le, Gt, Ge}
use Rattle.record.specs.declared.CmpU.TheVariants.{Lo, Ls, Hi, Hs}
use Rattle.record.specs.declared.CmpF.TheVariants.{Equ, Neu, Ltu, Leu, Gtu, Geu, Num, Nan}
use Rattle.record.specs.declared.CmpOp.{CmpOp}
use Rattle.record.specs.declared.DataType.{DataType}
use Rattle.record.specs.declared.DataType.TheVariants.{B16, B32, B64, U16, U32, U64, S16, S32, S64, F32, F64}
use Rattle.record.specs.declared.BoolOp.{BoolOp}
use Rattle.record.specs.declared.BoolOp.TheVariants.{And, Or, Xor}
use Rattle.record.specs.declared.SetType.{SetType}
use Rattle.record.specs.declared.SlctType.{SlctType}
use Rattle.rules.specs.Numbers.{word_size, half_size, double_size, lane_size, lanes, part_at, joined, exact_of, is_signed, low_of, min_z, max_z, bit, holds_z}

-- ==== Scalar video

-- which part of a word a selector names: b0 b1 b2 b3 h0 h1
abbrev pub selector_width : Selector → LaneWidth
selector_width B0 = Byte
selector_width B1 = Byte
selector_width B2 = Byte
selector_width B3 = Byte
selector_width H0 = Half
selector_width H1 = Half

abbrev pub selector_part : Selector → ℕ
selector_part B0 = 0
selector_part B1 = 1
selector_part B2 = 2
selector_part B3 = 3
selector_part H0 = 0
selector_part H1 = 1

-- a and b give the selected byte, half or word as an exact signed or unsigned number by its type
unfoldable pub selected_of : VideoType → Selected → ℕ → ℤ
selected_of t (Selected.Whole w) x = exact_of (is_signed t) word_size x
selected_of t (Selected.Part w sel) x = exact_of (is_signed t) (lane_size (selector_width sel)) (part_at (lane_size (selector_width sel)) x (selector_part sel))

-- The sum, difference, absolute difference, minimum or maximum stays exact until the low 32 bits are taken, also where 002 names a narrower type
abbrev pub arith_z : Arith → ℤ → ℤ → ℤ
arith_z Vadd x y = x +ℤ y
arith_z Vsub x y = x -ℤ y
arith_z Vabsdiff x y = cond (lt_z x y) (y -ℤ x) (x -ℤ y)
arith_z Vmin x y = min_z x y
arith_z Vmax x y = max_z x y

-- the range of a type with n values
abbrev pub lowest_z : Bool → ℕ → ℤ
lowest_z true n = neg_ℤ (pos (n / 2))
lowest_z false n = pos 0

abbrev pub highest_z : Bool → ℕ → ℤ
highest_z true n = pos (n / 2 - 1)
highest_z false n = pos (n - 1)

-- how many values there are at the width of d's selector, 32 bits if none
abbrev pub form_size : Form → ℕ
form_size (Plain d) = word_size
form_size (Merge d sel c) = lane_size (selector_width sel)
form_size (Combine op d c) = word_size

-- `sat` clamps to the range of dtype at the width of d's selector
abbrev pub clamped_of : Bool → Bool → ℕ → ℤ → ℤ
clamped_of sat signed n z = cond sat (min_z (max_z z (lowest_z signed n)) (highest_z signed n)) z

abbrev pub op2_z : Op2 → ℤ → ℤ → ℤ
op2_z Add x y = x +ℤ y
op2_z Min x y = min_z x y
op2_z Max x y = max_z x y

-- the word c with v as its part k
abbrev pub replaced : LaneWidth → ℕ → ℕ → ℕ → ℕ
replaced w k c v = joined (lane_size w) (lanes w) (λ i. cond (eqb i k) v (part_at (lane_size w) c i))

-- what d gets of an exact number z, with c read as signed or not
unfoldable pub form_of : Bool → Form → ℕ → ℤ → ℕ
-- the low 32 bits are taken
form_of signed (Plain d) c z = low_of word_size z
-- With a selector on d the low 8 or 16 bits replace that part of c
form_of signed (Merge d sel e) c z = replaced (selector_width sel) (selector_part sel) c (low_of (lane_size (selector_width sel)) z)
-- OP2 combines with c read by dtype (vset: unsigned)
form_of signed (Combine op d e) c z = low_of word_size (op2_z op z (exact_of signed word_size c))

unfoldable pub arithmetic_of : Arith → VideoType → Bool → Scalar → ℕ → ℕ → ℕ → ℕ
arithmetic_of op dtype sat s a b c =
    form_of (is_signed dtype) s.form c
    (clamped_of sat (is_signed dtype) (form_size s.form) (arith_z op (selected_of s.atype s.a a) (selected_of s.btype s.b b)))

-- vset compares the exact numbers, giving 1 or 0; OP2 and d's selector act on that as above
unfoldable pub vset_of : Cmp6 → Scalar → ℕ → ℕ → ℕ → ℕ
vset_of cmp s a b c =
    form_of false s.form c (pos (bit (holds_z cmp (selected_of s.atype s.a a) (selected_of s.btype s.b b))))

-- ==== vset2, vset4: the two or four lanes are handled as one small group

-- In a selector the leftmost digit names the highest lane: a record holds the digit of each lane, and the mask's bit, by the lane's number
abbrev pub digit_at : Digits → ℕ → ℕ
digit_at s zero = s.lane0
digit_at s (suc zero) = s.lane1
digit_at s (suc (suc zero)) = s.lane2
digit_at s (suc (suc (suc i))) = s.lane3

abbrev pub mask_at : Mask → ℕ → Bool
mask_at m zero = m.lane0
mask_at m (suc zero) = m.lane1
mask_at m (suc (suc zero)) = m.lane2
mask_at m (suc (suc (suc i))) = m.lane3

-- Part numbers count through a first, low part first, then b
abbrev pub numbered : LaneWidth → ℕ → ℕ → ℕ → ℕ
numbered w a b k = cond (ltb k (lanes w)) (part_at (lane_size w) a k) (part_at (lane_size w) b (k - lanes w))

-- what a selector picks for lane i, as an exact number by the type on the selector's side: T(a) for a's selector and T(b) for
-- b's, also where a digit of a's selector picks a part of b (000: extractAndSignExt_4(a, b, .asel, .atype))
abbrev pub lane_number : LaneWidth → VideoType → Digits → ℕ → ℕ → ℕ → ℤ
lane_number w t s a b i = exact_of (is_signed t) (lane_size w) (numbered w a b (digit_at s i))

unfoldable pub lane_holds : Cmp6 → Lanes → ℕ → ℕ → ℕ → Bool
lane_holds cmp l a b i =
    holds_z cmp (lane_number l.width l.atype l.asel a b i) (lane_number l.width l.btype l.bsel a b i)

-- Masked lanes, those the mask names, get 1 or 0, or what T-01 gives: v; other lanes keep c's part
abbrev pub merged_lane : Lanes → (ℕ → ℕ) → ℕ → ℕ → ℕ
merged_lane l v c i = cond (mask_at l.mask i) (v i) (part_at (lane_size l.width) c i)

abbrev pub merged : Lanes → (ℕ → ℕ) → ℕ → ℕ
merged l v c = joined (lane_size l.width) (lanes l.width) (merged_lane l v c)

-- for how many of the first k numbers f holds
abbrev pub count : ℕ → (ℕ → Bool) → ℕ
count zero f = 0
count (suc k) f = bit (f 0) + count k (λ i. f (suc i))

-- With `add`, d is c plus the number of masked lanes that hold, modulo 2^32
unfoldable pub lanes_of : Cmp6 → Lanes → ℕ → ℕ → ℕ → ℕ
lanes_of cmp l a b c =
    cond l.add ((c + count (lanes l.width) (λ i. mask_at l.mask i && lane_holds cmp l a b i)) % word_size)
    (merged l (λ i. bit (lane_holds cmp l a b i)) c)

-- ==== T-01: vadd2, vsub2, vavrg2, vabsdiff2, vmin2, vmax2 and the six with 4, by source document 002: three types, `sat`, `add`, masks and selectors as for vset2 and vset4

-- halving rounds down; negsuc n is -(n + 1)
abbrev pub halved : ℤ → ℤ
halved (pos n) = pos (n / 2)
halved (negsuc n) = negsuc (n / 2)

-- The average adds 1 before halving when the sum is at or above zero
abbrev pub average_z : ℤ → ℤ → ℤ
average_z x y = cond (le_z (pos 0) (x +ℤ y)) (halved (x +ℤ y +ℤ pos 1)) (halved (x +ℤ y))

-- the operation on a lane's two numbers, exact: 002's five that scalar video has, and the average
abbrev pub lane_arith_z : LaneArith → ℤ → ℤ → ℤ
lane_arith_z (LaneArith.Scalar op) x y = arith_z op x y
lane_arith_z LaneArith.Vavrg x y = average_z x y

-- `sat` clamps each lane to the lane's range under dtype
unfoldable pub lane_result : LaneArith → VideoType → Bool → Lanes → ℕ → ℕ → ℕ → ℤ
lane_result op dtype sat l a b i =
    clamped_of sat (is_signed dtype) (lane_size l.width)
    (lane_arith_z op (lane_number l.width l.atype l.asel a b i) (lane_number l.width l.btype l.bsel a b i))

-- the sum of the first k numbers
abbrev pub sum_z : ℕ → (ℕ → ℤ) → ℤ
sum_z zero f = pos 0
sum_z (suc k) f = f 0 +ℤ sum_z k (λ i. f (suc i))

-- a merge keeps the low bits of the lane, and unmasked lanes keep c's parts.
-- `add` adds the exact masked lane results, clamped if `sat`, to c, modulo 2^32: t are the lanes' results, which `lane_result` has clamped
abbrev pub group_of : Lanes → (ℕ → ℤ) → ℕ → ℕ
group_of l t c =
    cond l.add (low_of word_size (pos c +ℤ sum_z (lanes l.width) (λ i. cond (mask_at l.mask i) (t i) (pos 0))))
    (merged l (λ i. low_of (lane_size l.width) (t i)) c)

-- All twelve, over lane width and operation
unfoldable pub arithmetic_lanes_of : LaneArith → VideoType → Bool → Lanes → ℕ → ℕ → ℕ → ℕ
arithmetic_lanes_of op dtype sat l a b c = group_of l (lane_result op dtype sat l a b) c

-- ==== set, setp

-- A compared value is a whole number, a single or a double
pub data Value : Type 0 where
  whole : ℤ → Value
  single : Float → Value
  double : Float → Value

-- `ftz` turns subnormal inputs into zero of their sign. Of an f32's bits, `top` is the weight of the sign and `hid` the smallest normal number:
-- what is below `hid` without its sign is subnormal, or a zero already
abbrev pub flushed : Bool → ℕ → ℕ
flushed ftz x = cond (ftz && ltb (x % top binary32) (hid binary32)) (cond (leb (top binary32) x) (top binary32) 0) x

-- what the bits of a register stand for under stype. A type of 32 bits looks at the low 32, one of 16 (T-06) at the low 16
unfoldable pub value_of : DataType → Bool → ℕ → Value
value_of B16 ftz x = whole (exact_of false half_size (x % half_size))
value_of B32 ftz x = whole (exact_of false word_size (x % word_size))
value_of B64 ftz x = whole (exact_of false double_size x)
value_of U16 ftz x = whole (exact_of false half_size (x % half_size))
value_of U32 ftz x = whole (exact_of false word_size (x % word_size))
value_of U64 ftz x = whole (exact_of false double_size x)
value_of S16 ftz x = whole (exact_of true half_size (x % half_size))
value_of S32 ftz x = whole (exact_of true word_size (x % word_size))
value_of S64 ftz x = whole (exact_of true double_size x)
value_of F32 ftz x = single (of_bits binary32 (flushed ftz (x % word_size)))
value_of F64 ftz x = double (of_bits binary64 x)

-- whole numbers by their order; lo ls hi hs are lt le gt ge. The last clause is never met: no legal record has it
abbrev pub whole_holds : CmpOp → ℤ → ℤ → Bool
whole_holds (CmpOp.Six c) x y = holds_z c x y
whole_holds (CmpOp.Unsigned Lo) x y = holds_z Lt x y
whole_holds (CmpOp.Unsigned Ls) x y = holds_z Le x y
whole_holds (CmpOp.Unsigned Hi) x y = holds_z Gt x y
whole_holds (CmpOp.Unsigned Hs) x y = holds_z Ge x y
whole_holds (CmpOp.Float c) x y = false

-- some is NaN
abbrev pub unordered : Float → Float → Bool
unordered x y = is_nan x || is_nan y

-- IEEE 754 order on f32 and f64, zeros equal; ordered forms are false with a NaN, unordered true. num: neither is NaN; nan: some is
abbrev pub float_holds : CmpOp → Float → Float → Bool
float_holds (CmpOp.Six Eq) x y = eq x y
float_holds (CmpOp.Six Ne) x y = not (unordered x y) && not (eq x y)
float_holds (CmpOp.Six Lt) x y = lt x y
float_holds (CmpOp.Six Le) x y = lt x y || eq x y
float_holds (CmpOp.Six Gt) x y = lt y x
float_holds (CmpOp.Six Ge) x y = lt y x || eq x y
float_holds (CmpOp.Unsigned c) x y = false  -- never met: no legal record has it
float_holds (CmpOp.Float Equ) x y = unordered x y || eq x y
float_holds (CmpOp.Float Neu) x y = unordered x y || not (eq x y)
float_holds (CmpOp.Float Ltu) x y = unordered x y || lt x y
float_holds (CmpOp.Float Leu) x y = unordered x y || (lt x y || eq x y)
float_holds (CmpOp.Float Gtu) x y = unordered x y || lt y x
float_holds (CmpOp.Float Geu) x y = unordered x y || (lt y x || eq x y)
float_holds (CmpOp.Float Num) x y = not (unordered x y)
float_holds (CmpOp.Float Nan) x y = unordered x y

-- two values of one type, so that the clauses on two kinds are never met
abbrev pub values_hold : CmpOp → Value → Value → Bool
values_hold op (whole x) (whole y) = whole_holds op x y
values_hold op (whole x) (single y) = false
values_hold op (whole x) (double y) = false
values_hold op (single x) (whole y) = false
values_hold op (single x) (single y) = float_holds op x y
values_hold op (single x) (double y) = false
values_hold op (double x) (whole y) = false
values_hold op (double x) (single y) = false
values_hold op (double x) (double y) = float_holds op x y

-- t is the comparison
unfoldable pub comparison_of : CmpOp → Bool → DataType → ℕ → ℕ → Bool
comparison_of op ftz stype a b = values_hold op (value_of stype ftz a) (value_of stype ftz b)

abbrev pub bool_of : BoolOp → Bool → Bool → Bool
bool_of And t c = t && c
bool_of Or t c = t || c
bool_of Xor t c = not (beq t c)

-- set writes 0xffffffff, for dtype f32 0x3f800000, when .. is true, else 0
abbrev pub true_of : SetType → ℕ
true_of SetType.U32 = 0xffffffff
true_of SetType.S32 = 0xffffffff
true_of SetType.F32 = 0x3f800000

abbrev pub set_of : SetType → Bool → ℕ
set_of dtype t = cond t (true_of dtype) 0

-- ==== selp, slct

-- selp copies a's bits if c is 1, else b's
abbrev pub selp_of : ℕ → ℕ → ℕ → ℕ
selp_of c a b = cond (eqb c 1) a b

-- c is at or above zero; f32 zero of either sign counts as zero, NaN picks b.
-- T-02: with `ftz` a subnormal c of either sign picks a; document 01's sentence that `ftz` has no effect in slct is withdrawn
unfoldable pub not_below_zero : SlctType → ℕ → Bool
not_below_zero SlctType.S32 c = le_z (pos 0) (exact_of true word_size c)
not_below_zero (SlctType.F32 ftz) c =
    let x = of_bits binary32 (flushed ftz c) in
    lt (of_bits binary32 0) x || eq (of_bits binary32 0) x

-- slct copies a's bits if c is at or above zero, else b's; what is copied is never flushed
abbrev pub slct_of : SlctType → ℕ → ℕ → ℕ → ℕ
slct_of ctype c a b = cond (not_below_zero ctype c) a b
