-- The code's side of comparison: a whole number is kept moved up by half of its range where its type has a sign. Laws join it to the rules.
use Rattle.std.specs.Prelude.{ℕ, ◌+◌, ◌-◌, ◌%◌, ◌^◌, Bool, false, not, ◌&&◌, ◌||◌, cond, ltb, eqb}
use Rattle.std.specs.Prelude.{Option}
use Rattle.std.specs.declared.cmp.Ordering.{Ordering}
use Rattle.std.specs.Ordering.{is_lt, is_eq, is_gt, is_some_and}
use Rattle.std.specs.Option.{is_some}
use Rattle.std.specs.Float.{binary32, binary64}
use Rattle.std.specs.Float.Ieee.{of_bits}
use Rattle.record.specs.declared.DataType.{DataType}
use Rattle.record.specs.declared.DataType.TheVariants.{B16, B32, B64, U16, U32, U64, S16, S32, S64, F32, F64}
use Rattle.record.specs.declared.Cmp6.{Cmp6}
use Rattle.record.specs.declared.Cmp6.TheVariants.{Eq, Ne, Lt, Le, Gt, Ge}
use Rattle.record.specs.declared.CmpU.{CmpU}
use Rattle.record.specs.declared.CmpU.TheVariants.{Lo, Ls, Hi, Hs}
use Rattle.record.specs.declared.CmpF.{CmpF}
use Rattle.record.specs.declared.CmpF.TheVariants.{Equ, Neu, Ltu, Leu, Gtu, Geu, Num, Nan}
use Rattle.record.specs.declared.CmpOp.{CmpOp}
use Rattle.rules.specs.Numbers.{word_size, half_size}
use Rattle.rules.specs.Execution.{flushed, float_holds}
use Rattle.compare.specs.declared.Compared.{Compared}
use Rattle.compare.specs.declared.Compared.TheVariants.{Whole, Single, Double}

-- moved up by half of the range h + h
unfoldable pub moved_of : ℕ → ℕ → ℕ
moved_of h x = cond (ltb x h) (x + h) (x - h)

unfoldable pub compared_of : DataType → Bool → ℕ → Compared
compared_of B16 ftz x = Whole (x % half_size)
compared_of B32 ftz x = Whole (x % word_size)
compared_of B64 ftz x = Whole x
compared_of U16 ftz x = Whole (x % half_size)
compared_of U32 ftz x = Whole (x % word_size)
compared_of U64 ftz x = Whole x
compared_of S16 ftz x = Whole (moved_of (2 ^ 15) (x % half_size))
compared_of S32 ftz x = Whole (moved_of (2 ^ 31) (x % word_size))
compared_of S64 ftz x = Whole (moved_of (2 ^ 63) x)
compared_of F32 ftz x = Single (of_bits binary32 (flushed ftz (x % word_size)))
compared_of F64 ftz x = Double (of_bits binary64 x)

-- the comparison of two numbers, from three tests
abbrev pub six_from : Cmp6 → Bool → Bool → Bool → Bool
six_from Eq less same more = same
six_from Ne less same more = not same
six_from Lt less same more = less
six_from Le less same more = not more
six_from Gt less same more = more
six_from Ge less same more = not less

abbrev pub unsigned_from : CmpU → Bool → Bool → Bool
unsigned_from Lo less more = less
unsigned_from Ls less more = not more
unsigned_from Hi less more = more
unsigned_from Hs less more = not less

abbrev pub whole_from : CmpOp → Bool → Bool → Bool → Bool
whole_from (CmpOp.Six op) less same more = six_from op less same more
whole_from (CmpOp.Unsigned op) less same more = unsigned_from op less more
whole_from (CmpOp.Float op) less same more = false

-- the comparison of two floats, from the same three tests and whether some is NaN
abbrev pub ordered_from : Cmp6 → Bool → Bool → Bool → Bool → Bool
ordered_from Eq nan less same more = same
ordered_from Ne nan less same more = not nan && not same
ordered_from Lt nan less same more = less
ordered_from Le nan less same more = less || same
ordered_from Gt nan less same more = more
ordered_from Ge nan less same more = more || same

abbrev pub unordered_from : CmpF → Bool → Bool → Bool → Bool → Bool
unordered_from Equ nan less same more = nan || same
unordered_from Neu nan less same more = nan || not same
unordered_from Ltu nan less same more = nan || less
unordered_from Leu nan less same more = nan || (less || same)
unordered_from Gtu nan less same more = nan || more
unordered_from Geu nan less same more = nan || (more || same)
unordered_from Num nan less same more = not nan
unordered_from Nan nan less same more = nan

abbrev pub float_from : CmpOp → Bool → Bool → Bool → Bool → Bool
float_from (CmpOp.Six op) nan less same more = ordered_from op nan less same more
float_from (CmpOp.Unsigned op) nan less same more = false
float_from (CmpOp.Float op) nan less same more = unordered_from op nan less same more

-- the same of the order of two floats, which is none where some is NaN
abbrev pub unordered_by : CmpF → Option Ordering → Bool
unordered_by op o =
    unordered_from op (not (is_some o)) (is_some_and is_lt o) (is_some_and is_eq o) (is_some_and is_gt o)

abbrev pub float_by : CmpOp → Option Ordering → Bool
float_by op o =
    float_from op (not (is_some o)) (is_some_and is_lt o) (is_some_and is_eq o) (is_some_and is_gt o)

abbrev pub wholes_hold : CmpOp → ℕ → ℕ → Bool
wholes_hold op x y = whole_from op (ltb x y) (eqb x y) (ltb y x)

-- the comparison takes both values apart
unfoldable pub compared_hold : CmpOp → Compared → Compared → Bool
compared_hold op (Whole x) (Whole y) = wholes_hold op x y
compared_hold op (Whole x) (Single y) = false
compared_hold op (Whole x) (Double y) = false
compared_hold op (Single x) (Whole y) = false
compared_hold op (Single x) (Single y) = float_holds op x y
compared_hold op (Single x) (Double y) = false
compared_hold op (Double x) (Whole y) = false
compared_hold op (Double x) (Single y) = false
compared_hold op (Double x) (Double y) = float_holds op x y
