-- The exact numbers and the parts of a word that document 01's "What execution does" speaks of.
use Rattle.std.specs.Prelude.{ℕ, zero, suc, ◌+◌, ◌-◌, ◌*◌, ◌/◌, ◌%◌, ◌^◌, Bool, true, false, not, ◌&&◌, cond, ℤ, pos, negsuc, leb}
use Rattle.std.proofs.Math.IntN.{sub_ℕ}
use Rattle.std.specs.Int.Signed.{lt_z, le_z}
use Rattle.record.specs.Registers.{word_bits, half_bits, double_bits}
use Rattle.record.specs.declared.VideoType.{VideoType}
use Rattle.record.specs.declared.VideoType.TheVariants.{U32, S32}
use Rattle.record.specs.declared.LaneWidth.{LaneWidth}
use Rattle.record.specs.declared.LaneWidth.TheVariants.{Half, Byte}
use Rattle.record.specs.declared.Cmp6.{Cmp6}
use Rattle.record.specs.declared.Cmp6.TheVariants.{Eq, Ne, Lt, Le, Gt, Ge}

-- how many values a word has, a half and a double
abbrev pub word_size : ℕ
word_size = 2 ^ word_bits

abbrev pub half_size : ℕ
half_size = 2 ^ half_bits

abbrev pub double_size : ℕ
double_size = 2 ^ double_bits

-- how many values a lane has, and how many lanes a word: two halves or four bytes
abbrev pub lane_size : LaneWidth → ℕ
lane_size Half = 2 ^ 16
lane_size Byte = 2 ^ 8

abbrev pub lanes : LaneWidth → ℕ
lanes Half = 2
lanes Byte = 4

-- part i of x, low part first, where a part has n values
abbrev pub part_at : ℕ → ℕ → ℕ → ℕ
part_at n x zero = x % n
part_at n x (suc i) = part_at n (x / n) i

-- the word whose k parts are f 0, f 1, .., low part first, where a part has n values
abbrev pub joined : ℕ → ℕ → (ℕ → ℕ) → ℕ
joined n zero f = 0
joined n (suc k) f = f 0 + n * joined n k (λ i. f (suc i))

-- an exact signed or unsigned number: with a sign, what is at or over half of n stands for itself less n
unfoldable pub exact_of : Bool → ℕ → ℕ → ℤ
exact_of signed n x = cond (signed && leb n (2 * x)) (sub_ℕ x n) (pos x)

abbrev pub is_signed : VideoType → Bool
is_signed U32 = false
is_signed S32 = true

-- the low bits of an exact number: what it leaves modulo n
abbrev pub low_of : ℕ → ℤ → ℕ
low_of n (pos x) = x % n
low_of n (negsuc x) = n - suc (x % n)

abbrev pub min_z : ℤ → ℤ → ℤ
min_z x y = cond (lt_z x y) x y

abbrev pub max_z : ℤ → ℤ → ℤ
max_z x y = cond (lt_z x y) y x

-- 1 or 0
abbrev pub bit : Bool → ℕ
bit true = 1
bit false = 0

-- CMP6 on exact numbers
abbrev pub eq_z : ℤ → ℤ → Bool
eq_z x y = le_z x y && le_z y x

unfoldable pub holds_z : Cmp6 → ℤ → ℤ → Bool
holds_z Eq x y = eq_z x y
holds_z Ne x y = not (eq_z x y)
holds_z Lt x y = lt_z x y
holds_z Le x y = le_z x y
holds_z Gt x y = lt_z y x
holds_z Ge x y = le_z y x
