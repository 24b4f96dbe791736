-- The code's side of the names of masks and of selectors of the forms with 2 and 4, kept as numbers. No one has to believe it: laws join it to the names.
use Rattle.std.specs.Prelude.{ℕ, zero, suc, ◌+◌, ◌/◌, ◌%◌, Bool, false, not, ◌&&◌, ◌||◌, cond, eqb, None, Option, Some}
use Rattle.base.specs.Pack.{radix, pack}
use Rattle.record.specs.declared.LaneWidth.{LaneWidth}
use Rattle.record.specs.declared.LaneWidth.TheVariants.{Half, Byte}
use Rattle.record.specs.declared.Mask.{Mask}
use Rattle.record.specs.declared.Digits.{Digits}
use Rattle.signs.specs.Digits.{zero_byte}
use Rattle.rules.specs.Numbers.{lanes}
use Rattle.rules.specs.Names.{lane_letter, digits_name}

-- ==== masks

-- the number of a lane, or of the lanes, as a digit
abbrev pub lane_digit : ℕ → ℕ
lane_digit k = k + zero_byte

abbrev pub no_lane : Mask
no_lane = record { lane0 = false; lane1 = false; lane2 = false; lane3 = false }

-- the lane of the digit d is named, too, if t
abbrev pub naming : ℕ → Bool → Mask → Mask
naming d t m =
    record {
      lane0 = (t && eqb d (lane_digit 0)) || m.lane0;
      lane1 = (t && eqb d (lane_digit 1)) || m.lane1;
      lane2 = (t && eqb d (lane_digit 2)) || m.lane2;
      lane3 = (t && eqb d (lane_digit 3)) || m.lane3;
    }

-- whether the digit of lane k comes next
abbrev pub comes_next : ℕ → ℕ → Bool
comes_next k x = eqb (x % radix) (lane_digit k)

-- what stands behind it, or all if it does not come next
abbrev pub left_of : ℕ → ℕ → ℕ
left_of k x = cond (comes_next k x) (x / radix) x

-- strictly falling digits of the lanes below k: from the highest down a lane is named if its digit comes next, and in the end no byte is left
unfoldable pub falling : ℕ → Mask → ℕ → Option Mask
falling zero m x = cond (eqb x 0) (Some m) None
falling (suc k) m x = falling k (naming (lane_digit k) (comes_next k x) m) (left_of k x)

-- no mask if another letter stands in front, or no digit behind it; else what its digits name
unfoldable pub mask_of : LaneWidth → ℕ → Option Mask
mask_of w x = cond (not (eqb (x % radix) (pack (lane_letter w))) || eqb (x / radix) 0) None (falling (lanes w) no_lane (x / radix))

-- ==== selectors

-- what the digits stand for: the low bits of their bytes
unfoldable pub digits_in : LaneWidth → ℕ → Digits
digits_in Half x = record { lane0 = x / radix / radix % 4; lane1 = x / radix % 4; lane2 = 0; lane3 = 0 }
digits_in Byte x =
    record {
      lane0 = x / radix / radix / radix / radix % 8;
      lane1 = x / radix / radix / radix % 8;
      lane2 = x / radix / radix % 8;
      lane3 = x / radix % 8;
    }

-- a selector exactly when what its digits stand for has this very name
unfoldable pub digits_named : LaneWidth → ℕ → Option Digits
digits_named w x = cond (eqb (pack (digits_name w (digits_in w x))) x) (Some (digits_in w x)) None
