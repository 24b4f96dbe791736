-- The numbers of digits and of masks' names, made from the last byte on. Assumes nothing.
use Rattle.std.specs.Prelude.{ℕ, suc, ◌+◌, ◌*◌, ◌≤◌, ◌≡◌, refl, Bool, true, cond, List, [], ◌∷◌, ◌++◌}
use Rattle.std.proofs.Common.{arith, append_assoc, append-nil, lt-ltb}
use Rattle.base.specs.Pack.{radix, pack, is_plain, NumberSpells}
use Rattle.base.specs.PackLaws.{spells_more, spells_maybe, spells_written}
use Rattle.signs.specs.Text.{bytes}
use Rattle.record.specs.declared.LaneWidth.{LaneWidth}
use Rattle.record.specs.declared.LaneWidth.TheVariants.{Half, Byte}
use Rattle.record.specs.declared.Mask.{Mask}
use Rattle.rules.specs.Shape.{digit}
use Rattle.rules.specs.Names.{lane_letter, mask_name}
use Rattle.masks.specs.Masks.{lane_digit}

-- ==== digits

digit_plain : (n : ℕ) → is_plain (digit n) ≡ true
digit_plain n = rw (lt-ltb 0 (digit n) (omega arith), lt-ltb (digit n) radix (omega arith))

pub digit_spells : (n : ℕ) → NumberSpells 1 (digit n) (digit n ∷ [])
digit_spells n = record { few = omega arith; code = omega arith; small = omega arith; plain = rw (digit_plain n) refl }

pub digit_more : {k x : ℕ} {w : List ℕ} (n : ℕ) → suc k ≤ 9 → NumberSpells k x w → NumberSpells (suc k) (digit n + radix * x) (digit n ∷ w)
digit_more n h s = spells_more (digit n) (digit_plain n) h s

-- the digits of the lanes that a mask names
abbrev pub lanes_text : Mask → List ℕ
lanes_text m = cond m.lane3 (bytes "3") [] ++ (cond m.lane2 (bytes "2") [] ++ (cond m.lane1 (bytes "1") [] ++ (cond m.lane0 (bytes "0") [] ++ [])))

-- the digit of a lane before others, if it is named: so the number is made from the last one on
abbrev pub added : ℕ → Bool → ℕ → ℕ
added k named x = cond named (lane_digit k + radix * x) x

pub mask_spells : {n0 n1 n2 n3 : ℕ} (m : Mask) → n0 ≡ added 0 m.lane0 0 → n1 ≡ added 1 m.lane1 n0 → n2 ≡ added 2 m.lane2 n1 → n3 ≡ added 3 m.lane3 n2
    → NumberSpells 4 n3 (lanes_text m)
mask_spells m d e f g =
    spells_maybe m.lane3 51 refl (omega arith) g
    (spells_maybe m.lane2 50 refl (omega arith) f
    (spells_maybe m.lane1 49 refl (omega arith) e
    (spells_maybe m.lane0 48 refl (omega arith) d (spells_written 0 [] refl))))

mask_name_lem : (w : LaneWidth) (m : Mask) → lane_letter w ++ lanes_text m ≡ mask_name w m
mask_name_lem w m = simp (append_assoc, append-nil)

pub letter_spells : {x : ℕ} (w : LaneWidth) (m : Mask) → NumberSpells 4 x (lanes_text m) → NumberSpells 5 (pack (lane_letter w) + radix * x) (mask_name w m)
letter_spells Half m s = rw (← mask_name_lem Half m) (spells_more 104 refl (omega arith) s)
letter_spells Byte m s = rw (← mask_name_lem Byte m) (spells_more 98 refl (omega arith) s)
