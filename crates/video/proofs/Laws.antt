-- What the proofs of this crate cite: parts of a word, and exact numbers as the code keeps them. Assumes nothing.
use Prim.Native.Nat.{ℕ, zero, suc, ◌+◌, ◌-◌, ◌*◌, ◌/◌, ◌%◌, ◌^◌, ◌<◌, ◌≤◌}
use native.Mathlib.Nat.{mod-eq_of_lt}
use native.Mathlib.Omega.{arith}
use mathlib.Core.Path.{◌≡◌, refl, sym, ap, ap₂, ◌∙◌}
use mathlib.Core.Bool.{Bool, true, false, cond, ◌&&◌}
use lib.Dec.{ltb, leb, eqb}
use lib.IntN.{ℤ, pos, negsuc, ◌+ℤ◌}
use lib.ListN.{get_or}
use mathlib.Core.List.{List}
use borrow.Author.Tests.{ne_eqb, le-leb, ltb-true, ltb-false}
use Rattle.record.specs.declared.Lanes.{Lanes}
use Rattle.record.specs.declared.LaneWidth.{LaneWidth}
use Rattle.record.specs.declared.LaneWidth.TheVariants.{Half, Byte}
use Rattle.signs.specs.Lists.{tab}
use Rattle.base.specs.Moved.{un_low, un_high, un_up, un_down}
use Rattle.rules.specs.Numbers.{word_size, lane_size, lanes, part_at, joined, exact_of, low_of}
use Rattle.rules.specs.Execution.{replaced, merged_lane, merged, average_z, group_of}
use Rattle.laws.specs.ExecutionLaws.{size_pos, either_lt, part_lt, lane_lt, low_lt, group_same}
use Rattle.video.specs.Exact.{bias, exactly, StandFor, rejoined_of}

-- ---- parts

pub part_is : (w : LaneWidth) (x i r : ℕ) → r ≡ part_at (lane_size w) x i → (r ≡ part_at (lane_size w) x i) × (r < lane_size w)
part_is w x i r e = (e, rw e (part_lt (lane_size w) x i (size_pos w)))

part_zero : (w : LaneWidth) (i : ℕ) → 0 ≡ part_at (lane_size w) 0 i
part_zero Half zero = refl
part_zero Byte zero = refl
part_zero Half (suc i) = part_zero Half i
part_zero Byte (suc i) = part_zero Byte i

-- a word has at most four parts
pub part_past : (w : LaneWidth) (x i : ℕ) → x < 2 ^ 32 → 0 ≡ part_at (lane_size w) x (suc (suc (suc (suc i))))
part_past Half x i h =
    let e : x / 2 ^ 16 / 2 ^ 16 / 2 ^ 16 / 2 ^ 16 ≡ 0 = omega arith in
    part_zero Half i ∙ ap (λ (y : ℕ). part_at (lane_size Half) y i) (sym e)
part_past Byte x i h =
    let e : x / 2 ^ 8 / 2 ^ 8 / 2 ^ 8 / 2 ^ 8 ≡ 0 = omega arith in
    part_zero Byte i ∙ ap (λ (y : ℕ). part_at (lane_size Byte) y i) (sym e)

pub chosen_part : (w : LaneWidth) (x i n : ℕ) → x < 2 ^ 32 → n ≡ lane_size w
    → cond (eqb i 0) x (cond (eqb i 1) (x / n) (cond (eqb i 2) (x / n / n) (cond (eqb i 3) (x / n / n / n) 0))) % n ≡ part_at (lane_size w) x i
chosen_part w x zero n h e = rw e
chosen_part w x (suc zero) n h e = rw e
chosen_part w x (suc (suc zero)) n h e = rw e
chosen_part w x (suc (suc (suc zero))) n h e = rw e
chosen_part w x (suc (suc (suc (suc i)))) n h e = rw (e, no 0 (omega arith), no 1 (omega arith), no 2 (omega arith), no 3 (omega arith)) (sym (part_zero w 0) ∙ part_past w x i h)
  where
    no : (k : ℕ) → k < 4 → eqb (suc (suc (suc (suc i)))) k ≡ false
    no k l = ne_eqb (suc (suc (suc (suc i)))) k (λ (z : suc (suc (suc (suc i))) ≡ k). absurd (omega arith))

-- ---- exact numbers

pub exact_neg : (s : Bool) (n x : ℕ) → n ≤ x + bias → s && leb n (2 * x) ≡ true → exactly ((x + bias) - n) ≡ exact_of s n x
unfolding exact_of
exact_neg s n x p h = rw h (un_down bias x n p)

pub exact_pos : (s : Bool) (n x : ℕ) → s && leb n (2 * x) ≡ false → exactly (x + bias) ≡ exact_of s n x
unfolding exact_of
exact_pos s n x h = rw h (un_up bias x)

-- the low bits are those of the number moved up, where what it is moved by has none
module _ (z : ℕ) where
  low_of_lem : (n : ℕ) → (z < bias → z % n ≡ n - suc ((bias - suc z) % n)) → (bias ≤ z → z % n ≡ (z - bias) % n) → z % n ≡ low_of n (exactly z)
  low_of_lem n below over = go (ltb z bias) refl
    where
      go : (t : Bool) → ltb z bias ≡ t → z % n ≡ low_of n (exactly z)
      go true e = rw (un_low bias z (ltb-true z bias e)) (below (ltb-true z bias e))
      go false e = rw (un_high bias z (ltb-false z bias e)) (over (ltb-false z bias e))

  pub low_word : z % 2 ^ 32 ≡ low_of word_size (exactly z)
  low_word = low_of_lem (2 ^ 32) (λ h. omega arith) (λ h. omega arith)

  pub low_lane : (w : LaneWidth) → z % lane_size w ≡ low_of (lane_size w) (exactly z)
  low_lane Half = low_of_lem (2 ^ 16) (λ h. omega arith) (λ h. omega arith)
  low_lane Byte = low_of_lem (2 ^ 8) (λ h. omega arith) (λ h. omega arith)

-- ---- lanes stay below the lane's size

-- four lanes in an array, rejoined: nothing is cut
rejoined : (w : LaneWidth) (f : ℕ → ℕ) → ((i : ℕ) → f i < lane_size w) → rejoined_of w (tab 4 f) ≡ joined (lane_size w) (lanes w) f
unfolding rejoined_of
rejoined Half f h = mod-eq_of_lt (omega (arith, h 0, h 1))
rejoined Byte f h = mod-eq_of_lt (omega (arith, h 0, h 1, h 2, h 3))

pub replaced_is : (w : LaneWidth) (k c v : ℕ) → v < lane_size w → rejoined_of w (tab 4 (λ i. cond (eqb i k) v (part_at (lane_size w) c i))) ≡ replaced w k c v
replaced_is w k c v h =
    rejoined w (λ i. cond (eqb i k) v (part_at (lane_size w) c i))
    (λ i. either_lt (eqb i k) v (part_at (lane_size w) c i) (lane_size w) h (part_lt (lane_size w) c i (size_pos w)))

-- what an array of merged lanes gives
pub merged_is : (l : Lanes) (t : ℕ → ℤ) (c : ℕ)
    → rejoined_of l.width (tab 4 (merged_lane l (λ i. low_of (lane_size l.width) (t i)) c)) ≡ merged l (λ i. low_of (lane_size l.width) (t i)) c
merged_is l t c = rejoined l.width _ (lane_lt l (λ i. low_of (lane_size l.width) (t i)) (λ i. low_lt (lane_size l.width) (t i) (size_pos l.width)) c)

-- ---- the group of four numbers in an array

-- only the numbers that they stand for count
pub stand_group : (l : Lanes) (t : List ℕ) (f : ℕ → ℤ) (c : ℕ) → StandFor t f → group_of l (λ i. exactly (get_or t i 0)) c ≡ group_of l f c
stand_group l t f c h = group_same l (λ i. exactly (get_or t i 0)) f c (λ i p. each l.width i p)
  where
    each : (w : LaneWidth) (i : ℕ) → i < lanes w → exactly (get_or t i 0) ≡ f i
    each w zero p = h.0
    each w (suc zero) p = h.1
    each w (suc (suc zero)) p = h.2
    each w (suc (suc (suc zero))) p = h.3
    each Half (suc (suc (suc (suc i)))) p = absurd (omega arith)
    each Byte (suc (suc (suc (suc i)))) p = absurd (omega arith)

-- lanes made by one operation g of two sides are made of what the sides stand for
pub by_sides : (l : Lanes) (g : ℤ → ℤ → ℤ) (t x y : List ℕ) (p q : ℕ → ℤ) (c : ℕ) → StandFor x p → StandFor y q
    → StandFor t (λ i. g (exactly (get_or x i 0)) (exactly (get_or y i 0))) → group_of l (λ i. exactly (get_or t i 0)) c ≡ group_of l (λ i. g (p i) (q i)) c
by_sides l g t x y p q c e f h =
    stand_group l t (λ i. g (p i) (q i)) c (h.0 ∙ ap₂ g e.0 f.0, h.1 ∙ ap₂ g e.1 f.1, h.2 ∙ ap₂ g e.2 f.2, h.3 ∙ ap₂ g e.3 f.3)

-- the average of two numbers whose sum z stands for, by the sign of the sum
pub average_high : (x y z : ℕ) → exactly z ≡ exactly x +ℤ exactly y → bias ≤ z → exactly ((z + bias + 1) / 2) ≡ average_z (exactly x) (exactly y)
average_high x y z e h = rw (← e, un_high bias z h, le-leb 0 (z - bias) (omega arith), un_high bias ((z + bias + 1) / 2) (omega arith)) (ap pos (omega arith))

pub average_low : (x y z : ℕ) → exactly z ≡ exactly x +ℤ exactly y → z < bias → exactly ((z + bias) / 2) ≡ average_z (exactly x) (exactly y)
average_low x y z e h = rw (← e, un_low bias z h, un_low bias ((z + bias) / 2) (omega arith)) (ap negsuc (omega arith))
