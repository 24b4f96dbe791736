-- What a technician asks of execution, proved of the definitions: lanes, counts, places. Assumes nothing.
use Rattle.std.specs.Prelude.{ℕ, zero, suc, ◌+◌, ◌-◌, ◌/◌, ◌%◌, ◌<◌, ◌≡◌, refl, Bool, true, false, ◌&&◌, cond, eqb, ℤ, pos, negsuc, ◌+ℤ◌}
use Rattle.std.proofs.Math.Nat.{add-mul-mod_self_left, add-mul-div_left, div-eq_of_lt}
use Rattle.std.proofs.Common.{mod-eq_of_lt, mod-lt, zero-add, arith, sym, ap, ap₂, ◌∙◌, lit<, eq-eqb, ne_eqb, lt-ltb}
use Rattle.record.specs.declared.Cmp6.{Cmp6}
use Rattle.record.specs.declared.LaneArith.{LaneArith}
use Rattle.record.specs.declared.VideoType.{VideoType}
use Rattle.record.specs.declared.LaneWidth.{LaneWidth}
use Rattle.record.specs.declared.LaneWidth.TheVariants.{Half, Byte}
use Rattle.record.specs.declared.Lanes.{Lanes}
use Rattle.rules.specs.Numbers.{word_size, lane_size, lanes, part_at, joined, low_of, bit}
use Rattle.rules.specs.Execution.{replaced, mask_at, lane_holds, merged_lane, merged, count, lanes_of, halved, lane_result, sum_z, group_of, arithmetic_lanes_of}

-- ==== parts of a word, once over the number n of a part's values

pub part_lt : (n x i : ℕ) → 0 < n → part_at n x i < n
part_lt n x zero p = mod-lt x p
part_lt n x (suc i) p = part_lt n (x / n) i p

-- the parts of what is joined are the lanes
pub part_joined : (n k : ℕ) (f : ℕ → ℕ) (i : ℕ) → 0 < n → ((j : ℕ) → f j < n) → i < k → part_at n (joined n k f) i ≡ f i
part_joined n zero f i p h q = absurd (omega arith)
part_joined n (suc k) f zero p h q = add-mul-mod_self_left (f 0) n (joined n k (λ j. f (suc j))) ∙ mod-eq_of_lt (h 0)
part_joined n (suc k) f (suc i) p h q =
    ap (λ (x : ℕ). part_at n x i) (add-mul-div_left (f 0) (joined n k (λ j. f (suc j))) p ∙ rw (div-eq_of_lt (h 0)) (zero-add _))
    ∙ part_joined n k (λ j. f (suc j)) i p (λ j. h (suc j)) (omega arith)

pub size_pos : (w : LaneWidth) → 0 < lane_size w
size_pos Half = omega arith
size_pos Byte = omega arith

pub bit_lt : (w : LaneWidth) (t : Bool) → bit t < lane_size w
bit_lt Half true = omega arith
bit_lt Half false = omega arith
bit_lt Byte true = omega arith
bit_lt Byte false = omega arith

pub either_lt : (t : Bool) (x y n : ℕ) → x < n → y < n → cond t x y < n
either_lt true x y n p q = p
either_lt false x y n p q = q

-- ==== lanes that are merged, once over the width and over what a masked lane gets

module _ (l : Lanes) (v : ℕ → ℕ) (small : (i : ℕ) → v i < lane_size l.width) (c : ℕ) where
  pub lane_lt : (i : ℕ) → merged_lane l v c i < lane_size l.width
  lane_lt i =
      either_lt (mask_at l.mask i) (v i) (part_at (lane_size l.width) c i) (lane_size l.width) (small i)
      (part_lt (lane_size l.width) c i (size_pos l.width))

  -- each lane of what is merged is the lane of the rules
  each_lane : (i : ℕ) → i < lanes l.width → part_at (lane_size l.width) (merged l v c) i ≡ merged_lane l v c i
  each_lane i h = part_joined (lane_size l.width) (lanes l.width) (merged_lane l v c) i (size_pos l.width) lane_lt h

  -- a masked lane gets its value
  pub masked_gets : (i : ℕ) → i < lanes l.width → mask_at l.mask i ≡ true → part_at (lane_size l.width) (merged l v c) i ≡ v i
  masked_gets i h m = each_lane i h ∙ rw m

  -- a lane that the mask does not name keeps c's part
  pub unmasked_keeps : (i : ℕ) → i < lanes l.width → mask_at l.mask i ≡ false → part_at (lane_size l.width) (merged l v c) i ≡ part_at (lane_size l.width) c i
  unmasked_keeps i h m = each_lane i h ∙ rw m

-- ==== vset2 and vset4, once over the width

module _ (cmp : Cmp6) (l : Lanes) (a b c : ℕ) where
  -- 1 or 0 as the lane's comparison holds
  abbrev held : ℕ → ℕ
  held i = bit (lane_holds cmp l a b i)

  -- a masked lane gets 1 or 0 as its comparison holds
  pub masked_gets_bit : l.add ≡ false → (i : ℕ) → i < lanes l.width → mask_at l.mask i ≡ true
      → part_at (lane_size l.width) (lanes_of cmp l a b c) i ≡ held i
  unfolding lanes_of lane_holds
  masked_gets_bit plain i h m = rw plain (masked_gets l held (λ j. bit_lt l.width (lane_holds cmp l a b j)) c i h m)

  -- a lane that the mask does not name keeps c's part
  pub unmasked_keeps_c : l.add ≡ false → (i : ℕ) → i < lanes l.width → mask_at l.mask i ≡ false
      → part_at (lane_size l.width) (lanes_of cmp l a b c) i ≡ part_at (lane_size l.width) c i
  unfolding lanes_of lane_holds
  unmasked_keeps_c plain i h m = rw plain (unmasked_keeps l held (λ j. bit_lt l.width (lane_holds cmp l a b j)) c i h m)

  -- with `add`, d is c plus the number of masked lanes that hold, modulo 2^32
  pub add_counts : l.add ≡ true → lanes_of cmp l a b c ≡ (c + count (lanes l.width) (λ i. mask_at l.mask i && lane_holds cmp l a b i)) % word_size
  unfolding lanes_of lane_holds
  add_counts e = rw e

-- ==== T-01: the twelve, once over the width and the operation

-- the low bits are below what they are taken modulo
pub low_lt : (n : ℕ) (z : ℤ) → 0 < n → low_of n z < n
low_lt n (pos x) h = mod-lt x h
low_lt n (negsuc x) h = omega arith

module _ (op : LaneArith) (dtype : VideoType) (sat : Bool) (l : Lanes) (a b c : ℕ) where
  -- the low bits of the lane's result
  abbrev low : ℕ → ℕ
  low i = low_of (lane_size l.width) (lane_result op dtype sat l a b i)

  -- a masked lane gets the low bits of its result
  pub masked_gets_low : l.add ≡ false → (i : ℕ) → i < lanes l.width → mask_at l.mask i ≡ true
      → part_at (lane_size l.width) (arithmetic_lanes_of op dtype sat l a b c) i ≡ low i
  unfolding arithmetic_lanes_of lane_result
  masked_gets_low plain i h m = rw plain (masked_gets l low (λ j. low_lt (lane_size l.width) (lane_result op dtype sat l a b j) (size_pos l.width)) c i h m)

  -- a lane that the mask does not name keeps c's part
  pub unmasked_keeps_lane : l.add ≡ false → (i : ℕ) → i < lanes l.width → mask_at l.mask i ≡ false
      → part_at (lane_size l.width) (arithmetic_lanes_of op dtype sat l a b c) i ≡ part_at (lane_size l.width) c i
  unfolding arithmetic_lanes_of lane_result
  unmasked_keeps_lane plain i h m = rw plain (unmasked_keeps l low (λ j. low_lt (lane_size l.width) (lane_result op dtype sat l a b j) (size_pos l.width)) c i h m)

  -- with `add`, d is c plus the exact results of the masked lanes, modulo 2^32
  pub add_sums : l.add ≡ true
      → arithmetic_lanes_of op dtype sat l a b c
      ≡ low_of word_size (pos c +ℤ sum_z (lanes l.width) (λ i. cond (mask_at l.mask i) (lane_result op dtype sat l a b i) (pos 0)))
  unfolding arithmetic_lanes_of lane_result
  add_sums e = rw e

-- what is joined and what is summed goes by the lanes that there are
pub joined_same : (n k : ℕ) (f g : ℕ → ℕ) → ((i : ℕ) → i < k → f i ≡ g i) → joined n k f ≡ joined n k g
joined_same n zero f g h = refl
joined_same n (suc k) f g h = rw (h 0 (omega arith), joined_same n k (λ i. f (suc i)) (λ i. g (suc i)) (λ i p. h (suc i) (omega arith))) refl

pub sum_same : (k : ℕ) (f g : ℕ → ℤ) → ((i : ℕ) → i < k → f i ≡ g i) → sum_z k f ≡ sum_z k g
sum_same zero f g h = refl
sum_same (suc k) f g h = rw (h 0 (omega arith), sum_same k (λ i. f (suc i)) (λ i. g (suc i)) (λ i p. h (suc i) (omega arith))) refl

-- only the results of the lanes that there are count
pub group_same : (l : Lanes) (s t : ℕ → ℤ) (c : ℕ) → ((i : ℕ) → i < lanes l.width → s i ≡ t i) → group_of l s c ≡ group_of l t c
group_same l s t c h =
    ap₂ (λ (x : ℤ) (y : ℕ). cond l.add (low_of word_size (pos c +ℤ x)) y)
    (sum_same (lanes l.width) _ _ (λ i p. ap (λ (z : ℤ). cond (mask_at l.mask i) z (pos 0)) (h i p)))
    (joined_same (lane_size l.width) (lanes l.width) _ _
    (λ i p. ap (λ (z : ℤ). cond (mask_at l.mask i) (low_of (lane_size l.width) z) (part_at (lane_size l.width) c i)) (h i p)))

sum_bits : (k : ℕ) (m h : ℕ → Bool) → sum_z k (λ i. cond (m i) (pos (bit (h i))) (pos 0)) ≡ pos (count k (λ i. m i && h i))
sum_bits zero m h = refl
sum_bits (suc k) m h = rw (sum_bits k (λ i. m (suc i)) (λ i. h (suc i))) (first (m 0) (h 0))
  where
    first : (s t : Bool) → cond s (pos (bit t)) (pos 0) +ℤ pos (count k (λ i. m (suc i) && h (suc i))) ≡ pos (bit (s && t) + count k (λ i. m (suc i) && h (suc i)))
    first true t = refl
    first false t = refl

-- vset2 and vset4 give what the twelve would give of results that are 1 or 0
pub vset_group : (cmp : Cmp6) (l : Lanes) (a b c : ℕ) → lanes_of cmp l a b c ≡ group_of l (λ i. pos (bit (lane_holds cmp l a b i))) c
unfolding lanes_of
vset_group cmp l a b c =
    ap₂ (cond l.add) (ap (λ (z : ℤ). low_of word_size (pos c +ℤ z)) (sym (sum_bits (lanes l.width) (mask_at l.mask) (lane_holds cmp l a b))))
    (joined_same (lane_size l.width) (lanes l.width) _ _
    (λ i p. ap (λ (x : ℕ). cond (mask_at l.mask i) x (part_at (lane_size l.width) c i)) (sym (mod-eq_of_lt (bit_lt l.width (lane_holds cmp l a b i))))))

-- without `sat` dtype changes no bit
pub dtype_without_sat : (op : LaneArith) (t u : VideoType) (l : Lanes) (a b c : ℕ)
    → arithmetic_lanes_of op t false l a b c ≡ arithmetic_lanes_of op u false l a b c
unfolding arithmetic_lanes_of lane_result
dtype_without_sat op t u l a b c = refl

-- halving rounds down: twice the half and what the number leaves modulo 2, 0 or 1, are the number
pub halved_rounds_down : (z : ℤ) → halved z +ℤ halved z +ℤ pos (low_of 2 z) ≡ z
halved_rounds_down (pos n) = ap pos (omega arith)
halved_rounds_down (negsuc n) = go (n % 2) refl (mod-lt n (lit< tt))
  where
    go : (k : ℕ) → n % 2 ≡ k → k < 2 → halved (negsuc n) +ℤ halved (negsuc n) +ℤ pos (2 - suc k) ≡ negsuc n
    go zero e h = rw (lt-ltb 1 (suc (suc (n / 2 + n / 2))) (omega arith)) (ap negsuc (omega arith))
    go (suc zero) e h = rw (lt-ltb 0 (suc (suc (n / 2 + n / 2))) (omega arith)) (ap negsuc (omega arith))
    go (suc (suc k)) e h = absurd (omega arith)

-- ==== a selector on d

-- the low 8 or 16 bits replace that part of c, and the other parts stay
module _ (w : LaneWidth) (k c v : ℕ) (small : v < lane_size w) where
  pub part_replaced : (i : ℕ) → i < lanes w → part_at (lane_size w) (replaced w k c v) i ≡ cond (eqb i k) v (part_at (lane_size w) c i)
  part_replaced i h =
      part_joined (lane_size w) (lanes w) (λ j. cond (eqb j k) v (part_at (lane_size w) c j)) i (size_pos w)
      (λ j. either_lt (eqb j k) v (part_at (lane_size w) c j) (lane_size w) small (part_lt (lane_size w) c j (size_pos w))) h

  pub selected_part_replaced : k < lanes w → part_at (lane_size w) (replaced w k c v) k ≡ v
  selected_part_replaced h = part_replaced k h ∙ rw (eq-eqb k k refl)

  pub other_parts_stay : (i : ℕ) → i < lanes w → (i ≡ k → ⊥) → part_at (lane_size w) (replaced w k c v) i ≡ part_at (lane_size w) c i
  other_parts_stay i h n = part_replaced i h ∙ rw (ne_eqb i k n)
