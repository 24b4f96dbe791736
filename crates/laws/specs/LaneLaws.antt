-- T-14: what the scalar line of a lane gives is what the lane gives, once over the width and over what the lines do. Assumes nothing.
use Prim.Native.Nat.{ℕ, zero, suc, ◌+◌, ◌-◌, ◌*◌, ◌/◌, ◌%◌, ◌<◌, ◌≤◌}
use Rattle.std.proofs.Common.{arith, mod-lt, zero-add, sym, ap₂, subst, ◌∙◌, lit<}
use Rattle.std.proofs.Math.Nat.{mod-eq_of_lt}
use Rattle.std.specs.Prelude.{◌≡◌, refl, Bool, true, false, ◌&&◌, cond, List, ltb, leb, eqb, ℤ, neg_ℤ, ◌+ℤ◌}
use Rattle.std.proofs.Math.Path.{ap}
use Rattle.std.proofs.Math.Bool.{and-eq-true_iff}
use Rattle.std.proofs.Math.IntN.{pos, negsuc, sub_ℕ}
use Rattle.std.specs.Int.Signed.{mag, lt_z}
use borrow.Author.Tests.{eqb-true, eqb-false, eq-eqb, ne_eqb, ltb-true, ltb-false, lt-ltb, leb-true, le-leb, lt-leb}
use Rattle.record.specs.Operands.{digit_fits, digits_fit}
use Rattle.record.specs.declared.VideoType.{VideoType}
use Rattle.record.specs.declared.Word.{Word}
use Rattle.record.specs.declared.Arith.{Arith}
use Rattle.record.specs.declared.LaneArith.{LaneArith}
use Rattle.record.specs.declared.LaneWidth.{LaneWidth}
use Rattle.record.specs.declared.LaneWidth.TheVariants.{Half, Byte}
use Rattle.record.specs.declared.Mask.{Mask}
use Rattle.record.specs.declared.Digits.{Digits}
use Rattle.record.specs.declared.Lanes.{Lanes}
use Rattle.record.specs.declared.Selected.TheVariants.{Part}
use Rattle.record.specs.declared.Op2.TheVariants.{Add}
use Rattle.record.specs.declared.Form.{Form}
use Rattle.record.specs.declared.Form.TheVariants.{Merge, Combine}
use Rattle.record.specs.declared.Scalar.{Scalar}
use Rattle.rules.specs.Numbers.{word_size, lane_size, lanes, part_at, joined, exact_of, is_signed, low_of, min_z, bit, holds_z}
use Rattle.rules.specs.Execution.{selector_width, selector_part, selected_of, arith_z, lowest_z, highest_z, clamped_of, form_of, replaced, numbered, digit_at, mask_at, merged_lane, merged, lane_number, lane_holds, count, lane_result, sum_z, group_of}
use Rattle.rules.specs.Executing.{word_of, selected_word}
use Rattle.rules.specs.LaneScalars.{Operation, compares, computes, saturates, part_selector, digit_operand, lane_scalar, sum, masked_sum, lane_form}
use Rattle.laws.specs.PlaceLaws.{off}
use Rattle.laws.specs.ExecutionLaws.{size_pos, low_lt, joined_same, sum_same, part_replaced}

-- ==== a digit and its scalar operand

pub selector_width_lem : (w : LaneWidth) (k : ℕ) → selector_width (part_selector w k) ≡ w
selector_width_lem Half zero = refl
selector_width_lem Half (suc k) = refl
selector_width_lem Byte zero = refl
selector_width_lem Byte (suc zero) = refl
selector_width_lem Byte (suc (suc zero)) = refl
selector_width_lem Byte (suc (suc (suc k))) = refl

pub selector_part_lem : (w : LaneWidth) (k : ℕ) → k < lanes w → selector_part (part_selector w k) ≡ k
selector_part_lem Half zero h = refl
selector_part_lem Half (suc zero) h = refl
selector_part_lem Half (suc (suc k)) h = absurd (omega arith)
selector_part_lem Byte zero h = refl
selector_part_lem Byte (suc zero) h = refl
selector_part_lem Byte (suc (suc zero)) h = refl
selector_part_lem Byte (suc (suc (suc zero))) h = refl
selector_part_lem Byte (suc (suc (suc (suc k)))) h = absurd (omega arith)

-- the digits of a legal selector name parts that there are
digit_lt : (w : LaneWidth) (k : ℕ) → digit_fits w k ≡ true → k < lanes w + lanes w
digit_lt Half k e = let h : k ≤ 3 = leb-true k 3 e in omega arith
digit_lt Byte k e = let h : k ≤ 7 = leb-true k 7 e in omega arith

pub digit_named : (w : LaneWidth) (s : Digits) → digits_fit w s ≡ true → (i : ℕ) → i < lanes w → digit_at s i < lanes w + lanes w
digit_named Half s e zero h = let k = simp and-eq-true_iff at e in digit_lt Half s.lane0 k.0.0.0
digit_named Half s e (suc zero) h = let k = simp and-eq-true_iff at e in digit_lt Half s.lane1 k.0.0.1
digit_named Half s e (suc (suc i)) h = absurd (omega arith)
digit_named Byte s e zero h = let k = simp and-eq-true_iff at e in digit_lt Byte s.lane0 k.0.0.0
digit_named Byte s e (suc zero) h = let k = simp and-eq-true_iff at e in digit_lt Byte s.lane1 k.0.0.1
digit_named Byte s e (suc (suc zero)) h = let k = simp and-eq-true_iff at e in digit_lt Byte s.lane2 k.0.1
digit_named Byte s e (suc (suc (suc zero))) h = let k = simp and-eq-true_iff at e in digit_lt Byte s.lane3 k.1
digit_named Byte s e (suc (suc (suc (suc i)))) h = absurd (omega arith)

-- the selected part of a register, as an exact number
pub part_number : (t : VideoType) (v : Word) (w : LaneWidth) (k x : ℕ) → k < lanes w
    → selected_of t (Part v (part_selector w k)) x ≡ exact_of (is_signed t) (lane_size w) (part_at (lane_size w) x k)
unfolding selected_of
part_number t v w k x h = rw (selector_width_lem w k, selector_part_lem w k h)

-- what a digit picks of a and b is what its scalar operand is
pub digit_number : (ws : List ℕ) (t : VideoType) (l : Lanes) (k : ℕ) → k < lanes l.width + lanes l.width
    → selected_of t (digit_operand l k) (word_of ws (selected_word (digit_operand l k)))
    ≡ exact_of (is_signed t) (lane_size l.width) (numbered l.width (word_of ws l.a) (word_of ws l.b) k)
digit_number ws t l k h = go (ltb k (lanes l.width)) refl
  where
    go : (s : Bool) → ltb k (lanes l.width) ≡ s
        → selected_of t (digit_operand l k) (word_of ws (selected_word (digit_operand l k)))
        ≡ exact_of (is_signed t) (lane_size l.width) (numbered l.width (word_of ws l.a) (word_of ws l.b) k)
    go true e = rw e (part_number t l.a l.width k (word_of ws l.a) (ltb-true k (lanes l.width) e))
    go false e =
        let b : lanes l.width ≤ k = ltb-false k (lanes l.width) e in
        rw e (part_number t l.b l.width (k - lanes l.width) (word_of ws l.b) (omega arith))

-- ==== exact results of a lane and of a scalar line

-- whether c and a clamp are signed: by dtype; vset: unsigned
abbrev pub is_signed_of : Operation → Bool
is_signed_of (compares cmp) = false
is_signed_of (computes op dtype sat) = is_signed dtype

-- the exact result of lane i
abbrev pub lane_z : Operation → Lanes → ℕ → ℕ → ℕ → ℤ
lane_z (compares cmp) l a b i = pos (bit (lane_holds cmp l a b i))
lane_z (computes op dtype sat) l a b i = lane_result (LaneArith.Scalar op) dtype sat l a b i

-- the exact result of a scalar line, where `sat` clamps to n values
abbrev pub scalar_z : Operation → ℕ → Scalar → ℕ → ℕ → ℤ
scalar_z (compares cmp) n s a b = pos (bit (holds_z cmp (selected_of s.atype s.a a) (selected_of s.btype s.b b)))
scalar_z (computes op dtype sat) n s a b =
    clamped_of sat (is_signed dtype) n (arith_z op (selected_of s.atype s.a a) (selected_of s.btype s.b b))

module _ (ws : List ℕ) (l : Lanes) (fitA : digits_fit l.width l.asel ≡ true) (fitB : digits_fit l.width l.bsel ≡ true) (i : ℕ) (h : i < lanes l.width) (form : Form) where
  -- the words of the registers that the scalar's operands name
  abbrev pub a_word : ℕ
  a_word = word_of ws (selected_word (lane_scalar l i form).a)

  abbrev pub b_word : ℕ
  b_word = word_of ws (selected_word (lane_scalar l i form).b)

  a_number : selected_of l.atype (lane_scalar l i form).a a_word ≡ lane_number l.width l.atype l.asel (word_of ws l.a) (word_of ws l.b) i
  a_number = digit_number ws l.atype l (digit_at l.asel i) (digit_named l.width l.asel fitA i h)

  b_number : selected_of l.btype (lane_scalar l i form).b b_word ≡ lane_number l.width l.btype l.bsel (word_of ws l.a) (word_of ws l.b) i
  b_number = digit_number ws l.btype l (digit_at l.bsel i) (digit_named l.width l.bsel fitB i h)

  -- at the lane's width both are the same
  pub at_width : (o : Operation) → scalar_z o (lane_size l.width) (lane_scalar l i form) a_word b_word ≡ lane_z o l (word_of ws l.a) (word_of ws l.b) i
  unfolding lane_holds lane_result
  at_width (compares cmp) = rw (a_number, b_number)
  at_width (computes op dtype sat) = rw (a_number, b_number)

  -- without `sat` at every width
  pub unclamped : (o : Operation) → saturates o ≡ false → (n : ℕ) → scalar_z o n (lane_scalar l i form) a_word b_word ≡ lane_z o l (word_of ws l.a) (word_of ws l.b) i
  unclamped (compares cmp) e n = at_width (compares cmp)
  unclamped (computes op dtype sat) e n = go sat e
    where
      go : (s : Bool) → s ≡ false → scalar_z (computes op dtype s) n (lane_scalar l i form) a_word b_word ≡ lane_z (computes op dtype s) l (word_of ws l.a) (word_of ws l.b) i
      go true e = off e
      go false e = at_width (computes op dtype false)

-- ==== a group of lanes, without and with `add`

pub group_plain : (l : Lanes) (t : ℕ → ℤ) (c : ℕ) → l.add ≡ false → group_of l t c ≡ merged l (λ i. low_of (lane_size l.width) (t i)) c
group_plain l t c e = rw e

pub group_adds : (l : Lanes) (t : ℕ → ℤ) (c : ℕ) → l.add ≡ true
    → group_of l t c ≡ low_of word_size (pos c +ℤ sum_z (lanes l.width) (λ i. cond (mask_at l.mask i) (t i) (pos 0)))
group_adds l t c e = rw e

-- ==== the low 32 bits of a sum

low_sub : (x y : ℕ) → low_of word_size (sub_ℕ x (suc y)) ≡ (x % word_size + (word_size - suc (y % word_size))) % word_size
low_sub x y = go (ltb x (suc y)) refl
  where
    go : (t : Bool) → ltb x (suc y) ≡ t → low_of word_size (cond t (negsuc (suc y - suc x)) (pos (x - suc y))) ≡ (x % word_size + (word_size - suc (y % word_size))) % word_size
    go true e = let h : x < suc y = ltb-true x (suc y) e in omega arith
    go false e = let h : suc y ≤ x = ltb-false x (suc y) e in omega arith

pub low_sum : (x y : ℤ) → low_of word_size (x +ℤ y) ≡ (low_of word_size x + low_of word_size y) % word_size
low_sum (pos x) (pos y) = omega arith
low_sum (pos x) (negsuc y) = low_sub x y
low_sum (negsuc x) (pos y) = low_sub y x ∙ omega arith
low_sum (negsuc x) (negsuc y) = omega arith

-- a word read as signed or not has the same low bits
pub low_exact : (s : Bool) (x : ℕ) → low_of word_size (exact_of s word_size x) ≡ x % word_size
unfolding exact_of
low_exact s x = go (s && leb word_size (2 * x)) (ltb x word_size) refl
  where
    go : (t u : Bool) → ltb x word_size ≡ u → low_of word_size (cond t (cond u (negsuc (word_size - suc x)) (pos (x - word_size))) (pos x)) ≡ x % word_size
    go false u e = refl
    go true true e = let h : x < word_size = ltb-true x word_size e in omega arith
    go true false e = let h : word_size ≤ x = ltb-false x word_size e in omega arith

sums_same : (k : ℕ) (f g : ℕ → ℕ) → ((i : ℕ) → i < k → f i ≡ g i) → sum k f ≡ sum k g
sums_same zero f g h = refl
sums_same (suc k) f g h = rw (h 0 (omega arith), sums_same k (λ i. f (suc i)) (λ i. g (suc i)) (λ i p. h (suc i) (omega arith))) refl

-- a sum of ones is a count
pub masked_sum_counts : (l : Lanes) (f : ℕ → Bool) → masked_sum l (λ i. bit (f i)) ≡ count (lanes l.width) (λ i. mask_at l.mask i && f i)
masked_sum_counts l f = go (lanes l.width) (mask_at l.mask) f
  where
    each : (a b : Bool) → cond a (bit b) 0 ≡ bit (a && b)
    each true b = refl
    each false b = refl

    go : (k : ℕ) (m f : ℕ → Bool) → sum k (λ i. cond (m i) (bit (f i)) 0) ≡ count k (λ i. m i && f i)
    go zero m f = refl
    go (suc k) m f = ap₂ ◌+◌ (each (m 0) (f 0)) (go k (λ i. m (suc i)) (λ i. f (suc i)))

sum_low : (k : ℕ) (f : ℕ → ℤ) → low_of word_size (sum_z k f) ≡ sum k (λ i. low_of word_size (f i)) % word_size
sum_low zero f = refl
sum_low (suc k) f = low_sum (f 0) (sum_z k (λ i. f (suc i))) ∙ rw (sum_low k (λ i. f (suc i))) (omega arith)

low_either : (t : Bool) (z : ℤ) → low_of word_size (cond t z (pos 0)) ≡ cond t (low_of word_size z) 0
low_either true z = refl
low_either false z = refl

-- with `add`: c plus the sum of the low 32 bits of the masked lanes' results
pub added_low : (l : Lanes) (t : ℕ → ℤ) (v : ℕ → ℕ) (c : ℕ)
    → ((i : ℕ) → i < lanes l.width → mask_at l.mask i ≡ true → low_of word_size (t i) ≡ v i)
    → low_of word_size (pos c +ℤ sum_z (lanes l.width) (λ i. cond (mask_at l.mask i) (t i) (pos 0))) ≡ (c + masked_sum l v) % word_size
added_low l t v c h =
    low_sum (pos c) (sum_z (lanes l.width) (λ i. cond (mask_at l.mask i) (t i) (pos 0)))
    ∙ rw (sum_low (lanes l.width) (λ i. cond (mask_at l.mask i) (t i) (pos 0)), sums_same (lanes l.width) _ (λ i. cond (mask_at l.mask i) (v i) 0) each) (omega arith)
  where
    each : (i : ℕ) → i < lanes l.width → low_of word_size (cond (mask_at l.mask i) (t i) (pos 0)) ≡ cond (mask_at l.mask i) (v i) 0
    each i p = low_either (mask_at l.mask i) (t i) ∙ go (mask_at l.mask i) (h i p)
      where
        go : (m : Bool) → (m ≡ true → low_of word_size (t i) ≡ v i) → cond m (low_of word_size (t i)) 0 ≡ cond m (v i) 0
        go true q = q refl
        go false q = refl

-- the low bits of a lane are among the low 32
pub low_low : (w : LaneWidth) (z : ℤ) → low_of word_size z % lane_size w ≡ low_of (lane_size w) z
low_low Half (pos x) = omega arith
low_low Half (negsuc x) = omega arith
low_low Byte (pos x) = omega arith
low_low Byte (negsuc x) = omega arith

-- ==== lane after lane, each on top of what the ones before it gave

-- one scalar line on top of v
abbrev pub step_of : Lanes → Bool → ℕ → ℕ → ℤ → ℕ
step_of l signed i v z = cond l.add (low_of word_size (z +ℤ exact_of signed word_size v)) (replaced l.width i v (low_of (lane_size l.width) z))

pub step_add : (l : Lanes) (signed : Bool) (i v : ℕ) (z : ℤ) → l.add ≡ true → step_of l signed i v z ≡ low_of word_size (z +ℤ exact_of signed word_size v)
step_add l signed i v z e = rw e

pub form_step : (l : Lanes) (signed : Bool) (i : ℕ) → i < lanes l.width → (e c : Word) (v : ℕ) (z : ℤ) → form_of signed (lane_form l e i c) v z ≡ step_of l signed i v z
unfolding form_of
form_step l signed i h e c v z = go l.add
  where
    go : (add : Bool) → form_of signed (cond add (Combine Add e c) (Merge e (part_selector l.width i) c)) v z
        ≡ cond add (low_of word_size (z +ℤ exact_of signed word_size v)) (replaced l.width i v (low_of (lane_size l.width) z))
    go true = refl
    go false = rw (selector_width_lem l.width i, selector_part_lem l.width i h)

above : (i j : ℕ) → i ≤ j → (j ≡ i → ⊥) → i < j
above i j h n = go (ltb i j) refl
  where
    go : (s : Bool) → ltb i j ≡ s → i < j
    go true e = ltb-true i j e
    go false e = let k : j ≤ i = ltb-false i j e in absurd (n (omega arith))

-- from an unmasked lane on to a masked one
pub past_unmasked : (m : Mask) (i j : ℕ) → i ≤ j → mask_at m i ≡ false → mask_at m j ≡ true → suc i ≤ j
past_unmasked m i j p e h = go (eqb i j) refl
  where
    go : (s : Bool) → eqb i j ≡ s → suc i ≤ j
    go true k =
        let q : i ≡ j = eqb-true i j k in
        off (sym h ∙ ap (mask_at m) (sym q) ∙ e)
    go false k = above i j p (λ q. eqb-false i j k (sym q))

either : (P : ℕ → Type 0) (m : Bool) {x y : ℕ} → P x → P y → P (cond m x y)
either P true p q = p
either P false p q = q

-- a number that is no more than its parts
abbrev Joined : LaneWidth → ℕ → Type 0
Joined w v = v ≡ joined (lane_size w) (lanes w) (part_at (lane_size w) v)

replaced_joined : (w : LaneWidth) (i v x : ℕ) → x < lane_size w → Joined w (replaced w i v x)
replaced_joined w i v x h = joined_same (lane_size w) (lanes w) _ (part_at (lane_size w) (replaced w i v x)) (λ j p. sym (part_replaced w i v x h j p))

module _ (l : Lanes) (t : ℕ → ℤ) (signed : Bool) where
  -- the n lanes from lane i on, on top of v
  abbrev pub chain : ℕ → ℕ → ℕ → ℕ
  chain zero i v = v
  chain (suc n) i v = cond (mask_at l.mask i) (chain n (suc i) (step_of l signed i v (t i))) (chain n (suc i) v)

  -- what holds of v and of every step's result holds of the chain; where the mask names one of the lanes, it need not hold of v
  stepped : (P : ℕ → Type 0) → ((i v : ℕ) → P (step_of l signed i v (t i))) → (n i v : ℕ) → P v → P (chain n i v)
  stepped P h zero i v p = p
  stepped P h (suc n) i v p =
      either P (mask_at l.mask i) (stepped P h n (suc i) (step_of l signed i v (t i)) (h i v)) (stepped P h n (suc i) v p)

  once_stepped : (P : ℕ → Type 0) → ((i v : ℕ) → P (step_of l signed i v (t i))) → (n i v j : ℕ) → i ≤ j → j < n + i → mask_at l.mask j ≡ true → P (chain n i v)
  once_stepped P h zero i v j a b m = absurd (omega arith)
  once_stepped P h (suc n) i v j a b m = go (mask_at l.mask i) refl (λ k. once_stepped P h n (suc i) v j k (omega arith) m)
    where
      go : (s : Bool) → mask_at l.mask i ≡ s → (suc i ≤ j → P (chain n (suc i) v)) → P (cond s (chain n (suc i) (step_of l signed i v (t i))) (chain n (suc i) v))
      go true e rest = stepped P h n (suc i) (step_of l signed i v (t i)) (h i v)
      go false e rest = rest (past_unmasked l.mask i j a e m)

  -- ---- without `add`

  module _ (plain : l.add ≡ false) where
    abbrev low : ℕ → ℕ
    low i = low_of (lane_size l.width) (t i)

    low_small : (i : ℕ) → low i < lane_size l.width
    low_small i = low_lt (lane_size l.width) (t i) (size_pos l.width)

    step_plain : (i v : ℕ) → step_of l signed i v (t i) ≡ replaced l.width i v (low i)
    step_plain i v = rw plain

    -- part j, of which p is there already, when the lanes from i on have been worked
    abbrev worked : ℕ → ℕ → ℕ → ℕ
    worked i j p = cond (leb i j && mask_at l.mask j) (low j) p

    -- lane i, of which q is there afterwards
    worked_step : (i j p q : ℕ) → (j ≡ i → q ≡ cond (mask_at l.mask i) (low i) p) → ((j ≡ i → ⊥) → q ≡ p) → worked (suc i) j q ≡ worked i j p
    worked_step i j p q same other = go (eqb j i) (ltb j i) refl refl
      where
        go : (s u : Bool) → eqb j i ≡ s → ltb j i ≡ u → worked (suc i) j q ≡ worked i j p
        go true u e f = let k : j ≡ i = eqb-true j i e in rw (k, lt-leb (suc i) i (omega arith), le-leb i i (omega arith)) (same k)
        go false true e f = let k : j < i = ltb-true j i f in rw (lt-leb (suc i) j (omega arith), lt-leb i j (omega arith)) (other (eqb-false j i e))
        go false false e f = let k : i < j = above i j (ltb-false j i f) (eqb-false j i e) in rw (other (eqb-false j i e), le-leb (suc i) j (omega arith), le-leb i j (omega arith))

    chain_parts : (n i v : ℕ) → n + i ≡ lanes l.width → (j : ℕ) → j < lanes l.width
        → part_at (lane_size l.width) (chain n i v) j ≡ worked i j (part_at (lane_size l.width) v j)
    chain_parts zero i v e j h = rw (lt-leb i j (omega arith))
    chain_parts (suc n) i v e j h = go (mask_at l.mask i) refl (λ x. chain_parts n (suc i) x (omega arith) j h)
      where
        go : (m : Bool) → mask_at l.mask i ≡ m
            → ((x : ℕ) → part_at (lane_size l.width) (chain n (suc i) x) j ≡ worked (suc i) j (part_at (lane_size l.width) x j))
            → part_at (lane_size l.width) (cond m (chain n (suc i) (step_of l signed i v (t i))) (chain n (suc i) v)) j ≡ worked i j (part_at (lane_size l.width) v j)
        go true m next =
            next (step_of l signed i v (t i))
            ∙ ap (worked (suc i) j) (ap (λ (x : ℕ). part_at (lane_size l.width) x j) (step_plain i v) ∙ part_replaced l.width i v (low i) (low_small i) j h)
            ∙ worked_step i j (part_at (lane_size l.width) v j) _ (λ k. rw (eq-eqb j i k, m)) (λ k. rw (ne_eqb j i k))
        go false m next = next v ∙ worked_step i j (part_at (lane_size l.width) v j) (part_at (lane_size l.width) v j) (λ k. rw m) (λ k. refl)

    chain_merged : (c j : ℕ) → j < lanes l.width → mask_at l.mask j ≡ true → chain (lanes l.width) 0 c ≡ merged l low c
    chain_merged c j h m =
        once_stepped (Joined l.width) (λ i v. subst (Joined l.width) (sym (step_plain i v)) (replaced_joined l.width i v (low i) (low_small i)))
        (lanes l.width) 0 c j (omega arith) (omega arith) m
        ∙ joined_same (lane_size l.width) (lanes l.width) _ (merged_lane l low c) (λ i p. chain_parts (lanes l.width) 0 c (omega arith) i p ∙ rw (le-leb 0 i (omega arith)))

  -- ---- with `add`

  module _ (adds : l.add ≡ true) where
    step_adds : (i v : ℕ) → step_of l signed i v (t i) ≡ (low_of word_size (t i) + v % word_size) % word_size
    step_adds i v = rw adds (low_sum (t i) (exact_of signed word_size v) ∙ rw (low_exact signed v))

    abbrev counted : ℕ → ℤ
    counted i = cond (mask_at l.mask i) (t i) (pos 0)

    chain_added : (n i v : ℕ) → chain n i v % word_size ≡ low_of word_size (pos v +ℤ sum_z n (λ j. counted (j + i)))
    chain_added zero i v = omega arith
    chain_added (suc n) i v = go (mask_at l.mask i) refl (chain_added n (suc i))
      where
        rest : ℕ
        rest = low_of word_size (sum_z n (λ j. counted (j + suc i)))

        split : low_of word_size (pos v +ℤ sum_z (suc n) (λ j. counted (j + i))) ≡ (v % word_size + (low_of word_size (counted i) + rest) % word_size) % word_size
        split =
            low_sum (pos v) (sum_z (suc n) (λ j. counted (j + i)))
            ∙ ap (λ (x : ℕ). (v % word_size + x) % word_size)
            (low_sum (counted (0 + i)) (sum_z n (λ j. counted (suc j + i)))
            ∙ ap₂ (λ (y z : ℤ). (low_of word_size y + low_of word_size z) % word_size) (ap counted (zero-add i))
            (sum_same n _ (λ j. counted (j + suc i)) (λ j p. let e : suc j + i ≡ j + suc i = omega arith in ap counted e)))

        go : (m : Bool) → mask_at l.mask i ≡ m → ((x : ℕ) → chain n (suc i) x % word_size ≡ low_of word_size (pos x +ℤ sum_z n (λ j. counted (j + suc i))))
            → cond m (chain n (suc i) (step_of l signed i v (t i))) (chain n (suc i) v) % word_size ≡ low_of word_size (pos v +ℤ sum_z (suc n) (λ j. counted (j + i)))
        go true m next =
            next (step_of l signed i v (t i)) ∙ low_sum (pos (step_of l signed i v (t i))) (sum_z n (λ j. counted (j + suc i)))
            ∙ rw (step_adds i v, split, m) (omega arith)
        go false m next = next v ∙ low_sum (pos v) (sum_z n (λ j. counted (j + suc i))) ∙ rw (split, m) (omega arith)

    chain_summed : (c j : ℕ) → j < lanes l.width → mask_at l.mask j ≡ true
        → chain (lanes l.width) 0 c ≡ low_of word_size (pos c +ℤ sum_z (lanes l.width) counted)
    chain_summed c j h m =
        sym (mod-eq_of_lt (once_stepped (λ x. x < word_size) (λ i v. rw (step_adds i v) (mod-lt _ (lit< tt))) (lanes l.width) 0 c j (omega arith) (omega arith) m))
        ∙ chain_added (lanes l.width) 0 c
        ∙ ap (λ (z : ℤ). low_of word_size (pos c +ℤ z)) (sum_same (lanes l.width) _ counted (λ i p. let e : i + 0 ≡ i = omega arith in ap counted e))

  -- the scalar lines one after another give what the SIMD line gives, where the mask names some lane
  pub chain_group : (c j : ℕ) → j < lanes l.width → mask_at l.mask j ≡ true → chain (lanes l.width) 0 c ≡ group_of l t c
  chain_group c j h m = go l.add refl
    where
      go : (s : Bool) → l.add ≡ s → chain (lanes l.width) 0 c ≡ group_of l t c
      go true e = chain_summed e c j h m ∙ sym (group_adds l t c e)
      go false e = chain_merged e c j h m ∙ sym (group_plain l t c e)

-- ==== `sat`: a clamped result is the exact number, by dtype, of its own low bits

-- once over the number n of values, which is even
module _ (n q : ℕ) (even : n ≡ suc q + suc q) where
  lowest_signed : lowest_z true n ≡ negsuc q
  lowest_signed = let e : n / 2 ≡ suc q = omega arith in ap (λ (k : ℕ). neg_ℤ (pos k)) e

  back_signed : (z : ℤ) → mag z ≤ q → exact_of true n (low_of n z) ≡ z
  unfolding exact_of
  back_signed (pos x) h =
      let e : x % n ≡ x = mod-eq_of_lt (omega arith) in
      rw (e, lt-leb n (2 * x) (omega arith))
  back_signed (negsuc x) h =
      let e : x % n ≡ x = mod-eq_of_lt (omega arith) in
      rw (e, le-leb n (2 * (n - suc x)) (omega arith), lt-ltb (n - suc x) n (omega arith)) (ap negsuc (omega arith))

  back_unsigned : (x : ℕ) → x < n → exact_of false n (low_of n (pos x)) ≡ pos x
  unfolding exact_of
  back_unsigned x h = ap pos (mod-eq_of_lt h)

  back_lowest : (signed : Bool) → exact_of signed n (low_of n (lowest_z signed n)) ≡ lowest_z signed n
  back_lowest true = rw lowest_signed (back_signed (negsuc q) (omega arith))
  back_lowest false = back_unsigned 0 (omega arith)

  back_highest : (signed : Bool) → exact_of signed n (low_of n (highest_z signed n)) ≡ highest_z signed n
  back_highest true = back_signed (pos (n / 2 - 1)) (omega arith)
  back_highest false = back_unsigned (n - 1) (omega arith)

  back_between : (signed : Bool) (z : ℤ) → lt_z z (lowest_z signed n) ≡ false → lt_z z (highest_z signed n) ≡ true → exact_of signed n (low_of n z) ≡ z
  back_between true (pos x) l h = let k = ltb-true x (n / 2 - 1) h in back_signed (pos x) (omega arith)
  back_between true (negsuc x) l h = let k = ltb-false q x (rw lowest_signed at l) in back_signed (negsuc x) k
  back_between false (pos x) l h = let k = ltb-true x (n - 1) h in back_unsigned x (omega arith)
  back_between false (negsuc x) l h = off l

  clamped_back : (signed : Bool) (z : ℤ) → exact_of signed n (low_of n (clamped_of true signed n z)) ≡ clamped_of true signed n z
  clamped_back signed z = go (lt_z z (lowest_z signed n)) refl
    where
      upper : (y : ℤ) → (lt_z y (highest_z signed n) ≡ true → exact_of signed n (low_of n y) ≡ y) → (t : Bool) → lt_z y (highest_z signed n) ≡ t
          → exact_of signed n (low_of n (cond t y (highest_z signed n))) ≡ cond t y (highest_z signed n)
      upper y k true e = k e
      upper y k false e = back_highest signed

      go : (t : Bool) → lt_z z (lowest_z signed n) ≡ t
          → exact_of signed n (low_of n (min_z (cond t (lowest_z signed n) z) (highest_z signed n))) ≡ min_z (cond t (lowest_z signed n) z) (highest_z signed n)
      go true e = upper (lowest_z signed n) (λ h. back_lowest signed) (lt_z (lowest_z signed n) (highest_z signed n)) refl
      go false e = upper z (back_between signed z e) (lt_z z (highest_z signed n)) refl

clamped_exact : (w : LaneWidth) (signed : Bool) (z : ℤ)
    → exact_of signed (lane_size w) (low_of (lane_size w) (clamped_of true signed (lane_size w) z)) ≡ clamped_of true signed (lane_size w) z
clamped_exact Half signed z = clamped_back (lane_size Half) 32767 (omega arith) signed z
clamped_exact Byte signed z = clamped_back (lane_size Byte) 127 (omega arith) signed z

pub clamped_lane : (op : Arith) (dtype : VideoType) (l : Lanes) (a b i : ℕ)
    → exact_of (is_signed dtype) (lane_size l.width) (low_of (lane_size l.width) (lane_z (computes op dtype true) l a b i)) ≡ lane_z (computes op dtype true) l a b i
unfolding lane_result
clamped_lane op dtype l a b i =
    clamped_exact l.width (is_signed dtype)
    (arith_z op (lane_number l.width l.atype l.asel a b i) (lane_number l.width l.btype l.bsel a b i))
