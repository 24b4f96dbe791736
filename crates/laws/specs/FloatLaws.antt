-- The comparison of floats by their bits alone: which patterns are NaN is `nan_pattern` of FloatOrder.antt; here what the forms of a comparison
-- give with a NaN and without one, both formats at once; and what `ftz` does, in slct too. Assumes nothing.
use Rattle.std.specs.Prelude.{ℕ, ◌%◌, ◌<◌, ◌≤◌, ◌≡◌, refl, Bool, true, false, cond, ◌&&◌, ◌||◌, ℤ, pos, negsuc, neg_ℤ, ltb, leb, Float}
use Rattle.std.proofs.Common.{sym, ap, ◌∙◌, true≢false, arith, lt-ltb, le-ltb, le-leb, ltb-true, ltb-false, le_of_lt}
use Rattle.std.proofs.Math.Bool.{not, and-true, and_comm, and-eq-true_iff}
use Rattle.std.specs.Int.Signed.{lt_z, le_z}
use Rattle.std.specs.Float.{Format, binary32, binary64}
use Rattle.std.specs.Float.Ieee.{is_nan, of_bits, lt, eq, top, hid}
use Rattle.record.specs.declared.Cmp6.{Cmp6}
use Rattle.record.specs.declared.Cmp6.TheVariants.{Eq, Ne, Lt, Le, Gt, Ge}
use Rattle.record.specs.declared.CmpF.{CmpF}
use Rattle.record.specs.declared.CmpF.TheVariants.{Equ, Neu, Ltu, Leu, Gtu, Geu, Num, Nan}
use Rattle.record.specs.declared.CmpOp.{CmpOp}
use Rattle.record.specs.declared.SlctType.{SlctType}
use Rattle.rules.specs.Numbers.{holds_z}
use Rattle.rules.specs.Execution.{flushed, unordered, float_holds, not_below_zero, slct_of}
use Rattle.laws.specs.FloatOrder.{sign_magnitude, nan_pattern, lt_pattern, eq_pattern, lt_nan_left, lt_nan_right, eq_nan_left, eq_nan_right}

-- ==== with a NaN

abbrev pub true_with_nan : CmpF → Bool
true_with_nan Equ = true
true_with_nan Neu = true
true_with_nan Ltu = true
true_with_nan Leu = true
true_with_nan Gtu = true
true_with_nan Geu = true
true_with_nan Num = false
true_with_nan Nan = true

module _ (x y : Float) (some : unordered x y ≡ true) where
  -- one of the two is a NaN
  by_nan : (r : Bool) → (is_nan x ≡ true → r ≡ false) → (is_nan y ≡ true → r ≡ false) → r ≡ false
  by_nan r f g = go (is_nan x) refl some
    where
      go : (t : Bool) → is_nan x ≡ t → t || is_nan y ≡ true → r ≡ false
      go true e u = f e
      go false e u = g u

  no_less : lt x y ≡ false
  no_less = by_nan (lt x y) (lt_nan_left x y) (lt_nan_right x y)

  no_more : lt y x ≡ false
  no_more = by_nan (lt y x) (lt_nan_right y x) (lt_nan_left y x)

  no_same : eq x y ≡ false
  no_same = by_nan (eq x y) (eq_nan_left x y) (eq_nan_right x y)

  -- ordered forms are false with a NaN, `ne` too
  pub ordered_false_with_nan : (c : Cmp6) → float_holds (CmpOp.Six c) x y ≡ false
  ordered_false_with_nan Eq = no_same
  ordered_false_with_nan Ne = rw some
  ordered_false_with_nan Lt = no_less
  ordered_false_with_nan Le = rw (no_less, no_same)
  ordered_false_with_nan Gt = no_more
  ordered_false_with_nan Ge = rw (no_more, no_same)

  -- unordered ones are true, and so is nan; num is false
  pub unordered_true_with_nan : (c : CmpF) → float_holds (CmpOp.Float c) x y ≡ true_with_nan c
  unordered_true_with_nan Equ = rw some
  unordered_true_with_nan Neu = rw some
  unordered_true_with_nan Ltu = rw some
  unordered_true_with_nan Leu = rw some
  unordered_true_with_nan Gtu = rw some
  unordered_true_with_nan Geu = rw some
  unordered_true_with_nan Num = rw some
  unordered_true_with_nan Nan = some

-- ==== without one

-- less or the same is at most
le_or : (a b : ℕ) → ltb a b || (leb a b && leb b a) ≡ leb a b
le_or a b = go (ltb a b) refl
  where
    go : (t : Bool) → ltb a b ≡ t → t || (leb a b && leb b a) ≡ leb a b
    go true e = sym (le-leb a b (le_of_lt (ltb-true a b e)))
    go false e = rw (le-leb b a (ltb-false a b e)) (and-true (leb a b))

le_z_or : (x y : ℤ) → lt_z x y || (le_z x y && le_z y x) ≡ le_z x y
le_z_or (pos a) (pos b) = le_or a b
le_z_or (pos a) (negsuc b) = refl
le_z_or (negsuc a) (pos b) = refl
le_z_or (negsuc a) (negsuc b) = le_or b a

module _ (f : Format) (x y : ℕ) (p : is_nan (of_bits f x) ≡ false) (q : is_nan (of_bits f y) ≡ false) where
  -- order by sign and magnitude
  pub ordered_by_bits : (c : Cmp6) → float_holds (CmpOp.Six c) (of_bits f x) (of_bits f y) ≡ holds_z c (sign_magnitude f x) (sign_magnitude f y)
  unfolding holds_z
  ordered_by_bits Eq = eq_pattern f x y p q
  ordered_by_bits Ne = rw (p, q) (ap not (eq_pattern f x y p q))
  ordered_by_bits Lt = lt_pattern f x y p q
  ordered_by_bits Le = rw (lt_pattern f x y p q, eq_pattern f x y p q) (le_z_or (sign_magnitude f x) (sign_magnitude f y))
  ordered_by_bits Gt = lt_pattern f y x q p
  ordered_by_bits Ge =
      rw (lt_pattern f y x q p, eq_pattern f x y p q, and_comm (le_z (sign_magnitude f x) (sign_magnitude f y)) (le_z (sign_magnitude f y) (sign_magnitude f x)))
      (le_z_or (sign_magnitude f y) (sign_magnitude f x))

-- both zeros are equal
pub zeros_equal : (f : Format) → sign_magnitude f (top f) ≡ sign_magnitude f 0
zeros_equal binary32 = refl
zeros_equal binary64 = refl

-- ==== ftz

-- a pattern below the smallest normal number without its sign becomes the zero of its sign; any other stays, and so does every one without ftz
pub flushed_to_zero : (x : ℕ) → x % top binary32 < hid binary32 → flushed true x ≡ cond (leb (top binary32) x) (top binary32) 0
flushed_to_zero x h = rw (lt-ltb (x % top binary32) (hid binary32) h)

pub flushed_stays : (x : ℕ) → hid binary32 ≤ x % top binary32 → flushed true x ≡ x
flushed_stays x h = rw (le-ltb (x % top binary32) (hid binary32) h)

pub unflushed_stays : (x : ℕ) → flushed false x ≡ x
unflushed_stays x = refl

-- ==== T-02: `ftz` in slct

-- an f32 that is below the smallest normal number without its sign, and no zero
abbrev pub subnormal : ℕ → Bool
subnormal x = ltb 0 (x % top binary32) && ltb (x % top binary32) (hid binary32)

-- a zero of either sign is at or above zero
zero_not_below : (x : ℕ) → x % top binary32 ≡ 0 → lt (of_bits binary32 0) (of_bits binary32 x) || eq (of_bits binary32 0) (of_bits binary32 x) ≡ true
unfolding holds_z
zero_not_below x h =
    let plain : is_nan (of_bits binary32 x) ≡ false = rw (nan_pattern binary32 x, h) in
    let zero : (negative : Bool) → le_z (pos 0) (cond negative (neg_ℤ (pos 0)) (pos 0)) ≡ true = λ negative. elim negative as (λ n. le_z (pos 0) (cond n (neg_ℤ (pos 0)) (pos 0)) ≡ true) [ true ↦ refl | false ↦ refl ] in
    ordered_by_bits binary32 0 x (nan_pattern binary32 0) plain Le ∙ rw h (zero (leb (top binary32) x))

flushed_picks_a : (c a b : ℕ) → c % top binary32 < hid binary32 → slct_of (SlctType.F32 true) c a b ≡ a
unfolding not_below_zero
flushed_picks_a c a b h =
    let zero : (negative : Bool) → cond negative (top binary32) 0 % top binary32 ≡ 0 = λ negative. elim negative as (λ n. cond n (top binary32) 0 % top binary32 ≡ 0) [ true ↦ refl | false ↦ refl ] in
    rw (flushed_to_zero c h, zero_not_below (cond (leb (top binary32) c) (top binary32) 0) (zero (leb (top binary32) c)))

-- with `ftz` a subnormal c of either sign picks a
pub subnormal_picks_a : (c a b : ℕ) → subnormal c ≡ true → slct_of (SlctType.F32 true) c a b ≡ a
subnormal_picks_a c a b h =
    flushed_picks_a c a b (ltb-true (c % top binary32) (hid binary32) ((and-eq-true_iff (ltb 0 (c % top binary32)) (ltb (c % top binary32) (hid binary32))).0 h).1)

-- for every c that is not subnormal `ftz` makes no difference
pub ftz_makes_no_difference : (c a b : ℕ) → subnormal c ≡ false → slct_of (SlctType.F32 true) c a b ≡ slct_of (SlctType.F32 false) c a b
unfolding not_below_zero
ftz_makes_no_difference c a b h = go (ltb 0 (c % top binary32)) (ltb (c % top binary32) (hid binary32)) refl refl h
  where
    go : (s t : Bool) → ltb 0 (c % top binary32) ≡ s → ltb (c % top binary32) (hid binary32) ≡ t → s && t ≡ false
        → slct_of (SlctType.F32 true) c a b ≡ slct_of (SlctType.F32 false) c a b
    go true true e k n = absurd (true≢false n)
    go true false e k n = rw (flushed_stays c (ltb-false (c % top binary32) (hid binary32) k))
    go false t e k n =
        let z : c % top binary32 ≡ 0 = omega (arith, ltb-false 0 (c % top binary32) e) in
        flushed_picks_a c a b (omega arith) ∙ rw (zero_not_below c z)

-- without `ftz` c is looked at as document 01 says
pub without_ftz_lem : (c : ℕ) → not_below_zero (SlctType.F32 false) c ≡ (lt (of_bits binary32 0) (of_bits binary32 c) || eq (of_bits binary32 0) (of_bits binary32 c))
unfolding not_below_zero
without_ftz_lem c = refl
