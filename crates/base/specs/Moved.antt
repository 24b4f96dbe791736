-- The code's own form of an exact number: moved up by k, so that it is never below zero. Assumes nothing.
use Rattle.std.specs.Prelude.{ℕ, suc, ◌+◌, ◌-◌, ◌<◌, ◌≤◌, ◌≡◌, refl, Bool, true, false, not, ◌&&◌, cond, ℤ, pos, negsuc, neg_ℤ, ◌+ℤ◌, ◌-ℤ◌, ltb, leb, eqb}
use Rattle.std.proofs.Common.{arith, sym, ap, ap₂, ◌∙◌, lt-ltb, le-ltb, ltb-true, ltb-false}
use Rattle.std.proofs.Math.IntN.{sub_ℕ}
use Rattle.std.specs.Int.Signed.{lt_z, le_z}
use Rattle.base.specs.Tests.{ltb_same, eqb_leb, leb_not, le_z_not}

-- the exact number that x stands for
unfoldable pub un : ℕ → ℕ → ℤ
un k x = sub_ℕ x k

-- below k it is negative
pub un_low : (k x : ℕ) → x < k → un k x ≡ negsuc (k - suc x)
unfolding un
un_low k x h = rw (lt-ltb x k h)

pub un_high : (k x : ℕ) → k ≤ x → un k x ≡ pos (x - k)
unfolding un
un_high k x h = rw (le-ltb x k h)

-- numbers moved up keep their order
pub un_lt : (k x y : ℕ) → lt_z (un k x) (un k y) ≡ ltb x y
un_lt k x y = go (ltb x k) (ltb y k) refl refl
  where
    go : (s t : Bool) → ltb x k ≡ s → ltb y k ≡ t → lt_z (un k x) (un k y) ≡ ltb x y
    go true true e f =
        let a : x < k = ltb-true x k e in
        let b : y < k = ltb-true y k f in
        rw (un_low k x a, un_low k y b) (ltb_same (k - suc y) (k - suc x) x y (λ h. omega arith) (λ h. omega arith))
    go true false e f =
        let a : x < k = ltb-true x k e in
        let b : k ≤ y = ltb-false y k f in
        rw (un_low k x a, un_high k y b) (sym (lt-ltb x y (omega arith)))
    go false true e f =
        let a : k ≤ x = ltb-false x k e in
        let b : y < k = ltb-true y k f in
        rw (un_high k x a, un_low k y b) (sym (le-ltb x y (omega arith)))
    go false false e f =
        let a : k ≤ x = ltb-false x k e in
        let b : k ≤ y = ltb-false y k f in
        rw (un_high k x a, un_high k y b) (ltb_same (x - k) (y - k) x y (λ h. omega arith) (λ h. omega arith))

pub un_le : (k x y : ℕ) → le_z (un k x) (un k y) ≡ leb x y
un_le k x y = le_z_not (un k x) (un k y) ∙ ap not (un_lt k y x) ∙ sym (leb_not x y)

pub un_eq : (k x y : ℕ) → le_z (un k x) (un k y) && le_z (un k y) (un k x) ≡ eqb x y
un_eq k x y = ap₂ ◌&&◌ (un_le k x y) (un_le k y x) ∙ sym (eqb_leb x y)

-- the number moved up by k that stands for x, and for x less n
pub un_up : (k x : ℕ) → un k (x + k) ≡ pos x
un_up k x = un_high k (x + k) (omega arith) ∙ ap pos (omega arith)

pub un_down : (k x n : ℕ) → n ≤ x + k → un k ((x + k) - n) ≡ sub_ℕ x n
un_down k x n h = go (ltb x n) refl
  where
    go : (t : Bool) → ltb x n ≡ t → un k ((x + k) - n) ≡ cond t (negsuc (n - suc x)) (pos (x - n))
    go true e =
        let a : x < n = ltb-true x n e in
        un_low k ((x + k) - n) (omega arith) ∙ ap negsuc (omega arith)
    go false e =
        let a : n ≤ x = ltb-false x n e in
        un_high k ((x + k) - n) (omega arith) ∙ ap pos (omega arith)

-- sums, negatives and differences of numbers moved up
pub un_add : (k x y : ℕ) → k ≤ x + y → un k ((x + y) - k) ≡ un k x +ℤ un k y
un_add k x y h = go (ltb x k) (ltb y k) refl refl
  where
    go : (s t : Bool) → ltb x k ≡ s → ltb y k ≡ t → un k ((x + y) - k) ≡ un k x +ℤ un k y
    go true true e f =
        let a : x < k = ltb-true x k e in
        let b : y < k = ltb-true y k f in
        rw (un_low k x a, un_low k y b) (un_low k ((x + y) - k) (omega arith) ∙ ap negsuc (omega arith))
    go true false e f =
        let a : x < k = ltb-true x k e in
        let b : k ≤ y = ltb-false y k f in
        rw (un_low k x a, un_high k y b) (ap (un k) (omega arith) ∙ un_down k (y - k) (suc (k - suc x)) (omega arith))
    go false true e f =
        let a : k ≤ x = ltb-false x k e in
        let b : y < k = ltb-true y k f in
        rw (un_high k x a, un_low k y b) (ap (un k) (omega arith) ∙ un_down k (x - k) (suc (k - suc y)) (omega arith))
    go false false e f =
        let a : k ≤ x = ltb-false x k e in
        let b : k ≤ y = ltb-false y k f in
        rw (un_high k x a, un_high k y b) (un_high k ((x + y) - k) (omega arith) ∙ ap pos (omega arith))

pub un_neg : (k y : ℕ) → y ≤ k + k → un k ((k + k) - y) ≡ neg_ℤ (un k y)
un_neg k y h = go (ltb y k) (ltb k y) refl refl
  where
    over : (m : ℕ) → y ≡ k + suc m → un k ((k + k) - y) ≡ negsuc m
    over m e = un_low k ((k + k) - y) (omega arith) ∙ ap negsuc (omega arith)

    go : (s t : Bool) → ltb y k ≡ s → ltb k y ≡ t → un k ((k + k) - y) ≡ neg_ℤ (un k y)
    go true t e f =
        let a : y < k = ltb-true y k e in
        rw (un_low k y a) (un_high k ((k + k) - y) (omega arith) ∙ ap pos (omega arith))
    go false true e f =
        let b : k < y = ltb-true k y f in
        let d : y - k ≡ suc (y - suc k) = omega arith in
        rw (un_high k y (omega arith), d) (over (y - suc k) (omega arith))
    go false false e f =
        let a : k ≤ y = ltb-false y k e in
        let b : y ≤ k = ltb-false k y f in
        let d : y - k ≡ 0 = omega arith in
        rw (un_high k y a, d) (un_high k ((k + k) - y) (omega arith) ∙ ap pos (omega arith))

pub un_sub : (k x y : ℕ) → y ≤ x + k → y ≤ k + k → un k ((x + k) - y) ≡ un k x -ℤ un k y
un_sub k x y h g = ap (un k) (omega arith) ∙ un_add k x ((k + k) - y) (omega arith) ∙ ap (λ (z : ℤ). un k x +ℤ z) (un_neg k y g)

-- the number moved up by k that stands for m below zero
pub un_minus : (k m : ℕ) → m ≤ k → un k (k - m) ≡ neg_ℤ (pos m)
un_minus k m h = ap (un k) (omega arith) ∙ un_neg k (m + k) (omega arith) ∙ ap neg_ℤ (un_up k m)
