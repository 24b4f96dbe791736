-- What the proofs of this crate cite: the code's values against the rules'. Assumes nothing.
use Prim.Native.Nat.{ℕ, ◌+◌, ◌-◌, ◌*◌, ◌%◌, ◌^◌, ◌<◌, ◌≤◌}
use native.Mathlib.Omega.{arith}
use mathlib.Core.Path.{◌≡◌, refl, sym, ap, ap₂, ◌∙◌}
use mathlib.Core.Bool.{Bool, true, false, not, cond, ◌||◌}
use lib.IntN.{pos, sub_ℕ}
use mir.Syntax.{w32}
use mir.Val.{to_z}
use lib.Dec.{T, ltb, leb, eqb}
use lib.Ieee.{Float, nan, Format, is_nan, of_bits, lt, le, eq, ne, ones, hid, top}
use lib.Ieee.Bits.{nan_bits_is, nan_bits_above}
use Rattle.std.proofs.Common.{Some, None}
use Rattle.std.specs.declared.cmp.Ordering.TheVariants.{Less, Equal, Greater}
use Rattle.std.specs.Ordering.{float_partial_cmp}
use Rattle.std.specs.Float.{◌≤ᶠ◌, NotNan}
use mathlib.Core.Logic.{◌⊎◌, inl, inr}
use Rattle.std.proofs.lemmas.Float.{eq-not_lt, eq_flip, lt_irrefl, lt_trans, le_left, le_right}
use Rattle.std.proofs.lemmas.Float.{le_of_lt, le_of_eq, lt-or-eq, lt_of_not-le}
use borrow.Author.Tests.{lt-ltb, le-leb, lt-leb, ltb-true, ltb-false}
use Rattle.record.specs.declared.DataType.{DataType}
use Rattle.record.specs.declared.DataType.TheVariants.{B16, B32, B64, U16, U32, U64, S16, S32, S64, F32, F64}
use Rattle.record.specs.declared.Cmp6.{Cmp6}
use Rattle.record.specs.declared.Cmp6.TheVariants.{Eq, Ne, Lt, Le, Gt, Ge}
use Rattle.record.specs.declared.CmpU.TheVariants.{Lo, Ls, Hi, Hs}
use Rattle.record.specs.declared.CmpF.TheVariants.{Equ, Neu, Ltu, Leu, Gtu, Geu, Num, Nan}
use Rattle.record.specs.declared.CmpOp.{CmpOp}
use Rattle.base.specs.Tests.{leb_not}
use Rattle.base.specs.Moved.{un, un_high, un_up, un_down, un_lt, un_le, un_eq}
use Rattle.rules.specs.Numbers.{word_size, half_size, exact_of, holds_z}
use Rattle.laws.specs.FloatOrder.{only_nan}
use Rattle.rules.specs.Execution.{value_of, whole_holds, float_holds, comparison_of}
use Rattle.compare.specs.Mirror.{moved_of, compared_of, six_from, wholes_hold, float_from, float_by, compared_hold}

-- ---- bit patterns

pub pattern_nan : (f : Format) (n : ℕ) → ones f * hid f < n % top f → of_bits f n ≡ nan
pattern_nan f n h = only_nan (of_bits f n) (sym (nan_bits_is f n) ∙ nan_bits_above f n ∙ lt-ltb _ _ h)

-- ---- comparisons

-- the tests of floats make up the rules' comparison
pub float_is : (op : CmpOp) (x y : Float) → float_from op (is_nan x || is_nan y) (lt x y) (eq x y) (lt y x) ≡ float_holds op x y
float_is (CmpOp.Six Eq) x y = refl
float_is (CmpOp.Six Ne) x y = refl
float_is (CmpOp.Six Lt) x y = refl
float_is (CmpOp.Six Le) x y = refl
float_is (CmpOp.Six Gt) x y = refl
float_is (CmpOp.Six Ge) x y = refl
float_is (CmpOp.Unsigned c) x y = refl
float_is (CmpOp.Float Equ) x y = refl
float_is (CmpOp.Float Neu) x y = refl
float_is (CmpOp.Float Ltu) x y = refl
float_is (CmpOp.Float Leu) x y = refl
float_is (CmpOp.Float Gtu) x y = refl
float_is (CmpOp.Float Geu) x y = refl
float_is (CmpOp.Float Num) x y = refl
float_is (CmpOp.Float Nan) x y = refl

-- the order that two floats have, or none, tells the tests apart
told_apart :
    (op : CmpOp) (n a e b : Bool)
    → (T n → ¬ (T a)) → (T n → ¬ (T e)) → (T n → ¬ (T b)) → (T (not n) → T (a || (e || b)))
    → (T e → ¬ (T a)) → (T b → ¬ (T a)) → (T b → ¬ (T e))
    → float_by op (cond a (Some Less) (cond e (Some Equal) (cond b (Some Greater) None))) ≡ float_from op n a e b
told_apart op true true e b na ne nb some ea ba be = absurd (na tt tt)
told_apart op true false true b na ne nb some ea ba be = absurd (ne tt tt)
told_apart op true false false true na ne nb some ea ba be = absurd (nb tt tt)
told_apart op true false false false na ne nb some ea ba be = refl
told_apart op false true true b na ne nb some ea ba be = absurd (ea tt tt)
told_apart op false true false true na ne nb some ea ba be = absurd (ba tt tt)
told_apart op false true false false na ne nb some ea ba be = refl
told_apart op false false true true na ne nb some ea ba be = absurd (be tt tt)
told_apart op false false true false na ne nb some ea ba be = refl
told_apart op false false false true na ne nb some ea ba be = refl
told_apart op false false false false na ne nb some ea ba be = absurd (some tt)

no_nan : (s t : Bool) → T (not (s || t)) → T (not s) × T (not t)
no_nan true t h = absurd h
no_nan false true h = absurd h
no_nan false false h = (tt, tt)

some_nan : (s t : Bool) → T (s || t) → T (not s) → T (not t) → ⊥
some_nan true t n a b = a
some_nan false true n a b = b
some_nan false false n a b = n

either_way : (s a e b : Bool) → (T s → T a ⊎ T e) → (T (not s) → T b) → T (a || (e || b))
either_way s true e b f g = tt
either_way s false true b f g = tt
either_way s false false true f g = tt
either_way true false false false f g = elim (f tt) [ inl h ↦ h | inr h ↦ h ]
either_way false false false false f g = g tt

unlike : (x y : Float) → T (is_nan x || is_nan y) → x ≤ᶠ y → ⊥
unlike x y n h = some_nan (is_nan x) (is_nan y) n (le_left x y h) (le_right x y h)

some_order : (x y : Float) → NotNan x → NotNan y → T (lt x y || (eq x y || lt y x))
some_order x y p q = either_way (le x y) (lt x y) (eq x y) (lt y x) (lt-or-eq x y) (lt_of_not-le x y p q)

pub float_by_is : (op : CmpOp) (x y : Float) → float_by op (float_partial_cmp x y) ≡ float_holds op x y
float_by_is op x y =
    told_apart op (is_nan x || is_nan y) (lt x y) (eq x y) (lt y x)
    (λ n k. unlike x y n (le_of_lt x y k))
    (λ n k. unlike x y n (le_of_eq x y k))
    (λ n k. let l : y ≤ᶠ x = le_of_lt y x k in some_nan (is_nan x) (is_nan y) n (le_right y x l) (le_left y x l))
    (λ n. let h = no_nan (is_nan x) (is_nan y) n in some_order x y h.0 h.1)
    (eq-not_lt x y) (λ h k. lt_irrefl x (lt_trans x y x k h)) (λ h k. eq-not_lt y x (eq_flip x y k) h)
    ∙ float_is op x y

-- whole numbers moved up by k compare as the exact numbers
module _ (k x y : ℕ) where
  six_is : (op : Cmp6) → six_from op (ltb x y) (eqb x y) (ltb y x) ≡ holds_z op (un k x) (un k y)
  unfolding holds_z
  six_is Eq = sym (un_eq k x y)
  six_is Ne = ap not (sym (un_eq k x y))
  six_is Lt = sym (un_lt k x y)
  six_is Le = sym (leb_not x y) ∙ sym (un_le k x y)
  six_is Gt = sym (un_lt k y x)
  six_is Ge = sym (leb_not y x) ∙ sym (un_le k y x)

  wholes_are : (op : CmpOp) → wholes_hold op x y ≡ whole_holds op (un k x) (un k y)
  wholes_are (CmpOp.Six c) = six_is c
  wholes_are (CmpOp.Unsigned Lo) = six_is Lt
  wholes_are (CmpOp.Unsigned Ls) = six_is Le
  wholes_are (CmpOp.Unsigned Hi) = six_is Gt
  wholes_are (CmpOp.Unsigned Hs) = six_is Ge
  wholes_are (CmpOp.Float c) = refl

-- what the bits of a whole number stand for: themselves, or with a sign the number moved up by half of the range
exact_plain : (n x : ℕ) → exact_of false n x ≡ un 0 x
unfolding exact_of
exact_plain n x = sym (un_high 0 x (omega arith) ∙ ap pos (omega arith))

exact_moved : (h x : ℕ) → exact_of true (h + h) x ≡ un h (moved_of h x)
unfolding exact_of moved_of
exact_moved h x = go (ltb x h) refl
  where
    go : (t : Bool) → ltb x h ≡ t → cond (leb (h + h) (2 * x)) (sub_ℕ x (h + h)) (pos x) ≡ un h (cond t (x + h) (x - h))
    go true e =
        let a : x < h = ltb-true x h e in
        rw (lt-leb (h + h) (2 * x) (omega arith)) (sym (un_up h x))
    go false e =
        let a : h ≤ x = ltb-false x h e in
        rw (le-leb (h + h) (2 * x) (omega arith)) (sym (un_down h x (h + h) (omega arith)) ∙ ap (un h) (omega arith))

module _ (op : CmpOp) where
  plain : (n x y : ℕ) → wholes_hold op x y ≡ whole_holds op (exact_of false n x) (exact_of false n y)
  plain n x y = wholes_are 0 x y op ∙ ap₂ (whole_holds op) (sym (exact_plain n x)) (sym (exact_plain n y))

  moved : (h x y : ℕ) → wholes_hold op (moved_of h x) (moved_of h y) ≡ whole_holds op (exact_of true (h + h) x) (exact_of true (h + h) y)
  moved h x y = wholes_are h (moved_of h x) (moved_of h y) op ∙ ap₂ (whole_holds op) (sym (exact_moved h x)) (sym (exact_moved h y))

  pub compared_is : (t : DataType) (ftz : Bool) (x y : ℕ) → compared_hold op (compared_of t ftz x) (compared_of t ftz y) ≡ comparison_of op ftz t x y
  unfolding compared_hold compared_of comparison_of value_of
  compared_is B16 ftz x y = plain half_size (x % half_size) (y % half_size)
  compared_is B32 ftz x y = plain word_size (x % word_size) (y % word_size)
  compared_is B64 ftz x y = plain (2 ^ 64) x y
  compared_is U16 ftz x y = plain half_size (x % half_size) (y % half_size)
  compared_is U32 ftz x y = plain word_size (x % word_size) (y % word_size)
  compared_is U64 ftz x y = plain (2 ^ 64) x y
  compared_is S16 ftz x y = moved (2 ^ 15) (x % half_size) (y % half_size)
  compared_is S32 ftz x y = moved (2 ^ 31) (x % word_size) (y % word_size)
  compared_is S64 ftz x y = moved (2 ^ 63) x y
  compared_is F32 ftz x y = refl
  compared_is F64 ftz x y = refl

-- ---- slct: at or above zero

pub signed_word : (c : ℕ) → c < 2 ^ 32 → to_z w32 c ≡ exact_of true word_size c
unfolding exact_of
signed_word c h = go (ltb c (2 ^ 31)) refl
  where
    go : (t : Bool) → ltb c (2 ^ 31) ≡ t → to_z w32 c ≡ cond (leb word_size (2 * c)) (sub_ℕ c word_size) (pos c)
    go true e =
        let a : c < 2 ^ 31 = ltb-true c (2 ^ 31) e in
        rw (e, lt-leb word_size (2 * c) (omega arith))
    go false e =
        let a : 2 ^ 31 ≤ c = ltb-false c (2 ^ 31) e in
        rw (e, le-leb word_size (2 * c) (omega arith), lt-ltb c word_size h)
