-- The names of masks and of selectors of the forms with 2 and 4 are known by their numbers, each name and no other. Assumes nothing.
use Rattle.std.specs.Prelude.{ℕ, zero, suc, ◌+◌, ◌-◌, ◌*◌, ◌/◌, ◌%◌, ◌<◌, ◌≤◌, ◌≡◌, refl, Bool, true, false, not, ◌&&◌, ◌||◌, cond, [], ◌∷◌, eqb, length, None, Option, Some}
use Rattle.std.proofs.Common.{arith, sym, ap, subst, ◌∙◌, length-append, le-leb, leb-true, eq-eqb, ne_eqb, eqb-true}
use Rattle.std.proofs.Math.Bool.{and-true, and-false, or-true, or-false}
use Rattle.std.proofs.lemmas.Bool.{eqb-false, not-true}
use Rattle.base.specs.Pack.{radix, pack, longest_name, code_of, NumberSpells}
use Rattle.record.specs.Operands.{some_lane, spare_lanes_fit, mask_fits, digits_fit}
use Rattle.record.specs.declared.LaneWidth.{LaneWidth}
use Rattle.record.specs.declared.LaneWidth.TheVariants.{Half, Byte}
use Rattle.record.specs.declared.Mask.{Mask}
use Rattle.record.specs.declared.Digits.{Digits}
use Rattle.rules.specs.Shape.{Name, digit}
use Rattle.signs.specs.Digits.{zero_byte}
use Rattle.rules.specs.Numbers.{lanes}
use Rattle.rules.specs.Names.{lane_letter, mask_name, digits_name}
use Rattle.rules.specs.Grammar.{GoodName}
use Rattle.laws.specs.StandardTree.{named, mask_named, digits_named_lem}
use Rattle.base.specs.PackLaws.{code_known}
use Rattle.masks.specs.Masks.{lane_digit, no_lane, naming, comes_next, left_of, falling, mask_of, digits_in, digits_named}
use Rattle.masks.specs.Numbers.{lanes_text, added, mask_spells, letter_spells}

-- ==== tests

pub both : (p q : Bool) → p && q ≡ true → (p ≡ true) × (q ≡ true)
both true true e = (refl, refl)
both true false e = (refl, e)
both false q e = (e, cc)

never : {A : Type 0} → false ≡ true → A
never e = let z : ◌≡◌ {A = ℕ} 0 1 = cc in absurd (omega arith)

-- ==== the bytes of a number

front : (b x : ℕ) → b < radix → (b + radix * x) % radix ≡ b
front b x h = omega arith

behind : (b x : ℕ) → b < radix → (b + radix * x) / radix ≡ x
behind b x h = omega arith

-- ==== masks: the rule of the code, that each digit is lower than the one before, gives the digits of the lanes from the highest down

-- a digit that is lower than the last one names its lane, and is the last one then
pub falls : {last rest : ℕ} (k : ℕ) (m : Mask) (x : ℕ) → zero_byte ≤ x % radix → x % radix < lane_digit k → last ≡ x % radix → rest ≡ x / radix
    → falling k m x ≡ falling (last - zero_byte) (naming (x % radix) true m) rest
unfolding falling
falls zero m x g h l r = absurd (omega arith)
falls {last} {rest} (suc k) m x g h l r = go (eqb (x % radix) (lane_digit k)) refl (λ i. falls k m x g i l r)
  where
    after : Option Mask
    after = falling (last - zero_byte) (naming (x % radix) true m) rest

    go : (t : Bool) → eqb (x % radix) (lane_digit k) ≡ t → (x % radix < lane_digit k → falling k m x ≡ after)
        → falling k (naming (lane_digit k) t m) (cond t (x / radix) x) ≡ after
    go true e f = let d = eqb-true (x % radix) (lane_digit k) e in let i : last - zero_byte ≡ k = omega arith in rw (i, r, d)
    go false e f = let n : x % radix ≡ lane_digit k → ⊥ = eqb-false (x % radix) (lane_digit k) e in f (omega arith)

-- no other byte is taken
pub stops : (k : ℕ) (m : Mask) (x : ℕ) → 0 < x → (zero_byte ≤ x % radix → lane_digit k ≤ x % radix) → falling k m x ≡ None
unfolding falling
stops zero m x p h = rw (ne_eqb x 0 (λ e. omega arith))
stops (suc k) m x p h =
    rw (ne_eqb (x % radix) (lane_digit k) (λ e. let i = h (omega arith) in omega arith)) (stops k m x p (λ g. let i = h g in omega arith))

-- lanes that are left need not be named
pub ends : (k : ℕ) (m : Mask) → falling k m 0 ≡ Some m
unfolding falling
ends zero m = refl
ends (suc k) m = rw (ne_eqb 0 (lane_digit k) (λ e. omega arith)) (ends k m)

-- ==== masks: names and numbers

abbrev mask_with : Bool → Bool → Bool → Bool → Mask
mask_with l3 l2 l1 l0 = record { lane0 = l0; lane1 = l1; lane2 = l2; lane3 = l3 }

abbrev high_lanes : Bool → Bool → Mask
high_lanes l3 l2 = naming (lane_digit 2) l2 (naming (lane_digit 3) l3 no_lane)

all_named : (l3 l2 l1 l0 : Bool) → naming (lane_digit 0) l0 (naming (lane_digit 1) l1 (high_lanes l3 l2)) ≡ mask_with l3 l2 l1 l0
all_named l3 l2 l1 l0 = simp (and-true, and-false, or-false)

abbrev lanes_number : Mask → ℕ
lanes_number m = added 3 m.lane3 (added 2 m.lane2 (added 1 m.lane1 (added 0 m.lane0 0)))

some_added : (k : ℕ) (t : Bool) (x : ℕ) → not (eqb (added k t x) 0) ≡ t || not (eqb x 0)
some_added k true x = rw (ne_eqb (lane_digit k + radix * x) 0 (λ e. omega arith))
some_added k false x = refl

-- some lane is named exactly when there is a digit
some_digit : (m : Mask) → not (eqb (lanes_number m) 0) ≡ some_lane m
some_digit m = simp some_added (turned m.lane3 m.lane2 m.lane1 m.lane0)
  where
    turned : (l3 l2 l1 l0 : Bool) → l3 || (l2 || (l1 || (l0 || false))) ≡ some_lane (mask_with l3 l2 l1 l0)
    turned l3 l2 l1 true = simp or-true
    turned l3 l2 true false = simp or-true
    turned l3 true false false = simp or-true
    turned l3 false false false = simp or-false

lanes_number_spells : (m : Mask) → NumberSpells 4 (lanes_number m) (lanes_text m)
lanes_number_spells m = mask_spells m refl refl refl refl

mask_short : (w : LaneWidth) (m : Mask) → length (mask_name w m) ≤ longest_name
mask_short w m = lengthened w m.lane3 m.lane2 m.lane1 m.lane0
  where
    one : (t : Bool) (b : ℕ) → length (cond t (b ∷ []) []) ≤ 1
    one true b = omega arith
    one false b = omega arith

    lengthened : (w : LaneWidth) (l3 l2 l1 l0 : Bool) → length (mask_name w (mask_with l3 l2 l1 l0)) ≤ longest_name
    lengthened Half l3 l2 l1 l0 = simp length-append (omega (arith, one l3 51, one l2 50, one l1 49, one l0 48))
    lengthened Byte l3 l2 l1 l0 = simp length-append (omega (arith, one l3 51, one l2 50, one l1 49, one l0 48))

coded : {x : ℕ} (w : LaneWidth) (m : Mask) → NumberSpells 5 x (mask_name w m) → x ≡ code_of (mask_name w m)
unfolding code_of
coded w m s = rw (le-leb (length (mask_name w m)) longest_name (mask_short w m)) s.code

-- ==== masks: what is found has the name

abbrev pub MaskIs : LaneWidth → ℕ → Option Mask → Type 0
MaskIs w x (Some m) = (x ≡ code_of (mask_name w m)) × (mask_fits w m ≡ true)
MaskIs w x None = Unit {0}

-- a number is that of the lane's digit, if it comes next, and of what stands behind it
taken_apart_lem : (k x : ℕ) → x ≡ added k (comes_next k x) (left_of k x)
taken_apart_lem k x = go (comes_next k x) refl
  where
    go : (t : Bool) → comes_next k x ≡ t → x ≡ added k t (cond t (x / radix) x)
    go true e = let d = eqb-true (x % radix) (lane_digit k) e in omega arith
    go false e = refl

-- the digits name lanes that the width has, and nothing else stands there
abbrev LanesAre : LaneWidth → ℕ → Option Mask → Type 0
LanesAre w x (Some m) = (x ≡ lanes_number m) × (spare_lanes_fit w m ≡ true)
LanesAre w x None = Unit {0}

-- lanes 1 and 0, behind two that are known
low_lanes : (w : LaneWidth) (l3 l2 : Bool) (x y : ℕ) → x ≡ added 3 l3 (added 2 l2 y) → ((l1 l0 : Bool) → spare_lanes_fit w (mask_with l3 l2 l1 l0) ≡ true)
    → LanesAre w x (falling 2 (high_lanes l3 l2) y)
unfolding falling
low_lanes w l3 l2 x y e spare = go (comes_next 1 y) (taken_apart_lem 1 y) (comes_next 0 (left_of 1 y)) (taken_apart_lem 0 (left_of 1 y)) (eqb (left_of 0 (left_of 1 y)) 0) refl
  where
    go : (l1 : Bool) → y ≡ added 1 l1 (left_of 1 y) → (l0 : Bool) → left_of 1 y ≡ added 0 l0 (left_of 0 (left_of 1 y)) → (t : Bool) → eqb (left_of 0 (left_of 1 y)) 0 ≡ t
        → LanesAre w x (cond t (Some (naming (lane_digit 0) l0 (naming (lane_digit 1) l1 (high_lanes l3 l2)))) None)
    go l1 f l0 g true q =
        let n = f ∙ ap (added 1 l1) (g ∙ ap (added 0 l0) (eqb-true (left_of 0 (left_of 1 y)) 0 q)) in
        subst (λ (m : Mask). LanesAre w x (Some m)) (sym (all_named l3 l2 l1 l0)) (e ∙ ap (λ (z : ℕ). added 3 l3 (added 2 l2 z)) n, spare l1 l0)
    go l1 f l0 g false q = tt

lanes_are : (w : LaneWidth) (x : ℕ) → LanesAre w x (falling (lanes w) no_lane x)
unfolding falling
lanes_are Half x = low_lanes Half false false x x refl (λ l1 l0. refl)
lanes_are Byte x =
    low_lanes Byte (comes_next 3 x) (comes_next 2 (left_of 3 x)) x (left_of 2 (left_of 3 x))
    (taken_apart_lem 3 x ∙ ap (added 3 (comes_next 3 x)) (taken_apart_lem 2 (left_of 3 x)))
    (λ l1 l0. refl)

pub mask_sound : (w : LaneWidth) (x : ℕ) → MaskIs w x (mask_of w x)
unfolding mask_of
mask_sound w x = go (eqb (x % radix) (pack (lane_letter w))) refl (eqb (x / radix) 0) refl
  where
    is : x % radix ≡ pack (lane_letter w) → eqb (x / radix) 0 ≡ false → (f : Option Mask) → LanesAre w (x / radix) f → MaskIs w x f
    is a p (Some m) k =
        let b : x ≡ pack (lane_letter w) + radix * lanes_number m = omega (arith, k.0) in
        (b ∙ coded w m (letter_spells w m (lanes_number_spells m)), rw (← some_digit m, ← k.0, p, k.1))
    is a p None k = tt

    go : (s : Bool) → eqb (x % radix) (pack (lane_letter w)) ≡ s → (t : Bool) → eqb (x / radix) 0 ≡ t
        → MaskIs w x (cond (not s || t) None (falling (lanes w) no_lane (x / radix)))
    go true e false p = is (eqb-true (x % radix) (pack (lane_letter w)) e) p (falling (lanes w) no_lane (x / radix)) (lanes_are w (x / radix))
    go true e true p = tt
    go false e t p = tt

-- ==== masks: each name is found

-- a digit is taken where lower ones follow
takes_digit : (k : ℕ) (t : Bool) (m : Mask) (x : ℕ) → k ≤ 3 → x % radix < lane_digit k → falling (suc k) m (added k t x) ≡ falling k (naming (lane_digit k) t m) x
unfolding falling
takes_digit k true m x h g =
    let s : lane_digit k < radix = omega arith in
    rw (eq-eqb _ _ (front (lane_digit k) x s), behind (lane_digit k) x s)
takes_digit k false m x h g = rw (ne_eqb (x % radix) (lane_digit k) (λ e. omega arith))

lower : (k : ℕ) (t : Bool) (x : ℕ) → k ≤ 3 → x % radix < lane_digit k → added k t x % radix < lane_digit (suc k)
lower k true x h g = omega arith
lower k false x h g = omega arith

low_found : (l3 l2 l1 l0 : Bool) → falling 2 (high_lanes l3 l2) (added 1 l1 (added 0 l0 0)) ≡ Some (mask_with l3 l2 l1 l0)
unfolding falling
low_found l3 l2 l1 l0 =
    takes_digit 1 l1 (high_lanes l3 l2) (added 0 l0 0) (omega arith) (lower 0 l0 0 (omega arith) (omega arith))
    ∙ takes_digit 0 l0 (naming (lane_digit 1) l1 (high_lanes l3 l2)) 0 (omega arith) (omega arith)
    ∙ ap Some (all_named l3 l2 l1 l0)

lanes_found : (w : LaneWidth) (l3 l2 l1 l0 : Bool) → spare_lanes_fit w (mask_with l3 l2 l1 l0) ≡ true
    → falling (lanes w) no_lane (lanes_number (mask_with l3 l2 l1 l0)) ≡ Some (mask_with l3 l2 l1 l0)
lanes_found Half false false l1 l0 e = low_found false false l1 l0
lanes_found Half false true l1 l0 e = never e
lanes_found Half true l2 l1 l0 e = never (both (not l2) false e).1
lanes_found Byte l3 l2 l1 l0 e =
    let low = lower 1 l1 (added 0 l0 0) (omega arith) (lower 0 l0 0 (omega arith) (omega arith)) in
    takes_digit 3 l3 no_lane (added 2 l2 (added 1 l1 (added 0 l0 0))) (omega arith) (lower 2 l2 (added 1 l1 (added 0 l0 0)) (omega arith) low)
    ∙ takes_digit 2 l2 (naming (lane_digit 3) l3 no_lane) (added 1 l1 (added 0 l0 0)) (omega arith) low
    ∙ low_found l3 l2 l1 l0

letter_small : (w : LaneWidth) → pack (lane_letter w) < radix
letter_small Half = omega arith
letter_small Byte = omega arith

pub mask_complete : (w : LaneWidth) (m : Mask) → mask_fits w m ≡ true → mask_of w (code_of (mask_name w m)) ≡ Some m
unfolding mask_of
mask_complete w m e =
    let u = both (some_lane m) (spare_lanes_fit w m) e in
    let s = letter_small w in
    rw (
      ← coded w m (letter_spells w m (lanes_number_spells m)),
      behind (pack (lane_letter w)) (lanes_number m) s,
      eq-eqb _ _ (front (pack (lane_letter w)) (lanes_number m) s),
      not-true (eqb (lanes_number m) 0) (some_digit m ∙ u.0),
    )
    (lanes_found w m.lane3 m.lane2 m.lane1 m.lane0 u.1)

pub mask_known : (w : LaneWidth) (m : Mask) (n : Name) → GoodName n → code_of n ≡ code_of (mask_name w m) → n ≡ mask_name w m
mask_known w m n g e = code_known n (mask_name w m) g (named (mask_named w m)) (mask_short w m) e

-- ==== selectors of the forms with 2 and 4

digits_short : (w : LaneWidth) (s : Digits) → length (digits_name w s) ≤ longest_name
digits_short Half s = omega arith
digits_short Byte s = omega arith

pub digits_known : (w : LaneWidth) (s : Digits) (n : Name) → GoodName n → code_of n ≡ code_of (digits_name w s) → n ≡ digits_name w s
digits_known w s n g e = code_known n (digits_name w s) g (named (digits_named_lem w s)) (digits_short w s) e

digits_pack : (w : LaneWidth) (s : Digits) → code_of (digits_name w s) ≡ pack (digits_name w s)
unfolding code_of
digits_pack Half s = refl
digits_pack Byte s = refl

in_fits : (w : LaneWidth) (x : ℕ) → digits_fit w (digits_in w x) ≡ true
unfolding digits_in
in_fits Half x = rw (le-leb (x / 128 / 128 % 4) 3 (omega arith), le-leb (x / 128 % 4) 3 (omega arith))
in_fits Byte x =
    rw (
      le-leb (x / 128 / 128 / 128 / 128 % 8) 7 (omega arith),
      le-leb (x / 128 / 128 / 128 % 8) 7 (omega arith),
      le-leb (x / 128 / 128 % 8) 7 (omega arith),
      le-leb (x / 128 % 8) 7 (omega arith),
    )

abbrev pub DigitsIs : LaneWidth → ℕ → Option Digits → Type 0
DigitsIs w x (Some s) = (x ≡ code_of (digits_name w s)) × (digits_fit w s ≡ true)
DigitsIs w x None = Unit {0}

pub digits_sound : (w : LaneWidth) (x : ℕ) → DigitsIs w x (digits_named w x)
unfolding digits_named
digits_sound w x = go (eqb (pack (digits_name w (digits_in w x))) x) refl
  where
    go : (t : Bool) → eqb (pack (digits_name w (digits_in w x))) x ≡ t → DigitsIs w x (cond t (Some (digits_in w x)) None)
    go true e = (sym (digits_pack w (digits_in w x) ∙ eqb-true (pack (digits_name w (digits_in w x))) x e), in_fits w x)
    go false e = tt

same_digits_lem : {a b c d : ℕ} (s : Digits) → a ≡ s.lane0 → b ≡ s.lane1 → c ≡ s.lane2 → d ≡ s.lane3 → record { lane0 = a; lane1 = b; lane2 = c; lane3 = d } ≡ s
same_digits_lem s p q r t = rw (p, q, r, t)

quarter : (k x : ℕ) → k ≤ 3 → (digit k % 128 + 128 * x) % 4 ≡ k
quarter k x h = omega arith

eighth : (k x : ℕ) → k ≤ 7 → (digit k % 128 + 128 * x) % 8 ≡ k
eighth k x h = omega arith

-- what the digits of a selector's name stand for
half_name : (a b : ℕ) → a ≤ 3 → b ≤ 3 → digits_in Half (pack (104 ∷ digit b ∷ digit a ∷ [])) ≡ record { lane0 = a; lane1 = b; lane2 = 0; lane3 = 0 }
unfolding digits_in
half_name a b h g =
    let x0 : ℕ = digit a % 128 + 128 * 0 in
    let x1 : ℕ = digit b % 128 + 128 * x0 in
    let e1 = behind 104 x1 (omega arith) in
    let e0 = behind (digit b % radix) x0 (omega arith) in
    same_digits_lem (record { lane0 = a; lane1 = b; lane2 = 0; lane3 = 0 })
    (ap (λ (y : ℕ). y / 128 % 4) e1 ∙ ap (λ (y : ℕ). y % 4) e0 ∙ quarter a 0 h)
    (ap (λ (y : ℕ). y % 4) e1 ∙ quarter b x0 g)
    refl
    refl

byte_name : (a b c d : ℕ) → a ≤ 7 → b ≤ 7 → c ≤ 7 → d ≤ 7
    → digits_in Byte (pack (98 ∷ digit d ∷ digit c ∷ digit b ∷ digit a ∷ [])) ≡ record { lane0 = a; lane1 = b; lane2 = c; lane3 = d }
unfolding digits_in
byte_name a b c d h g f k =
    let x0 : ℕ = digit a % 128 + 128 * 0 in
    let x1 : ℕ = digit b % 128 + 128 * x0 in
    let x2 : ℕ = digit c % 128 + 128 * x1 in
    let x3 : ℕ = digit d % 128 + 128 * x2 in
    let e3 = behind 98 x3 (omega arith) in
    let e2 = ap (λ (y : ℕ). y / 128) e3 ∙ behind (digit d % radix) x2 (omega arith) in
    let e1 = ap (λ (y : ℕ). y / 128) e2 ∙ behind (digit c % radix) x1 (omega arith) in
    let e0 = ap (λ (y : ℕ). y / 128) e1 ∙ behind (digit b % radix) x0 (omega arith) in
    same_digits_lem (record { lane0 = a; lane1 = b; lane2 = c; lane3 = d })
    (ap (λ (y : ℕ). y % 8) e0 ∙ eighth a 0 h)
    (ap (λ (y : ℕ). y % 8) e1 ∙ eighth b x0 g)
    (ap (λ (y : ℕ). y % 8) e2 ∙ eighth c x1 f)
    (ap (λ (y : ℕ). y % 8) e3 ∙ eighth d x2 k)

in_name : (w : LaneWidth) (s : Digits) → digits_fit w s ≡ true → digits_in w (pack (digits_name w s)) ≡ s
in_name Half s e =
    let u = both _ _ e in
    let v = both _ _ u.0 in
    let x = both _ _ v.0 in
    half_name s.lane0 s.lane1 (leb-true _ 3 x.0) (leb-true _ 3 x.1)
    ∙ same_digits_lem s refl refl (sym (eqb-true s.lane2 0 v.1)) (sym (eqb-true s.lane3 0 u.1))
in_name Byte s e =
    let u = both _ _ e in
    let v = both _ _ u.0 in
    let x = both _ _ v.0 in
    byte_name s.lane0 s.lane1 s.lane2 s.lane3 (leb-true _ 7 x.0) (leb-true _ 7 x.1) (leb-true _ 7 v.1) (leb-true _ 7 u.1)

pub digits_complete : (w : LaneWidth) (s : Digits) → digits_fit w s ≡ true → digits_named w (code_of (digits_name w s)) ≡ Some s
unfolding digits_named
digits_complete w s e = rw (digits_pack w s, in_name w s e, eq-eqb (pack (digits_name w s)) (pack (digits_name w s)) refl)
