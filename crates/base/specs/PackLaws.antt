-- A short text and its number: each gives the other back. Assumes nothing.
use Rattle.std.specs.Prelude.{ℕ, zero, suc, ◌+◌, ◌*◌, ◌/◌, ◌%◌, ◌^◌, ◌≤◌, ◌<◌, ◌≡◌, refl, Bool, true, false, ◌&&◌, ◌||◌, cond, List, [], ◌∷◌, ◌++◌, leb, ltb, eqb, length}
use Rattle.std.proofs.Common.{pow-suc, mod-eq_of_lt, arith, sym, ap, ◌∙◌, le-leb, leb-true, ltb-true, ne_eqb}
use Rattle.std.proofs.Math.Nat.{pow-le-pow_right}
use Rattle.std.proofs.Math.Bool.{and-eq-true_iff}
use Rattle.signs.specs.Bytes.{is_name_byte, All, Some}
use Rattle.signs.specs.Bytes.All.{none, more}
use Rattle.base.specs.Values.{every}
use Rattle.base.specs.Pack.{radix, pack, longest_name, code_of, unpack_in, unpacked, is_plain, is_short_name, NumberSpells}

-- ==== the names of the reader: a name that is kept as the number of a short name is that name

-- a-z and 0-9 are bytes over 0 and below 128
pub name_byte : (b : ℕ) → is_name_byte b ≡ true → (0 < b) × (b < radix)
name_byte b e = go (leb 97 b) refl (leb b 122) refl (leb 48 b) refl (leb b 57) refl e
  where
    go : (s : Bool) → leb 97 b ≡ s → (t : Bool) → leb b 122 ≡ t → (u : Bool) → leb 48 b ≡ u → (v : Bool) → leb b 57 ≡ v
        → (s && t) || (u && v) ≡ true → (0 < b) × (b < radix)
    go true p true q u r v s e = (omega (arith, leb-true 97 b p), omega (arith, leb-true b 122 q))
    go true p false q true r true s e = (omega (arith, leb-true 48 b r), omega (arith, leb-true b 57 s))
    go false p t q true r true s e = (omega (arith, leb-true 48 b r), omega (arith, leb-true b 57 s))
    go true p false q true r false s e = let z : ◌≡◌ {A = ℕ} 0 1 = cc in absurd (omega arith)
    go true p false q false r v s e = let z : ◌≡◌ {A = ℕ} 0 1 = cc in absurd (omega arith)
    go false p t q true r false s e = let z : ◌≡◌ {A = ℕ} 0 1 = cc in absurd (omega arith)
    go false p t q false r v s e = let z : ◌≡◌ {A = ℕ} 0 1 = cc in absurd (omega arith)

pub pack_positive : {w : List ℕ} → All is_name_byte w → 0 < length w → 0 < pack w
pack_positive none h = absurd (omega arith)
pack_positive (more {b = b} {w = w} p l) h =
    let x = name_byte b p in
    let y : b % 128 ≡ b = omega arith in
    omega arith

-- no two lists of such bytes have one number
pub pack_injective : {w k : List ℕ} → All is_name_byte w → All is_name_byte k → pack w ≡ pack k → w ≡ k
pack_injective none none e = refl
pack_injective none (more {b = d} {w = k} q m) e = absurd (omega (arith, pack_positive (more {b = d} {w = k} q m) (omega arith)))
pack_injective (more {b = b} {w = w} p l) none e = absurd (omega (arith, pack_positive (more {b = b} {w = w} p l) (omega arith)))
pack_injective (more {b = b} {w = w} p l) (more {b = d} {w = k} q m) e =
    let x = name_byte b p in
    let y = name_byte d q in
    let s : b % 128 ≡ b = omega arith in
    let t : d % 128 ≡ d = omega arith in
    let i : pack w ≡ pack k = omega arith in
    let j : b ≡ d = omega arith in
    ap (λ (c : ℕ). c ∷ w) j ∙ ap (λ (r : List ℕ). d ∷ r) (pack_injective l m i)

-- a name of at most nine bytes is not kept as 0
pub code_positive : (k : List ℕ) → Some is_name_byte k → length k ≤ longest_name → 0 < code_of k
unfolding code_of
code_positive k g s = rw (le-leb (length k) longest_name s) (pack_positive g.all g.some)

pub code_known : (w k : List ℕ) → Some is_name_byte w → Some is_name_byte k → length k ≤ longest_name → code_of w ≡ code_of k → w ≡ k
unfolding code_of
code_known w k g h s e = go (leb (length w) longest_name) (rw (le-leb (length k) longest_name s) at e)
  where
    go : (t : Bool) → cond t (pack w) 0 ≡ pack k → w ≡ k
    go true e = pack_injective g.all h.all e
    go false e = absurd (omega (arith, pack_positive h.all h.some))

-- whether a name that is written out is good and short is computed
pub all_of : {p : ℕ → Bool} (w : List ℕ) → every p w ≡ true → All p w
all_of [] e = none
all_of (b ∷ w) e = let k = simp and-eq-true_iff at e in more k.0 (all_of w k.1)

pub short_name : (w : List ℕ) → is_short_name w ≡ true → Some is_name_byte w × (length w ≤ longest_name)
short_name w e =
    let k = simp and-eq-true_iff at e in
    (record { all = all_of w k.1.1; some = ltb-true 0 (length w) k.0 }, leb-true (length w) longest_name k.1.0)

pub short_code : (w : List ℕ) → is_short_name w ≡ true → code_of w ≡ pack w
unfolding code_of
short_code w e = rw (le-leb (length w) longest_name (short_name w e).1) refl

-- ==== taking a number apart, byte by byte

-- a byte more than enough changes nothing
enough : (k x : ℕ) → x < radix ^ k → unpack_in k x ≡ unpack_in (suc k) x
unfolding unpack_in
enough zero x h = let e : x ≡ 0 = omega arith in rw e
enough (suc k) x h = ap (λ (l : List ℕ). cond (eqb x 0) [] (x % radix ∷ l)) (enough k (x / radix) (let e = rw (pow-suc radix k) at h in omega arith))

pub unpacked_none : unpacked 0 ≡ []
unfolding unpacked unpack_in
unpacked_none = refl

pub unpacked_more : (x : ℕ) → 0 < x → x < radix ^ 10 → unpacked x ≡ x % radix ∷ unpacked (x / radix)
unfolding unpacked unpack_in
unpacked_more x p h = rw (ne_eqb x 0 (λ e. omega arith)) (ap (λ (l : List ℕ). x % radix ∷ l) (enough 9 (x / radix) (omega arith)))

-- ==== the number of a text gives the text back

pub plain_first : (b : ℕ) (w : List ℕ) → every is_plain (b ∷ w) ≡ true → (0 < b) × (b < radix) × (every is_plain w ≡ true)
plain_first b w e = let k = simp and-eq-true_iff at e in (ltb-true 0 b k.0.0, ltb-true b radix k.0.1, k.1)

back_in : (k : ℕ) (w : List ℕ) → every is_plain w ≡ true → pack w < radix ^ k → unpack_in k (pack w) ≡ w
unfolding unpack_in
back_in zero [] e h = refl
back_in (suc k) [] e h = refl
back_in zero (b ∷ w) e h = let f = plain_first b w e in let y : b % 128 ≡ b = omega arith in absurd (omega arith)
back_in (suc k) (b ∷ w) e h =
    let f = plain_first b w e in
    let g : b % radix + radix * pack w < radix ^ k * radix = rw (pow-suc radix k) at h in
    let y : b % radix ≡ b = omega arith in
    let low : (b % radix + radix * pack w) % radix ≡ b = omega arith in
    let high : (b % radix + radix * pack w) / radix ≡ pack w = omega arith in
    rw (ne_eqb (b % radix + radix * pack w) 0 (λ q. omega arith), low, high, back_in k w f.2 (omega arith)) refl

unpacked_pack : (w : List ℕ) → every is_plain w ≡ true → pack w < radix ^ 10 → unpacked (pack w) ≡ w
unfolding unpacked
unpacked_pack w e h = back_in 10 w e h

under : {k x : ℕ} {w : List ℕ} → NumberSpells k x w → x < radix ^ 9
under {k} {x} {w} s =
    let e : radix ^ k ≤ radix ^ 9 = pow-le-pow_right {n = radix} (omega arith) s.few in
    omega (arith, s.small)

pub text_of_lem : {k x : ℕ} {w : List ℕ} → NumberSpells k x w → unpacked x ≡ w
text_of_lem {k} {x} {w} s = let h = under s in rw s.code (unpacked_pack w s.plain (rw s.code at (let i : x < radix ^ 10 = omega arith in i)))

-- a text has one number, and a number one text
pub spells_one : {j k x y : ℕ} {w : List ℕ} → NumberSpells j x w → NumberSpells k y w → x ≡ y
spells_one s t = s.code ∙ sym t.code

pub spelled_one : {j k x : ℕ} {v w : List ℕ} → NumberSpells j x v → NumberSpells k x w → v ≡ w
spelled_one s t = sym (text_of_lem s) ∙ text_of_lem t

-- ==== longer texts

-- one byte before it
module _ {k x : ℕ} {w : List ℕ} (b : ℕ) (e : is_plain b ≡ true) where
  whole : NumberSpells k x w → every is_plain (b ∷ w) ≡ true
  whole s = rw e s.plain

  coded : NumberSpells k x w → b + radix * x ≡ pack (b ∷ w)
  coded s = rw (mod-eq_of_lt (plain_first b w (whole s)).1, s.code) refl

  pub spells_more : suc k ≤ longest_name → NumberSpells k x w → NumberSpells (suc k) (b + radix * x) (b ∷ w)
  spells_more h s =
      let q = plain_first b w (whole s) in
      record { few = h; code = coded s; small = rw (pow-suc radix k) (omega (arith, s.small)); plain = whole s }

  -- a tenth byte too gives the text back
  pub text_more : NumberSpells k x w → unpacked (b + radix * x) ≡ b ∷ w
  text_more s =
      let h = under s in
      let q = plain_first b w (whole s) in
      rw (coded s) (unpacked_pack (b ∷ w) (whole s) (rw (coded s) at (let i : b + radix * x < radix ^ 10 = omega arith in i)))

-- with room to spare
pub wider : {k x : ℕ} {w : List ℕ} (m : ℕ) → k ≤ m → m ≤ longest_name → NumberSpells k x w → NumberSpells m x w
wider {k} {x} {w} m h l s =
    let e : radix ^ k ≤ radix ^ m = pow-le-pow_right {n = radix} (omega arith) h in
    record { few = l; code = s.code; small = omega (arith, s.small); plain = s.plain }

-- one byte, if it is wanted
pub spells_maybe : {k x y : ℕ} {w : List ℕ} (t : Bool) (b : ℕ) → is_plain b ≡ true → suc k ≤ longest_name → y ≡ cond t (b + radix * x) x → NumberSpells k x w
    → NumberSpells (suc k) y (cond t (b ∷ []) [] ++ w)
spells_maybe true b e h q s = rw q (spells_more b e h s)
spells_maybe {k} {x} {y} {w} false b e h q s = rw q (wider (suc k) (omega arith) h s)

-- a text that is written out: its test is computed
pub spells_written : (k : ℕ) (w : List ℕ) → leb k longest_name && (ltb (pack w) (radix ^ k) && every is_plain w) ≡ true → NumberSpells k (pack w) w
spells_written k w e =
    let q = simp and-eq-true_iff at e in
    record { few = leb-true k longest_name q.0; code = refl; small = ltb-true (pack w) (radix ^ k) q.1.0; plain = q.1.1 }
