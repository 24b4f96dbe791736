-- The order of IEEE 754 values by their bit patterns, over the format: two that are no NaN compare as their signs and magnitudes do. Assumes nothing.
use Rattle.std.specs.Prelude.{◌≡◌, refl, ◌⊎◌, Bool, true, false, not, cond, ◌&&◌, ℕ, zero, suc, ◌+◌, ◌-◌, ◌*◌, ◌/◌, ◌%◌, ◌^◌, ◌<◌, ◌≤◌, ℤ, pos, neg_ℤ, leb, ltb, eqb, Float}
use Rattle.std.proofs.Common.{sym, ap, ap₂, ◌∙◌, subst, inl, inr, true≢false, le_of_eq, le_of_lt, lt_of_lt_of_le, eq-or-lt_of_le, zero-add, add_comm, zero-mul, mul_assoc, mul_right_comm, mul-pos, mul-le-mul, mul-le-mul_right, mul-lt-mul_of_pos_right, mul-div_cancel, div-lt_iff_lt-mul, div-add-mod', mod-lt, mod-eq_of_lt, arith, pow_pos, pow_mono, lt-ltb, le-ltb, eq-eqb, ne_eqb, ltb-true, ltb-false}
use Rattle.std.proofs.Math.Bool.{and-true, and-false, and_comm}
use Rattle.std.proofs.Math.Nat.{pow-succ', div-eq_of_lt, mul-mod_left, mod-mod_of_dvd, dvd-mul_right}
use Rattle.std.specs.Int.Signed.{lt_z, le_z}
use Rattle.std.proofs.Math.Dec.{leb-suc-zero, leb-suc-suc, eqb-zero-suc, eqb-suc-zero}
use Rattle.std.specs.Float.{nan, inf, fin, Format, binary32, binary64}
use Rattle.std.specs.Float.Ieee.{prec, low, up, down, below, level, lt, eq, is_nan, hid, ones, top, of_fields, of_bits}
use Rattle.std.specs.Float.Ieee.Fits.{down_pos}
use Rattle.std.specs.Float.Ieee.Nearest.{div_mono}
use Rattle.std.specs.Float.Ieee.Exact.{HasValue, odd_sign}
use Rattle.std.specs.Float.Ieee.Bits.{nan_bits_is, nan_bits_above}
use Rattle.base.specs.Tests.{le_z_not}

-- a pattern by sign and magnitude: the sign is the highest bit, the magnitude all bits below it. Both zeros are 0
abbrev pub sign_magnitude : Format → ℕ → ℤ
sign_magnitude f b = cond (leb (top f) b) (neg_ℤ (pos (b % top f))) (pos (b % top f))

-- which patterns are NaN
pub nan_pattern : (f : Format) (b : ℕ) → is_nan (of_bits f b) ≡ ltb (ones f * hid f) (b % top f)
nan_pattern f b = sym (nan_bits_is f b) ∙ nan_bits_above f b

-- ---- `below` is kept by a function that keeps 0 and the order, as a product by a positive number
by_lt : (P : Bool → Type 0) (a b : ℕ) → (a < b → P true) → (b ≤ a → P false) → P (ltb a b)
by_lt P a b less rest = go (ltb a b) (ltb-true a b) (ltb-false a b)
  where
    go : (t : Bool) → (t ≡ true → a < b) → (t ≡ false → b ≤ a) → P t
    go true p q = less (p refl)
    go false p q = rest (q refl)

mono_ltb : (g : ℕ → ℕ) → ((a b : ℕ) → a < b → g a < g b) → (a b : ℕ) → ltb (g a) (g b) ≡ ltb a b
mono_ltb g mono a b =
    by_lt (λ (t : Bool). ltb (g a) (g b) ≡ t) a b (λ h. lt-ltb (g a) (g b) (mono a b h))
    (λ h. le-ltb (g a) (g b) (elim (eq-or-lt_of_le h) [ inl e ↦ le_of_eq (ap g e) | inr l ↦ le_of_lt (mono b a l) ]))

mono_pos : (g : ℕ → ℕ) → g 0 ≡ 0 → ((a b : ℕ) → a < b → g a < g b) → (a b : ℕ) → ltb 0 (g a + g b) ≡ ltb 0 (a + b)
mono_pos g z mono zero zero = ap (λ (x : ℕ). ltb 0 (x + x)) z
mono_pos g z mono (suc a) b = lt-ltb 0 (g (suc a) + g b) (omega (arith, mono 0 (suc a) (omega arith))) ∙ sym (lt-ltb 0 (suc a + b) (omega arith))
mono_pos g z mono zero (suc b) = lt-ltb 0 (g 0 + g (suc b)) (omega (arith, mono 0 (suc b) (omega arith))) ∙ sym (lt-ltb 0 (0 + suc b) (omega arith))

below_mono : (g : ℕ → ℕ) → g 0 ≡ 0 → ((a b : ℕ) → a < b → g a < g b) → (s t : Bool) (a b : ℕ) → below s (g a) t (g b) ≡ below s a t b
below_mono g z mono false false a b = mono_ltb g mono a b
below_mono g z mono false true a b = refl
below_mono g z mono true false a b = mono_pos g z mono a b
below_mono g z mono true true a b = mono_ltb g mono b a

below_scale : (s t : Bool) (a b c : ℕ) → 0 < c → below s (a * c) t (b * c) ≡ below s a t b
below_scale s t a b c p = below_mono (λ (x : ℕ). x * c) (zero-mul c) (λ x y h. mul-lt-mul_of_pos_right h p) s t a b

-- ---- a magnitude in units of the smallest value, by the exponent's field and the digits, h being the field's weight: it grows with the magnitude
abbrev units_at : ℕ → ℕ → ℕ → ℕ
units_at h zero t = t * 2 ^ 0
units_at h (suc x) t = (h + t) * 2 ^ x

abbrev units : ℕ → ℕ → ℕ
units h m = units_at h (m / h) (m % h)

under_next : (h x t : ℕ) → t < h → units_at h x t < h * 2 ^ x
under_next h zero t l = mul-lt-mul_of_pos_right l (pow_pos 0)
under_next h (suc x) t l = rw (pow-succ' 2 x, ← mul_assoc h 2 (2 ^ x)) (mul-lt-mul_of_pos_right (omega arith) (pow_pos x))

over_last : (h x y t : ℕ) → x < y → h * 2 ^ x ≤ units_at h y t
over_last h x zero t l = absurd (omega arith)
over_last h x (suc y) t l = mul-le-mul (omega arith) (pow_mono (omega arith))

by_digits : (h x t r : ℕ) → t < r → units_at h x t < units_at h x r
by_digits h zero t r l = mul-lt-mul_of_pos_right l (pow_pos 0)
by_digits h (suc x) t r l = mul-lt-mul_of_pos_right (omega arith) (pow_pos x)

units_mono : (h : ℕ) → 0 < h → (m n : ℕ) → m < n → units h m < units h n
units_mono h H m n l = elim (eq-or-lt_of_le (div_mono m h n h H H (mul-le-mul_right h (le_of_lt l)))) [
  | inl e ↦
      let r : m % h < n % h = omega (arith, ap (λ (x : ℕ). x * h) e, div-add-mod' m h, div-add-mod' n h) in
      subst (λ (x : ℕ). units_at h x (m % h) < units h n) (sym e) (by_digits h (n / h) (m % h) (n % h) r)
  | inr k ↦ lt_of_lt_of_le (under_next h (m / h) (m % h) (mod-lt m H)) (over_last h (m / h) (n / h) (n % h) k)
]

units_zero : (h : ℕ) → 0 < h → units h 0 ≡ 0
units_zero h H = ap₂ (units_at h) (div-eq_of_lt H) (mod-eq_of_lt H)

-- ---- a value has the sign s and the magnitude m: an infinity the largest, a finite value so many units
abbrev most : Format → ℕ
most f = ones f * hid f

abbrev Reads : Format → Float → Bool → ℕ → Type 0
Reads f nan s m = ⊥
Reads f (inf i) s m = (i ≡ s) × (m ≡ most f)
Reads f (fin i k e) s m = (i ≡ s) × (k * up e * 2 ^ low f ≡ units (hid f) m * down e) × (m < most f)

hid_pos : (f : Format) → 0 < hid f
hid_pos f = pow_pos (prec f - 1)

finite : (f : Format) (v : Float) (s : Bool) (m : ℕ) → m < most f → HasValue v s (units (hid f) m) (2 ^ low f) → Reads f v s m
finite f nan s m l h = h
finite f (inf i) s m l h = absurd h
finite f (fin i k e) s m l h = (h.0, h.1, l)

infinite : (f : Format) (s : Bool) → of_fields f s (ones f) 0 ≡ inf s
unfolding of_fields
infinite binary32 s = refl
infinite binary64 s = refl

fields_value : (f : Format) (s : Bool) (x t : ℕ) → x < ones f → HasValue (of_fields f s x t) s (units_at (hid f) x t) (2 ^ low f)
unfolding of_fields
fields_value f s zero t l = odd_sign (prec f) s t 0 (low f)
fields_value f s (suc x) t l = rw (ne_eqb (suc x) (ones f) (λ e. omega arith)) (odd_sign (prec f) s (hid f + t) x (low f))

fields_read : (f : Format) (s : Bool) (m : ℕ) → (m ≡ most f) ⊎ (m < most f) → Reads f (of_fields f s (m / hid f) (m % hid f)) s m
fields_read f s m (inr k) = finite f (of_fields f s (m / hid f) (m % hid f)) s m k (fields_value f s (m / hid f) (m % hid f) ((div-lt_iff_lt-mul (hid_pos f)).1 k))
fields_read f s m (inl e) =
    let is : of_fields f s (m / hid f) (m % hid f) ≡ inf s = ap (λ (k : ℕ). of_fields f s (k / hid f) (k % hid f)) e ∙ ap₂ (of_fields f s) (mul-div_cancel (ones f) (hid_pos f)) (mul-mod_left (ones f) (hid f)) ∙ infinite f s in
    subst (λ (v : Float). Reads f v s m) (sym is) (refl, e)

reads : (f : Format) (b : ℕ) → is_nan (of_bits f b) ≡ false → Reads f (of_bits f b) (leb (top f) b) (b % top f)
unfolding of_bits
reads f b h =
    subst (λ (t : ℕ). Reads f (of_fields f (leb (top f) b) (b % top f / hid f) t) (leb (top f) b) (b % top f)) (mod-mod_of_dvd (hid f) b (dvd-mul_right (hid f) (suc (ones f))))
    (fields_read f (leb (top f) b) (b % top f) (eq-or-lt_of_le (ltb-false (most f) (b % top f) (sym (nan_pattern f b) ∙ h))))

-- ---- less
largest : (s t : Bool) (m n : ℕ) → m < n → (not t ≡ below s m t n) × (t ≡ below t n s m)
largest false false m n h = (sym (lt-ltb m n h), sym (le-ltb n m (le_of_lt h)))
largest false true m n h = (refl, sym (lt-ltb 0 (n + m) (omega arith)))
largest true false m n h = (sym (lt-ltb 0 (m + n) (omega arith)), refl)
largest true true m n h = (sym (le-ltb n m (le_of_lt h)), sym (lt-ltb m n h))

both_largest : (s t : Bool) (m n : ℕ) → 0 < m → m ≡ n → (s && not t) ≡ below s m t n
both_largest false false m n p e = sym (le-ltb m n (omega arith))
both_largest false true m n p e = refl
both_largest true false m n p e = sym (lt-ltb 0 (m + n) (omega arith))
both_largest true true m n p e = sym (le-ltb n m (omega arith))

most_pos : (f : Format) → 0 < most f
most_pos f = mul-pos (omega arith) (hid_pos f)

lt_reads : (f : Format) (v w : Float) (s t : Bool) (m n : ℕ) → Reads f v s m → Reads f w t n → lt v w ≡ below s m t n
unfolding lt
lt_reads f nan w s t m n p q = absurd p
lt_reads f (inf i) nan s t m n p q = absurd q
lt_reads f (fin i k e) nan s t m n p q = absurd q
lt_reads f (inf i) (inf j) s t m n p q =
    ap₂ (λ (a b : Bool). a && not b) p.0 q.0 ∙ both_largest s t m n (lt_of_lt_of_le (most_pos f) (le_of_eq (sym p.1))) (p.1 ∙ sym q.1)
lt_reads f (inf i) (fin j l d) s t m n p q = p.0 ∙ (largest t s n m (lt_of_lt_of_le q.2 (le_of_eq (sym p.1)))).1
lt_reads f (fin i k e) (inf j) s t m n p q = ap not q.0 ∙ (largest s t m n (lt_of_lt_of_le p.2 (le_of_eq (sym q.1)))).0
lt_reads f (fin i k e) (fin j l d) s t m n p q =
    let c = 2 ^ low f in
    let a = units (hid f) m in
    let b = units (hid f) n in
    let x : k * up e * down d * c ≡ a * (down e * down d) = mul_right_comm (k * up e) (down d) c ∙ ap (λ (z : ℕ). z * down d) p.1 ∙ mul_assoc a (down e) (down d) in
    let y : l * up d * down e * c ≡ b * (down e * down d) = mul_right_comm (l * up d) (down e) c ∙ ap (λ (z : ℕ). z * down e) q.1 ∙ mul_right_comm b (down d) (down e) ∙ mul_assoc b (down e) (down d) in
    sym (below_scale i j (k * up e * down d) (l * up d * down e) c (pow_pos (low f)))
    ∙ ap₂ (λ (u v : ℕ). below i u j v) x y
    ∙ below_scale i j a b (down e * down d) (mul-pos (down_pos e) (down_pos d))
    ∙ below_mono (units (hid f)) (units_zero (hid f) (hid_pos f)) (units_mono (hid f) (hid_pos f)) i j m n
    ∙ ap₂ (λ (u v : Bool). below u m v n) p.0 q.0

below_signed : (s t : Bool) (a b : ℕ) → below s a t b ≡ lt_z (cond s (neg_ℤ (pos a)) (pos a)) (cond t (neg_ℤ (pos b)) (pos b))
below_signed false false a b = refl
below_signed false true a zero = sym (leb-suc-zero a)
below_signed false true a (suc b) = refl
below_signed true false zero b = ap (ltb 0) (zero-add b)
below_signed true false (suc a) b = lt-ltb 0 (suc a + b) (omega arith)
below_signed true true zero zero = refl
below_signed true true zero (suc b) = leb-suc-zero (suc b)
below_signed true true (suc a) zero = lt-ltb 0 (suc a) (omega arith)
below_signed true true (suc a) (suc b) = leb-suc-suc (suc b) a

-- order by sign and magnitude
pub lt_pattern : (f : Format) (x y : ℕ) → is_nan (of_bits f x) ≡ false → is_nan (of_bits f y) ≡ false
    → lt (of_bits f x) (of_bits f y) ≡ lt_z (sign_magnitude f x) (sign_magnitude f y)
lt_pattern f x y h k =
    lt_reads f (of_bits f x) (of_bits f y) (leb (top f) x) (leb (top f) y) (x % top f) (y % top f) (reads f x h) (reads f y k)
    ∙ below_signed (leb (top f) x) (leb (top f) y) (x % top f) (y % top f)

-- ---- equal: neither is less
eqb_not : (a b : ℕ) → eqb a b ≡ (not (ltb b a) && not (ltb a b))
eqb_not a b =
    by_lt (λ (p : Bool). eqb a b ≡ (not p && not (ltb a b))) b a (λ h. ne_eqb a b (omega arith))
    (λ h. by_lt (λ (q : Bool). eqb a b ≡ not q) a b (λ k. ne_eqb a b (omega arith)) (λ k. eq-eqb a b (omega arith)))

zeros : (a b : ℕ) → (eqb a b && eqb a 0) ≡ not (ltb 0 (a + b))
zeros zero zero = refl
zeros zero (suc b) = rw (eqb-zero-suc b, lt-ltb 0 (0 + suc b) (omega arith))
zeros (suc a) b = rw (eqb-suc-zero a, lt-ltb 0 (suc a + b) (omega arith)) (and-false (eqb (suc a) b))

level_not : (s t : Bool) (a b : ℕ) → level s a t b ≡ (not (below t b s a) && not (below s a t b))
level_not false false a b = and-true (eqb a b) ∙ eqb_not a b
level_not false true a b = zeros a b ∙ ap (λ (n : ℕ). not (ltb 0 n)) (add_comm a b) ∙ sym (and-true (not (ltb 0 (b + a))))
level_not true false a b = zeros a b
level_not true true a b = and-true (eqb a b) ∙ eqb_not a b ∙ and_comm (not (ltb b a)) (not (ltb a b))

eq_not : (v w : Float) → is_nan v ≡ false → is_nan w ≡ false → eq v w ≡ (not (lt w v) && not (lt v w))
unfolding eq lt is_nan
eq_not nan w h k = absurd (true≢false h)
eq_not (inf s) nan h k = absurd (true≢false k)
eq_not (fin s m e) nan h k = absurd (true≢false k)
eq_not (inf true) (inf true) h k = refl
eq_not (inf true) (inf false) h k = refl
eq_not (inf false) (inf true) h k = refl
eq_not (inf false) (inf false) h k = refl
eq_not (inf true) (fin t n d) h k = refl
eq_not (inf false) (fin t n d) h k = refl
eq_not (fin s m e) (inf true) h k = refl
eq_not (fin s m e) (inf false) h k = refl
eq_not (fin s m e) (fin t n d) h k = level_not s t (m * up e * down d) (n * up d * down e)

-- equal by sign and magnitude, so both zeros are equal
pub eq_pattern : (f : Format) (x y : ℕ) → is_nan (of_bits f x) ≡ false → is_nan (of_bits f y) ≡ false
    → eq (of_bits f x) (of_bits f y) ≡ (le_z (sign_magnitude f x) (sign_magnitude f y) && le_z (sign_magnitude f y) (sign_magnitude f x))
eq_pattern f x y h k =
    eq_not (of_bits f x) (of_bits f y) h k
    ∙ ap₂ (λ (p q : Bool). not p && not q) (lt_pattern f y x k h) (lt_pattern f x y h k)
    ∙ sym (ap₂ ◌&&◌ (le_z_not (sign_magnitude f x) (sign_magnitude f y)) (le_z_not (sign_magnitude f y) (sign_magnitude f x)))

-- ---- where a NaN stands, neither less nor equal
pub only_nan : (x : Float) → is_nan x ≡ true → x ≡ nan
unfolding is_nan
only_nan nan h = refl
only_nan (inf s) h = cc
only_nan (fin s m e) h = cc

pub lt_nan_left : (x y : Float) → is_nan x ≡ true → lt x y ≡ false
unfolding lt
lt_nan_left x y h = rw (only_nan x h)

pub eq_nan_left : (x y : Float) → is_nan x ≡ true → eq x y ≡ false
unfolding eq
eq_nan_left x y h = rw (only_nan x h)

pub lt_nan_right : (x y : Float) → is_nan y ≡ true → lt x y ≡ false
unfolding lt
lt_nan_right x y h = rw (only_nan y h) (elim x as (λ v. lt v nan ≡ false) [ nan ↦ refl | inf s ↦ refl | fin s m e ↦ refl ])

pub eq_nan_right : (x y : Float) → is_nan y ≡ true → eq x y ≡ false
unfolding eq
eq_nan_right x y h = rw (only_nan y h) (elim x as (λ v. eq v nan ≡ false) [ nan ↦ refl | inf s ↦ refl | fin s m e ↦ refl ])
