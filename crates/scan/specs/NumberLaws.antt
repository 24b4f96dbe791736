-- The number: what the scanner finds is the text of a number below 1000, and it finds every such text.
use Rattle.std.specs.Prelude.{ℕ, ◌+◌, ◌*◌, ◌/◌, ◌%◌, ◌≤◌, ◌<◌, ◌≡◌, refl, List, [], ◌∷◌, ◌++◌, Bool, true, false, ◌&&◌, cond, ltb, leb, eqb, length, get_or}
use Rattle.std.proofs.Common.{sym, ap, ◌∙◌, subst, arith, lt-ltb, le-ltb, le-leb, ne_eqb, ltb-true, ltb-false, leb-true, eqb-true}
use Rattle.std.proofs.lemmas.Bool.{eqb-false}
use Rattle.base.specs.Pairs.{ok_pair}
use Rattle.signs.specs.Bytes.{is_digit, All}
use Rattle.signs.specs.Bytes.All.{none, more}
use Rattle.rules.specs.Shape.{digit, number_text}
use Rattle.rules.specs.Grammar.{number_limit}
use Rattle.scan.specs.RunLaws.{not_so, Stops, run_all_lem, split}
use Rattle.scan.specs.Numbers.{digit_of, number_got, number_bad, number_by, number_found}

-- ---- digits

pub digit_is : (n : ℕ) → is_digit (digit n) ≡ true
digit_is n = simp (le-leb 48 (digit n) (omega arith), le-leb (digit n) 57 (omega arith))

pub digit_range : (b : ℕ) → is_digit b ≡ true → (48 ≤ b) × (b ≤ 57)
digit_range b e = go (leb 48 b) refl (leb b 57) refl e
  where
    go : (t : Bool) → leb 48 b ≡ t → (u : Bool) → leb b 57 ≡ u → t && u ≡ true → (48 ≤ b) × (b ≤ 57)
    go true p true q f = (leb-true 48 b p, leb-true b 57 q)
    go true p false q f = not_so f
    go false p u q f = not_so f

digit_of_lem : (n : ℕ) → digit_of (digit n) ≡ n % 10
digit_of_lem n = omega arith

digit_back : (b : ℕ) → is_digit b ≡ true → digit_of b + 48 ≡ b
digit_back b e = let h = digit_range b e in omega arith

-- ---- the scanner on a list whose digits are known

by_run : (w r : List ℕ) → All is_digit w → Stops is_digit r
    → number_found (w ++ r) ≡ number_by (length w) (digit_of (get_or (w ++ r) 0 0)) (digit_of (get_or (w ++ r) 1 0)) (digit_of (get_or (w ++ r) 2 0))
unfolding number_found
by_run w r a h = rw (run_all_lem is_digit r a h)

by_one : (a b c : ℕ) → number_by 1 a b c ≡ number_got a 1
unfolding number_by
by_one a b c = go (eqb a 0) refl
  where
    go : (t : Bool) → eqb a 0 ≡ t → cond t (number_got 0 1) (number_got a 1) ≡ number_got a 1
    go true e = rw (eqb-true a 0 e)
    go false e = refl

by_two : (a b c : ℕ) → 0 < a → number_by 2 a b c ≡ number_got (10 * a + b) 2
unfolding number_by
by_two a b c h = rw (ne_eqb a 0 (omega arith))

by_three : (a b c : ℕ) → 0 < a → number_by 3 a b c ≡ number_got (100 * a + 10 * b + c) 3
unfolding number_by
by_three a b c h = rw (ne_eqb a 0 (omega arith))

-- ---- every number's text is found

one_found : (v : ℕ) (r : List ℕ) → v < 10 → Stops is_digit r → number_found (digit v ∷ r) ≡ number_got v 1
one_found v r k z = by_run (digit v ∷ []) r (more (digit_is v) none) z ∙ by_one _ _ _ ∙ ap (λ (x : ℕ). number_got x 1) (omega arith)

two_found : (v : ℕ) (r : List ℕ) → 10 ≤ v → v < 100 → Stops is_digit r → number_found (digit (v / 10) ∷ digit v ∷ r) ≡ number_got v 2
two_found v r j k z =
    by_run (digit (v / 10) ∷ digit v ∷ []) r (more (digit_is (v / 10)) (more (digit_is v) none)) z
    ∙ by_two _ _ _ (omega arith) ∙ ap (λ (x : ℕ). number_got x 2) (omega arith)

three_found : (v : ℕ) (r : List ℕ) → 100 ≤ v → v < 1000 → Stops is_digit r → number_found (digit (v / 100) ∷ digit (v / 10) ∷ digit v ∷ r) ≡ number_got v 3
three_found v r j k z =
    let a : digit_of (digit (v / 100)) ≡ v / 100 = omega (arith, digit_of_lem (v / 100)) in
    let b : digit_of (digit (v / 10)) ≡ v / 10 % 10 = digit_of_lem (v / 10) in
    let d : digit_of (digit v) ≡ v % 10 = digit_of_lem v in
    let h : v / 100 ≡ v / 10 / 10 = omega arith in
    by_run (digit (v / 100) ∷ digit (v / 10) ∷ digit v ∷ []) r (more (digit_is (v / 100)) (more (digit_is (v / 10)) (more (digit_is v) none))) z
    ∙ by_three _ _ _ (omega arith) ∙ ap (λ (x : ℕ). number_got x 3) (omega arith)

pub number_complete : (v : ℕ) (r : List ℕ) → v < number_limit → Stops is_digit r → number_found (number_text v ++ r) ≡ number_got v (length (number_text v))
number_complete v r h z = go (ltb v 10) refl (ltb v 100) refl
  where
    go : (t : Bool) → ltb v 10 ≡ t → (u : Bool) → ltb v 100 ≡ u
        → let w = cond t (digit v ∷ []) (cond u (digit (v / 10) ∷ digit v ∷ []) (digit (v / 100) ∷ digit (v / 10) ∷ digit v ∷ [])) in number_found (w ++ r) ≡ number_got v (length w)
    go true e u f = one_found v r (ltb-true v 10 e) z
    go false e true f = two_found v r (ltb-false v 10 e) (ltb-true v 100 f) z
    go false e false f = three_found v r (ltb-false v 100 f) h z

-- a number's text begins with a digit
pub number_first : (v : ℕ) (r : List ℕ) → get_or (number_text v ++ r) 0 0 < 58
number_first v r = go (ltb v 10) (ltb v 100)
  where
    go : (t u : Bool) → get_or (cond t (digit v ∷ []) (cond u (digit (v / 10) ∷ digit v ∷ []) (digit (v / 100) ∷ digit (v / 10) ∷ digit v ∷ [])) ++ r) 0 0 < 58
    go true u = omega arith
    go false true = omega arith
    go false false = omega arith

-- ---- what is found is a number's text

pub record NumberAt (s : List ℕ) (v n : ℕ) : Type 0 where
  pub after : List ℕ
  pub whole : s ≡ number_text v ++ after
  pub small : v < number_limit
  pub taken : n ≡ length (number_text v)
  pub stops : Stops is_digit after

never : {A : Type 0} (p v n : ℕ) → number_bad p ≡ number_got v n → A
never p v n e = let z : ◌≡◌ {A = ℕ} 0 1 = cc in absurd (omega arith)

pub one_text : (v : ℕ) → v < 10 → number_text v ≡ (v + 48) ∷ []
one_text v h = simp (lt-ltb v 10 h) (ap (λ (x : ℕ). x ∷ []) (omega arith))

pub two_text_lem : (a b : ℕ) → 0 < a → a < 10 → b < 10 → number_text (10 * a + b) ≡ (a + 48) ∷ (b + 48) ∷ []
two_text_lem a b h i j =
    let x : digit ((10 * a + b) / 10) ≡ a + 48 = omega arith in
    let y : digit (10 * a + b) ≡ b + 48 = omega arith in
    simp (le-ltb (10 * a + b) 10 (omega arith), lt-ltb (10 * a + b) 100 (omega arith)) (ap (λ (c : ℕ). c ∷ digit (10 * a + b) ∷ []) x ∙ ap (λ (c : ℕ). (a + 48) ∷ c ∷ []) y)

pub three_text : (a b c : ℕ) → 0 < a → a < 10 → b < 10 → c < 10 → number_text (100 * a + 10 * b + c) ≡ (a + 48) ∷ (b + 48) ∷ (c + 48) ∷ []
three_text a b c h i j k =
    let v : ℕ = 100 * a + 10 * b + c in
    let x : digit ((100 * a + 10 * b + c) / 100) ≡ a + 48 = omega arith in
    let y : digit ((100 * a + 10 * b + c) / 10) ≡ b + 48 = omega arith in
    let z : digit (100 * a + 10 * b + c) ≡ c + 48 = omega arith in
    simp (le-ltb (100 * a + 10 * b + c) 10 (omega arith), le-ltb (100 * a + 10 * b + c) 100 (omega arith))
    (ap (λ (d : ℕ). d ∷ digit (v / 10) ∷ digit v ∷ []) x ∙ ap (λ (d : ℕ). (a + 48) ∷ d ∷ digit v ∷ []) y ∙ ap (λ (d : ℕ). (a + 48) ∷ (b + 48) ∷ d ∷ []) z)

-- what a count and digits that give a number say of it
zero_got : {A : Type 0} (a b c v n : ℕ) → number_by 0 a b c ≡ number_got v n → A
unfolding number_by
zero_got a b c v n e = never 0 v n e

two_got : (a b c v n : ℕ) → number_by 2 a b c ≡ number_got v n → (0 < a) × (10 * a + b ≡ v) × (2 ≡ n)
unfolding number_by
two_got a b c v n e = go (eqb a 0) refl e
  where
    go : (t : Bool) → eqb a 0 ≡ t → cond t (number_bad 1) (number_got (10 * a + b) 2) ≡ number_got v n → (0 < a) × (10 * a + b ≡ v) × (2 ≡ n)
    go true q f = never 1 v n f
    go false q f = let (x, y) = ok_pair f in (omega (arith, eqb-false a 0 q), x, y)

three_got : (a b c v n : ℕ) → number_by 3 a b c ≡ number_got v n → (0 < a) × (100 * a + 10 * b + c ≡ v) × (3 ≡ n)
unfolding number_by
three_got a b c v n e = go (eqb a 0) refl e
  where
    go : (t : Bool) → eqb a 0 ≡ t → cond t (number_bad 1) (number_got (100 * a + 10 * b + c) 3) ≡ number_got v n → (0 < a) × (100 * a + 10 * b + c ≡ v) × (3 ≡ n)
    go true q f = never 1 v n f
    go false q f = let (x, y) = ok_pair f in (omega (arith, eqb-false a 0 q), x, y)

many_got : {A : Type 0} (k a b c v n : ℕ) → 4 ≤ k → number_by k a b c ≡ number_got v n → A
unfolding number_by
many_got {A} k a b c v n h e =
    go (eqb a 0) (simp (ne_eqb k 0 (omega arith), ne_eqb k 1 (omega arith), ne_eqb k 2 (omega arith), ne_eqb k 3 (omega arith)) at e)
  where
    go : (t : Bool) → cond t (number_bad 1) (number_bad 3) ≡ number_got v n → A
    go true f = never 1 v n f
    go false f = never 3 v n f

text_at : (w r : List ℕ) (v n : ℕ) → w ≡ number_text v → v < 1000 → n ≡ length w → Stops is_digit r → NumberAt (w ++ r) v n
text_at w r v n d h l z = record { after = r; whole = ap (λ (x : List ℕ). x ++ r) d; small = h; taken = l ∙ ap length d; stops = z }

sound_by : (w r : List ℕ) → All is_digit w → Stops is_digit r → (v n : ℕ) → number_found (w ++ r) ≡ number_got v n → NumberAt (w ++ r) v n
sound_by w r none z v n e = zero_got _ _ _ v n (sym (by_run [] r none z) ∙ e)
sound_by w r (more {b = x} p none) z v n e =
    let g : number_got (digit_of x) 1 ≡ number_got v n = sym (by_one _ _ _) ∙ sym (by_run w r (more p none) z) ∙ e in
    let h = digit_range x p in
    let (d, k) = ok_pair g in
    text_at w r v n (sym (ap (λ (b : ℕ). b ∷ []) (digit_back x p)) ∙ sym (one_text (digit_of x) (omega arith)) ∙ ap number_text d) (omega arith) (sym k) z
sound_by w r (more {b = x} p (more {b = y} q none)) z v n e =
    let g = two_got _ _ _ v n (sym (by_run w r (more p (more q none)) z) ∙ e) in
    let h = digit_range x p in
    let i = digit_range y q in
    let t : (digit_of x + 48) ∷ (digit_of y + 48) ∷ [] ≡ x ∷ y ∷ [] = rw (digit_back x p, digit_back y q) in
    text_at w r v n (sym t ∙ sym (two_text_lem (digit_of x) (digit_of y) g.0 (omega arith) (omega arith)) ∙ ap number_text g.1) (omega (arith, g.1)) (sym g.2) z
sound_by w r (more {b = x} p (more {b = y} q (more {b = u} t none))) z v n e =
    let g = three_got _ _ _ v n (sym (by_run w r (more p (more q (more t none))) z) ∙ e) in
    let h = digit_range x p in
    let i = digit_range y q in
    let j = digit_range u t in
    let k : (digit_of x + 48) ∷ (digit_of y + 48) ∷ (digit_of u + 48) ∷ [] ≡ x ∷ y ∷ u ∷ [] = rw (digit_back x p, digit_back y q, digit_back u t) in
    text_at w r v n (sym k ∙ sym (three_text (digit_of x) (digit_of y) (digit_of u) g.0 (omega arith) (omega arith) (omega arith)) ∙ ap number_text g.1) (omega (arith, g.1)) (sym g.2) z
sound_by w r (more p (more q (more t (more {w = l} o k)))) z v n e =
    many_got (length w) _ _ _ v n (omega arith) (sym (by_run w r (more p (more q (more t (more o k)))) z) ∙ e)

pub number_sound : (s : List ℕ) (v n : ℕ) → number_found s ≡ number_got v n → NumberAt s v n
number_sound s v n e =
    let k = split is_digit refl s in
    subst (λ (l : List ℕ). NumberAt l v n) (sym k.whole) (sound_by k.front k.back k.all k.stops v n (rw k.whole at e))
