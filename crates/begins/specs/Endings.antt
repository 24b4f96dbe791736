-- Whether some list of a set begins so is found by trying endings, if these are enough. Said once, for any set of lists of anything.
use Rattle.std.specs.Prelude.{ℕ, zero, suc, ◌-◌, ◌≤◌, ◌<◌, ◌≡◌, refl, Bool, true, false, ◌||◌, cond, List, [], ◌∷◌, ◌++◌, map, eqb, length, take, get_or}
use Rattle.std.proofs.Common.{arith, ap, ◌∙◌, ne_eqb}
use Rattle.rules.specs.BytePlaces.{Begins}

module _ {A : Type 0} (L : List A → Type 0) where
  -- with one of the endings behind it s is of the set
  pub data EndedBy (s : List A) : List (List A) → Type 0 where
    here : {e : List A} {es : List (List A)} → L (s ++ e) → EndedBy s (e ∷ es)
    later : {e : List A} {es : List (List A)} → EndedBy s es → EndedBy s (e ∷ es)

-- every ending is good
pub data Each {A : Type 0} (Good : List A → Type 0) : List (List A) → Type 0 where
  no_more : Each Good []
  and_more : {e : List A} {es : List (List A)} → Good e → Each Good es → Each Good (e ∷ es)

-- some ending passes the test
abbrev pub some : {A : Type 0} → (List A → Bool) → List A → List (List A) → Bool
some test s [] = false
some test s (e ∷ es) = test (s ++ e) || some test s es

pub some_right : {A : Type 0} {L Good : List A → Type 0} (test : List A → Bool) (s : List A) → ((e : List A) → Good e → test (s ++ e) ≡ true → L (s ++ e))
    → {es : List (List A)} → Each Good es → some test s es ≡ true → Begins L s
some_right test s f no_more q = let z : ◌≡◌ {A = ℕ} 0 1 = cc in absurd (omega arith)
some_right {A} {L} test s f (and_more {e = e} {es = es} g gs) q = go (test (s ++ e)) refl (some_right test s f gs) q
  where
    go : (t : Bool) → test (s ++ e) ≡ t → (some test s es ≡ true → Begins L s) → t || some test s es ≡ true → Begins L s
    go true p r q = record { rest = e; whole = f e g p }
    go false p r q = r q

or_true : (s t : Bool) → t ≡ true → s || t ≡ true
or_true true t e = refl
or_true false t e = e

pub some_all : {A : Type 0} {L : List A → Type 0} (test : List A → Bool) (s : List A) → ((l : List A) → L l → test l ≡ true) → {es : List (List A)} → EndedBy L s es → some test s es ≡ true
some_all test s f (here {e = e} l) = rw (f (s ++ e) l)
some_all test s f (later {e = e} {es = es} x) = or_true (test (s ++ e)) (some test s es) (some_all test s f x)

-- ---- the first k elements with an ending behind them, element by element, as f sees them

module _ {A B : Type 0} (f : A → B) (d : B) where
  pub low : (l e : List A) (k j : ℕ) → k ≤ length l → j < k → get_or (map f (take k l ++ e)) j d ≡ get_or (map f l) j d
  low l e zero j h i = absurd (omega arith)
  low [] e (suc k) j h i = absurd (omega arith)
  low (x ∷ l) e (suc k) zero h i = refl
  low (x ∷ l) e (suc k) (suc j) h i = low l e k j (omega arith) (omega arith)

  pub high : (l e : List A) (k j : ℕ) → k ≤ length l → k ≤ j → get_or (map f (take k l ++ e)) j d ≡ get_or (map f e) (j - k) d
  high l e zero j h i = ap (λ (n : ℕ). get_or (map f e) n d) (omega arith)
  high [] e (suc k) j h i = absurd (omega arith)
  high (x ∷ l) e (suc k) zero h i = absurd (omega arith)
  high (x ∷ l) e (suc k) (suc j) h i = high l e k j (omega arith) (omega arith) ∙ ap (λ (n : ℕ). get_or (map f e) n d) (omega arith)

-- a list of at most three by its first three
module _ {B : Type 0} (d : B) where
  past : (l : List B) (m : ℕ) → length l ≤ m → d ≡ get_or l m d
  past [] m h = refl
  past (x ∷ l) zero h = absurd (omega arith)
  past (x ∷ l) (suc m) h = past l m (omega arith)

  pub three : (l : List B) → length l ≤ 3 → (m : ℕ) → cond (eqb m 0) (get_or l 0 d) (cond (eqb m 1) (get_or l 1 d) (cond (eqb m 2) (get_or l 2 d) d)) ≡ get_or l m d
  three l h zero = refl
  three l h (suc zero) = refl
  three l h (suc (suc zero)) = refl
  three l h (suc (suc (suc m))) =
      rw (ne_eqb (suc (suc (suc m))) 0 (λ e. omega arith), ne_eqb (suc (suc (suc m))) 1 (λ e. omega arith), ne_eqb (suc (suc (suc m))) 2 (λ e. omega arith))
      (past l (suc (suc (suc m))) (omega arith))
