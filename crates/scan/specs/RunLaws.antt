-- Laws of runs: what a run at the front of a list is, and what stands after it.
use Rattle.std.specs.Prelude.{ℕ, suc, zero, ◌+◌, ◌-◌, ◌≤◌, ◌<◌, ◌≡◌, refl, List, [], ◌∷◌, ◌++◌, Bool, true, false, cond, leb, length, get_or, drop, take}
use Rattle.std.proofs.Common.{ap, le_of_eq, add-one, arith, le-leb, length-drop, drop_of_length-le, drop-cons, take_all}
use Rattle.std.proofs.Math.Seq.{drop-append-add}
use Rattle.signs.specs.Bytes.{All}
use Rattle.signs.specs.Bytes.All.{none, more}
use Rattle.scan.specs.Runs.{run_length, capped_sum, most}

-- false is not true
pub not_so : {A : Type 0} → false ≡ true → A
not_so e = let z : ◌≡◌ {A = ℕ} 0 1 = cc in absurd (omega arith)

-- a sum that fits is exact
pub sum_is : (a b : ℕ) → a + b ≤ most → capped_sum a b ≡ a + b
unfolding capped_sum
sum_is a b h = simp (le-leb b (most - a) (omega arith))

pub sum_some : (a b : ℕ) → 0 < a + b → 0 < capped_sum a b
unfolding capped_sum
sum_some a b h = go (leb b (most - a))
  where
    go : (t : Bool) → 0 < cond t (a + b) most
    go true = h
    go false = omega arith

-- `&s[n..]` is what follows the first n
pub part_rest : (n : ℕ) (s : List ℕ) → take (length s - n) (drop n s) ≡ drop n s
part_rest n s = take_all (length s - n) (drop n s) (le_of_eq (length-drop n s))

-- ---- the loop that counts a run: where it stops, after a turn, at the end

run_in : (p : ℕ → Bool) (s : List ℕ) (i : ℕ) → i < length s → p (get_or s i 0) ≡ true → run_length p (drop i s) ≡ suc (run_length p (drop (i + 1) s))
run_in p s i h e = rw (add-one, drop-cons s i 0 h, e)

run_out : (p : ℕ → Bool) (s : List ℕ) (i : ℕ) → i < length s → p (get_or s i 0) ≡ false → run_length p (drop i s) ≡ 0
run_out p s i h e = rw (drop-cons s i 0 h, e)

pub run_stops : (p : ℕ → Bool) (s : List ℕ) (i : ℕ) → i < length s → p (get_or s i 0) ≡ false → run_length p s ≡ i + run_length p (drop i s) → i ≡ run_length p s
run_stops p s i h e v = omega (arith, v, run_out p s i h e)

pub run_turns : (p : ℕ → Bool) (s : List ℕ) (i : ℕ) → i < length s → p (get_or s i 0) ≡ true → run_length p s ≡ i + run_length p (drop i s) → run_length p s ≡ i + 1 + run_length p (drop (i + 1) s)
run_turns p s i h e v = omega (arith, v, run_in p s i h e)

pub run_ends : (p : ℕ → Bool) (s : List ℕ) (i : ℕ) → length s ≤ i → run_length p s ≡ i + run_length p (drop i s) → i ≡ run_length p s
run_ends p s i h v = omega (arith, v, ap (run_length p) (drop_of_length-le s h))

-- ---- a list of one class and what follows it

-- the list does not begin with a byte of the class: it is empty, or its first byte is another
abbrev pub Stops : (ℕ → Bool) → List ℕ → Type 0
Stops p r = p (get_or r 0 0) ≡ false

pub run_all_lem : (p : ℕ → Bool) {w : List ℕ} (r : List ℕ) → All p w → Stops p r → run_length p (w ++ r) ≡ length w
run_all_lem p [] none h = refl
run_all_lem p (x ∷ r) none h = rw h
run_all_lem p r (more e a) h = rw e (ap suc (run_all_lem p r a h))

pub record Split (p : ℕ → Bool) (s : List ℕ) : Type 0 where
  pub front : List ℕ
  pub back : List ℕ
  pub whole : s ≡ front ++ back
  pub all : All p front
  pub stops : Stops p back
  pub count : run_length p s ≡ length front

-- every list divides so, by a class that has no 0: 0 is what a list that has ended shows
pub split : (p : ℕ → Bool) → p 0 ≡ false → (s : List ℕ) → Split p s
split p z [] = record { front = []; back = []; whole = refl; all = none; stops = z; count = refl }
split p z (x ∷ s) = go (p x) refl (split p z s)
  where
    go : (t : Bool) → p x ≡ t → Split p s → Split p (x ∷ s)
    go true e r = record { front = x ∷ r.front; back = r.back; whole = ap (λ (l : List ℕ). x ∷ l) r.whole; all = more e r.all; stops = r.stops; count = rw e (ap suc r.count) }
    go false e r = record { front = []; back = x ∷ s; whole = refl; all = none; stops = e; count = rw e }

-- ---- seams

pub seam : (xs ys : List ℕ) → get_or (xs ++ ys) (length xs) 0 ≡ get_or ys 0 0
seam [] ys = refl
seam (x ∷ xs) ys = seam xs ys

pub past_seam : (xs : List ℕ) (y : ℕ) (ys : List ℕ) → drop (length xs + 1) (xs ++ (y ∷ ys)) ≡ ys
past_seam xs y ys = drop-append-add xs (y ∷ ys) 1

-- a byte that is not 0 stands in the list
pub at_is : (s : List ℕ) (i b : ℕ) → 0 < b → get_or s i 0 ≡ b → drop i s ≡ b ∷ drop (suc i) s
at_is [] i b h e = absurd (omega arith)
at_is (x ∷ s) zero b h e = ap (λ (y : ℕ). y ∷ s) e
at_is (x ∷ s) (suc i) b h e = at_is s i b h e
