-- The register: what the scanner finds is a register's text, and it finds every one.
use Rattle.std.specs.Prelude.{ℕ, ◌+◌, ◌<◌, ◌≡◌, refl, List, ◌∷◌, ◌++◌, Bool, true, false, cond, eqb, length, get_or, drop, Err, Ok, Result}
use Rattle.std.proofs.Common.{sym, ap, ◌∙◌, append_assoc, arith, ne_eqb, eqb-true, length-append}
use Rattle.base.specs.Pairs.{ok_pair}
use Rattle.signs.specs.Bytes.{is_digit}
use Rattle.record.specs.Registers as files
use Rattle.rules.specs.Shape.{number_text, file_text, register_text}
use Rattle.rules.specs.Grammar.{number_limit, GoodPlace}
use Rattle.tree.specs.Seen.{place_in, seen_place}
use Rattle.tree.specs.declared.Place.{Place}
use Rattle.scan.specs.RunLaws.{Stops, at_is}
use Rattle.scan.specs.Numbers.{number_got, number_found}
use Rattle.scan.specs.NumberLaws.{number_complete, number_first, number_sound}
use Rattle.scan.specs.Registers.{prefix_got, prefix_bad, register_got, register_bad, prefix_by, register_from, register_by, register_of}
use Rattle.record.specs.declared.File.{File}
use Rattle.record.specs.declared.File.TheVariants.{Words, Halves, Doubles, Preds}

-- ---- every register's text is found

prefix_found : (f : File) (v : ℕ) (r : List ℕ) → let s = file_text f ++ (number_text v ++ r) in prefix_by (get_or s 0 0) (get_or s 1 0) (get_or s 2 0) ≡ prefix_got f (length (file_text f))
unfolding prefix_by
prefix_found Words v r =
    rw
    (ne_eqb (get_or (number_text v ++ r) 0 0) 100 (λ e. let k = number_first v r in omega arith), ne_eqb (get_or (number_text v ++ r) 0 0) 115 (λ e. let k = number_first v r in omega arith))
prefix_found Halves v r = refl
prefix_found Doubles v r = refl
prefix_found Preds v r = refl

after_prefix : (f : File) (l : List ℕ) → drop (length (file_text f)) (file_text f ++ l) ≡ l
after_prefix Words l = refl
after_prefix Halves l = refl
after_prefix Doubles l = refl
after_prefix Preds l = refl

found : (f : File) (v : ℕ) (r : List ℕ) → v < number_limit → Stops is_digit r → register_of (file_text f ++ (number_text v ++ r)) ≡ register_got (place_in f v) (length (file_text f) + length (number_text v))
unfolding register_of register_by register_from
found f v r h z = rw (prefix_found f v r, after_prefix f (number_text v ++ r), number_complete v r h z)

pub register_complete : (p : files.Place) (r : List ℕ) → GoodPlace p → Stops is_digit r → register_of (register_text p ++ r) ≡ register_got (seen_place p) (length (register_text p))
register_complete (files.reg f v) r h z =
    ap register_of (append_assoc (file_text f) (number_text v) r) ∙ found f v r h z ∙ ap (register_got (place_in f v)) (sym (length-append (file_text f) (number_text v)))

-- a register begins with `%`
pub register_first : (p : files.Place) (l : List ℕ) → get_or (register_text p ++ l) 0 0 ≡ 37
register_first (files.reg Words v) l = refl
register_first (files.reg Halves v) l = refl
register_first (files.reg Doubles v) l = refl
register_first (files.reg Preds v) l = refl

-- ---- what is found is a register's text

pub record RegisterAt (s : List ℕ) (p : Place) (n : ℕ) : Type 0 where
  pub place : files.Place
  pub after : List ℕ
  pub whole : s ≡ register_text place ++ after
  pub good : GoodPlace place
  pub sees : seen_place place ≡ p
  pub taken : n ≡ length (register_text place)
  pub stops : Stops is_digit after

record PrefixAt (s : List ℕ) (f : File) (k : ℕ) : Type 0 where
  whole : s ≡ file_text f ++ drop k s
  taken : k ≡ length (file_text f)

prefix_at : (s : List ℕ) (f g : File) (j k : ℕ) → prefix_got g j ≡ prefix_got f k → s ≡ file_text g ++ drop j s → j ≡ length (file_text g) → PrefixAt s f k
prefix_at s f g j k e w t =
    let (a, b) = ok_pair e in
    record { whole = rw (a, b) at w; taken = rw (a, b) at t }

not_of : {A : Type 0} (p : ℕ) (f : File) (k : ℕ) → prefix_bad p ≡ prefix_got f k → A
not_of p f k e = let z : ◌≡◌ {A = ℕ} 0 1 = cc in absurd (omega arith)

prefix_sound : (s : List ℕ) (f : File) (k : ℕ) → prefix_by (get_or s 0 0) (get_or s 1 0) (get_or s 2 0) ≡ prefix_got f k → PrefixAt s f k
unfolding prefix_by
prefix_sound s f k e = go (eqb (get_or s 0 0) 37) refl (eqb (get_or s 1 0) 112) refl (eqb (get_or s 1 0) 114) refl (eqb (get_or s 2 0) 100) refl (eqb (get_or s 2 0) 115) refl e
  where
    one : eqb (get_or s 0 0) 37 ≡ true → s ≡ 37 ∷ drop 1 s
    one a = at_is s 0 37 (omega arith) (eqb-true (get_or s 0 0) 37 a)

    go : (t : Bool) → eqb (get_or s 0 0) 37 ≡ t → (u : Bool) → eqb (get_or s 1 0) 112 ≡ u → (v : Bool) → eqb (get_or s 1 0) 114 ≡ v → (w : Bool) → eqb (get_or s 2 0) 100 ≡ w → (x : Bool) → eqb (get_or s 2 0) 115 ≡ x
        → cond t (cond u (prefix_got Preds 2) (cond v (cond w (prefix_got Doubles 3) (cond x (prefix_got Halves 3) (prefix_got Words 2))) (prefix_bad 1))) (prefix_bad 0) ≡ prefix_got f k → PrefixAt s f k
    go true a true b v c w d x y q = prefix_at s f Preds 2 k q (one a ∙ ap (λ (l : List ℕ). 37 ∷ l) (at_is s 1 112 (omega arith) (eqb-true (get_or s 1 0) 112 b))) refl
    go true a false b true c true d x y q =
        prefix_at s f Doubles 3 k q
        (one a ∙ ap (λ (l : List ℕ). 37 ∷ l) (at_is s 1 114 (omega arith) (eqb-true (get_or s 1 0) 114 c) ∙ ap (λ (l : List ℕ). 114 ∷ l) (at_is s 2 100 (omega arith) (eqb-true (get_or s 2 0) 100 d)))) refl
    go true a false b true c false d true y q =
        prefix_at s f Halves 3 k q
        (one a ∙ ap (λ (l : List ℕ). 37 ∷ l) (at_is s 1 114 (omega arith) (eqb-true (get_or s 1 0) 114 c) ∙ ap (λ (l : List ℕ). 114 ∷ l) (at_is s 2 115 (omega arith) (eqb-true (get_or s 2 0) 115 y)))) refl
    go true a false b true c false d false y q = prefix_at s f Words 2 k q (one a ∙ ap (λ (l : List ℕ). 37 ∷ l) (at_is s 1 114 (omega arith) (eqb-true (get_or s 1 0) 114 c))) refl
    go true a false b false c w d x y q = not_of 1 f k q
    go false a u b v c w d x y q = not_of 0 f k q

never : {A : Type 0} (q : ℕ) (p : Place) (n : ℕ) → register_bad q ≡ register_got p n → A
never q p n e = let z : ◌≡◌ {A = ℕ} 0 1 = cc in absurd (omega arith)

-- a register whose text begins s is what was found
is : (s : List ℕ) (f : File) (v : ℕ) (r : List ℕ) (k n : ℕ) (p : Place) → register_got (place_in f v) k ≡ register_got p n → s ≡ file_text f ++ (number_text v ++ r) → v < number_limit → k ≡ length (file_text f) + length (number_text v)
    → Stops is_digit r → RegisterAt s p n
is s f v r k n p e w h l z =
    let (a, b) = ok_pair e in
    record {
      place = files.reg f v;
      after = r;
      whole = w ∙ sym (append_assoc (file_text f) (number_text v) r);
      good = h;
      sees = a;
      taken = sym b ∙ l ∙ sym (length-append (file_text f) (number_text v));
      stops = z;
    }

numbered_sound : (s : List ℕ) (f : File) (k : ℕ) → PrefixAt s f k → (o : Result (ℕ × ℕ) ℕ) → number_found (drop k s) ≡ o → (p : Place) (n : ℕ) → register_from f k o ≡ register_got p n → RegisterAt s p n
unfolding register_from
numbered_sound s f k x (number_got v m) o p n e =
    let q = number_sound (drop k s) v m o in
    is s f v q.after (k + m) n p e (x.whole ∙ ap (λ (l : List ℕ). file_text f ++ l) q.whole) q.small (omega (arith, x.taken, q.taken)) q.stops
numbered_sound s f k x (Err q) o p n e = never (k + q) p n e

register_by_sound : (s : List ℕ) (x : Result (File × ℕ) ℕ) → prefix_by (get_or s 0 0) (get_or s 1 0) (get_or s 2 0) ≡ x → (p : Place) (n : ℕ) → register_by x s ≡ register_got p n → RegisterAt s p n
unfolding register_by
register_by_sound s (Ok (f, k)) o p n e = numbered_sound s f k (prefix_sound s f k o) (number_found (drop k s)) refl p n e
register_by_sound s (Err q) o p n e = never q p n e

pub register_sound : (s : List ℕ) (p : Place) (n : ℕ) → register_of s ≡ register_got p n → RegisterAt s p n
unfolding register_of
register_sound s p n e = register_by_sound s (prefix_by (get_or s 0 0) (get_or s 1 0) (get_or s 2 0)) refl p n e
