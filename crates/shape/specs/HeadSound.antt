-- What the scanner of a head finds is a head's text.
use Rattle.std.specs.Prelude.{ℕ, suc, zero, ◌+◌, ◌≤◌, ◌≡◌, refl, List, [], ◌∷◌, ◌++◌, Bool, true, false, eqb, length, get_or, drop}
use Rattle.std.proofs.Common.{sym, ap, ◌∙◌, subst, append_assoc, append-nil, arith, eqb-true, length-append}
use Rattle.signs.specs.Bytes.{is_name_byte, All}
use Rattle.signs.specs.Bytes.All.{none as no_byte, more as byte_more}
use Rattle.base.specs.Pack.{code_of}
use Rattle.rules.specs.Shape.{Name, dotted, head_text}
use Rattle.rules.specs.Grammar.{GoodName, GoodNames}
use Rattle.rules.specs.Grammar.GoodNames.{none, more}
use Rattle.tree.specs.Seen.{seen_head}
use Rattle.tree.specs.declared.Head.{Head}
use Rattle.scan.specs.Runs.{most}
use Rattle.scan.specs.RunLaws.{not_so, Stops, split, run_all_lem, at_is}
use Rattle.shape.specs.Turns.{turns, most_turns}
use Rattle.shape.specs.TurnLaws.{last_turn}
use Rattle.shape.specs.Head.{Names, no_head, pushed_name, name_by, name_turn, name_turns, head_of}
use Rattle.shape.specs.HeadLaws.{on, going, took, last_name, next_name, few_names}
use Rattle.shape.specs.KeptLaws.{kept_names, kept_names_lem}

-- names stand at the front of w, which end a head of p bytes and of the names h
record NamesAt (w : List ℕ) (p : ℕ) (h : Head) (st : Names) : Type 0 where
  name : Name
  others : List Name
  after : List ℕ
  whole : w ≡ (name ++ dotted others) ++ after
  good : GoodName name
  goods : GoodNames others
  place : st.place ≡ p + length (name ++ dotted others)
  head : st.head ≡ kept_names h (name ∷ others)

-- so it is after k turns
Sound : ℕ → Type 0
Sound k = (w : List ℕ) (p s : ℕ) (h : Head) → p + length w ≤ most → (name_turns k w (on p s h)).good ≡ true → NamesAt w p h (name_turns k w (on p s h))

turn_none : (r : List ℕ) (st : Names) → Stops is_name_byte r → name_turn r st ≡ record { more = false; good = false; place = st.place; step = 0; head = st.head }
unfolding name_turn name_by
turn_none r st z = rw (run_all_lem is_name_byte r no_byte z)

no_name : (r : List ℕ) (p s : ℕ) (h : Head) (k : ℕ) → Stops is_name_byte r → (name_turns (suc k) r (on p s h)).good ≡ false
no_name r p s h k z = ap (λ (x : Names). x.good) (last_turn going took name_turn k r (on p s h) _ refl (turn_none r (on p s h) z) refl)

-- a name and a dot before names
joins : (k : ℕ) (n : Name) (r : List ℕ) → GoodName n → (p s : ℕ) (h : Head) → p + length n + 1 ≤ most
    → NamesAt r (p + length n + 1) (pushed_name h (code_of n)) (name_turns k r (on (p + length n + 1) (length n + 1) (pushed_name h (code_of n))))
    → NamesAt (n ++ (46 ∷ r)) p h (name_turns (suc k) (n ++ (46 ∷ r)) (on p s h))
joins k n r g p s h m i =
    let t = next_name n r p s h k g m in
    let rest : List ℕ = i.name ++ dotted i.others in
    record {
      name = n;
      others = i.name ∷ i.others;
      after = i.after;
      whole = ap (λ (y : List ℕ). n ++ (46 ∷ y)) i.whole ∙ sym (append_assoc n (46 ∷ rest) i.after);
      good = g;
      goods = more i.good i.goods;
      place = ap (λ (x : Names). x.place) t ∙ i.place ∙ omega (arith, length-append n (46 ∷ rest));
      head = ap (λ (x : Names). x.head) t ∙ i.head;
    }

dot_sound : (k : ℕ) → Sound k → (n : Name) (r : List ℕ) → GoodName n → (p s : ℕ) (h : Head) → p + length (n ++ (46 ∷ r)) ≤ most → (name_turns (suc k) (n ++ (46 ∷ r)) (on p s h)).good ≡ true
    → NamesAt (n ++ (46 ∷ r)) p h (name_turns (suc k) (n ++ (46 ∷ r)) (on p s h))
unfolding Sound
dot_sound k ih n r g p s h m e =
    let l : length (n ++ (46 ∷ r)) ≡ length n + suc (length r) = length-append n (46 ∷ r) in
    let f : p + length n + 1 ≤ most = omega arith in
    joins k n r g p s h f
    (ih r (p + length n + 1) (length n + 1) (pushed_name h (code_of n)) (omega arith) (sym (ap (λ (x : Names). x.good) (next_name n r p s h k g f)) ∙ e))

last_sound : (k : ℕ) (n : Name) (r : List ℕ) → GoodName n → Stops is_name_byte r → eqb (get_or r 0 0) 46 ≡ false → (p s : ℕ) (h : Head) → p + length (n ++ r) ≤ most
    → NamesAt (n ++ r) p h (name_turns (suc k) (n ++ r) (on p s h))
last_sound k n r g z e p s h m =
    let t = last_name n r p s h k g z e (omega (arith, length-append n r)) in
    record {
      name = n;
      others = [];
      after = r;
      whole = ap (λ (y : List ℕ). y ++ r) (sym (append-nil n));
      good = g;
      goods = none;
      place = ap (λ (x : Names). x.place) t ∙ omega (arith, length-append n []);
      head = ap (λ (x : Names). x.head) t;
    }

by_name : (k : ℕ) → Sound k → (n r : List ℕ) → All is_name_byte n → Stops is_name_byte r → (t : Bool) → eqb (get_or r 0 0) 46 ≡ t → (p s : ℕ) (h : Head) → p + length (n ++ r) ≤ most
    → (name_turns (suc k) (n ++ r) (on p s h)).good ≡ true → NamesAt (n ++ r) p h (name_turns (suc k) (n ++ r) (on p s h))
by_name k ih n r no_byte z t q p s h m e = not_so (sym (no_name r p s h k z) ∙ e)
by_name k ih n r (byte_more x a) z false q p s h m e = last_sound k n r (record { all = byte_more x a; some = omega arith }) z q p s h m
by_name k ih n r (byte_more x a) z true q p s h m e =
    let d : r ≡ 46 ∷ drop 1 r = at_is r 0 46 (omega arith) (eqb-true (get_or r 0 0) 46 q) in
    let g : GoodName n = record { all = byte_more x a; some = omega arith } in
    subst (λ (y : List ℕ). p + length (n ++ y) ≤ most → (name_turns (suc k) (n ++ y) (on p s h)).good ≡ true → NamesAt (n ++ y) p h (name_turns (suc k) (n ++ y) (on p s h))) (sym d)
    (λ i j. dot_sound k ih n (drop 1 r) g p s h i j) m e

sound_turns : (k : ℕ) → Sound k
unfolding Sound turns
sound_turns zero w p s h m e = not_so e
sound_turns (suc k) w p s h m e =
    let x = split is_name_byte refl w in
    subst (λ (y : List ℕ). p + length y ≤ most → (name_turns (suc k) y (on p s h)).good ≡ true → NamesAt y p h (name_turns (suc k) y (on p s h))) (sym x.whole)
    (λ i j. by_name k (sound_turns k) x.front x.back x.all x.stops (eqb (get_or x.back 0 0) 46) refl p s h i j) m e

pub record HeadAt (w : List ℕ) (st : Names) : Type 0 where
  pub name : Name
  pub others : List Name
  pub after : List ℕ
  pub whole : w ≡ head_text (name ∷ others) ++ after
  pub good : GoodName name
  pub goods : GoodNames others
  pub place : st.place ≡ length (head_text (name ∷ others))
  pub head : st.head ≡ seen_head (name ∷ others)

pub head_sound : (w : List ℕ) → length w ≤ 160 → (head_of w).good ≡ true → HeadAt w (head_of w)
unfolding head_of Sound
head_sound w m e =
    let i = sound_turns most_turns w 0 0 no_head (omega arith) e in
    let t : List ℕ = i.name ++ dotted i.others in
    let l : length w ≡ length t + length i.after = ap length i.whole ∙ length-append t i.after in
    let f = few_names i.others in
    record {
      name = i.name;
      others = i.others;
      after = i.after;
      whole = i.whole;
      good = i.good;
      goods = i.goods;
      place = i.place ∙ omega arith;
      head = i.head ∙ kept_names_lem (i.name ∷ i.others) (omega (arith, length-append i.name (dotted i.others)));
    }
