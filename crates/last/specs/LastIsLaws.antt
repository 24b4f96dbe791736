-- `last_of` of any full reading is the one answer that `LastIs` allows, and whole lines put before the found one never alter it. Assumes nothing.
use Rattle.std.specs.Prelude.{ℕ, ◌+◌, ◌-◌, ◌≤◌, ◌<◌, ◌≡◌, Bool, true, false, ◌||◌, cond, drop, ltb, leb}
use native.Mathlib.Omega.{arith}
use Rattle.std.proofs.Math.Path.{refl, ap, subst}
use Rattle.std.proofs.Common.{sym, ◌∙◌, true≢false}
use Rattle.std.proofs.lemmas.Bool.{false≢true}
use Rattle.std.proofs.Math.Bool.{or-true}
use mathlib.Core.List.{List, [], ◌∷◌, ◌++◌, append_assoc}
use Rattle.std.proofs.Math.Option.{Option, none, some}
use Rattle.std.proofs.Math.ListN.{length}
use borrow.Author.Tests.{eq-eqb, eqb-true, ltb-true, ltb-false, lt-ltb, le-ltb, leb-true, leb-false, le-leb, lt-leb}
use Rattle.signs.specs.Lists.{Listed}
use Rattle.signs.specs.Lists.Listed.{here, later as further}
use Rattle.record.specs.Registers.{Place, reg, word, word_count}
use Rattle.record.specs.declared.File.TheVariants.{Words, Halves, Doubles, Preds}
use Rattle.record.specs.declared.Mode.TheVariants.{Ordinary}
use Rattle.record.specs.declared.Target.TheVariants.{Sm30}
use Rattle.rules.specs.Executing.{destinations}
use Rattle.rules.specs.Reading.{Answers, read, refused, refused_at}
use Rattle.rules.specs.Reading as reading
use Rattle.lines.specs.Lines.{lines_of, listing_limit, WholeLines, Stands}
use Rattle.lines.specs.LineLaws.{widths, whole_lines, whole_widths, whole_append, standing, stands_sizes, stands_from, stands_behind}
use Rattle.last.specs.Last.{is_word, has_word, has_destination, FullReading, later, last_in, Answer, distance, refused_by, told, last_of, ByFullReading}
use Rattle.last.specs.Back.{own_answer, own_has}
use Rattle.last.specs.BackLaws.{last_append}
use Rattle.last.specs.LastIs.{Has, NoneHas, LastIs, too_long, no_register, nowhere, at_distance}
use Rattle.last.specs.LastLaws.{line_has, read_of_full, same_last}

-- ==== a line

impossible : {A : Type 0} → ◌≡◌ {A = ℕ} 0 1 → A
impossible z = absurd (omega (arith, z))

either : (x y : Bool) → x || y ≡ true → (A : Type 0) → (x ≡ true → A) → (y ≡ true → A) → A
either true y e A f g = f refl
either false y e A f g = g e

word_is : (n : ℕ) (q : Place) → is_word n q ≡ true → word n ≡ q
word_is n (reg Words m) e = ap (reg Words) (sym (eqb-true m n e))
word_is n (reg Halves m) e = absurd (false≢true e)
word_is n (reg Doubles m) e = absurd (false≢true e)
word_is n (reg Preds m) e = absurd (false≢true e)

has_listed : (n : ℕ) (qs : List Place) → has_word n qs ≡ true → Listed (word n) qs
has_listed n [] e = absurd (false≢true e)
has_listed n (q ∷ qs) e =
    either (has_word n qs) (is_word n q) e (Listed (word n) (q ∷ qs)) (λ h. further (has_listed n qs h)) (λ h. here (word_is n q h))

listed_has : (n : ℕ) (qs : List Place) → Listed (word n) qs → has_word n qs ≡ true
listed_has n [] x' = elim x' [ ]
listed_has n (q ∷ qs) (here e) = rw (← e, eq-eqb n n refl) (or-true (has_word n qs))
listed_has n (q ∷ qs) (further h) = rw (listed_has n qs h)

has_true : {n : ℕ} {l : List ℕ} → Has n l → own_has n l ≡ true
has_true {n} {l} h = line_has n l (read h.spelled) h.accepted ∙ listed_has n (destinations h.spelled.instruction) h.destination

true_has : (n : ℕ) (l : List ℕ) → own_has n l ≡ true → Has n l
unfolding own_has
true_has n l h = go (own_answer l) (read_of_full l) h
  where
    go : (a : reading.Answer) → Answers Sm30 Ordinary l a → has_destination n a ≡ true → Has n l
    go (read m) q e = record { spelled = m; accepted = q; destination = has_listed n (destinations m.instruction) e }
    go (refused k) q e = absurd (false≢true e)
    go (refused_at k p) q e = absurd (false≢true e)

not_has : (n : ℕ) (l : List ℕ) → (Has n l → ⊥) → own_has n l ≡ false
not_has n l h = go (own_has n l) refl
  where
    go : (b : Bool) → own_has n l ≡ b → b ≡ false
    go true e = absurd (h (true_has n l e))
    go false e = refl

-- ==== lines

listed_none : {l : List ℕ} → Listed l [] → ⊥
listed_none i = go i refl
  where
    go : {l : List ℕ} {ls : List (List ℕ)} → Listed l ls → ls ≡ [] → ⊥
    go (here e) q = impossible cc
    go (further i) q = impossible cc

-- what reading them in order finds, the first of which begins at a place
data Sought (n size at : ℕ) (ls : List (List ℕ)) : Option ℕ → Type 0 where
  nothing : NoneHas n ls → Sought n size at ls none
  something : (xs : List (List ℕ)) (l : List ℕ) (ys : List (List ℕ)) → ls ≡ xs ++ (l ∷ ys) → Has n l → NoneHas n ys → Sought n size at ls (some (size - (at + widths xs)))

sought : (n size at : ℕ) (ls : List (List ℕ)) → Sought n size at ls (last_in own_answer n size at ls)
unfolding last_in own_has
sought n size at [] = nothing (λ l i h. listed_none i)
sought n size at (l ∷ ls) = go (sought n size (at + length l + 1) ls) (own_has n l) refl
  where
    nor : NoneHas n ls → (Has n l → ⊥) → NoneHas n (l ∷ ls)
    nor k h m (here e) q = h (subst (Has n) e q)
    nor k h m (further i) q = k m i q

    go : {x : Option ℕ} → Sought n size (at + length l + 1) ls x → (b : Bool) → own_has n l ≡ b → Sought n size at (l ∷ ls) (later x (cond b (some (size - at)) none))
    go (something xs m ys e h k) b q =
        let d : at + (length l + 1 + widths xs) ≡ at + length l + 1 + widths xs = omega arith in
        subst (λ (i : ℕ). Sought n size at (l ∷ ls) (some (size - i))) d (something (l ∷ xs) m ys (ap (◌∷◌ l) e) h k)
    go (nothing k) true q =
        let d : at + 0 ≡ at = omega arith in
        subst (λ (i : ℕ). Sought n size at (l ∷ ls) (some (size - i))) d (something [] l ls refl (true_has n l q) k)
    go (nothing k) false q = nothing (nor k (λ h. absurd (true≢false (sym (has_true h) ∙ q))))

none_found : (n size at : ℕ) (ls : List (List ℕ)) → NoneHas n ls → last_in own_answer n size at ls ≡ none
unfolding last_in own_has
none_found n size at [] h = refl
none_found n size at (l ∷ ls) h = rw (none_found n size (at + length l + 1) ls (λ m i. h m (further i)), not_has n l (h l (here refl)))

one_found : (n size at : ℕ) (l : List ℕ) (ls : List (List ℕ)) → Has n l → NoneHas n ls → last_in own_answer n size at (l ∷ ls) ≡ some (size - at)
unfolding last_in own_has
one_found n size at l ls h k = rw (none_found n size (at + length l + 1) ls k, has_true h)

-- ==== every listing has this answer,

module _ (answer : List ℕ → reading.Answer) (full : FullReading answer) where
  pub last_is : (s : List ℕ) (n : ℕ) → LastIs s n (last_of answer s n)
  unfolding last_of
  last_is s n = rw (same_last answer full s n) (go (ltb listing_limit (length s)) (leb word_count n) refl refl (sought n (length s) 0 (lines_of s)))
    where
      found : {x : Option ℕ} → length s ≤ listing_limit → n < word_count → Sought n (length s) 0 (lines_of s) x → LastIs s n (told x)
      found h k (nothing m) = nowhere h k m
      found h k (something xs l ys e m w) =
          let d : length s - widths xs ≡ length s - (0 + widths xs) = omega arith in
          subst (λ (i : ℕ). LastIs s n (distance i)) d (at_distance h k (standing xs s l ys e).1 m w)

      go : (t u : Bool) → ltb listing_limit (length s) ≡ t → leb word_count n ≡ u → {x : Option ℕ} → Sought n (length s) 0 (lines_of s) x
          → LastIs s n (cond t (refused_by 22) (cond u (refused_by 6) (told x)))
      go true u i j q = too_long (ltb-true listing_limit (length s) i)
      go false true i j q = no_register (ltb-false listing_limit (length s) i) (leb-true word_count n j)
      go false false i j q = found (ltb-false listing_limit (length s) i) (leb-false word_count n j) q

  -- and no other
  pub last_only : {s : List ℕ} {n : ℕ} {a : Answer} → LastIs s n a → last_of answer s n ≡ a
  unfolding last_of
  last_only {s} {n} x = same_last answer full s n ∙ go x
    where
      go : {a : Answer} → LastIs s n a → last_of own_answer s n ≡ a
      go (too_long h) = rw (lt-ltb listing_limit (length s) h)
      go (no_register h k) = rw (le-ltb listing_limit (length s) h, le-leb word_count n k)
      go (nowhere h k m) = rw (le-ltb listing_limit (length s) h, lt-leb word_count n k, none_found n (length s) 0 (lines_of s) m)
      go (at_distance h k {d = d} {p = p} {l = l} {ls = ls} x m z) =
          let e : length s - (0 + widths (lines_of p)) ≡ d = omega (arith, stands_sizes x, whole_widths x.whole) in
          rw (le-ltb listing_limit (length s) h, lt-leb word_count n k)
          (ap told
          (ap (λ (y : List ℕ). last_in own_answer n (length s) 0 (lines_of y)) x.both
          ∙ ap (last_in own_answer n (length s) 0) (whole_lines x.whole x.from_it ∙ ap (λ (y : List (List ℕ)). lines_of p ++ y) x.lines)
          ∙ last_append own_answer n (length s) 0 (lines_of p) (l ∷ ls)
          ∙ ap (λ (y : Option ℕ). later y (last_in own_answer n (length s) 0 (lines_of p))) (one_found n (length s) (0 + widths (lines_of p)) l ls m z)
          ∙ ap some e))

-- so the full reading and the relation say the same
pub as_relation : {s : List ℕ} {n : ℕ} {a : Answer} → ByFullReading s n a → LastIs s n a
as_relation {s} {n} {a} h = subst (LastIs s n) (sym (h own_answer read_of_full)) (last_is own_answer read_of_full s n)

pub as_reading : {s : List ℕ} {n : ℕ} {a : Answer} → LastIs s n a → ByFullReading s n a
as_reading x = λ answer full. sym (last_only answer full x)

pub one_last : {s : List ℕ} {n : ℕ} {a b : Answer} → LastIs s n a → LastIs s n b → a ≡ b
one_last x y = sym (last_only own_answer read_of_full x) ∙ last_only own_answer read_of_full y

-- ==== whole lines put before the found one, within the size, never alter it

-- what is said of the found line
record Found (s : List ℕ) (n d : ℕ) : Type 0 where
  register : n < word_count
  before : List ℕ
  line : List ℕ
  behind : List (List ℕ)
  stands : Stands s d before line behind
  has : Has n line
  none_behind : NoneHas n behind

found_line : {s : List ℕ} {n d : ℕ} → LastIs s n (distance d) → Found s n d
found_line {s} {n} {d} x = go x refl
  where
    go : {a : Answer} → LastIs s n a → a ≡ distance d → Found s n d
    go (too_long h) e = impossible cc
    go (no_register h k) e = impossible cc
    go (nowhere h k m) e = impossible cc
    go (at_distance h k {d = c} {p = p} {l = l} {ls = ls} y m z) q =
        let f : c ≡ d = cc in
        record { register = k; before = p; line = l; behind = ls; stands = subst (λ (j : ℕ). Stands s j p l ls) f y; has = m; none_behind = z }

behind_whole : {s : List ℕ} {n d : ℕ} (f : Found s n d) {r : List ℕ} → WholeLines r → length (r ++ f.stands.from_it) ≤ listing_limit → LastIs (r ++ f.stands.from_it) n (distance d)
behind_whole f w h = at_distance h f.register (stands_behind f.stands w) f.has f.none_behind

pub lines_before : {s p : List ℕ} {n d : ℕ} → LastIs s n (distance d) → WholeLines p → length (p ++ s) ≤ listing_limit → LastIs (p ++ s) n (distance d)
lines_before {s} {p} {n} {d} x w h =
    let f = found_line x in
    let e : p ++ s ≡ (p ++ f.before) ++ f.stands.from_it = ap (λ (y : List ℕ). p ++ y) f.stands.both ∙ sym (append_assoc p f.before f.stands.from_it) in
    subst (λ (y : List ℕ). LastIs y n (distance d)) (sym e) (behind_whole f (whole_append w f.stands.whole) (rw e at h))

-- nor do any in the place of those that stood there: what stands from the found line on is the listing's last d bytes
pub before_any : {s p : List ℕ} {n d : ℕ} → LastIs s n (distance d) → WholeLines p → length (p ++ drop (length s - d) s) ≤ listing_limit
    → LastIs (p ++ drop (length s - d) s) n (distance d)
before_any {s} {p} {n} {d} x w h =
    let f = found_line x in
    subst (λ (y : List ℕ). LastIs (p ++ y) n (distance d)) (sym (stands_from f.stands)) (behind_whole f w (rw (stands_from f.stands) at h))
