-- What one call does to the entries of a tally. Assumes nothing.
use Rattle.std.specs.Prelude.{ℕ, suc, ◌+◌, ◌≤◌, min, ◌≡◌, Bool, not, ◌&&◌, cond, List, [], ◌∷◌, ltb, leb, eqb, length}
use Rattle.std.proofs.Common.{arith, sym, ◌∙◌}
use Rattle.std.proofs.Math.Path.{refl, ap}
use Rattle.std.proofs.Math.Bool.{true, false}
use Rattle.std.proofs.Math.Option.{Option, none, some}
use borrow.Author.Tests.{ltb-true, ltb-false, leb-true, le-leb, eq-eqb, ne_eqb, eqb-true, eqb-false}
use Rattle.rules.specs.Numbers.{bit}
use Rattle.tally.specs.declared.Entry.{Entry}
use Rattle.tally.specs.declared.Read.{Read}
use Rattle.tally.specs.Votes.{vote_of}
use Rattle.tally.specs.Passes.{Answer, counted, duplicate, weak, refused, Outcome, gives, entry, most_tags, least_count, washed_count, enough_votes, standing, is_there, held, noted, count_fits, entries_fit, is_tally, next_count, counts, judged, called}
use Rattle.tally.specs.History.{is_counted, count_in}

pub clash : false ≡ true → ⊥
clash p = let z : ◌≡◌ {A = ℕ} 0 1 = cc in omega arith

both : (a b : Bool) → a && b ≡ true → (a ≡ true) × (b ≡ true)
both true true e = (refl, refl)
both true false e = absurd (clash e)
both false b e = absurd (clash e)

and_false : (a : Bool) → a && false ≡ false
and_false true = refl
and_false false = refl

-- ==== an entry noted

noted_stands : (n : Entry) (l : List Entry) → standing n.tag (noted n l) ≡ some n
noted_stands n [] = rw (eq-eqb n.tag n.tag refl)
noted_stands n (e ∷ l) = go (eqb e.tag n.tag) refl (noted_stands n l)
  where
    go : (t : Bool) → eqb e.tag n.tag ≡ t → standing n.tag (noted n l) ≡ some n → standing n.tag (cond t (n ∷ l) (e ∷ noted n l)) ≡ some n
    go true h k = rw (eq-eqb n.tag n.tag refl)
    go false h k = rw h k

-- another tag's entry is what it was; so is whether it has one
module _ (tag : ℕ) (n : Entry) (other : n.tag ≡ tag → ⊥) where
  differs : (e : Entry) → eqb e.tag n.tag ≡ true → eqb e.tag tag ≡ false
  differs e h = ne_eqb e.tag tag (λ k. other (sym (eqb-true e.tag n.tag h) ∙ k))

  others_stand : (l : List Entry) → standing tag (noted n l) ≡ standing tag l
  others_stand [] = rw (ne_eqb n.tag tag other)
  others_stand (e ∷ l) = go (eqb e.tag n.tag) refl (others_stand l)
    where
      go : (t : Bool) → eqb e.tag n.tag ≡ t → standing tag (noted n l) ≡ standing tag l
          → standing tag (cond t (n ∷ l) (e ∷ noted n l)) ≡ cond (eqb e.tag tag) (some e) (standing tag l)
      go true h i = rw (ne_eqb n.tag tag other, differs e h)
      go false h i = ap (cond (eqb e.tag tag) (some e)) i

  others_held : (l : List Entry) → held tag (noted n l) ≡ held tag l
  others_held l = ap is_there (others_stand l)

-- what the first entry of a list that fits says
module _ (e : Entry) (l : List Entry) (f : entries_fit (e ∷ l) ≡ true) where
  behind : not (held e.tag l) && entries_fit l ≡ true
  behind = (both (count_fits e) (not (held e.tag l) && entries_fit l) f).1

  first_fits : count_fits e ≡ true
  first_fits = (both (count_fits e) (not (held e.tag l) && entries_fit l) f).0

  first_once : not (held e.tag l) ≡ true
  first_once = (both (not (held e.tag l)) (entries_fit l) behind).0

  rest_fits : entries_fit l ≡ true
  rest_fits = (both (not (held e.tag l)) (entries_fit l) behind).1

noted_fits : (n : Entry) (l : List Entry) → count_fits n ≡ true → entries_fit l ≡ true → entries_fit (noted n l) ≡ true
noted_fits n [] f h = rw f
noted_fits n (e ∷ l) f h = go (eqb e.tag n.tag) refl (noted_fits n l f)
  where
    go : (t : Bool) → eqb e.tag n.tag ≡ t → (entries_fit l ≡ true → entries_fit (noted n l) ≡ true) → entries_fit (cond t (n ∷ l) (e ∷ noted n l)) ≡ true
    go true q i = rw (f, ← eqb-true e.tag n.tag q, first_once e l h, rest_fits e l h)
    go false q i = rw (first_fits e l h, others_held e.tag n (λ k. eqb-false e.tag n.tag q (sym k)) l, first_once e l h) (i (rest_fits e l h))

-- a held tag's takes no new place, a new one's takes one
same_length : (n e : Entry) (l : List Entry) → standing n.tag l ≡ some e → length (noted n l) ≡ length l
same_length n e [] h = absurd (let z : ◌≡◌ {A = ℕ} 0 1 = cc in omega arith)
same_length n e (x ∷ l) h = go (eqb x.tag n.tag) h (same_length n e l)
  where
    go : (t : Bool) → cond t (some x) (standing n.tag l) ≡ some e → (standing n.tag l ≡ some e → length (noted n l) ≡ length l) → length (cond t (n ∷ l) (x ∷ noted n l)) ≡ suc (length l)
    go true q i = refl
    go false q i = ap suc (i q)

one_more : (n : Entry) (l : List Entry) → length (noted n l) ≤ suc (length l)
one_more n [] = omega arith
one_more n (x ∷ l) = go (eqb x.tag n.tag) (one_more n l)
  where
    go : (t : Bool) → length (noted n l) ≤ suc (length l) → length (cond t (n ∷ l) (x ∷ noted n l)) ≤ suc (suc (length l))
    go true q = omega arith
    go false q = omega arith

-- ==== the counts of a tally

standing_fits : (tag : ℕ) (e : Entry) (l : List Entry) → entries_fit l ≡ true → standing tag l ≡ some e → count_fits e ≡ true
standing_fits tag e [] f h = absurd (let z : ◌≡◌ {A = ℕ} 0 1 = cc in omega arith)
standing_fits tag e (x ∷ l) f h = go (eqb x.tag tag) h (standing_fits tag e l (rest_fits x l f))
  where
    go : (t : Bool) → cond t (some x) (standing tag l) ≡ some e → (standing tag l ≡ some e → count_fits e ≡ true) → count_fits e ≡ true
    go true q i = let k : x ≡ e = cc in rw (← k) (first_fits x l f)
    go false q i = i q

count_small : (e : Entry) → count_fits e ≡ true → (least_count ≤ e.count) × (e.count ≤ washed_count)
count_small e h =
    let p = both (leb least_count e.count) (leb e.count washed_count) h in
    (leb-true least_count e.count p.0, leb-true e.count washed_count p.1)

module _ (l : List Entry) (ok : is_tally l ≡ true) where
  pub tally_length : length l ≤ most_tags
  unfolding is_tally
  tally_length = leb-true (length l) most_tags (both (leb (length l) most_tags) (entries_fit l) ok).0

  tally_entries : entries_fit l ≡ true
  unfolding is_tally
  tally_entries = (both (leb (length l) most_tags) (entries_fit l) ok).1

  pub count_at_most : (tag : ℕ) → count_in (standing tag l) ≤ washed_count
  count_at_most tag = go (standing tag l) refl
    where
      go : (s : Option Entry) → standing tag l ≡ s → count_in s ≤ washed_count
      go none h = omega arith
      go (some e) h = (count_small e (standing_fits tag e l tally_entries h)).1

-- ==== one call

abbrev is23 : Answer → Bool
is23 (counted n) = false
is23 duplicate = false
is23 (weak v) = false
is23 (refused n) = eqb n 23

-- what a call on a tally does
pub record CallDoes (l : List Entry) (r : Read) (o : Outcome) : Type 0 where
  -- it leaves a tally and is not refused 23
  pub tally : is_tally o.tally ≡ true
  pub not23 : is23 o.answer ≡ false
  -- each tag's count goes up by its own counted answer, and stays at 3
  pub count : (tag : ℕ) → count_in (standing tag o.tally) ≡ min washed_count (count_in (standing tag l) + bit (eqb r.tag tag && is_counted o.answer))
  -- a counted read is its tag's last; every other tag's entry stays
  pub own : (c : ℕ) → o.answer ≡ counted c → standing r.tag o.tally ≡ some (entry r.tag r.pass c)
  pub others : (tag : ℕ) → (r.tag ≡ tag → ⊥) → standing tag o.tally ≡ standing tag l

not_counted : (a : Answer) (c : ℕ) → is_counted a ≡ false → a ≡ counted c → ⊥
not_counted a c h e = clash (sym h ∙ ap is_counted e)

module _ (l : List Entry) (r : Read) (ok : is_tally l ≡ true) where
  kept : (a : Answer) → is_counted a ≡ false → is23 a ≡ false → CallDoes l r (gives a l)
  kept a q n = record {
    tally = ok;
    not23 = n;
    count = λ tag. rw (q, and_false (eqb r.tag tag)) (omega (arith, count_at_most l ok tag));
    own = λ c e. absurd (not_counted a c q e);
    others = λ tag d. refl;
  }

  noting : (c : ℕ) → least_count ≤ c → c ≡ min washed_count (count_in (standing r.tag l) + 1) → length (noted (entry r.tag r.pass c) l) ≤ most_tags → CallDoes l r (counts l r c)
  unfolding is_tally
  noting c p e s = record {
    tally = rw (le-leb (length (noted (entry r.tag r.pass c) l)) most_tags s) (noted_fits (entry r.tag r.pass c) l fit (tally_entries l ok));
    not23 = refl;
    count = λ tag. go tag (eqb r.tag tag) refl;
    own = λ k q. let z : c ≡ k = cc in noted_stands (entry r.tag r.pass c) l ∙ ap (λ (n : ℕ). some (entry r.tag r.pass n)) z;
    others = λ tag d. others_stand tag (entry r.tag r.pass c) d l;
  }
    where
      fit : count_fits (entry r.tag r.pass c) ≡ true
      fit = rw (le-leb least_count c p, le-leb c washed_count (omega arith))

      go : (tag : ℕ) (t : Bool) → eqb r.tag tag ≡ t
          → count_in (standing tag (noted (entry r.tag r.pass c) l)) ≡ min washed_count (count_in (standing tag l) + bit (t && true))
      go tag true q = rw (← eqb-true r.tag tag q) (ap count_in (noted_stands (entry r.tag r.pass c) l) ∙ e)
      go tag false q = ap count_in (others_stand tag (entry r.tag r.pass c) (eqb-false r.tag tag q) l) ∙ omega (arith, count_at_most l ok tag)

  next_is : (c : ℕ) → c ≤ washed_count → next_count c ≡ min washed_count (c + 1)
  next_is c h = go (ltb c washed_count) refl
    where
      go : (t : Bool) → ltb c washed_count ≡ t → cond t (c + 1) washed_count ≡ min washed_count (c + 1)
      go true q = omega (arith, ltb-true c washed_count q)
      go false q = omega (arith, ltb-false c washed_count q)

  judged_does : (s : Option Entry) → standing r.tag l ≡ s → CallDoes l r (judged l r s)
  judged_does none h = go (ltb (length l) most_tags) refl
    where
      go : (t : Bool) → ltb (length l) most_tags ≡ t → CallDoes l r (cond t (counts l r 1) (gives (refused 20) l))
      go true q = noting 1 (omega arith) (rw h (omega arith)) (omega (arith, one_more (entry r.tag r.pass 1) l, ltb-true (length l) most_tags q))
      go false q = kept (refused 20) refl refl
  judged_does (some e) h = go (eqb r.pass e.last) (ltb r.pass e.last)
    where
      small : (least_count ≤ e.count) × (e.count ≤ washed_count)
      small = count_small e (standing_fits r.tag e l (tally_entries l ok) h)

      go : (t u : Bool) → CallDoes l r (cond t (gives duplicate l) (cond u (gives (refused 19) l) (counts l r (next_count e.count))))
      go true u = kept duplicate refl refl
      go false true = kept (refused 19) refl refl
      go false false =
          noting (next_count e.count) (rw (next_is e.count small.1) (omega arith)) (rw h (next_is e.count small.1))
          (rw (same_length (entry r.tag r.pass (next_count e.count)) e l h) (tally_length l ok))

  pub call_does : (floor : ℕ) → CallDoes l r (called l r floor)
  unfolding called
  call_does floor = rw ok (go (ltb (vote_of floor r) enough_votes))
    where
      go : (t : Bool) → CallDoes l r (cond t (gives (weak (vote_of floor r)) l) (judged l r (standing r.tag l)))
      go true = kept (weak (vote_of floor r)) refl refl
      go false = judged_does (standing r.tag l) refl

-- ==== weak, duplicate or refused: nothing changed, whatever was lent

abbrev Unmoved : List Entry → Outcome → Type 0
Unmoved l o = is_counted o.answer ≡ false → o.tally ≡ l

judged_unmoved : (l : List Entry) (r : Read) (s : Option Entry) → Unmoved l (judged l r s)
judged_unmoved l r none = go (ltb (length l) most_tags)
  where
    go : (t : Bool) → Unmoved l (cond t (counts l r 1) (gives (refused 20) l))
    go true h = absurd (clash (sym h))
    go false h = refl
judged_unmoved l r (some e) = go (eqb r.pass e.last) (ltb r.pass e.last)
  where
    go : (t u : Bool) → Unmoved l (cond t (gives duplicate l) (cond u (gives (refused 19) l) (counts l r (next_count e.count))))
    go true u h = refl
    go false true h = refl
    go false false h = absurd (clash (sym h))

pub call_unmoved : (l : List Entry) (r : Read) (floor : ℕ) → is_counted (called l r floor).answer ≡ false → (called l r floor).tally ≡ l
unfolding called
call_unmoved l r floor = go (not (is_tally l)) (ltb (vote_of floor r) enough_votes)
  where
    go : (t u : Bool) → Unmoved l (cond t (gives (refused 23) l) (cond u (gives (weak (vote_of floor r)) l) (judged l r (standing r.tag l))))
    go true u h = refl
    go false true h = refl
    go false false h = judged_unmoved l r (standing r.tag l) h

pub never_refused_23 : (a : Answer) → is23 a ≡ false → a ≡ refused 23 → ⊥
never_refused_23 a h e = clash (sym h ∙ ap is23 e)
