-- Places, entries and the struct: what joins the code's places to the definition's lists. Assumes nothing.
use Rattle.std.specs.Prelude.{ℕ, zero, suc, ◌+◌, ◌-◌, ◌≤◌, ◌<◌, ◌≡◌, Bool, cond, List, [], ◌∷◌, ◌++◌, ltb, eqb, length, set, take, drop}
use Rattle.std.proofs.Common.{add-one, arith, sym, ap, ◌∙◌, drop_of_length-le, length-drop, drop-cons, get_or-take, length-take-le}
use Rattle.std.proofs.Math.Path.{refl}
use Rattle.std.proofs.Math.Bool.{true, false}
use Rattle.std.proofs.Math.Option.{none, some}
use Rattle.std.proofs.Math.Dec.{leb}
use Rattle.std.proofs.Math.ListN.{get_or, take-append-drop}
use borrow.Author.Tests.{lt-ltb, le-ltb, le-leb, lt-leb, leb-true, eq-eqb, ne_eqb}
use Rattle.signs.specs.Lists.{tab}
use Rattle.base.specs.Tests.{ltb_same}
use Rattle.tally.specs.declared.Entry.{Entry}
use Rattle.tally.specs.declared.Tally.{Tally}
use Rattle.tally.specs.Passes.{most_tags, standing, is_there, held, noted, count_fits, entries_fit, is_tally}
use Rattle.tally.specs.Lent.{no_entry, entries_of, keeping}
use Rattle.tally.specs.Places.{place_of, put_at}

-- ==== where a tag stands

module _ (tag : ℕ) where
  pub place_here : (d : Entry) (l : List Entry) (i : ℕ) → i < length l → (get_or l i d).tag ≡ tag → place_of tag (drop i l) ≡ 0
  place_here d l i h e = rw (drop-cons l i d h, eq-eqb (get_or l i d).tag tag e)

  pub place_next : (d : Entry) (l : List Entry) (i : ℕ) → i < length l → ((get_or l i d).tag ≡ tag → ⊥) → place_of tag (drop i l) ≡ suc (place_of tag (drop (suc i) l))
  place_next d l i h e = rw (drop-cons l i d h, ne_eqb (get_or l i d).tag tag e)

  -- among the first n entries, from place i on
  module _ (xs : List Entry) (n : ℕ) (fits : n ≤ length xs) where
    pub from_here : (i : ℕ) → i < n → (get_or xs i no_entry).tag ≡ tag → i + place_of tag (drop i (take n xs)) ≡ i
    from_here i h e = rw (place_here no_entry (take n xs) i (rw (length-take-le n xs fits) h) (rw (get_or-take n xs i no_entry h) e)) (omega arith)

    pub from_next : (i : ℕ) → i < n → ((get_or xs i no_entry).tag ≡ tag → ⊥) → i + place_of tag (drop i (take n xs)) ≡ i + 1 + place_of tag (drop (i + 1) (take n xs))
    from_next i h e =
        rw (place_next no_entry (take n xs) i (rw (length-take-le n xs fits) h) (λ k. e (sym (ap (λ (x : Entry). x.tag) (get_or-take n xs i no_entry h)) ∙ k)), add-one i) (omega arith)

    pub from_end_lem : place_of tag (drop n (take n xs)) ≡ 0
    from_end_lem = rw (drop_of_length-le (take n xs) {i = n} (rw (length-take-le n xs fits) (omega arith)))

  pub place_le : (l : List Entry) → place_of tag l ≤ length l
  place_le [] = omega arith
  place_le (e ∷ l) = go (eqb e.tag tag) (place_le l)
    where
      go : (t : Bool) → place_of tag l ≤ length l → cond t 0 (suc (place_of tag l)) ≤ suc (length l)
      go true h = omega arith
      go false h = omega arith

  -- a tag is held exactly where its place is one of the list's
  pub held_place : (l : List Entry) → held tag l ≡ ltb (place_of tag l) (length l)
  held_place [] = refl
  held_place (e ∷ l) = go (eqb e.tag tag) (held_place l)
    where
      go : (t : Bool) → held tag l ≡ ltb (place_of tag l) (length l) → is_there (cond t (some e) (standing tag l)) ≡ ltb (cond t 0 (suc (place_of tag l))) (suc (length l))
      go true h = sym (lt-ltb 0 (suc (length l)) (omega arith))
      go false h = h ∙ ltb_same (place_of tag l) (length l) (suc (place_of tag l)) (suc (length l)) (λ k. omega arith) (λ k. omega arith)

  -- the entry at its place is the tag's
  pub standing_at : (d : Entry) (l : List Entry) → place_of tag l < length l → standing tag l ≡ some (get_or l (place_of tag l) d)
  standing_at d [] h = absurd (omega arith)
  standing_at d (e ∷ l) h = go (eqb e.tag tag) h (standing_at d l)
    where
      go : (t : Bool) → cond t 0 (suc (place_of tag l)) < suc (length l) → (place_of tag l < length l → standing tag l ≡ some (get_or l (place_of tag l) d))
          → cond t (some e) (standing tag l) ≡ some (get_or (e ∷ l) (cond t 0 (suc (place_of tag l))) d)
      go true k i = refl
      go false k i = i (omega arith)

  pub standing_none : (l : List Entry) → length l ≤ place_of tag l → standing tag l ≡ none
  standing_none [] h = refl
  standing_none (e ∷ l) h = go (eqb e.tag tag) h (standing_none l)
    where
      go : (t : Bool) → suc (length l) ≤ cond t 0 (suc (place_of tag l)) → (length l ≤ place_of tag l → standing tag l ≡ none) → cond t (some e) (standing tag l) ≡ none
      go true k i = absurd (omega arith)
      go false k i = i (omega arith)

-- ==== an entry noted, and what the struct keeps

noted_length : (n : Entry) (l : List Entry) → length (noted n l) ≡ cond (ltb (place_of n.tag l) (length l)) (length l) (place_of n.tag l + 1)
noted_length n [] = refl
noted_length n (e ∷ l) = go (eqb e.tag n.tag) (noted_length n l)
  where
    next : (t : Bool) → suc (cond t (length l) (place_of n.tag l + 1)) ≡ cond t (suc (length l)) (suc (place_of n.tag l) + 1)
    next true = refl
    next false = omega arith

    go : (t : Bool) → length (noted n l) ≡ cond (ltb (place_of n.tag l) (length l)) (length l) (place_of n.tag l + 1)
        → length (cond t (n ∷ l) (e ∷ noted n l)) ≡ cond (ltb (cond t 0 (suc (place_of n.tag l))) (suc (length l))) (suc (length l)) (cond t 0 (suc (place_of n.tag l)) + 1)
    go true h = rw (lt-ltb 0 (suc (length l)) (omega arith))
    go false h =
        ap suc h ∙ next (ltb (place_of n.tag l) (length l))
        ∙ ap (λ (b : Bool). cond b (suc (length l)) (suc (place_of n.tag l) + 1))
        (ltb_same (place_of n.tag l) (length l) (suc (place_of n.tag l)) (suc (length l)) (λ k. omega arith) (λ k. omega arith))

noted_set : (n : Entry) (xs : List Entry) (k : ℕ) → k ≤ length xs → place_of n.tag (take k xs) < length xs
    → noted n (take k xs) ++ drop (length (noted n (take k xs))) xs ≡ set xs (place_of n.tag (take k xs)) n
noted_set n [] k h p = absurd (omega arith)
noted_set n (x ∷ xs) zero h p = refl
noted_set n (x ∷ xs) (suc k) h p = go (eqb x.tag n.tag) p (noted_set n xs k (omega arith))
  where
    go : (t : Bool) → cond t 0 (suc (place_of n.tag (take k xs))) < suc (length xs)
        → (place_of n.tag (take k xs) < length xs → noted n (take k xs) ++ drop (length (noted n (take k xs))) xs ≡ set xs (place_of n.tag (take k xs)) n)
        → cond t (n ∷ take k xs) (x ∷ noted n (take k xs)) ++ drop (length (cond t (n ∷ take k xs) (x ∷ noted n (take k xs)))) (x ∷ xs)
        ≡ set (x ∷ xs) (cond t 0 (suc (place_of n.tag (take k xs)))) n
    go true q i = ap (◌∷◌ n) (rw (length-take-le k xs (omega arith)) (take-append-drop k xs))
    go false q i = ap (◌∷◌ x) (i (omega arith))

-- what a struct whose length is at most 32 holds
tab_take : (n : ℕ) (xs : List Entry) (d : Entry) → n ≤ length xs → tab n (λ i. get_or xs i d) ≡ take n xs
tab_take zero xs d h = refl
tab_take (suc n) [] d h = absurd (omega arith)
tab_take (suc n) (x ∷ xs) d h = ap (◌∷◌ x) (tab_take n xs d (omega arith))

tab_length : (n : ℕ) (f : ℕ → Entry) → length (tab n f) ≡ n
tab_length zero f = refl
tab_length (suc n) f = ap suc (tab_length n (λ i. f (suc i)))

module _ (t : Tally) (full : length t.entries ≡ most_tags) where
  pub entries_length : length (entries_of t) ≡ t.len
  unfolding entries_of
  entries_length = tab_length t.len (λ i. get_or t.entries i no_entry)

  pub entries_taken : t.len ≤ most_tags → entries_of t ≡ take t.len t.entries
  unfolding entries_of
  entries_taken h = tab_take t.len t.entries no_entry (omega arith)

  -- what it holds already changes nothing
  pub keeping_same : keeping t (entries_of t) ≡ t
  unfolding keeping
  keeping_same = go (leb t.len most_tags) refl
    where
      go : (b : Bool) → leb t.len most_tags ≡ b → keeping t (entries_of t) ≡ t
      go true h = rw (entries_length, h, entries_taken (leb-true t.len most_tags h), take-append-drop t.len t.entries)
      go false h = rw (entries_length, h)

  module _ (n : Entry) (small : t.len ≤ most_tags) (room : place_of n.tag (take t.len t.entries) < most_tags) where
    new_length : length (noted n (take t.len t.entries))
        ≡ cond (ltb (place_of n.tag (take t.len t.entries)) t.len) t.len (place_of n.tag (take t.len t.entries) + 1)
    new_length = noted_length n (take t.len t.entries) ∙ rw (length-take-le t.len t.entries (omega arith))

    new_small : (b : Bool) → cond b t.len (place_of n.tag (take t.len t.entries) + 1) ≤ most_tags
    new_small true = small
    new_small false = omega arith

    fits_new : length (noted n (take t.len t.entries)) ≤ most_tags
    fits_new = rw new_length (new_small (ltb (place_of n.tag (take t.len t.entries)) t.len))

    new_entries : noted n (take t.len t.entries) ++ drop (length (noted n (take t.len t.entries))) t.entries
        ≡ set t.entries (place_of n.tag (take t.len t.entries)) n
    new_entries = noted_set n t.entries t.len (omega arith) (omega arith)

    -- an entry noted is an entry put at its tag's place
    pub keeping_noted : keeping t (noted n (entries_of t)) ≡ put_at t (place_of n.tag (take t.len t.entries)) n
    unfolding keeping
    keeping_noted = rw (entries_taken small, le-leb (length (noted n (take t.len t.entries))) most_tags fits_new) (λ i. record { len = new_length i; entries = new_entries i })

  -- is it a tally?
  pub tally_over : most_tags < t.len → is_tally (entries_of t) ≡ false
  unfolding is_tally
  tally_over h = rw (entries_length, lt-leb t.len most_tags h)

  pub tally_fit : t.len ≤ most_tags → is_tally (entries_of t) ≡ entries_fit (take t.len t.entries)
  unfolding is_tally
  tally_fit h = rw (entries_length, le-leb t.len most_tags h, entries_taken h)

-- ==== the entries of a tally, from place i on

module _ (xs : List Entry) (n : ℕ) (fits : n ≤ length xs) where
  entry_here : (i : ℕ) → i < n → drop i (take n xs) ≡ get_or xs i no_entry ∷ drop (i + 1) (take n xs)
  entry_here i h = rw (add-one i, drop-cons (take n xs) i no_entry (rw (length-take-le n xs fits) h), get_or-take n xs i no_entry h)

  held_on : (tag i : ℕ) → i < n → held tag (drop (i + 1) (take n xs)) ≡ ltb (i + 1 + place_of tag (drop (i + 1) (take n xs))) n
  held_on tag i h =
      held_place tag (drop (i + 1) (take n xs))
      ∙ rw (length-drop (i + 1) (take n xs), length-take-le n xs fits)
      (ltb_same (place_of tag (drop (i + 1) (take n xs))) (n - (i + 1)) (i + 1 + place_of tag (drop (i + 1) (take n xs))) n (λ k. omega arith) (λ k. omega arith))

  pub wrong_count : (i : ℕ) → i < n → count_fits (get_or xs i no_entry) ≡ false → entries_fit (drop i (take n xs)) ≡ false
  wrong_count i h e = rw (entry_here i h, e)

  pub tag_twice : (i : ℕ) → i < n → count_fits (get_or xs i no_entry) ≡ true
      → i + 1 + place_of (get_or xs i no_entry).tag (drop (i + 1) (take n xs)) < n → entries_fit (drop i (take n xs)) ≡ false
  tag_twice i h e k = rw (entry_here i h, e, held_on (get_or xs i no_entry).tag i h, lt-ltb _ _ k)

  pub entry_fits : (i : ℕ) → i < n → count_fits (get_or xs i no_entry) ≡ true
      → n ≤ i + 1 + place_of (get_or xs i no_entry).tag (drop (i + 1) (take n xs)) → entries_fit (drop i (take n xs)) ≡ entries_fit (drop (i + 1) (take n xs))
  entry_fits i h e k = rw (entry_here i h, e, held_on (get_or xs i no_entry).tag i h, le-ltb _ _ k)

  pub all_fit : entries_fit (drop n (take n xs)) ≡ true
  all_fit = rw (drop_of_length-le (take n xs) {i = n} (rw (length-take-le n xs fits) (omega arith)))
