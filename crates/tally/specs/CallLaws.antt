-- What a call on the struct comes to, a law for each way through the code. Assumes nothing.
use Rattle.std.specs.Prelude.{ℕ, ◌≤◌, ◌<◌, ◌≡◌, refl, Bool, true, false, leb, length, get_or, take}
use Rattle.std.proofs.Common.{arith, sym, ap, ◌∙◌, get_or-take, length-take-le}
use Rattle.std.proofs.Math.Option.{none, some}
use borrow.Author.Tests.{lt-ltb, le-ltb, leb-true, leb-false, eq-eqb, ne_eqb}
use Rattle.tally.specs.declared.Entry.{Entry}
use Rattle.tally.specs.declared.Tally.{Tally}
use Rattle.tally.specs.declared.Read.{Read}
use Rattle.tally.specs.Votes.{vote_of}
use Rattle.tally.specs.Passes.{most_tags, enough_votes, entry, counted, duplicate, weak, refused, standing, noted, is_tally, next_count, judged, called}
use Rattle.tally.specs.Lent.{no_entry, entries_of, keeping, outcome, laid, call_of}
use Rattle.tally.specs.Places.{place_of, put_at}
use Rattle.tally.specs.StepLaws.{clash}
use Rattle.tally.specs.PlaceLaws.{place_le, standing_at, standing_none, entries_length, entries_taken, keeping_same, keeping_noted, tally_over}

module _ (t : Tally) (full : length t.entries ≡ most_tags) where
  pub tally_small : is_tally (entries_of t) ≡ true → t.len ≤ most_tags
  tally_small e = go (leb t.len most_tags) refl
    where
      go : (b : Bool) → leb t.len most_tags ≡ b → t.len ≤ most_tags
      go true h = leb-true t.len most_tags h
      go false h = absurd (clash (sym (tally_over t full (leb-false t.len most_tags h)) ∙ e))

-- ==== by the entry of the read's tag

module _ (t : Tally) (full : length t.entries ≡ most_tags) (r : Read) (small : t.len ≤ most_tags) where
  -- where the read's tag stands among the entries
  abbrev here : ℕ
  here = place_of r.tag (take t.len t.entries)

  size : length (take t.len t.entries) ≡ t.len
  size = length-take-le t.len t.entries (omega (arith, small))

  -- the entry noted stands at its tag's place
  kept : (c i : ℕ) → i < most_tags → i ≡ here → put_at t i (entry r.tag r.pass c) ≡ keeping t (noted (entry r.tag r.pass c) (entries_of t))
  kept c i h e =
      ap (λ (n : ℕ). put_at t n (entry r.tag r.pass c)) e
      ∙ sym (keeping_noted t full (entry r.tag r.pass c) small (omega arith))

  module _ (i : ℕ) (inside : i < t.len) (at : i ≡ here) where
    abbrev e : Entry
    e = get_or t.entries i no_entry

    pub stands : standing r.tag (entries_of t) ≡ some e
    stands =
        ap (standing r.tag) (entries_taken t full small)
        ∙ standing_at r.tag no_entry (take t.len t.entries) (rw size (omega arith))
        ∙ rw (← at) (ap some (get_or-take t.len t.entries i no_entry inside))

    pub held_duplicate : r.pass ≡ e.last → outcome duplicate t ≡ laid t (judged (entries_of t) r (some e))
    held_duplicate h = rw (eq-eqb r.pass e.last h, keeping_same t full)

    pub held_19 : r.pass < e.last → outcome (refused 19) t ≡ laid t (judged (entries_of t) r (some e))
    held_19 h = rw (ne_eqb r.pass e.last (λ k. omega arith), lt-ltb r.pass e.last h, keeping_same t full)

    pub held_counted : (r.pass ≡ e.last → ⊥) → e.last ≤ r.pass
        → outcome (counted (next_count e.count)) (put_at t i (entry r.tag r.pass (next_count e.count))) ≡ laid t (judged (entries_of t) r (some e))
    held_counted d h =
        rw (ne_eqb r.pass e.last d, le-ltb r.pass e.last h)
        (ap (outcome (counted (next_count e.count))) (kept (next_count e.count) i (omega arith) at))

  module _ (outside : t.len ≤ here) where
    last_place : t.len ≡ here
    last_place = omega (arith, rw size at (place_le r.tag (take t.len t.entries)))

    pub stands_not : standing r.tag (entries_of t) ≡ none
    stands_not = ap (standing r.tag) (entries_taken t full small) ∙ standing_none r.tag (take t.len t.entries) (rw size outside)

    pub new_20 : t.len ≡ most_tags → outcome (refused 20) t ≡ laid t (judged (entries_of t) r none)
    new_20 e = rw (entries_length t full, le-ltb t.len most_tags (omega arith), keeping_same t full)

    pub new_counted : (t.len ≡ most_tags → ⊥) → outcome (counted 1) (put_at t t.len (entry r.tag r.pass 1)) ≡ laid t (judged (entries_of t) r none)
    new_counted e =
        let room : t.len < most_tags = omega (arith, small) in
        rw (entries_length t full, lt-ltb t.len most_tags room) (ap (outcome (counted 1)) (kept 1 t.len room last_place))

-- ==== the whole call

module _ (t : Tally) (full : length t.entries ≡ most_tags) (r : Read) (floor : ℕ) where
  pub call_23 : is_tally (entries_of t) ≡ false → outcome (refused 23) t ≡ call_of t r floor
  unfolding call_of called
  call_23 e = rw (e, keeping_same t full)

  module _ (ok : is_tally (entries_of t) ≡ true) where
    pub call_weak : vote_of floor r < enough_votes → outcome (weak (vote_of floor r)) t ≡ call_of t r floor
    unfolding call_of called
    call_weak h = rw (ok, lt-ltb (vote_of floor r) enough_votes h, keeping_same t full)

    pub call_strong : enough_votes ≤ vote_of floor r → laid t (judged (entries_of t) r (standing r.tag (entries_of t))) ≡ call_of t r floor
    unfolding call_of called
    call_strong h = rw (ok, le-ltb (vote_of floor r) enough_votes h)
