-- What a history of calls from an empty tally comes to. Assumes nothing.
use Rattle.std.specs.Prelude.{ℕ, ◌+◌, ◌≤◌, min, ◌≡◌, Bool, true, false, leb, length, drop}
use Rattle.std.proofs.Common.{arith, ◌∙◌, le-leb, leb-true, leb-false, eq-eqb, ne_eqb}
use Rattle.std.proofs.Math.Path.{refl, ap}
use mathlib.Core.List.{List, [], ◌∷◌}
use Rattle.std.proofs.Math.Option.{some}
use Rattle.std.proofs.Math.ListN.{get_or, length-append, length-drop}
use Rattle.std.proofs.lemmas.List.{length-replicate}
use Rattle.signs.specs.Lists.{tab}
use Rattle.std.proofs.Math.Seq.{take-append_seam}
use Rattle.rules.specs.Numbers.{bit}
use Rattle.tally.specs.declared.Entry.{Entry}
use Rattle.tally.specs.declared.Read.{Read}
use Rattle.tally.specs.declared.Tally.{Tally}
use Rattle.tally.specs.Passes.{counted, refused, entry, most_tags, washed_count, standing, is_tally, called}
use Rattle.tally.specs.Lent.{no_entry, entries_of, keeping, call_of, empty_tally}
use Rattle.tally.specs.PlaceLaws.{entries_taken, keeping_same}
use Rattle.tally.specs.History.{Call, outcome_of, Empty, after, is_counted, counts_for, counted_of, count_in, count_at, washed}
use Rattle.tally.specs.StepLaws.{tally_length, count_at_most, CallDoes, call_does, call_unmoved, never_refused_23}

-- ==== a struct that holds a tally

-- a value of the type `Tally` has 32 places; not every one is a tally
pub record Whole (t : Tally) : Type 0 where
  pub full : length t.entries ≡ most_tags
  pub tally : is_tally (entries_of t) ≡ true

module _ (t : Tally) (full : length t.entries ≡ most_tags) (l : List Entry) (small : length l ≤ most_tags) where
  kept_full : length (keeping t l).entries ≡ most_tags
  unfolding keeping
  kept_full = rw (le-leb (length l) most_tags small, length-append l (drop (length l) t.entries), length-drop (length l) t.entries, full) (omega arith)

  kept_entries : entries_of (keeping t l) ≡ l
  unfolding keeping
  kept_entries =
      entries_taken (keeping t l) kept_full (rw (le-leb (length l) most_tags small) small)
      ∙ rw (le-leb (length l) most_tags small) (take-append_seam l (drop (length l) t.entries))

-- weak, duplicate or refused: the struct is what it was, whatever was lent
pub call_changes_nothing : (t : Tally) (r : Read) (floor : ℕ) → length t.entries ≡ most_tags → is_counted (call_of t r floor).answer ≡ false → (call_of t r floor).tally ≡ t
unfolding call_of
call_changes_nothing t r floor full h = ap (keeping t) (call_unmoved (entries_of t) r floor h) ∙ keeping_same t full

-- ==== one call on it

module _ (t : Tally) (w : Whole t) (c : Call) where
  step : CallDoes (entries_of t) c.read (called (entries_of t) c.read c.floor)
  step = call_does (entries_of t) c.read w.tally c.floor

  left : entries_of (outcome_of t c).tally ≡ (called (entries_of t) c.read c.floor).tally
  unfolding call_of
  left = kept_entries t w.full (called (entries_of t) c.read c.floor).tally (tally_length _ step.tally)

  pub whole_after : Whole (outcome_of t c).tally
  unfolding call_of
  whole_after = record {
    full = kept_full t w.full (called (entries_of t) c.read c.floor).tally (tally_length _ step.tally);
    tally = ap is_tally left ∙ step.tally;
  }

  pub not_23 : (outcome_of t c).answer ≡ refused 23 → ⊥
  unfolding call_of
  not_23 e = never_refused_23 (called (entries_of t) c.read c.floor).answer step.not23 e

  -- a tag's count goes up by one with its counted answer, and stays at 3 once there
  pub count_goes_up : (tag : ℕ) → count_at tag (outcome_of t c).tally ≡ min washed_count (count_at tag t + bit (counts_for tag t c))
  unfolding call_of
  count_goes_up tag = ap (λ (l : List Entry). count_in (standing tag l)) left ∙ step.count tag

  -- a counted read is its tag's last, with the count that was answered
  pub counted_last : (n : ℕ) → (outcome_of t c).answer ≡ counted n → standing c.read.tag (entries_of (outcome_of t c).tally) ≡ some (entry c.read.tag c.read.pass n)
  unfolding call_of
  counted_last n e = ap (standing c.read.tag) left ∙ step.own n e

  -- what another tag has stays
  pub others_stay : (tag : ℕ) → (c.read.tag ≡ tag → ⊥) → standing tag (entries_of (outcome_of t c).tally) ≡ standing tag (entries_of t)
  others_stay tag d = ap (standing tag) left ∙ step.others tag d

-- ==== a history

pub stays_whole : (t : Tally) (h : List Call) → Whole t → Whole (after t h)
stays_whole t [] w = w
stays_whole t (c ∷ h) w = stays_whole (outcome_of t c).tally h (whole_after t w c)

count_after : (tag : ℕ) (t : Tally) (h : List Call) → Whole t → count_at tag (after t h) ≡ min washed_count (count_at tag t + counted_of tag t h)
count_after tag t [] w = omega (arith, count_at_most (entries_of t) w.tally tag)
count_after tag t (c ∷ h) w = omega (arith, count_after tag (outcome_of t c).tally h (whole_after t w c), count_goes_up t w c tag)

-- from an empty tally
module _ (t : Tally) (e : Empty t) where
  no_entries : entries_of t ≡ []
  unfolding entries_of
  no_entries = ap (λ (n : ℕ). tab n (λ i. get_or t.entries i no_entry)) e.holds_none

  pub whole_empty : Whole t
  unfolding is_tally
  whole_empty = record { full = e.full; tally = rw no_entries refl }

  none_at_first : (tag : ℕ) → count_at tag t ≡ 0
  none_at_first tag = rw no_entries refl

  -- the count is the number of counted passes, up to 3
  pub counts_to_three : (tag : ℕ) (h : List Call) → count_at tag (after t h) ≡ min 3 (counted_of tag t h)
  counts_to_three tag h = omega (arith, count_after tag t h whole_empty, none_at_first tag)

  -- A cabin is washed exactly when at least three counted passes stand in its history from an empty tally
  pub washed_exactly : (tag : ℕ) (h : List Call) → washed tag (after t h) ≡ leb 3 (counted_of tag t h)
  washed_exactly tag h = go (leb 3 (counted_of tag t h)) refl
    where
      go : (b : Bool) → leb 3 (counted_of tag t h) ≡ b → washed tag (after t h) ≡ b
      go true q = eq-eqb (count_at tag (after t h)) 3 (omega (arith, counts_to_three tag h, leb-true 3 (counted_of tag t h) q))
      go false q = ne_eqb (count_at tag (after t h)) 3 (λ k. omega (arith, counts_to_three tag h, leb-false 3 (counted_of tag t h) q))

  -- a tally that was reached from an empty one is never refused 23
  pub never_23 : (h : List Call) (c : Call) → (outcome_of (after t h) c).answer ≡ refused 23 → ⊥
  never_23 h c = not_23 (after t h) (stays_whole t h whole_empty) c

-- `empty` makes one
pub empty_is : Empty empty_tally
empty_is = record { full = length-replicate most_tags no_entry; holds_none = refl }
