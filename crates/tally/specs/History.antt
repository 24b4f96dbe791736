-- Document 02, T-13: A cabin is washed exactly when at least three counted passes stand in its history from an empty tally. A cabin is its tag; a history
-- is a list of calls, each a read and a floor.
use Rattle.std.specs.Prelude.{ℕ, ◌+◌, ◌≡◌, Bool, true, false, ◌&&◌, List, [], ◌∷◌, length, eqb}
use Rattle.std.proofs.Math.Option.{Option, none, some}
use Rattle.rules.specs.Numbers.{bit}
use Rattle.tally.specs.declared.Entry.{Entry}
use Rattle.tally.specs.declared.Read.{Read}
use Rattle.tally.specs.declared.Tally.{Tally}
use Rattle.tally.specs.Passes.{Answer, counted, duplicate, weak, refused, most_tags, washed_count, standing}
use Rattle.tally.specs.Lent.{entries_of, Outcome, call_of}

pub record Call : Type 0 where
  pub read : Read
  pub floor : ℕ

-- the answer to a call, and the tally then
abbrev pub outcome_of : Tally → Call → Outcome
outcome_of t c = call_of t c.read c.floor

-- an empty tally holds no tag, whatever stands in its 32 places
pub record Empty (t : Tally) : Type 0 where
  pub full : length t.entries ≡ most_tags
  pub holds_none : t.len ≡ 0

-- the tally after a history of calls, each lent what the one before it left
abbrev pub after : Tally → List Call → Tally
after t [] = t
after t (c ∷ h) = after (outcome_of t c).tally h

-- a counted pass of the tag
abbrev pub is_counted : Answer → Bool
is_counted (counted n) = true
is_counted duplicate = false
is_counted (weak v) = false
is_counted (refused n) = false

abbrev pub counts_for : ℕ → Tally → Call → Bool
counts_for tag t c = eqb c.read.tag tag && is_counted (outcome_of t c).answer

-- how many of them stand in a history from t on
abbrev pub counted_of : ℕ → Tally → List Call → ℕ
counted_of tag t [] = 0
counted_of tag t (c ∷ h) = bit (counts_for tag t c) + counted_of tag (outcome_of t c).tally h

-- the count that the tag stands at, 0 where it does not stand
abbrev pub count_in : Option Entry → ℕ
count_in none = 0
count_in (some e) = e.count

abbrev pub count_at : ℕ → Tally → ℕ
count_at tag t = count_in (standing tag (entries_of t))

-- washed: the tag's entry stands at 3
abbrev pub washed : ℕ → Tally → Bool
washed tag t = eqb (count_at tag t) washed_count
