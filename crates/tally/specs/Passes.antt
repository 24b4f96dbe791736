-- Document 02, T-13, on lists: a tally is its entries in the order in which their tags came. Each sentence stands above what says it.
use Rattle.std.specs.Prelude.{ℕ, ◌+◌, Bool, true, false, not, ◌&&◌, cond, List, [], ◌∷◌, ltb, leb, eqb, length}
use Rattle.std.proofs.Math.Option.{Option, none, some}
use Rattle.tally.specs.declared.Entry.{Entry}
use Rattle.tally.specs.declared.Read.{Read}
use Rattle.tally.specs.Votes.{vote_of}

-- ==== what a tally holds

-- a tag, its last pass number and its count
abbrev pub entry : ℕ → ℕ → ℕ → Entry
entry tag last count = record { tag = tag; last = last; count = count }

-- at most 32 tags
abbrev pub most_tags : ℕ
most_tags = 32

-- a count of 1 to 3; 3 is washed
abbrev pub least_count : ℕ
least_count = 1

abbrev pub washed_count : ℕ
washed_count = 3

abbrev pub count_fits : Entry → Bool
count_fits e = leb least_count e.count && leb e.count washed_count

-- the entry of a tag
abbrev pub standing : ℕ → List Entry → Option Entry
standing tag [] = none
standing tag (e ∷ l) = cond (eqb e.tag tag) (some e) (standing tag l)

-- the tag has one
abbrev pub is_there : Option Entry → Bool
is_there none = false
is_there (some e) = true

abbrev pub held : ℕ → List Entry → Bool
held tag l = is_there (standing tag l)

-- no tag twice, no count outside 1 to 3
abbrev pub entries_fit : List Entry → Bool
entries_fit [] = true
entries_fit (e ∷ l) = count_fits e && (not (held e.tag l) && entries_fit l)

-- 23 says that this does not hold: a tally with over 32 tags, a tag twice or a count outside 1 to 3
unfoldable pub is_tally : List Entry → Bool
is_tally l = leb (length l) most_tags && entries_fit l

-- the entry n in place of its tag's, or behind the others where its tag is new
abbrev pub noted : Entry → List Entry → List Entry
noted n [] = n ∷ []
noted n (e ∷ l) = cond (eqb e.tag n.tag) (n ∷ l) (e ∷ noted n l)

-- ==== one call

-- a counted pass, with the count that its tag stands at now; a duplicate; a weak read, with its vote; a refusal, with its number
pub data Answer : Type 0 where
  counted : ℕ → Answer
  duplicate : Answer
  weak : ℕ → Answer
  refused : ℕ → Answer

pub record Outcome : Type 0 where
  pub answer : Answer
  pub tally : List Entry

abbrev pub gives : Answer → List Entry → Outcome
gives a l = record { answer = a; tally = l }

-- Under five votes: answered weak
abbrev pub enough_votes : ℕ
enough_votes = 5

-- counts one; the count stays at 3 once there
abbrev pub next_count : ℕ → ℕ
next_count c = cond (ltb c washed_count) (c + 1) washed_count

-- the read's pass number becomes its tag's last, with this count
abbrev pub counts : List Entry → Read → ℕ → Outcome
counts l r c = gives (counted c) (noted (entry r.tag r.pass c) l)

-- by the entry of the read's tag
abbrev pub judged : List Entry → Read → Option Entry → Outcome
-- A tag's last pass number again: duplicate, nothing changed; 19 pass number lower than the tag's last; a higher one becomes its last and counts one
judged l r (some e) =
    cond (eqb r.pass e.last) (gives duplicate l)
    (cond (ltb r.pass e.last) (gives (refused 19) l)
    (counts l r (next_count e.count)))
-- a new tag's becomes its last and counts one; 20 new tag with 32 held
judged l r none = cond (ltb (length l) most_tags) (counts l r least_count) (gives (refused 20) l)

-- first 23; then under five votes: answered weak, nothing changed; 19 and 20 after the weak answer
unfoldable pub called : List Entry → Read → ℕ → Outcome
called l r floor =
    cond (not (is_tally l)) (gives (refused 23) l)
    (cond (ltb (vote_of floor r) enough_votes) (gives (weak (vote_of floor r)) l)
    (judged l r (standing r.tag l)))
