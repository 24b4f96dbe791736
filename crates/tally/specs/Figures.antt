-- T-13 on examples, worked out by hand from its sentences: the entries before a call, the read and the floor, the answer and the entries then.
use Rattle.std.specs.Prelude.{ℕ, ◌+◌, ◌≡◌, refl, List, [], ◌∷◌, ◌++◌, map, replicate}
use Rattle.signs.specs.Lists.{tab}
use Rattle.tally.specs.declared.Entry.{Entry}
use Rattle.tally.specs.declared.Read.{Read}
use Rattle.tally.specs.Votes.{vote_of}
use Rattle.tally.specs.Lent.{no_entry, entries_of, keeping, outcome, call_of, empty_tally}
use Rattle.tally.specs.Passes.{Answer, counted, duplicate, weak, refused, Outcome, gives, entry, is_tally, called}

pub record Figure : Type 0 where
  pub before : List Entry
  pub read : Read
  pub floor : ℕ
  pub answer : Answer
  pub after : List Entry

abbrev figure : List Entry → Read → ℕ → Answer → List Entry → Figure
figure l r f a k = record { before = l; read = r; floor = f; answer = a; after = k }

-- nothing changed
abbrev kept : List Entry → Read → ℕ → Answer → Figure
kept l r f a = figure l r f a l

abbrev read_of : ℕ → ℕ → ℕ → ℕ → Read
read_of tag pass first second = record { tag = tag; pass = pass; first = first; second = second }

-- pass 3 of tag 7 with five votes at floor 80, and with four
abbrev strong : Read
strong = read_of 7 3 0x80808080 0x7F00FF7F

abbrev feeble : Read
feeble = read_of 7 3 0x80FF8080 0x7F7F7F7F

-- so many other tags, 100 and on
abbrev others : ℕ → List Entry
others n = tab n (λ i. entry (100 + i) 1 1)

unfoldable pub figures : List Figure
figures =
    -- Under five votes: answered weak, nothing changed; also where it is a duplicate, lower, or new with 32 held
    kept [] feeble 0x80 (weak 4)
    ∷ kept (entry 7 2 1 ∷ []) feeble 0x80 (weak 4)
    ∷ kept (entry 7 3 1 ∷ []) feeble 0x80 (weak 4)
    ∷ kept (entry 7 4 1 ∷ []) feeble 0x80 (weak 4)
    ∷ kept (others 32) feeble 0x80 (weak 4)
    ∷ kept [] (read_of 7 3 0 0) 0x01 (weak 0)
    -- at or above, without a sign; floor 0 has eight
    ∷ kept [] (read_of 7 3 0xFEFEFEFE 0xFFFFFFFF) 0xFF (weak 4)
    ∷ figure [] (read_of 7 3 0xFFFEFEFE 0xFFFFFFFF) 0xFF (counted 1) (entry 7 3 1 ∷ [])
    ∷ figure [] (read_of 7 3 0 0) 0x00 (counted 1) (entry 7 3 1 ∷ [])
    -- A tag's last pass number again: duplicate, nothing changed
    ∷ kept (entry 7 3 1 ∷ []) strong 0x80 duplicate
    ∷ kept (entry 7 3 2 ∷ []) strong 0x80 duplicate
    ∷ kept (entry 7 3 3 ∷ []) strong 0x80 duplicate
    -- A higher one, or a new tag's, becomes its last and counts one; the count stays at 3 once there
    ∷ figure [] strong 0x80 (counted 1) (entry 7 3 1 ∷ [])
    ∷ figure (entry 7 2 1 ∷ []) strong 0x80 (counted 2) (entry 7 3 2 ∷ [])
    ∷ figure (entry 7 0 2 ∷ []) strong 0x80 (counted 3) (entry 7 3 3 ∷ [])
    ∷ figure (entry 7 2 3 ∷ []) strong 0x80 (counted 3) (entry 7 3 3 ∷ [])
    ∷ figure (entry 9 5 1 ∷ entry 8 5 3 ∷ []) strong 0x80 (counted 1) (entry 9 5 1 ∷ entry 8 5 3 ∷ entry 7 3 1 ∷ [])
    ∷ figure (entry 9 5 1 ∷ entry 7 2 2 ∷ entry 8 5 3 ∷ []) strong 0x80 (counted 3) (entry 9 5 1 ∷ entry 7 3 3 ∷ entry 8 5 3 ∷ [])
    ∷ figure (others 31) strong 0x80 (counted 1) (others 31 ++ (entry 7 3 1 ∷ []))
    ∷ figure (entry 7 2 1 ∷ others 31) strong 0x80 (counted 2) (entry 7 3 2 ∷ others 31)
    -- first 23, a tally with over 32 tags, a tag twice or a count outside 1 to 3; also where the read is weak
    ∷ kept (others 33) strong 0x80 (refused 23)
    ∷ kept (entry 7 2 1 ∷ others 32) strong 0x80 (refused 23)
    ∷ kept (entry 9 1 1 ∷ entry 8 1 1 ∷ entry 9 2 1 ∷ []) strong 0x80 (refused 23)
    ∷ kept (entry 9 1 0 ∷ []) strong 0x80 (refused 23)
    ∷ kept (entry 9 1 4 ∷ []) strong 0x80 (refused 23)
    ∷ kept (entry 7 3 1 ∷ entry 9 1 0 ∷ []) feeble 0x80 (refused 23)
    -- 19 pass number lower than the tag's last
    ∷ kept (entry 7 4 1 ∷ []) strong 0x80 (refused 19)
    ∷ kept (entry 7 4294967295 3 ∷ others 31) strong 0x80 (refused 19)
    -- 20 new tag with 32 held
    ∷ kept (others 32) strong 0x80 (refused 20)
    ∷ []

abbrev computed : Figure → Outcome
computed x = called x.before x.read x.floor

abbrev expected : Figure → Outcome
expected x = gives x.answer x.after

pub figures_hold : map computed figures ≡ map expected figures
unfolding figures called is_tally vote_of
figures_hold = refl

-- the same of the struct that is lent: the entry stands in the first free place, and the others are as they were
pub lent_counted : call_of empty_tally strong 0x80 ≡ outcome (counted 1) (record { len = 1; entries = entry 7 3 1 ∷ replicate 31 no_entry })
unfolding call_of entries_of keeping called is_tally vote_of
lent_counted = refl

pub lent_weak : call_of empty_tally feeble 0x80 ≡ outcome (weak 4) empty_tally
unfolding call_of entries_of keeping called is_tally vote_of
lent_weak = refl
