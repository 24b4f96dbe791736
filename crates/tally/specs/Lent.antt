-- Document 02, T-13: A tally of at most 32 tags is lent to each call and brought up to date there. The struct that is lent, and what a call leaves in it.
use Rattle.std.specs.Prelude.{ℕ, ◌≡◌, refl, cond, List, ◌++◌, leb, length, get_or, drop, replicate, Result, Ok, Err}
use Rattle.signs.specs.Lists.{tab}
use Rattle.tally.specs.declared.Entry.{Entry}
use Rattle.tally.specs.declared.Tally.{Tally}
use Rattle.tally.specs.declared.Read.{Read}
use Rattle.tally.specs.declared.Passed.{Passed}
use Rattle.tally.specs.declared.Passed.TheVariants.{Counted, Duplicate, Weak}
use Rattle.std.proofs.Common.{ap}
use Rattle.refusals.specs.declared.Refusal.{Refusal}
use Rattle.refusals.specs.Numbers.{number_of, numbers_one}
use Rattle.tally.specs.Passes as passes
use Rattle.tally.specs.Passes.{Answer, counted, duplicate, weak, refused, entry, most_tags, called}

-- what stands in a place that holds nothing
abbrev pub no_entry : Entry
no_entry = entry 0 0 0

-- the entries that the struct holds: as many as its length says, so over 32 where that says so
unfoldable pub entries_of : Tally → List Entry
entries_of t = tab t.len (λ i. get_or t.entries i no_entry)

-- the struct with these entries, its other places as they were; 33 and more have no room, and it stays as it was
unfoldable pub keeping : Tally → List Entry → Tally
keeping t l = cond (leb (length l) most_tags) (record { len = length l; entries = l ++ drop (length l) t.entries }) t

-- what each answer says in document 02's words and numbers
abbrev pub answer_of : Result Passed Refusal → Answer
answer_of (Ok (Counted n)) = counted n
answer_of (Ok Duplicate) = duplicate
answer_of (Ok (Weak v)) = weak v
answer_of (Err r) = refused (number_of r)

-- one to one: no two answers say the same
pub answers_one : (x y : Result Passed Refusal) → answer_of x ≡ answer_of y → x ≡ y
answers_one (Ok (Counted m)) (Ok (Counted n)) e = cc
answers_one (Ok (Counted m)) (Ok Duplicate) e = cc
answers_one (Ok (Counted m)) (Ok (Weak n)) e = cc
answers_one (Ok (Counted m)) (Err n) e = cc
answers_one (Ok Duplicate) (Ok (Counted n)) e = cc
answers_one (Ok Duplicate) (Ok Duplicate) e = refl
answers_one (Ok Duplicate) (Ok (Weak n)) e = cc
answers_one (Ok Duplicate) (Err n) e = cc
answers_one (Ok (Weak m)) (Ok (Counted n)) e = cc
answers_one (Ok (Weak m)) (Ok Duplicate) e = cc
answers_one (Ok (Weak m)) (Ok (Weak n)) e = cc
answers_one (Ok (Weak m)) (Err n) e = cc
answers_one (Err m) (Ok (Counted n)) e = cc
answers_one (Err m) (Ok Duplicate) e = cc
answers_one (Err m) (Ok (Weak n)) e = cc
answers_one (Err m) (Err n) e = ap Err (numbers_one m n cc)

-- an answer, and the struct as it is left
pub record Outcome : Type 0 where
  pub answer : Answer
  pub tally : Tally

abbrev pub outcome : Answer → Tally → Outcome
outcome a t = record { answer = a; tally = t }

-- what a call on the entries comes to, laid into the struct
abbrev pub laid : Tally → passes.Outcome → Outcome
laid t o = outcome o.answer (keeping t o.tally)

-- a call on the struct is a call on what it holds
unfoldable pub call_of : Tally → Read → ℕ → Outcome
call_of t r floor = laid t (called (entries_of t) r floor)

-- a tally that holds no tag
abbrev pub empty_tally : Tally
empty_tally = record { len = 0; entries = replicate most_tags no_entry }
