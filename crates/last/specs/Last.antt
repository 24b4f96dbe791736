-- Document 02, T-11, "Who wrote this last": which line of a listing last has a given `%r` as destination, by a full reading from the front.
use Rattle.std.specs.Prelude.{ℕ, ◌+◌, ◌-◌, ◌≡◌, refl, Bool, false, ◌||◌, cond, List, [], ◌∷◌, length, eqb, ltb, leb, Some, None, Result, Ok, Err}
use Rattle.std.proofs.Math.Option.{Option, none, some}
use Rattle.record.specs.Registers.{Place, reg, word_count}
use Rattle.record.specs.declared.File.TheVariants.{Words, Halves, Doubles, Preds}
use Rattle.record.specs.declared.Mode.TheVariants.{Ordinary}
use Rattle.record.specs.declared.Target.TheVariants.{Sm30}
use Rattle.rules.specs.Executing.{destinations}
use Rattle.rules.specs.Reading.{Answers, read, refused, refused_at}
use Rattle.rules.specs.Reading as reading
use Rattle.lines.specs.Lines.{listing_limit, lines_of}
use Rattle.std.specs.declared.option.Option.{Option as Found}
use Rattle.std.proofs.Common.{ap, sym}
use Rattle.refusals.specs.declared.Refusal.{Refusal}
use Rattle.refusals.specs.Numbers.{number_of, numbers_one}

-- ==== a line

-- has a given `%r`: `%rs5`, `%rd5` and `%p5` are not `%r5`
abbrev pub is_word : ℕ → Place → Bool
is_word n (reg Words m) = eqb m n
is_word n (reg Halves m) = false
is_word n (reg Doubles m) = false
is_word n (reg Preds m) = false

abbrev pub has_word : ℕ → List Place → Bool
has_word n [] = false
has_word n (q ∷ qs) = has_word n qs || is_word n q

-- line accepted [..] has a given `%r` as destination, guarded or not; one that is refused has none
abbrev pub has_destination : ℕ → reading.Answer → Bool
has_destination n (read m) = has_word n (destinations m.instruction)
has_destination n (refused k) = false
has_destination n (refused_at k p) = false

-- ==== a full reading from the front

-- each line is answered as the grammar has it, at sm_30 and, since nothing else is asked for, in ordinary reading
abbrev pub FullReading : (List ℕ → reading.Answer) → Type 0
FullReading answer = (l : List ℕ) → Answers Sm30 Ordinary l (answer l)

-- which line [..] last: what a later line gives counts, and only without it what an earlier one gives
abbrev pub later : Option ℕ → Option ℕ → Option ℕ
later (some d) x = some d
later none x = x

-- the distance of its first byte from the end: lines of a listing of so many bytes, the first of which begins at a place; each ends at its line feed
unfoldable pub last_in : (List ℕ → reading.Answer) → ℕ → ℕ → ℕ → List (List ℕ) → Option ℕ
last_in answer n size at [] = none
last_in answer n size at (l ∷ ls) =
    later (last_in answer n size (at + length l + 1) ls) (cond (has_destination n (answer l)) (some (size - at)) none)

-- ==== the answer

pub data Answer : Type 0 where
  -- as the distance of its first byte from the end
  distance : ℕ → Answer
  -- or that none has
  none_has : Answer
  refused_by : ℕ → Answer

abbrev pub told : Option ℕ → Answer
told (some d) = distance d
told none = none_has

-- 22 for a longer listing, then 6 for a register over 63
unfoldable pub last_of : (List ℕ → reading.Answer) → List ℕ → ℕ → Answer
last_of answer s n =
    cond (ltb listing_limit (length s)) (refused_by 22)
    (cond (leb word_count n) (refused_by 6)
    (told (last_in answer n (length s) 0 (lines_of s))))

-- The answer equals that of a full reading from the front. There is one, and all give the same (`read_of_full`, `one_reading`, LastLaws)
abbrev pub ByFullReading : List ℕ → ℕ → Answer → Type 0
ByFullReading s n a = (answer : List ℕ → reading.Answer) → FullReading answer → a ≡ last_of answer s n

-- what each answer of `last_writer` says in these words and numbers
abbrev pub distance_of : Found ℕ → Answer
distance_of (Some d) = distance d
distance_of None = none_has

abbrev pub answer_of : Result (Found ℕ) Refusal → Answer
answer_of (Ok d) = distance_of d
answer_of (Err r) = refused_by (number_of r)

-- one to one: no two answers say the same
distances_one : (x y : Found ℕ) → distance_of x ≡ distance_of y → x ≡ y
distances_one (Some m) (Some n) e = cc
distances_one (Some m) None e = cc
distances_one None (Some n) e = cc
distances_one None None e = refl

not_refused : {A : Type 0} (x : Found ℕ) (n : ℕ) → distance_of x ≡ refused_by n → A
not_refused (Some m) n e = cc
not_refused None n e = cc

pub answers_one : (x y : Result (Found ℕ) Refusal) → answer_of x ≡ answer_of y → x ≡ y
answers_one (Ok x) (Ok y) e = ap Ok (distances_one x y e)
answers_one (Ok x) (Err n) e = not_refused x _ e
answers_one (Err m) (Ok y) e = not_refused y _ (sym e)
answers_one (Err m) (Err n) e = ap Err (numbers_one m n cc)
