-- What the tally program (`./bench --tally FLOOR`, docs/DECISIONS.md, V7) takes and prints of document 02's T-13: reads, a line for each, and at the end
-- the tags. Lines, the limit and `input too long` are those of the listing program.
use Rattle.std.specs.Prelude.{◌≡◌, ℕ, suc, ◌^◌, ◌<◌, ◌≤◌, cond, List, [], ◌∷◌, ◌++◌, length, ◌==◌, ◌≢◌}
use Rattle.std.proofs.Math.Option.{Option, none, some}
use Rattle.signs.specs.Text.{bytes}
use Rattle.signs.specs.Digits.{decimal, hex}
use Rattle.signs.specs.Bytes.{line_feed}
use Rattle.rules.specs.Numbers.{word_size}
use Rattle.lines.specs.Lines.{listing_limit, lines_of}
use Rattle.report.specs.Listing.{too_long_text, refused_text}
use Rattle.tally.specs.declared.Entry.{Entry}
use Rattle.tally.specs.declared.Read.{Read}
use Rattle.tally.specs.declared.Tally.{Tally}
use Rattle.tally.specs.Passes.{Answer, counted, duplicate, weak, refused, washed_count}
use Rattle.tally.specs.Lent.{entries_of, call_of, empty_tally}

-- ==== what a text says

-- that it is the text of an x within the range; or that it is none's
pub data Says {A : Type 0} (InRange : A → Type 0) (text_of : A → List ℕ) (l : List ℕ) : Option A → Type 0 where
  is_of : {x : A} → InRange x → l ≡ text_of x → Says InRange text_of l (some x)
  is_none : ((x : A) → InRange x → l ≢ text_of x) → Says InRange text_of l none

-- FLOOR: two hex digits, capitals
abbrev pub floor_digits : ℕ
floor_digits = 2

abbrev pub floor_text : ℕ → List ℕ
floor_text floor = hex floor_digits floor

abbrev pub FloorFits : ℕ → Type 0
FloorFits floor = floor < 16 ^ floor_digits

abbrev pub SaysFloor : List ℕ → Option ℕ → Type 0
SaysFloor l x = Says FloorFits floor_text l x

-- `TAG PASS WORD WORD`: tag and pass decimal without leading zeros, words of 8 hex digits, capitals, one space between
abbrev pub word_digits : ℕ
word_digits = 8

abbrev pub read_text : Read → List ℕ
read_text r =
    decimal r.tag ++ bytes " " ++ decimal r.pass ++ bytes " "
    ++ hex word_digits r.first ++ bytes " " ++ hex word_digits r.second

-- up to 4294967295
pub record ReadFits (r : Read) : Type 0 where
  pub tag : r.tag < word_size
  pub pass : r.pass < word_size
  pub first : r.first < word_size
  pub second : r.second < word_size

-- a line is a read, or of another form
abbrev pub SaysRead : List ℕ → Option Read → Type 0
SaysRead l x = Says ReadFits read_text l x

-- ==== what is printed of a line

abbrev pub answer_text : Answer → List ℕ
answer_text (counted c) = bytes "counted " ++ decimal c
answer_text duplicate = bytes "duplicate"
answer_text (weak v) = bytes "weak " ++ decimal v
answer_text (refused n) = refused_text n

-- a read is a call on the tally; a line of another form is none
abbrev pub line_answer : ℕ → Tally → Option Read → List ℕ
line_answer floor t (some r) = answer_text (call_of t r floor).answer
line_answer floor t none = bytes "not a read"

abbrev pub tally_after : ℕ → Tally → Option Read → Tally
tally_after floor t (some r) = (call_of t r floor).tally
tally_after floor t none = t

-- the line's number comes first, from 1 on
unfoldable pub logged_line : ℕ → ℕ → Tally → Option Read → List ℕ
logged_line floor n t x = decimal n ++ bytes " " ++ line_answer floor t x ++ (line_feed ∷ [])

-- the lines one after another, the first with number n, on a tally t: the text that is printed, and the tally then
pub data Turns (floor : ℕ) : ℕ → List (List ℕ) → Tally → List ℕ → Tally → Type 0 where
  ended : {n : ℕ} {t : Tally} → Turns floor n [] t [] t
  more : {n : ℕ} {l : List ℕ} {ls : List (List ℕ)} {t g : Tally} {x : Option Read} {u : List ℕ}
      → SaysRead l x → Turns floor (suc n) ls (tally_after floor t x) u g → Turns floor n (l ∷ ls) t (logged_line floor n t x ++ u) g

-- ==== what is printed at the end

-- `TAG LAST COUNT`, with ` washed` behind a count of 3
abbrev pub washed_text : ℕ → List ℕ
washed_text count = cond (count == washed_count) (bytes " washed") []

abbrev pub entry_text : Entry → List ℕ
entry_text e =
    decimal e.tag ++ bytes " " ++ decimal e.last ++ bytes " " ++ decimal e.count ++ washed_text e.count ++ (line_feed ∷ [])

-- in the order in which the tags came
abbrev pub end_text : List Entry → List ℕ
end_text [] = []
end_text (e ∷ l) = entry_text e ++ end_text l

-- ==== the whole output

pub data Output (floor : ℕ) (s : List ℕ) : List ℕ → Type 0 where
  -- at most 65,536 bytes, else `input too long` alone
  too_long : listing_limit < length s → Output floor s too_long_text
  -- a line for each line, on a tally that is empty at the start, then the tags
  printed : {t : List ℕ} {g : Tally} → length s ≤ listing_limit → Turns floor 1 (lines_of s) empty_tally t g → Output floor s (t ++ end_text (entries_of g))
