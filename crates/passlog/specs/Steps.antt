-- The code's own way through the input: one line at a call, which goes on where the one before it stopped; then the end.
use Rattle.std.specs.Prelude.{◌≡◌, ℕ, ◌+◌, ◌*◌, ◌<◌, ◌≤◌, cond, not, List, [], ◌++◌, length, drop, nat_lt, refl, Some, None, Result, Ok, Err}
use Rattle.std.proofs.Math.Option.{Option, none, some}
use Rattle.signs.specs.Text.{bytes}
use Rattle.signs.specs.Digits.{decimal}
use Rattle.signs.specs.Bytes.{line_feed}
use Rattle.rules.specs.Writing.{front}
use Rattle.text.specs.Buffer.{Buffer, Puts}
use Rattle.text.specs.DigitLaws.{most_digits}
use Rattle.lines.specs.Lines.{listing_limit}
use Rattle.report.specs.Listing.{too_long_text}
use Rattle.report.specs.Chunks.{next_number}
use Rattle.tally.specs.declared.Read.{Read}
use Rattle.tally.specs.declared.Tally.{Tally}
use Rattle.tally.specs.Passes.{most_tags, is_tally}
use Rattle.tally.specs.Lent.{entries_of}
use Rattle.passlog.specs.declared.EndError.{EndError}
use Rattle.passlog.specs.declared.EndError.TheVariants.{NoRoom, Refused}
use Rattle.std.specs.declared.option.Option.{Option as Given}
use Rattle.std.proofs.Common.{ap}
use Rattle.refusals.specs.declared.Refusal.{Refusal}
use Rattle.refusals.specs.Numbers.{number_of, numbers_one}
use Rattle.passlog.specs.Log.{word_digits, SaysRead, line_answer, tally_after, logged_line, end_text}
use Rattle.lines.specs.Until.{length_to, before}

-- ==== what the answers say

abbrev pub line_of : Given Read → Option Read
line_of (Some r) = some r
line_of None = none

abbrev pub floor_said : Given ℕ → Option ℕ
floor_said (Some f) = some f
floor_said None = none

-- ==== a line

-- as many bytes as the text of a read has at most
abbrev pub read_room : ℕ
read_room = 10 + 1 + 10 + 1 + word_digits + 1 + word_digits

-- what the texts of a read and of an entry begin with
abbrev pub two_text : ℕ → ℕ → List ℕ
two_text a b = decimal a ++ bytes " " ++ decimal b ++ bytes " "

-- the line that begins at a place, and where the next one begins; behind the last one that may be a place past the end
abbrev pub line_at : List ℕ → ℕ → List ℕ
line_at s from = before line_feed (drop from s)

abbrev pub next_place : List ℕ → ℕ → ℕ
next_place s from = from + length_to line_feed (drop from s) + 1

-- a line l on a tally t, which is g then: the text that goes by what the line says is put, behind x, to y
pub record PutsSaid (text_of : Option Read → List ℕ) (floor : ℕ) (t : Tally) (l : List ℕ) (g : Tally) (x y : Buffer) : Type 0 where
  pub said : Option Read
  pub says : SaysRead l said
  pub puts : Puts x (text_of said) y
  pub tally : g ≡ tally_after floor t said

-- its answer
abbrev pub PutsAnswer : ℕ → Tally → List ℕ → Tally → Buffer → Buffer → Type 0
PutsAnswer floor t l g x y = PutsSaid (line_answer floor t) floor t l g x y

-- and the text of line number n
abbrev pub PutsLine : ℕ → ℕ → Tally → List ℕ → Tally → Buffer → Buffer → Type 0
PutsLine floor n t l g x y = PutsSaid (logged_line floor n t) floor t l g x y

-- as many bytes as an answer has at most: `not a read`, `refused 19`; and as a line's text has, with its number, a space and a line feed
abbrev pub answer_room : ℕ
answer_room = 10

abbrev pub line_room : ℕ
line_room = most_digits + 1 + answer_room + 1

-- from a place on, where line number n begins, on a tally t, with room for so many bytes: the text of one line, and where the next one begins, with which number and tally
pub data Step (floor : ℕ) (s : List ℕ) (room from n : ℕ) (t : Tally) : List ℕ → ℕ → ℕ → Tally → Type 0 where
  ended : length s ≤ from → Step floor s room from n t [] from n t
  no_room : from < length s → room < line_room → Step floor s room from n t [] from n t
  too_long : from < length s → line_room ≤ room → listing_limit < length s → Step floor s room from n t too_long_text (length s) n t
  one_line : {x : Option Read} → from < length s → line_room ≤ room → length s ≤ listing_limit → SaysRead (line_at s from) x
      → Step floor s room from n t (logged_line floor n t x) (next_place s from) (next_number n) (tally_after floor t x)

-- the text stands at the front of the lent buffer, whose length was room; behind it all is as it was
pub record Logs (floor : ℕ) (s : List ℕ) (from n : ℕ) (t : Tally) (out : List ℕ) (e m len : ℕ) (g : Tally) (after : List ℕ) : Type 0 where
  pub text : List ℕ
  pub step : Step floor s (length out) from n t text e m g
  pub length_of : len ≡ length text
  pub buffer : after ≡ front text out

-- calls of `log_line`, each from where the one before it stopped, each with room for a line, until the input ends
pub data Calls (floor : ℕ) (s : List ℕ) : ℕ → ℕ → Tally → List ℕ → Tally → Type 0 where
  no_more : {from n : ℕ} {t : Tally} → length s ≤ from → Calls floor s from n t [] t
  one_more : {room from n e m : ℕ} {t g h : Tally} {x u : List ℕ} → from < length s → line_room ≤ room → Step floor s room from n t x e m g → Calls floor s e m g u h → Calls floor s from n t (x ++ u) h

-- ==== the end

-- room for an entry's text, as if a count of three digits could be washed: two numbers of 32 bits and one of 8, two spaces, ` washed`, a line feed; and for
-- that of the end
abbrev pub entry_room : ℕ
entry_room = 10 + 1 + 10 + 1 + 3 + 7 + 1

abbrev pub end_room : ℕ
end_room = most_tags * entry_room

pub data EndAnswer : Type 0 where
  printed_bytes : ℕ → EndAnswer
  no_buffer : EndAnswer
  refused : ℕ → EndAnswer

pub record EndOutcome : Type 0 where
  pub answer : EndAnswer
  pub buffer : List ℕ

abbrev pub end_outcome : EndAnswer → List ℕ → EndOutcome
end_outcome a b = record { answer = a; buffer = b }

-- 23 of what is no tally; a buffer that may be too short is left as it was; else the text stands at its front, and behind it all is as it was
unfoldable pub ending : Tally → List ℕ → EndOutcome
ending t out =
    cond (not (is_tally (entries_of t))) (end_outcome (refused 23) out)
    (cond (nat_lt (length out) end_room) (end_outcome no_buffer out)
    (end_outcome (printed_bytes (length (end_text (entries_of t)))) (front (end_text (entries_of t)) out)))

abbrev pub answer_of : Result ℕ EndError → EndAnswer
answer_of (Ok n) = printed_bytes n
answer_of (Err NoRoom) = no_buffer
answer_of (Err (Refused r)) = refused (number_of r)

-- one to one: no two answers say the same
pub answers_one : (x y : Result ℕ EndError) → answer_of x ≡ answer_of y → x ≡ y
answers_one (Ok m) (Ok n) e = cc
answers_one (Ok m) (Err NoRoom) e = cc
answers_one (Ok m) (Err (Refused n)) e = cc
answers_one (Err NoRoom) (Ok n) e = cc
answers_one (Err NoRoom) (Err NoRoom) e = refl
answers_one (Err NoRoom) (Err (Refused n)) e = cc
answers_one (Err (Refused m)) (Ok n) e = cc
answers_one (Err (Refused m)) (Err NoRoom) e = cc
answers_one (Err (Refused m)) (Err (Refused n)) e = ap (λ (r : Refusal). Err (Refused r)) (numbers_one m n cc)

pub lines_one : (x y : Given Read) → line_of x ≡ line_of y → x ≡ y
lines_one (Some r) (Some s) e = cc
lines_one (Some r) None e = cc
lines_one None (Some s) e = cc
lines_one None None e = refl

pub floors_one : (x y : Given ℕ) → floor_said x ≡ floor_said y → x ≡ y
floors_one (Some m) (Some n) e = cc
floors_one (Some m) None e = cc
floors_one None (Some n) e = cc
floors_one None None e = refl
