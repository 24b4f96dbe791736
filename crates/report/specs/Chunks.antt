-- The code's own way through a listing: it prints some lines at a time, as many as the lent buffer has room for, and goes on where it stopped.
use Rattle.std.specs.Prelude.{◌≡◌, ℕ, ◌+◌, ◌-◌, ◌%◌, ◌^◌, ◌<◌, ◌≤◌, cond, List, [], ◌++◌, length, drop, nat_lt}
use Rattle.record.specs.Refusals.{is_legal}
use Rattle.record.specs.declared.Record.{Record}
use Rattle.record.specs.declared.Target.{Target}
use Rattle.record.specs.declared.Mode.{Mode}
use Rattle.record.specs.Registers.{Files}
use Rattle.rules.specs.StandardLine.{standard}
use Rattle.rules.specs.Writing.{front}
use Rattle.laws.specs.LineLengths.{longest_line}
use Rattle.rules.specs.Reading.{Answer, Answers}
use Rattle.text.specs.Buffer.{Buffer, Puts}
use Rattle.text.specs.DigitLaws.{most_digits}
use Rattle.lines.specs.Lines.{listing_limit}
use Rattle.lines.specs.Until.{length_to, before}
use Rattle.report.specs.Listing.{answer_text, files_after, Turn, too_long_text}
use Rattle.signs.specs.Bytes.{line_feed}

-- the line that begins at a place, and where the next one begins
abbrev pub line_at : List ℕ → ℕ → List ℕ
line_at s from = before line_feed (drop from s)

-- behind its line feed, or at the end of the listing
abbrev pub behind : ℕ → ℕ → ℕ
behind size end = cond (nat_lt end size) (end + 1) end

abbrev pub next_place : List ℕ → ℕ → ℕ
next_place s from = behind (length s) (from + length_to line_feed (drop from s))

-- the standard line of a legal record; no other has one
abbrev pub line_text : Record → List ℕ
line_text r = cond (is_legal r) (standard r) []

-- numbers of 64 bits; no listing has so many lines that they begin again
abbrev pub next_number : ℕ → ℕ
next_number n = (n + 1) % 2 ^ 64

-- a line l on files f, which are g then: its answer is put, behind x, to y
pub record PutsAnswer (target : Target) (mode : Mode) (l : List ℕ) (f g : Files) (x y : Buffer) : Type 0 where
  pub answer : Answer
  pub answers : Answers target mode l answer
  pub files : g ≡ files_after target answer f
  pub puts : Puts x (answer_text target answer f) y

-- and so is the text of line number n
pub record PutsTurn (target : Target) (mode : Mode) (n : ℕ) (l : List ℕ) (f g : Files) (x y : Buffer) : Type 0 where
  pub text : List ℕ
  pub turn : Turn target mode n l f text g
  pub puts : Puts x text y

-- as many bytes as a line's text has at most: its number, ` skipped `, a standard line, a line feed
abbrev pub line_room : ℕ
line_room = most_digits + 9 + longest_line + 1

-- from a place on, where line number n begins, on files f, with room for so many bytes: the text t, and where it stopped, with which number and files
pub data SomeLines (target : Target) (mode : Mode) (s : List ℕ) : ℕ → ℕ → ℕ → Files → List ℕ → ℕ → ℕ → Files → Type 0 where
  ended : {room from n : ℕ} {f : Files} → length s ≤ from → SomeLines target mode s room from n f [] from n f
  no_room : {room from n : ℕ} {f : Files} → from < length s → room < line_room → SomeLines target mode s room from n f [] from n f
  too_long : {room from n : ℕ} {f : Files} → from < length s → line_room ≤ room → listing_limit < length s → SomeLines target mode s room from n f too_long_text (length s) n f
  one_more : {room from n e m : ℕ} {f g h : Files} {t u : List ℕ} → from < length s → line_room ≤ room → length s ≤ listing_limit
      → Turn target mode n (line_at s from) f t g → SomeLines target mode s (room - length t) (next_place s from) (next_number n) g u e m h → SomeLines target mode s room from n f (t ++ u) e m h

-- the text stands at the front of the lent buffer, whose length was room; behind it all is as it was
pub record Prints (target : Target) (mode : Mode) (s : List ℕ) (from n : ℕ) (f : Files) (out : List ℕ) (e m len : ℕ) (g : Files) (after : List ℕ) : Type 0 where
  pub text : List ℕ
  pub some : SomeLines target mode s (length out) from n f text e m g
  pub length_of : len ≡ length text
  pub buffer : after ≡ front text out

-- calls of `some_lines`, each from where the one before it stopped, each with room for a line, until the listing ends
pub data Calls (target : Target) (mode : Mode) (s : List ℕ) : ℕ → ℕ → Files → List ℕ → Files → Type 0 where
  none : {from n : ℕ} {f : Files} → length s ≤ from → Calls target mode s from n f [] f
  more : {room from n e m : ℕ} {f g h : Files} {t u : List ℕ} → from < length s → line_room ≤ room → SomeLines target mode s room from n f t e m g → Calls target mode s e m g u h → Calls target mode s from n f (t ++ u) h
