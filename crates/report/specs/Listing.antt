-- Document 01, the listing program (under "Bench figures"): what it prints of a listing, T-07: at a target; the listing uses sm_30;
-- T-09: and in a mode; who calls it says which (docs/DECISIONS.md, Z4).
use Rattle.std.specs.Prelude.{◌≡◌, ℕ, suc, ◌<◌, ◌≤◌, List, [], ◌∷◌, ◌++◌, length}
use Rattle.signs.specs.Text.{bytes}
use Rattle.record.specs.declared.Record.{Record}
use Rattle.record.specs.declared.Target.{Target}
use Rattle.record.specs.declared.Mode.{Mode}
use Rattle.record.specs.Registers.{Files}
use Rattle.rules.specs.Executing.{done, skipped, run}
use Rattle.rules.specs.Executing as executing
use Rattle.rules.specs.StandardLine.{standard}
use Rattle.rules.specs.Reading.{Answer, read, refused, refused_at, Answers}
use Rattle.signs.specs.Digits.{decimal}
use Rattle.signs.specs.Bytes.{line_feed}
use Rattle.lines.specs.Lines.{listing_limit, lines_of}
use Rattle.changes.specs.Changes.{start_files, registers_text}

-- The listing program reads standard input, at most 65,536 bytes (more: it prints `input too long` alone)
abbrev pub too_long_text : List ℕ
too_long_text = bytes "input too long" ++ (line_feed ∷ [])

-- ==== what is printed of a line

abbrev pub refused_text : ℕ → List ℕ
refused_text n = bytes "refused " ++ decimal n

-- T-05: the listing program prints the place after the number
abbrev pub placed_text : ℕ → ℕ → List ℕ
placed_text n p = refused_text n ++ bytes " " ++ decimal p

abbrev pub executed_text : executing.Answer → Record → List ℕ
executed_text done r = bytes "done " ++ standard r
executed_text skipped r = bytes "skipped " ++ standard r
executed_text (executing.refused n) r = refused_text n

-- a line that was read is executed
abbrev pub answer_text : Target → Answer → Files → List ℕ
answer_text target (read r) f = executed_text (run target r f).answer r
answer_text target (refused n) f = refused_text n
answer_text target (refused_at n p) f = placed_text n p

abbrev pub files_after : Target → Answer → Files → Files
files_after target (read r) f = (run target r f).files
files_after target (refused n) f = f
files_after target (refused_at n p) f = f

-- the line's number comes first, from 1 on
unfoldable pub printed_line : Target → ℕ → Answer → Files → List ℕ
printed_line target n a f = decimal n ++ bytes " " ++ answer_text target a f ++ (line_feed ∷ [])

-- line number n, which is l, on files f: the text t is printed, the files are g then
pub record Turn (target : Target) (mode : Mode) (n : ℕ) (l : List ℕ) (f : Files) (t : List ℕ) (g : Files) : Type 0 where
  pub answer : Answer
  pub answers : Answers target mode l answer
  pub text : t ≡ printed_line target n answer f
  pub files : g ≡ files_after target answer f

-- the lines one after another, the first with number n
pub data Turns (target : Target) (mode : Mode) : ℕ → List (List ℕ) → Files → List ℕ → Files → Type 0 where
  none : {n : ℕ} {f : Files} → Turns target mode n [] f [] f
  more : {n : ℕ} {l : List ℕ} {ls : List (List ℕ)} {f g h : Files} {t u : List ℕ} → Turn target mode n l f t g → Turns target mode (suc n) ls g u h → Turns target mode n (l ∷ ls) f (t ++ u) h

-- ==== the whole output

pub data Output (target : Target) (mode : Mode) (s : List ℕ) : List ℕ → Type 0 where
  -- more: it prints `input too long` alone
  too_long : listing_limit < length s → Output target mode s too_long_text
  -- a line for each line, then the registers
  printed : {t : List ℕ} {g : Files} → length s ≤ listing_limit → Turns target mode 1 (lines_of s) start_files t g → Output target mode s (t ++ registers_text g)
