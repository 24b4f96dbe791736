-- What `./bench --last WORD` (docs/DECISIONS.md, K7) takes and prints of document 02's T-11: which words name a register, and the text of an answer.
use Rattle.std.specs.Prelude.{◌≡◌, ℕ, ◌+◌, List, [], ◌∷◌, ◌++◌, length, ◌≢◌}
use Rattle.std.proofs.Math.Option.{Option, none, some}
use Rattle.signs.specs.Text.{bytes}
use Rattle.signs.specs.Digits.{decimal}
use Rattle.signs.specs.Bytes.{line_feed}
use Rattle.record.specs.Registers.{word}
use Rattle.record.specs.declared.Record.{Record}
use Rattle.record.specs.declared.Mode.TheVariants.{Ordinary}
use Rattle.record.specs.declared.Target.TheVariants.{Sm30}
use Rattle.rules.specs.Shape.{register_text}
use Rattle.rules.specs.Grammar.{GoodPlace}
use Rattle.rules.specs.StandardLine.{standard}
use Rattle.rules.specs.Reading.{Answers, read}
use Rattle.lines.specs.Lines.{lines_of, Stands}
use Rattle.report.specs.Listing.{refused_text}
use Rattle.last.specs.Last.{Answer, distance, none_has, refused_by, ByFullReading}

-- ==== the word

-- `%r` and a number of up to 3 digits, as document 01 spells a register; or another word
pub data Asks (l : List ℕ) : Option ℕ → Type 0 where
  for_register : {n : ℕ} → GoodPlace (word n) → l ≡ register_text (word n) → Asks l (some n)
  for_none : ((n : ℕ) → GoodPlace (word n) → l ≢ register_text (word n)) → Asks l none

-- ==== the text of an answer

-- the line that stands at a distance from the end, accepted with record m; lines are numbered from 1 on
pub record LineAt (s : List ℕ) (d number : ℕ) (m : Record) : Type 0 where
  pub before_it : List ℕ
  pub line : List ℕ
  pub behind_it : List (List ℕ)
  pub stands : Stands s d before_it line behind_it
  pub accepted : Answers Sm30 Ordinary line (read m)
  pub numbered : number ≡ length (lines_of before_it) + 1

-- `N LINE`: number and standard line of the line found
abbrev pub found_text : ℕ → Record → List ℕ
found_text number m = decimal number ++ bytes " " ++ standard m

-- from the distance, so that the answer decides; `none`; or `refused` with its number
pub data TextOf (s : List ℕ) : Answer → List ℕ → Type 0 where
  line_found : {d number : ℕ} {m : Record} → LineAt s d number m → TextOf s (distance d) (found_text number m)
  none_found : TextOf s none_has (bytes "none")
  refused : {k : ℕ} → TextOf s (refused_by k) (refused_text k)

-- what is printed of a listing and a register, with a line feed
pub data Printed (s : List ℕ) (n : ℕ) : List ℕ → Type 0 where
  printed : {a : Answer} {t : List ℕ} → ByFullReading s n a → TextOf s a t → Printed s n (t ++ (line_feed ∷ []))
