-- What the reader finds of a line, places aside: each refusal stands on what the stages before it found. No one has to believe it: Answering.antt joins it to
-- `Answers`, which says each refusal of the line, the target and the mode alone.
use Rattle.std.specs.Prelude.{ℕ, ◌≤◌, ◌<◌, ◌≡◌, true, false, List, length, Ok, Err}
use Rattle.record.specs.Refusals.{numbers_in_range, pair_apart, Legal}
use Rattle.record.specs.declared.Instruction.{Instruction}
use Rattle.record.specs.declared.Record.{Record}
use Rattle.record.specs.declared.Target.{Target}
use Rattle.record.specs.declared.Mode.{Mode}
use Rattle.rules.specs.Targets.{allows, Allowed}
use Rattle.rules.specs.Strict.{passes, Readable}
use Rattle.rules.specs.Grammar.{LineTree, names_of, Shaped}
use Rattle.rules.specs.Reading.{line_limit, opcodes, Row, Fits, Relates}
use Rattle.signs.specs.Lists.{Listed}
use Rattle.read.specs.Mirror.{Verdict}

pub data Refuses (target : Target) (mode : Mode) (l : List ℕ) : ℕ → Type 0 where
  over_160 : line_limit < length l → Refuses target mode l 1
  no_shape : length l ≤ line_limit → ((t : LineTree) → Shaped l t → ⊥) → Refuses target mode l 2
  no_opcode : length l ≤ line_limit → (t : LineTree) → Shaped l t → (Listed t.opcode opcodes → ⊥) → Refuses target mode l 3
  no_row : length l ≤ line_limit → (t : LineTree) → Shaped l t → Listed t.opcode opcodes → ((i : Instruction) → Row (names_of t) i → ⊥) → Refuses target mode l 4
  no_fit : length l ≤ line_limit → (t : LineTree) → Shaped l t → (i : Instruction) → Row (names_of t) i → ((m : Record) → Fits t m → ⊥) → Refuses target mode l 5
  out_of_file : length l ≤ line_limit → (t : LineTree) → Shaped l t → (m : Record) → Fits t m → numbers_in_range m ≡ false → Refuses target mode l 6
  same_pair : length l ≤ line_limit → (t : LineTree) → Shaped l t → (m : Record) → Fits t m → numbers_in_range m ≡ true → pair_apart m ≡ false → Refuses target mode l 7
  old_target : (m : Record) → Relates l m → Legal m → allows target m ≡ false → Refuses target mode l 12
  same_part : (m : Record) → Relates l m → Allowed target m → passes mode m ≡ false → Refuses target mode l 15

pub data Decides (target : Target) (mode : Mode) (l : List ℕ) : Verdict → Type 0 where
  decides_read : (m : Record) → Relates l m → Readable target mode m → Decides target mode l (Ok m)
  decides_refused : {n : ℕ} → Refuses target mode l n → Decides target mode l (Err n)
