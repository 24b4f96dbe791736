-- Document 01, "Refusal numbers" for writing: refusals 8 and 9, the length, and what the output buffer holds then.
use Rattle.std.specs.Prelude.{ℕ, not, cond, List, ◌++◌, length, drop, ltb}
use Rattle.record.specs.Refusals.{is_legal}
use Rattle.record.specs.declared.Record.{Record}
use Rattle.rules.specs.StandardLine.{standard}

-- A writer that succeeds returns the length. A refusal returns its number only
pub data Answer : Type 0 where
  written : ℕ → Answer
  refused : ℕ → Answer

pub record Outcome : Type 0 where
  pub answer : Answer
  pub buffer : List ℕ

abbrev pub outcome : Answer → List ℕ → Outcome
outcome a b = record { answer = a; buffer = b }

-- changes only those first bytes
abbrev pub front : List ℕ → List ℕ → List ℕ
front line buffer = line ++ drop (length line) buffer

-- Writing: 8, 9 (output buffer shorter than the standard line), each looked at only when the earlier ones don't apply. Lent memory is
-- unchanged by a refusal
unfoldable pub writing : Record → List ℕ → Outcome
writing x buffer =
    cond (not (is_legal x)) (outcome (refused 8) buffer)
    (cond (ltb (length buffer) (length (standard x))) (outcome (refused 9) buffer)
    (outcome (written (length (standard x))) (front (standard x) buffer)))
