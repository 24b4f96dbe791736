-- The whole line, and what becomes of a buffer that it is copied to. Assumes nothing.
use Rattle.std.specs.Prelude.{ℕ, cond, List, ◌++◌, ltb, length}
use Rattle.signs.specs.Text.{bytes}
use Rattle.rules.specs.Writing.{written, refused, Outcome, outcome, front}
use Rattle.base.specs.Pack.{spelled}
use Rattle.write.specs.declared.Texts.{Texts}

abbrev pub line_of : Texts → List ℕ
line_of m = spelled m.guard ++ spelled m.head ++ bytes " " ++ spelled m.operands ++ bytes ";"

-- a line of a legal record: whole, or refusal 9
abbrev pub copied : List ℕ → List ℕ → Outcome
copied line buffer = cond (ltb (length buffer) (length line)) (outcome (refused 9) buffer) (outcome (written (length line)) (front line buffer))
