-- Document 01, "The standard line": guard, if any, and one space; head; one space; operands joined by comma and one space; `;`.
use Rattle.std.specs.Prelude.{ℕ, List, [], ◌∷◌, ◌++◌}
use Rattle.signs.specs.Text.{bytes}
use Rattle.record.specs.declared.Guard.{Guard}
use Rattle.record.specs.declared.Guard.TheVariants.{Always, When}
use Rattle.record.specs.declared.Record.{Record}
use Rattle.record.specs.Registers.{p}
use Rattle.rules.specs.Shape.{head_text, OperandTree, operand_text, guard_text}
use Rattle.rules.specs.Spelling.{operand_trees}
use Rattle.rules.specs.Names.{head_names}

-- ==== the line

-- Guard, if any, and one space
abbrev pub guard_part : Guard → List ℕ
guard_part Always = []
guard_part (When c) = guard_text c.inverted (p c.pred) ++ bytes " "

-- operands joined by comma and one space
abbrev pub further : List OperandTree → List ℕ
further [] = []
further (o ∷ os) = bytes ", " ++ operand_text o ++ further os

abbrev pub operands_text : List OperandTree → List ℕ
operands_text [] = []
operands_text (o ∷ os) = operand_text o ++ further os

unfoldable pub standard : Record → List ℕ
standard l =
    guard_part l.guard ++ head_text (head_names l.instruction) ++ bytes " " ++ operands_text (operand_trees l.instruction) ++ bytes ";"
