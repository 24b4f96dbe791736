use Rattle.std.proofs.Common.{ap, subst, sym, ◌∙◌}
use Rattle.rules.specs.Reading.{Answers}
use Rattle.read.specs.Answering.{answers_by}
use Rattle.read.specs.Mirror.{numbered}
use Rattle.read.proofs.read.Goals as goal

pub returns-in-Ok : goal.returns-in-Ok
returns-in-Ok c = answers_by _ _ _ _ (ap numbered (sym c.in-Ok.is) ∙ c.judge.ensures)

pub returns-in-Err : goal.returns-in-Err
returns-in-Err c = subst (Answers _ _ _) (sym c.with_place.ensures) (answers_by _ _ _ _ (ap numbered (sym c.in-Err.is) ∙ c.judge.ensures))
