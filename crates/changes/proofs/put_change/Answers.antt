use Rattle.std.proofs.Common.{eq-eqb, ne_eqb, ◌∙◌}
use Rattle.text.specs.Out.{nothing}
use Rattle.changes.specs.Changes.{change_text}
use Rattle.changes.proofs.put_change.Goals as goal

pub returns-then-x-start_value : goal.returns-then-x-start_value
unfolding change_text
returns-then-x-start_value c = rw (ne_eqb _ _ (rw c.start_value.ensures at c.if-x-start_value.true)) c.put_value.ensures

pub returns-else-x-start_value : goal.returns-else-x-start_value
unfolding change_text
returns-else-x-start_value c = rw (eq-eqb _ _ (c.if-x-start_value.false ∙ c.start_value.ensures)) (nothing _)
