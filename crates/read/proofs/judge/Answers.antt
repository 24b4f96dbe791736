use Rattle.std.proofs.Common.{le-ltb, lt-ltb, ◌∙◌}
use Rattle.read.specs.Mirror.{verdict_of}
use Rattle.read.proofs.judge.Goals as goal

pub returns-then-line-gt-LINE_LIMIT : goal.returns-then-line-gt-LINE_LIMIT
unfolding verdict_of
returns-then-line-gt-LINE_LIMIT c = simp (lt-ltb _ _ c.if-line-gt-LINE_LIMIT.true)

pub returns-in-Ok : goal.returns-in-Ok
unfolding verdict_of
returns-in-Ok c = c.from_parts.ensures ∙ simp (← c.shape.ensures, c.in-Ok.is, le-ltb _ _ c.if-line-gt-LINE_LIMIT.false)

pub returns-in-Err : goal.returns-in-Err
unfolding verdict_of
returns-in-Err c = simp (← c.shape.ensures, c.in-Err.is, le-ltb _ _ c.if-line-gt-LINE_LIMIT.false)
