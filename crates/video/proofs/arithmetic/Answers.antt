use Rattle.rules.specs.Execution.{arithmetic_of}
use Rattle.video.proofs.arithmetic.Goals as goal

pub returns : goal.returns
unfolding arithmetic_of
returns c = simp (
  c.formed.ensures,
  c.clamped.ensures.0,
  c.form_size.ensures.0,
  c.apply-z.ensures.0,
  c.selected-2.ensures.0,
  c.selected.ensures.0,
  c.signed-sign.ensures,
)
