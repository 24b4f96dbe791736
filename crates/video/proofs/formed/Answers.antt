use Rattle.rules.specs.Execution.{form_of}
use Rattle.video.proofs.formed.Goals as goal

pub returns-in-Plain : goal.returns-in-Plain
unfolding form_of
returns-in-Plain c = simp (
  c.low.ensures,
  c.in-Plain.is,
)

pub returns-in-Merge : goal.returns-in-Merge
unfolding form_of
returns-in-Merge c = simp (
  c.replace.ensures,
  c.low_part.ensures.0,
  c.selector_part.ensures,
  c.selector_width-w.ensures,
  c.in-Merge.is,
)

pub returns-in-Combine : goal.returns-in-Combine
unfolding form_of
returns-in-Combine c = simp (
  c.low-in-Combine.ensures,
  c.combine.ensures,
  c.number.ensures.0,
  c.in-Combine.is,
)
