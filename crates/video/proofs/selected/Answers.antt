use Rattle.rules.specs.Execution.{selected_of}
use Rattle.video.proofs.selected.Goals as goal

pub returns-in-Whole : goal.returns-in-Whole
unfolding selected_of
returns-in-Whole c = (
  simp (
    c.number.ensures.0,
    c.in-Whole.is,
    c.signed-sign.ensures,
  ),
  c.number.ensures.1,
)

pub returns-in-Part : goal.returns-in-Part
unfolding selected_of
returns-in-Part c = (
  simp (
    c.number-in-Part.ensures.0,
    c.part.ensures.0,
    c.selector_part.ensures,
    c.wide.ensures.0,
    c.lane_size.ensures.0,
    c.selector_width-w.ensures,
    c.in-Part.is,
    c.signed-sign.ensures,
  ),
  c.number-in-Part.ensures.1,
)
