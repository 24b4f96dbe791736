use Rattle.rules.specs.Execution.{vset_of}
use Rattle.video.proofs.vset.Goals as goal

pub returns : goal.returns
unfolding vset_of
returns c = simp (c.formed.ensures, c.truth.ensures.0, c.selected-2.ensures.0, c.selected.ensures.0)
