use Rattle.std.proofs.Common.{◌∙◌}
use Rattle.text.proofs.Laws.{same_pairs}
use Rattle.text.proofs.same.Goals as goal

pub returns : goal.returns
returns c = c.eq.ensures ∙ same_pairs _ _
