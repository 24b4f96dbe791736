use Rattle.std.proofs.Common.{refl}
use Rattle.changes.specs.Changes.{start_files}
use Rattle.changes.proofs.start_preds.Goals as goal

pub returns : goal.returns
unfolding start_files
returns c = refl
