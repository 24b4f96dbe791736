use Rattle.video.proofs.Laws.{low_word}
use Rattle.video.proofs.low.Goals as goal

pub returns : goal.returns
returns c = low_word c.args.z
