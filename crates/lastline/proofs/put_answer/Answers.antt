use Rattle.last.specs.LastIsLaws.{as_relation}
use Rattle.lastline.specs.TextLaws.{answer_put}
use Rattle.lastline.proofs.put_answer.Goals as goal

pub returns : goal.returns
returns c = answer_put (as_relation c.last_writer-a.ensures) c.put_last-at.ensures c.push.ensures
