use Rattle.report.proofs.Laws.{turn_put}
use Rattle.report.proofs.put_line.Goals as goal

pub returns : goal.returns
returns c = turn_put c.put_decimal-at1.ensures c.push-at2.ensures c.put_answer-at3.ensures c.push.ensures
