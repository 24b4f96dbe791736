use Rattle.passlog.specs.StepLaws.{line_put}
use Rattle.passlog.proofs.put_line.Goals as goal

pub returns : goal.returns
returns c = line_put c.args.number c.put_decimal-at1.ensures c.push-at2.ensures c.put_said-p.ensures c.push.ensures
