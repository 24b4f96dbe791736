use Rattle.text.specs.Buffer.{◌then◌}
use Rattle.passlog.proofs.put_numbered.Goals as goal

pub returns : goal.returns
returns c = c.put-next.ensures then c.put_decimal.ensures
