use Rattle.text.specs.Buffer.{◌then◌}
use Rattle.passlog.proofs.put_two.Goals as goal

pub returns : goal.returns
returns c = ((c.put_decimal-at1.ensures then c.push-at2.ensures) then c.put_decimal-at3.ensures) then c.push.ensures
