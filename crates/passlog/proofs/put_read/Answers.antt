use Rattle.text.specs.Buffer.{◌then◌}
use Rattle.passlog.proofs.put_read.Goals as goal

pub returns : goal.returns
returns c = ((c.put_two-at1.ensures then c.put_hex-at2.ensures) then c.push-at3.ensures) then c.put_hex.ensures
