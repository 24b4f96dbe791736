use Rattle.text.specs.Buffer.{◌then◌}
use Rattle.write.proofs.put_line.Goals as goal

pub returns : goal.returns
returns c = (((c.put_all-at.ensures then c.put_all-at-2.ensures) then c.push-at.ensures) then c.put_all-at-3.ensures) then c.push.ensures
