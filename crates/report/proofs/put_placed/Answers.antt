use Rattle.text.specs.Buffer.{◌then◌}
use Rattle.report.proofs.put_placed.Goals as goal

pub returns : goal.returns
returns c = (c.put_refused-at1.ensures then c.push-at2.ensures) then c.put_decimal.ensures
