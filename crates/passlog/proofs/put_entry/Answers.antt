use Rattle.std.proofs.Common.{rules}
use Rattle.text.specs.Buffer.{◌then◌}
use Rattle.passlog.specs.StepLaws.{entry_short}
use Rattle.passlog.proofs.put_entry.Goals as goal

pub returns : goal.returns
returns c = (
  ((c.put_two-at1.ensures then c.put_decimal-at2.ensures) then c.put_washed-at3.ensures) then c.push.ensures,
  entry_short c.args.e (search rules) (search rules) (search rules),
)
