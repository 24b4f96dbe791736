use Rattle.text.specs.Out.{◌then◌}
use Rattle.changes.proofs.Laws.{value_put}
use Rattle.changes.proofs.put_value.Goals as goal

pub returns : goal.returns
returns c = value_put c.args.file c.args.k c.args.x c.requires c.digits.ensures (c.put_prefix.ensures then c.put_decimal.ensures then c.push.ensures then c.put_hex.ensures then c.push-2.ensures)
