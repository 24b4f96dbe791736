use Rattle.lastline.specs.TextLaws.{record_put}
use Rattle.lastline.proofs.put_record.Goals as goal

pub returns : goal.returns
returns c = record_put _ _ c.put_decimal-at1.ensures c.push-at2.ensures c.put_standard.ensures
