use Rattle.tally.proofs.Laws.{tally_full}
use Rattle.tally.specs.CallLaws.{new_20, new_counted}
use Rattle.tally.proofs.new_tag.Goals as goal

pub returns-then-n-eq-TAGS : goal.returns-then-n-eq-TAGS
returns-then-n-eq-TAGS c = new_20 c.args.t (tally_full c.args.t _ c.well_formed.0) c.args.r c.requires.0 c.requires.1 c.if-n-eq-TAGS.true

pub returns : goal.returns
returns c = rw c.put.ensures (new_counted c.args.t (tally_full c.args.t _ c.well_formed.0) c.args.r c.requires.0 c.requires.1 c.if-n-eq-TAGS.false)
