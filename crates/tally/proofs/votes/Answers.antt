use Rattle.std.proofs.Common.{rules}
use Rattle.tally.specs.Votes.{accumulated}
use Rattle.tally.specs.VoteLaws.{votes_accumulated}
use Rattle.tally.proofs.votes.Goals as goal

pub returns : goal.returns
unfolding accumulated
returns c = simp (
  c.vset_lanes.ensures,
  c.vset_lanes-v.ensures,
  c.at_or_above-l.ensures,
  c.floor_word-f.ensures,
)
    (votes_accumulated c.args.floor (search rules) c.args.r)
