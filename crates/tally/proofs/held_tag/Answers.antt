use Rattle.std.proofs.Common.{arith}
use Rattle.tally.proofs.Laws.{tally_full}
use Rattle.tally.specs.CallLaws.{held_duplicate, held_19, held_counted}
use Rattle.tally.proofs.held_tag.Goals as goal

pub returns-then-r-e : goal.returns-then-r-e
returns-then-r-e c = held_duplicate c.args.t (tally_full c.args.t _ c.well_formed.0) c.args.r c.requires.0 c.args.i c.requires.1 c.requires.2 c.if-r-e.true

pub returns-then-r-e-2 : goal.returns-then-r-e-2
returns-then-r-e-2 c = held_19 c.args.t (tally_full c.args.t _ c.well_formed.0) c.args.r c.requires.0 c.args.i c.requires.1 c.requires.2 (omega (arith, c.if-r-e-2.true))

pub returns : goal.returns
returns c =
    rw (c.put.ensures, c.next_count-c.ensures)
    (held_counted c.args.t (tally_full c.args.t _ c.well_formed.0) c.args.r c.requires.0 c.args.i c.requires.1 c.requires.2 c.if-r-e.false (omega (arith, c.if-r-e-2.false)))
