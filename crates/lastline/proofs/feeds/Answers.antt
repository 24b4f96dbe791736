use Rattle.std.proofs.Common.{rules, ◌≡◌}
use Rattle.std.specs.List.{slice_index}
use Rattle.lastline.specs.Steps.{feed_in}
use Rattle.lastline.specs.TextLaws.{feeds_next, feeds_end}
use Rattle.lastline.proofs.feeds.Goals as goal

pub loop-b-preserved : goal.loop-b-preserved
loop-b-preserved c =
    let e : c.from-n.result ≡ feed_in (slice_index c.args.s.now c.loop-b.b-index) = search rules in
    (rw e (feeds_next _ _ _ _ c.loop-b-test.true c.loop-b.invariant.0), search rules)

pub returns : goal.returns
returns c = feeds_end _ _ _ _ c.loop-b-test.false c.loop-b.invariant.0
