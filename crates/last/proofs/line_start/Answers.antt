use Rattle.std.proofs.Common.{sym, ◌∙◌, arith}
use Rattle.last.specs.BackLaws.{start_zero, start_feed, start_other}
use Rattle.last.proofs.line_start.Goals as goal

pub returns-then-s-k-eq-LINE_FEED : goal.returns-then-s-k-eq-LINE_FEED
returns-then-s-k-eq-LINE_FEED c =
    omega (arith, c.loop-k.invariant, start_feed _ _ c.loop-k-test.true c.if-s-k-eq-LINE_FEED.true)

pub loop-k-preserved : goal.loop-k-preserved
loop-k-preserved c = sym (start_other _ _ c.loop-k-test.true c.if-s-k-eq-LINE_FEED.false) ∙ c.loop-k.invariant

pub returns : goal.returns
returns c = sym (start_zero _ _ c.loop-k-test.false) ∙ c.loop-k.invariant
