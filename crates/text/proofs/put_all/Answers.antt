use Rattle.std.proofs.Common.{rules, ◌∙◌, drop_of_length-le}
use Rattle.text.specs.Short.{put_next}
use Rattle.text.proofs.put_all.Goals as goal

pub loop-x-preserved : goal.loop-x-preserved
loop-x-preserved c = (
  search rules,
  put_next c.args.texts.now c.loop-x.x-index c.loop-x-test.true c.put_short-next.ensures ∙ c.loop-x.invariant.1,
)

pub returns : goal.returns
returns c = record { text = rw (drop_of_length-le c.args.texts.now c.loop-x-test.false) at c.loop-x.invariant.1 }
