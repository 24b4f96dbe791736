use Rattle.text.specs.Buffer.{one, full}
use Rattle.text.proofs.push.Goals as goal

pub returns-then-out-at : goal.returns-then-out-at
returns-then-out-at c = full _ _ _ c.if-out-at.true

pub returns : goal.returns
returns c = one _ _ _ c.if-out-at.false
