use Rattle.std.proofs.Common.{rules}
use Rattle.video.proofs.Laws.{exact_neg, exact_pos}
use Rattle.video.proofs.number.Goals as goal

pub returns-then-signed-n : goal.returns-then-signed-n
returns-then-signed-n c = (exact_neg c.args.signed c.args.n c.args.x (search rules) c.if-signed-n.true, search rules)

pub returns : goal.returns
returns c = (exact_pos c.args.signed c.args.n c.args.x c.if-signed-n.false, search rules)
