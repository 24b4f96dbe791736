use Rattle.compare.proofs.Laws.{compared_is}
use Rattle.compare.proofs.comparison.Goals as goal

pub returns : goal.returns
returns c = simp (
  c.compare.ensures,
  c.value-2.ensures,
  c.value.ensures,
)
    (compared_is c.args.op c.args.stype c.args.ftz c.args.a c.args.b)
