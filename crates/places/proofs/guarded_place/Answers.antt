use Rattle.std.proofs.Common.{sym, ◌∙◌}
use Rattle.places.specs.Mirror.{guard_place_of}
use Rattle.places.proofs.guarded_place.Goals as goal

pub returns-then-guard_good : goal.returns-then-guard_good
unfolding guard_place_of
returns-then-guard_good c = simp (
  c.operand_place.ensures,
  sym c.guard_good.ensures ∙ c.if-guard_good.true,
)

pub returns : goal.returns
unfolding guard_place_of
returns c = simp (
  c.run_len.ensures,
  sym c.guard_good.ensures ∙ c.if-guard_good.false,
)
