use Rattle.std.proofs.Common.{pos, sym, ℤ, ◌∙◌}
use Rattle.rules.specs.Numbers.{bit, holds_z}
use Rattle.rules.specs.Execution.{lane_number, lane_holds}
use Rattle.laws.specs.ExecutionLaws.{vset_group}
use Rattle.video.proofs.Laws.{by_sides}
use Rattle.video.proofs.vset_lanes.Goals as goal

pub returns : goal.returns
unfolding lane_holds
returns c =
    let a = c.args in
    rw c.group.ensures
    (by_sides a.l (λ (x y : ℤ). pos (bit (holds_z a.cmp x y))) c.held.result c.picked-x.result c.picked-y.result
    (lane_number a.l.width a.l.atype a.l.asel a.a a.b) (lane_number a.l.width a.l.btype a.l.bsel a.a a.b) a.c
    c.picked-x.ensures.0 c.picked-y.ensures.0 c.held.ensures.0
    ∙ sym (vset_group a.cmp a.l a.a a.b a.c))
