use Rattle.std.proofs.Common.{ℤ}
use Rattle.rules.specs.Numbers.{lane_size, is_signed}
use Rattle.rules.specs.Execution.{lane_number, clamped_of, lane_arith_z, lane_result, arithmetic_lanes_of}
use Rattle.video.proofs.Laws.{by_sides}
use Rattle.video.proofs.arithmetic_lanes.Goals as goal

pub returns : goal.returns
unfolding arithmetic_lanes_of lane_result
returns c =
    let a = c.args in
    rw c.group.ensures
    (by_sides a.l (λ (x y : ℤ). clamped_of a.sat (is_signed a.dtype) (lane_size a.l.width) (lane_arith_z a.op x y))
    c.results.result c.picked-x.result c.picked-y.result
    (lane_number a.l.width a.l.atype a.l.asel a.a a.b) (lane_number a.l.width a.l.btype a.l.bsel a.a a.b) a.c
    c.picked-x.ensures.0 c.picked-y.ensures.0 c.results.ensures.0)
