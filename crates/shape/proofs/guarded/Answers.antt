use Rattle.std.proofs.Common.{arith, ne_eqb, ◌≡◌}
use Rattle.std.proofs.lemmas.Grind.{common_steps}
use Rattle.scan.specs.Registers.{register_of, register_got}
use Rattle.shape.specs.Guard.{guard_by}
use Rattle.shape.proofs.guarded.Goals as goal

pub returns-in_default : goal.returns-in_default
unfolding guard_by
returns-in_default c =
    let e : register_of c.args.w.now ≡ register_got c.in_ok-p.p c.in_ok-p.m = grind (arith, common_steps) in
    rw (e, ← c.rest.ensures, ← c.run_len.ensures, ne_eqb c.run_len.result 0 (λ q. omega arith), c.further.ensures)
