use Rattle.std.proofs.Common.{◌≡◌, ◌∙◌, refl, sym, true, false, arith, rules}
use borrow.Author.Tests.{tests}
use Rattle.begins.specs.Machines.{wrong_stops, wrong_goes, wrong_ends}
use Rattle.viable.specs.States.{step, is_wrong, shape_place_of}
use Rattle.viable.proofs.shape_place.Goals as goal

pub loop-i-init : goal.loop-i-init
unfolding shape_place_of
loop-i-init c = refl

pub returns-then-eq : goal.returns-then-eq
returns-then-eq c =
    let x = c.loop-i in
    let w : is_wrong c.step-s.result ≡ true = search (rules, tests) in
    sym (x.invariant ∙ wrong_stops step is_wrong _ x.i x.s _ 0 (omega arith) c.step-s.ensures w)

pub loop-i-preserved : goal.loop-i-preserved
loop-i-preserved c =
    let x = c.loop-i in
    let w : is_wrong c.step-s.result ≡ false = search (rules, tests) in
    x.invariant ∙ wrong_goes step is_wrong _ x.i x.s _ 0 (omega arith) c.step-s.ensures w

pub returns : goal.returns
returns c =
    let x = c.loop-i in
    omega (arith, x.invariant, wrong_ends step is_wrong c.args.line.now x.i x.s (omega arith))
