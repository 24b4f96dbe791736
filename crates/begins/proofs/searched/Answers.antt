use Rattle.std.proofs.Common.{◌+◌, ◌≡◌, arith, sym, ◌∙◌}
use Rattle.begins.specs.Searches.{searched_stops, searched_goes, searched_ends}
use Rattle.begins.proofs.searched.Goals as goal

pub returns-then-not-test : goal.returns-then-not-test
returns-then-not-test g c t h =
    let x = c.loop-k in
    let e = h (x.k + 1) _ c.test.ensures in
    sym (x.invariant t h ∙ searched_stops t x.k _ c.loop-k-test.true (sym e ∙ c.if-not-test.true))

pub loop-k-preserved : goal.loop-k-preserved
loop-k-preserved g c t h =
    let x = c.loop-k in
    let e = h (x.k + 1) _ c.test.ensures in
    x.invariant t h ∙ searched_goes t x.k _ c.loop-k-test.true (sym e ∙ c.if-not-test.false)

pub returns : goal.returns
returns g c t h =
    let x = c.loop-k in
    let e : c.args.n ≡ x.k = omega arith in
    e ∙ sym (x.invariant t h ∙ searched_ends t x.k _ c.loop-k-test.false)
