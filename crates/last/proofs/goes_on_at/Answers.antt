use Rattle.std.proofs.Common.{arith, eq-eqb, ne_eqb, sym, ◌∙◌, ◌≡◌}
use Rattle.last.specs.Back.{line_before}
use Rattle.last.specs.BackLaws.{end_in, start_in}
use Rattle.last.specs.Back.{goes_on}
use Rattle.last.proofs.goes_on_at.Goals as goal

pub returns-then-at-eq0 : goal.returns-then-at-eq0
unfolding goes_on
returns-then-at-eq0 c = rw (eq-eqb _ _ (sym c.left-at.ensures ∙ c.if-at-eq0.true))

pub slice_bounds-line_has-start : goal.slice_bounds-line_has-start
slice_bounds-line_has-start c = omega (arith, c.line_start-start.ensures, start_in c.args.s.now c.line_end-end.result, c.line_end-end.ensures, c.left-at.ensures, end_in c.args.s.now c.left-at.result)

pub returns : goal.returns
unfolding goes_on line_before
returns c =
    let h : c.left-at.result ≡ 0 → ⊥ = c.if-at-eq0.false in
    simp (
      c.line_has.ensures,
      c.line_start-start.ensures,
      c.line_end-end.ensures,
      ne_eqb _ _ (rw c.left-at.ensures at h),
      c.left-at.ensures,
    )

pub slice_bounds-line_has-count : goal.slice_bounds-line_has-count
slice_bounds-line_has-count c = omega (arith, c.line_start-start.ensures, start_in c.args.s.now c.line_end-end.result)
