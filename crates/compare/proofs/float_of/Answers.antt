use Rattle.std.proofs.Common.{sym, ◌∙◌}
use Rattle.compare.proofs.Laws.{pattern_nan}
use Rattle.compare.proofs.float_of.Goals as goal

pub returns-then-INFINITY-bits : goal.returns-then-INFINITY-bits
returns-then-INFINITY-bits g c =
    let p = g.met.F.Ieee.patterns in
    let h = rw (c.INFINITY.ensures ∙ p.1, c.SIGN.ensures ∙ p.0) at c.if-INFINITY-bits.true in
    c.nan.ensures ∙ sym (pattern_nan g.F.Ieee.format c.args.bits h)
