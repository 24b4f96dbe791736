use Rattle.std.proofs.Common.{ap, arith, sym, ◌∙◌}
use Rattle.std.proofs.Math.Option.{Option}
use Rattle.tally.specs.declared.Entry.{Entry}
use Rattle.tally.specs.Passes.{judged}
use Rattle.tally.specs.Lent.{entries_of, laid}
use Rattle.tally.specs.CallLaws.{stands, stands_not}
use Rattle.tally.proofs.Laws.{tally_full}
use Rattle.tally.proofs.strong.Goals as goal

pub returns-then-i-n : goal.returns-then-i-n
returns-then-i-n c =
    c.held_tag.ensures
    ∙ (ap (λ (s : Option Entry). laid c.args.t (judged (entries_of c.args.t) c.args.r s)) (sym (stands c.args.t (tally_full c.args.t _ c.well_formed.0) c.args.r c.requires c.place-i.result (omega (arith, c.if-i-n.true)) (omega (arith, c.place-i.ensures)))))

pub returns : goal.returns
returns c =
    c.new_tag.ensures
    ∙ (ap (λ (s : Option Entry). laid c.args.t (judged (entries_of c.args.t) c.args.r s)) (sym (stands_not c.args.t (tally_full c.args.t _ c.well_formed.0) c.args.r c.requires (omega (arith, c.place-i.ensures, c.if-i-n.false)))))
