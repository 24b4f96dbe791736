use Rattle.std.proofs.Common.{ap, sym, ◌∙◌}
use Rattle.refusals.specs.Numbers.{first_number}
use Rattle.execute.proofs.Laws.{ends_refused, bits_all}
use Rattle.execute.proofs.execute.Goals as goal

pub returns-in-Some : goal.returns-in-Some
returns-in-Some c =
    ends_refused _ _ _ _
    (ap first_number (sym c.in-Some.is) ∙ simp (c.executing.ensures, c.legal.ensures, c.allows.ensures, c.sizes_fit.ensures, c.preds_fit.ensures, bits_all c.args.preds.now))
