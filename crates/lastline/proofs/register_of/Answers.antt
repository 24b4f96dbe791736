use Rattle.std.specs.Prelude.{Result, ℕ}
use Rattle.std.proofs.Common.{subst, sym, ◌∙◌}
use Rattle.lastline.specs.LastText.{Asks}
use Rattle.lastline.specs.Steps.{asked_by}
use Rattle.lastline.specs.TextLaws.{asks}
use Rattle.lastline.proofs.register_of.Goals as goal
use Rattle.tree.specs.declared.Place.{Place}

pub returns-in-Ok : goal.returns-in-Ok
returns-in-Ok c =
    let l = c.args.word.now in
    rw c.word_in.ensures (subst (λ (r : Result (Place × ℕ) ℕ). Asks l (asked_by r l)) (sym c.read_register.ensures ∙ c.in-Ok.is) (asks l))

pub returns-in-Err : goal.returns-in-Err
returns-in-Err c =
    let l = c.args.word.now in
    subst (λ (r : Result (Place × ℕ) ℕ). Asks l (asked_by r l)) (sym c.read_register.ensures ∙ c.in-Err.is) (asks l)
