use Rattle.std.proofs.Common.{ap, sym, refl, rules, false, ◌∙◌, ◌≡◌}
use Rattle.std.specs.Prelude.{ℕ, Result, Option, Some, None}
use Rattle.record.specs.declared.Record.{Record}
use Rattle.read.specs.declared.Refused.{Refused}
use Rattle.read.specs.Paper.{placed, answer_of}
use Rattle.last.specs.Last.{has_destination}
use Rattle.last.specs.LastLaws.{line_has}
use Rattle.last.specs.Back.{own_has}
use Rattle.last.proofs.line_has.Goals as goal

pub returns-in-Ok : goal.returns-in-Ok
returns-in-Ok c =
    c.has_word.ensures
    ∙ sym
    (line_has _ _ _ c.read.ensures
    ∙ ap (λ (x : Result Record Refused). has_destination c.args.n (answer_of x)) c.in-Ok.is)

-- a refused line has none, with a place or without
none_of : (n k : ℕ) (p : Option ℕ) → has_destination n (placed k p) ≡ false
none_of n k None = refl
none_of n k (Some p) = refl

pub returns-in-Err : goal.returns-in-Err
returns-in-Err c =
    let e : own_has c.args.n c.args.line.now ≡ false =
    line_has _ _ _ c.read.ensures
    ∙ ap (λ (x : Result Record Refused). has_destination c.args.n (answer_of x)) c.in-Err.is
    ∙ none_of c.args.n _ _ in
    rw e (search rules)
