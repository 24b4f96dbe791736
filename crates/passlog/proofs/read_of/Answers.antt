use Rattle.std.proofs.Common.{List, ap, sym, ℕ, ◌∙◌}
use Rattle.text.specs.Same.{same_text}
use Rattle.passlog.specs.SpellingLaws.{guess_fits, read_yes, read_no}
use Rattle.passlog.specs.StepLaws.{read_short, text_there, text_inside, text_count}
use Rattle.passlog.proofs.read_of.Goals as goal

pub slice_bounds-room-end : goal.slice_bounds-room-end
slice_bounds-room-end c = text_inside c.put_read-n.ensures (rw c.guess-r.ensures (read_short _ (guess_fits c.args.line.now)))

pub slice_bounds-same-end : goal.slice_bounds-same-end
slice_bounds-same-end c = text_count c.put_read-n.ensures (rw c.guess-r.ensures (read_short _ (guess_fits c.args.line.now)))

pub returns-then-same : goal.returns-then-same
returns-then-same c =
    let there = text_there c.put_read-n.ensures (rw c.guess-r.ensures (read_short _ (guess_fits c.args.line.now))) in
    rw c.guess-r.ensures (read_yes c.args.line.now (rw c.guess-r.ensures at (ap (λ (l : List ℕ). same_text l c.args.line.now) (sym there) ∙ sym c.same.ensures ∙ c.if-same.true)))

pub returns : goal.returns
returns c =
    let there = text_there c.put_read-n.ensures (rw c.guess-r.ensures (read_short _ (guess_fits c.args.line.now))) in
    read_no c.args.line.now (rw c.guess-r.ensures at (ap (λ (l : List ℕ). same_text l c.args.line.now) (sym there) ∙ sym c.same.ensures ∙ c.if-same.false))
