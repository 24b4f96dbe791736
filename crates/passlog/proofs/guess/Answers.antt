use Rattle.std.proofs.Common.{ap, ◌∙◌}
use Rattle.passlog.specs.Spelling.{number_of, word_at, rest_of, guess_of}
use Rattle.passlog.proofs.guess.Goals as goal

pub returns : goal.returns
unfolding guess_of
returns c =
    let tag = c.number.ensures ∙ ap (number_of 10) c.word.ensures in
    let pass = c.number-2.ensures ∙ ap (number_of 10) (c.word-2.ensures ∙ ap word_at c.rest.ensures) in
    let first = c.number-3.ensures ∙ ap (number_of 16) (c.word-3.ensures ∙ ap word_at (c.rest-3.ensures ∙ ap rest_of c.rest-2.ensures)) in
    let second = c.number-4.ensures ∙ ap (number_of 16) (c.word-4.ensures ∙ ap word_at (c.rest-6.ensures ∙ ap rest_of (c.rest-5.ensures ∙ ap rest_of c.rest-4.ensures))) in
    λ i. record { tag = tag i; pass = pass i; first = first i; second = second i }
