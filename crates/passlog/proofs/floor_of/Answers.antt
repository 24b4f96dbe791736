use Rattle.std.proofs.Common.{List, ap, sym, ℕ, ◌%◌, ◌^◌, ◌∙◌}
use Rattle.text.specs.Same.{same_text}
use Rattle.passlog.specs.Log.{floor_digits, floor_text}
use Rattle.passlog.specs.Spelling.{floor_guess}
use Rattle.passlog.specs.SpellingLaws.{floor_yes, floor_no}
use Rattle.passlog.specs.StepLaws.{floor_short, text_there, text_inside, text_count}
use Rattle.passlog.proofs.floor_of.Goals as goal

pub slice_bounds-room-end : goal.slice_bounds-room-end
slice_bounds-room-end c = text_inside c.put_hex-n.ensures (floor_short _)

pub slice_bounds-same-end : goal.slice_bounds-same-end
slice_bounds-same-end c = text_count c.put_hex-n.ensures (floor_short _)

pub returns-then-same : goal.returns-then-same
unfolding floor_guess
returns-then-same c =
    let g = ap (λ (x : ℕ). x % 16 ^ floor_digits) c.number.ensures in
    let there = text_there c.put_hex-n.ensures (floor_short _) in
    rw g (floor_yes c.args.word.now (ap (λ (x : ℕ). same_text (floor_text x) c.args.word.now) (sym g) ∙ ap (λ (l : List ℕ). same_text l c.args.word.now) (sym there) ∙ sym c.same.ensures ∙ c.if-same.true))

pub returns : goal.returns
unfolding floor_guess
returns c =
    let g = ap (λ (x : ℕ). x % 16 ^ floor_digits) c.number.ensures in
    let there = text_there c.put_hex-n.ensures (floor_short _) in
    floor_no c.args.word.now (ap (λ (x : ℕ). same_text (floor_text x) c.args.word.now) (sym g) ∙ ap (λ (l : List ℕ). same_text l c.args.word.now) (sym there) ∙ sym c.same.ensures ∙ c.if-same.false)
