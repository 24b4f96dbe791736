-- What specs/Answered.antt claims of each of its lists, from what is computed there.
use Rattle.std.specs.Prelude.{◌≡◌, true, List, [], ◌∷◌, map, length, leb}
use Rattle.std.proofs.Common.{sym, subst, ◌∙◌, leb-true}
use Rattle.lines.specs.Lines.{listing_limit}
use Rattle.report.specs.Listing.{Output}
use Rattle.report.specs.OutputLaws.{computed, computed_output}
use Rattle.rules.specs.Reading.{Answers}
use Rattle.read.specs.Mirror.{read_of}
use Rattle.read.specs.Answering.{answers}
use Rattle.last.specs.Last.{last_of}
use Rattle.last.specs.Back.{own_answer}
use Rattle.last.specs.LastLaws.{same_last}
use Rattle.lastline.specs.LastText.{Printed}
use Rattle.lastline.specs.TextLaws as lasttext
use Rattle.figures.specs.Answered.{Answered, answered, EachGets, Listing, listings, EachPrints, Question, questions, EachLast, Shown, shown, EachShows, answered_computed}

each : (xs : List Answered) → map (λ (x : Answered). read_of x.target x.mode x.line) xs ≡ map (λ (x : Answered). x.answer) xs → EachGets xs
each [] e = tt
each (x ∷ xs) e =
    let this : read_of x.target x.mode x.line ≡ x.answer = cc in
    let rest : map (λ (x : Answered). read_of x.target x.mode x.line) xs ≡ map (λ (x : Answered). x.answer) xs = cc in
    (subst (Answers x.target x.mode x.line) this (answers x.target x.mode x.line), each xs rest)

pub answered_hold : EachGets answered
answered_hold = each answered answered_computed.0

each_printed : (xs : List Listing) → map (λ (x : Listing). computed x.target x.mode x.lines) xs ≡ map (λ (x : Listing). x.output) xs
    → map (λ (x : Listing). leb (length x.lines) listing_limit) xs ≡ map (λ (x : Listing). true) xs → EachPrints xs
each_printed [] e h = tt
each_printed (x ∷ xs) e h =
    let this : computed x.target x.mode x.lines ≡ x.output = cc in
    let rest : map (λ (x : Listing). computed x.target x.mode x.lines) xs ≡ map (λ (x : Listing). x.output) xs = cc in
    let short : leb (length x.lines) listing_limit ≡ true = cc in
    let shorts : map (λ (x : Listing). leb (length x.lines) listing_limit) xs ≡ map (λ (x : Listing). true) xs = cc in (
      subst (Output x.target x.mode x.lines) this (computed_output x.target x.mode x.lines (leb-true (length x.lines) listing_limit short)),
      each_printed xs rest shorts,
    )

pub listings_hold : EachPrints listings
listings_hold = each_printed listings answered_computed.1 answered_computed.2

each_last : (xs : List Question) → map (λ (x : Question). last_of own_answer x.listing x.register) xs ≡ map (λ (x : Question). x.answer) xs → EachLast xs
each_last [] e = tt
each_last (x ∷ xs) e =
    let this : last_of own_answer x.listing x.register ≡ x.answer = cc in
    let rest : map (λ (x : Question). last_of own_answer x.listing x.register) xs ≡ map (λ (x : Question). x.answer) xs = cc in
    (λ answer full. sym (same_last answer full x.listing x.register ∙ this), each_last xs rest)

pub questions_hold : EachLast questions
questions_hold = each_last questions answered_computed.3

each_shown : (xs : List Shown) → map (λ (x : Shown). lasttext.computed x.listing x.register) xs ≡ map (λ (x : Shown). x.text) xs → EachShows xs
each_shown [] e = tt
each_shown (x ∷ xs) e =
    let this : lasttext.computed x.listing x.register ≡ x.text = cc in
    let rest : map (λ (x : Shown). lasttext.computed x.listing x.register) xs ≡ map (λ (x : Shown). x.text) xs = cc in
    (subst (Printed x.listing x.register) this (lasttext.every_question x.listing x.register), each_shown xs rest)

pub shown_hold : EachShows shown
shown_hold = each_shown shown answered_computed.4
