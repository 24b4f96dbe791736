use Rattle.std.proofs.Common.{Bor, ◌≡◌, ℕ, List, true, false, length, ◌-◌, ◌<◌, sym, ap, subst, ◌∙◌}
use Rattle.last.specs.Last.{told}
use Rattle.last.specs.Back.{last_beyond, line_back, goes_on, found_at}
use Rattle.last.specs.BackLaws.{passed, nearer, stopped}
use Rattle.last.proofs.search.Goals as goal

-- what a turn leaves: the next place is nearer to the front, and what is found before it is what was found before the last one
turned : (s t : List ℕ) (n gone next : ℕ) → t ≡ s → true ≡ goes_on t gone n → next ≡ line_back t gone
    → (length s - next < length s - gone) × (last_beyond s next n ≡ last_beyond s gone n)
turned s t n gone next e g m =
    let h : goes_on s gone n ≡ true = sym (g ∙ ap (λ (x : List ℕ). goes_on x gone n) e) in
    let at : next ≡ line_back s gone = m ∙ ap (λ (x : List ℕ). line_back x gone) e in
    (subst (λ (k : ℕ). length s - k < length s - gone) (sym at) (nearer n s gone h), ap (λ (k : ℕ). last_beyond s k n) at ∙ passed n s gone h)

ends : (s t : List ℕ) (n gone : ℕ) → t ≡ s → false ≡ goes_on t gone n → told (found_at t gone) ≡ told (last_beyond s gone n)
ends s t n gone e g =
    ap (λ (x : List ℕ). told (found_at x gone)) e ∙ ap told (stopped n s gone (sym (g ∙ ap (λ (x : List ℕ). goes_on x gone n) e)))

pub loop-b-smaller : goal.loop-b-smaller
loop-b-smaller c =
    (turned c.args.listing.now c.loop-b.b.listing.now c.args.n c.loop-b.b.gone c.line_further-b.result.gone c.loop-b.invariant.0 (sym c.loop-b-test.true ∙ c.goes_on.ensures) c.line_further-b.ensures.1).0

pub loop-b-preserved : goal.loop-b-preserved
loop-b-preserved c =
    let step = turned c.args.listing.now c.loop-b.b.listing.now c.args.n c.loop-b.b.gone c.line_further-b.result.gone c.loop-b.invariant.0 (sym c.loop-b-test.true ∙ c.goes_on.ensures) c.line_further-b.ensures.1 in
    (ap (λ (x : Bor (List ℕ)). x.now) c.line_further-b.ensures.0 ∙ c.loop-b.invariant.0, step.1 ∙ c.loop-b.invariant.1)

pub returns : goal.returns
returns c =
    c.found.ensures ∙ ends c.args.listing.now c.loop-b.b.listing.now c.args.n c.loop-b.b.gone c.loop-b.invariant.0 (sym c.loop-b-test.false ∙ c.goes_on.ensures)
    ∙ ap told c.loop-b.invariant.1
