use Rattle.std.proofs.Common.{◌≡◌, ◌+◌, ◌∙◌, refl, suc, ap, ℕ, Bool, true, false, cond, List, [], ◌∷◌, rules, arith}
use borrow.Author.Tests.{tests}
use Rattle.std.specs.List.{prefix_len}
use Rattle.std.proofs.lemmas.Iterator.{YieldsList-from_slice}
use Rattle.std.proofs.lemmas.Iterator.Search.{YieldsList-from_take_while}
use Rattle.std.proofs.lemmas.Iterator.Consumers.{count_from_yields_List}
use Rattle.std.proofs.lemmas.List.Folds.{length-prefix_len}
use Rattle.scan.specs.Runs.{run_length, capped_sum}
use Rattle.starts.specs.Starts.{not_bar, bar_at}
use Rattle.starts.proofs.second_start.Goals as goal

-- how many of a class stand at the front, in std's words
run_is : (p : ℕ → Bool) (s : List ℕ) → prefix_len p s ≡ run_length p s
run_is p [] = refl
run_is p (x ∷ s) = go (p x) (run_is p s)
  where
    go : (t : Bool) → prefix_len p s ≡ run_length p s → cond t (1 + prefix_len p s) 0 ≡ cond t (suc (run_length p s)) 0
    go true e = omega (arith, e)
    go false e = refl

pub returns : goal.returns
unfolding bar_at
returns c =
    let s = c.args.line.now in
    let e : c.count.result ≡ run_length not_bar s =
    count_from_yields_List _ _ c.count.ensures.ran
    (YieldsList-from_take_while _ not_bar (YieldsList-from_slice s cc)
    c.take_while.ensures.closure c.take_while.ensures.done (λ x b q k. search (rules, tests)))
    ∙ length-prefix_len not_bar s ∙ run_is not_bar s
    in
    c.further.ensures ∙ ap (λ (n : ℕ). capped_sum n 1) e
