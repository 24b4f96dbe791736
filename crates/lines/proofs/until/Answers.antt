use Rattle.std.proofs.Common.{◌≡◌, ◌≤◌, ◌+◌, ◌∙◌, refl, suc, ℕ, Bool, true, false, cond, not, eqb}
use Rattle.std.proofs.Common.{List, [], ◌∷◌, length, drop, rules, arith, length-drop, le_of_eq, take_all}
use borrow.Author.Tests.{tests}
use Rattle.std.specs.List.{prefix_len}
use Rattle.std.proofs.lemmas.Iterator.{YieldsList-from_slice}
use Rattle.std.proofs.lemmas.Iterator.Search.{YieldsList-from_take_while}
use Rattle.std.proofs.lemmas.Iterator.Consumers.{count_from_yields_List}
use Rattle.std.proofs.lemmas.List.Folds.{length-prefix_len}
use Rattle.std.proofs.lemmas.List.Sums.{prefix_len-le-length}
use Rattle.lines.specs.Until.{length_to}
use Rattle.lines.specs.LineLaws.{to_end}
use Rattle.lines.proofs.until.Goals as goal

-- how many bytes before the first b, in std's words
run_is : (b : ℕ) (s : List ℕ) → prefix_len (λ x. not (eqb x b)) s ≡ length_to b s
unfolding length_to
run_is b [] = refl
run_is b (x ∷ s) = go (eqb x b) (run_is b s)
  where
    go : (t : Bool) → prefix_len (λ y. not (eqb y b)) s ≡ length_to b s
        → cond (not t) (1 + prefix_len (λ y. not (eqb y b)) s) 0 ≡ cond t 0 (suc (length_to b s))
    go true e = refl
    go false e = omega (arith, e)

pub returns-in_default : goal.returns-in_default
returns-in_default c =
    let h : length c.args.s.now ≤ c.args.at = search rules in
    (to_end _ c.args.s.now c.args.at (c.args.at + length_to c.args.b (drop c.args.at c.args.s.now)) h refl, omega arith)

pub returns : goal.returns
returns c =
    let p = λ (x : ℕ). not (eqb x c.args.b) in
    let l = c.in-Some.tail.now in
    let m = drop c.args.at c.args.s.now in
    let k : l ≡ m = c.in-Some.ensures.lookup.0.2 ∙ take_all _ _ (le_of_eq (length-drop _ _)) in
    let e : c.count.result ≡ prefix_len p l =
    count_from_yields_List _ _ c.count.ensures.ran
    (YieldsList-from_take_while _ p (YieldsList-from_slice l cc)
    c.take_while.ensures.closure c.take_while.ensures.done (λ x b q k. search (rules, tests)))
    ∙ length-prefix_len p l
    in
    let f = rw k at e in
    let o = run_is c.args.b m in
    let i = length-drop c.args.at c.args.s.now in
    (omega (arith, f, o), omega (arith, f, i, prefix_len-le-length p m))
