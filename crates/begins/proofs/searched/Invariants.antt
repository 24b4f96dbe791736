use Rattle.std.proofs.Common.{ℕ, Bool, ◌≡◌, ◌-◌}
use Rattle.begins.specs.Searches.{Gives, searched}
use Rattle.begins.proofs.searched.Given as goal

abbrev pub invariant-loop-k : goal.invariant-loop-k
invariant-loop-k g l =
    (t : ℕ → Bool) → Gives (goal.F-post g l.test) t → searched t 0 l.n ≡ searched t l.k (l.n - l.k)
