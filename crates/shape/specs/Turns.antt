-- A loop of turns over a state: each turn looks at the front of a list and takes some of it; turns while the state says so, at most so many.
use Rattle.std.specs.Prelude.{ℕ, suc, zero, Bool, cond, List, drop}

module _ {St : Type 0} (more : St → Bool) (step : St → ℕ) (turn : List ℕ → St → St) where
  unfoldable pub turns : ℕ → List ℕ → St → St
  turns zero w st = st
  turns (suc k) w st = cond (more st) (turns k (drop (step (turn w st)) w) (turn w st)) st

-- a line has at most 160 bytes, and a turn that goes on takes one
abbrev pub most_turns : ℕ
most_turns = 161
