-- The code's own way to find a line's end: the first byte of a kind. LineLaws join it to `lines_of`.
use Rattle.std.specs.Prelude.{ℕ, suc, cond, List, [], ◌∷◌, eqb, take, drop}

-- how many bytes stand before the first b, or all
unfoldable pub length_to : ℕ → List ℕ → ℕ
length_to b [] = 0
length_to b (x ∷ s) = cond (eqb x b) 0 (suc (length_to b s))

-- what stands before it, and what behind it
abbrev pub before : ℕ → List ℕ → List ℕ
before b s = take (length_to b s) s

abbrev pub behind : ℕ → List ℕ → List ℕ
behind b s = drop (suc (length_to b s)) s
