-- Two texts byte by byte, as `==` of slices goes. Assumes nothing.
use Rattle.std.specs.Prelude.{ℕ, ◌≡◌, refl, ◌&&◌, List, [], ◌∷◌, eqb}
use Rattle.std.specs.Cmp.Lexicographic.{pointwise}
use Rattle.std.proofs.Common.{ap}
use Rattle.text.specs.Same.{same_text}

pub same_pairs : (a b : List ℕ) → pointwise eqb a b ≡ same_text a b
unfolding same_text
same_pairs [] [] = refl
same_pairs [] (y ∷ b) = refl
same_pairs (x ∷ a) [] = refl
same_pairs (x ∷ a) (y ∷ b) = ap (◌&&◌ (eqb x y)) (same_pairs a b)
