-- What stands past the ends of lists. Assumes nothing.
use Rattle.std.specs.Prelude.{ℕ, zero, suc, ◌≤◌, ◌≡◌, refl, List, [], ◌∷◌, get_or, set, length}
use Rattle.std.proofs.Common.{arith, ap}

-- a place past the end reads as 0 and cannot be written
pub get_d_past : (xs : List ℕ) (i : ℕ) → length xs ≤ i → 0 ≡ get_or xs i 0
get_d_past [] i h = refl
get_d_past (x ∷ xs) zero h = absurd (omega arith)
get_d_past (x ∷ xs) (suc i) h = get_d_past xs i (omega arith)

pub set_past : (xs : List ℕ) (i v : ℕ) → length xs ≤ i → xs ≡ set xs i v
set_past [] i v h = refl
set_past (x ∷ xs) zero v h = absurd (omega arith)
set_past (x ∷ xs) (suc i) v h = ap (◌∷◌ x) (set_past xs i v (omega arith))
