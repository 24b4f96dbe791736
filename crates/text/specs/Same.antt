-- Two texts compared byte by byte. No one has to believe it: a law joins it to equality. Assumes nothing.
use Rattle.std.specs.Prelude.{ℕ, ◌≡◌, refl, Bool, true, false, ◌&&◌, List, [], ◌∷◌, eqb}
use Rattle.std.proofs.Common.{arith, ap₂, eqb-true, eq-eqb}

unfoldable pub same_text : List ℕ → List ℕ → Bool
same_text [] [] = true
same_text [] (b ∷ k) = false
same_text (a ∷ l) [] = false
same_text (a ∷ l) (b ∷ k) = eqb a b && same_text l k

off : {A : Type 0} → false ≡ true → A
off e = let z : ◌≡◌ {A = ℕ} 0 1 = cc in absurd (omega arith)

-- a text passes with itself, and those that pass are one
pub text_same : (l : List ℕ) → same_text l l ≡ true
unfolding same_text
text_same [] = refl
text_same (a ∷ l) = rw (eq-eqb a a refl, text_same l)

pub same_text_lem : (l k : List ℕ) → same_text l k ≡ true → l ≡ k
unfolding same_text
same_text_lem [] [] e = refl
same_text_lem [] (b ∷ k) e = off e
same_text_lem (a ∷ l) [] e = off e
same_text_lem (a ∷ l) (b ∷ k) e = go (eqb a b) refl e (same_text_lem l k)
  where
    go : (t : Bool) → eqb a b ≡ t → t && same_text l k ≡ true → (same_text l k ≡ true → l ≡ k) → a ∷ l ≡ b ∷ k
    go true h q f = ap₂ ◌∷◌ (eqb-true a b h) (f q)
    go false h q f = off q
