-- Lists by their places, and what stands in them.
use Rattle.std.specs.Prelude.{ℕ, zero, suc, ◌≡◌, List, [], ◌∷◌}

-- f 0, f 1, .. f (n - 1)
abbrev pub tab {ℓ} : {A : Type ℓ} → ℕ → (ℕ → A) → List A
tab zero f = []
tab (suc n) f = f 0 ∷ tab n (λ i. f (suc i))

-- x stands in the list
pub data Listed {A : Type 0} (x : A) : List A → Type 0 where
  here : {y : A} {ys : List A} → x ≡ y → Listed x (y ∷ ys)
  later : {y : A} {ys : List A} → Listed x ys → Listed x (y ∷ ys)
