-- A law of every value of an enum is one computed test over the list of its values. Assumes nothing.
use Rattle.std.specs.Prelude.{ℕ, zero, suc, ◌≡◌, refl, Bool, true, ◌&&◌, List, [], ◌∷◌, ◌++◌}
use Rattle.std.proofs.Common.{subst}
use Rattle.std.proofs.Math.Bool.{and_assoc, and-eq-true_iff}

-- the test holds of each element
abbrev pub every : {A : Type 0} → (A → Bool) → List A → Bool
every q [] = true
every q (x ∷ l) = q x && every q l

-- of two lists one after the other the test holds where it holds of each
pub every_append : {A : Type 0} (q : A → Bool) (l k : List A) → every q (l ++ k) ≡ every q l && every q k
every_append q [] k = refl
every_append q (x ∷ l) k = simp (every_append q l k, and_assoc)

-- t stands at place i of the list
abbrev pub StandsAt : {A : Type 0} → ℕ → List A → A → Type 0
StandsAt i [] t = ⊥
StandsAt zero (a ∷ l) t = a ≡ t
StandsAt (suc i) (a ∷ l) t = StandsAt i l t

-- a list in which every value stands
pub record Values (A : Type 0) : Type 0 where
  pub list : List A
  pub listed : (t : A) → (i : ℕ) × StandsAt i list t

module _ {A : Type 0} (q : A → Bool) where
  pub at_place : (l : List A) → every q l ≡ true → (i : ℕ) (t : A) → StandsAt i l t → q t ≡ true
  at_place [] e i t h = absurd h
  at_place (a ∷ l) e zero t h = let k = simp and-eq-true_iff at e in subst (λ (x : A). q x ≡ true) h k.0
  at_place (a ∷ l) e (suc i) t h = let k = simp and-eq-true_iff at e in at_place l k.1 i t h

  -- what the test finds of the list holds of every value
  pub each : (v : Values A) → every q v.list ≡ true → (t : A) → q t ≡ true
  each v e t = at_place v.list e (v.listed t).0 t (v.listed t).1
