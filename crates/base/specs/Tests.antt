-- Tests that say the same. Assumes nothing.
use Rattle.std.specs.Prelude.{ℕ, ◌<◌, ◌≡◌, refl, Bool, true, false, not, ◌&&◌, T, ltb, leb, eqb, ℤ, pos, negsuc}
use Rattle.std.proofs.Common.{arith, sym, ◌∙◌, ltb→lt, lt→ltb, eq-eqb, ne_eqb, le-leb, leb-true, leb-false, ltb-true, ltb-false}
use Rattle.std.specs.Int.Signed.{lt_z, le_z}
use Rattle.std.proofs.lemmas.Bool.{lt-leb, not-true, not-false}

-- two tests that hold together are one
pub same_test : (p q : Bool) → (T p → T q) → (T q → T p) → p ≡ q
same_test true true f g = refl
same_test true false f g = absurd (f tt)
same_test false true f g = absurd (g tt)
same_test false false f g = refl

pub ltb_same : (a b c d : ℕ) → (a < b → c < d) → (c < d → a < b) → ltb a b ≡ ltb c d
ltb_same a b c d f g = same_test (ltb a b) (ltb c d) (λ t. lt→ltb c d (f (ltb→lt a b t))) (λ t. lt→ltb a b (g (ltb→lt c d t)))

pub eqb_leb : (a b : ℕ) → eqb a b ≡ leb a b && leb b a
eqb_leb a b = go (leb a b) (leb b a) refl refl
  where
    go : (p q : Bool) → leb a b ≡ p → leb b a ≡ q → eqb a b ≡ p && q
    go true true e f = eq-eqb a b (omega (arith, leb-true a b e, leb-true b a f))
    go true false e f = ne_eqb a b (λ h. omega (arith, leb-false b a f))
    go false true e f = ne_eqb a b (λ h. omega (arith, leb-false a b e))
    go false false e f = ne_eqb a b (λ h. omega (arith, leb-false a b e))

-- at most is not over
pub leb_not : (a b : ℕ) → leb a b ≡ not (ltb b a)
leb_not a b = go (ltb b a) refl
  where
    go : (t : Bool) → ltb b a ≡ t → leb a b ≡ not t
    go true e = lt-leb a b (ltb-true b a e)
    go false e = le-leb a b (ltb-false b a e)

pub le_z_not : (x y : ℤ) → le_z x y ≡ not (lt_z y x)
le_z_not (pos a) (pos b) = leb_not a b
le_z_not (pos a) (negsuc b) = refl
le_z_not (negsuc a) (pos b) = refl
le_z_not (negsuc a) (negsuc b) = leb_not b a

-- what `!f()` says of the definition that f computes
pub failed : {q r : Bool} → r ≡ q → not r ≡ true → q ≡ false
failed {q} {r} e h = sym e ∙ not-true r h

pub passed : {q r : Bool} → r ≡ q → not r ≡ false → q ≡ true
passed {q} {r} e h = sym e ∙ not-false r h
