-- T-05: a list goes wrong at one place, whatever the set. Assumes nothing.
use Rattle.std.specs.Prelude.{ℕ, suc, ◌≤◌, ◌<◌, ◌≡◌, refl, List, ◌++◌, Bool, true, false, ltb, length, take, drop}
use Rattle.std.proofs.Common.{arith, sym, subst, append_assoc, take-append-drop, take-take, ltb-true, ltb-false}
use Rattle.rules.specs.BytePlaces.{Begins, FirstWrong}

module _ {A : Type 0} (L : List A → Type 0) where
  -- with a list, its front begins one
  begins_front : (s r : List A) → Begins L (s ++ r) → Begins L s
  begins_front s r b = record { rest = r ++ b.rest; whole = rw append_assoc at b.whole }

  pub begins_earlier : (l : List A) (m n : ℕ) → m ≤ n → Begins L (take n l) → Begins L (take m l)
  begins_earlier l m n h b =
      subst (Begins L) (take-take m n l h)
      (begins_front (take m (take n l)) (drop m (take n l)) (subst (Begins L) (sym (take-append-drop m (take n l))) b))

  -- at most one place
  pub first_wrong_one : (l : List A) (p q : ℕ) → FirstWrong L l p → FirstWrong L l q → p ≡ q
  first_wrong_one l p q x y = go (ltb p q) (ltb q p) refl refl
    where
      go : (s t : Bool) → ltb p q ≡ s → ltb q p ≡ t → p ≡ q
      go true t e f =
          let h : p < q = ltb-true p q e in
          absurd (x.wrong (omega (arith, y.within)) (begins_earlier l (suc p) q h y.begins))
      go false true e f =
          let h : q < p = ltb-true q p f in
          absurd (y.wrong (omega (arith, x.within)) (begins_earlier l (suc q) p h x.begins))
      go false false e f = omega (arith, ltb-false p q e, ltb-false q p f)

  -- every front up to the place begins one, and no longer one does
  pub before_begins : (l : List A) (p k : ℕ) → FirstWrong L l p → k ≤ p → Begins L (take k l)
  before_begins l p k x h = begins_earlier l k p h x.begins

  pub behind_begins_none : (l : List A) (p k : ℕ) → FirstWrong L l p → p < k → k ≤ length l → Begins L (take k l) → ⊥
  behind_begins_none l p k x h i b = x.wrong (omega arith) (begins_earlier l (suc p) k h b)
