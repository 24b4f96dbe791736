-- A text of another length than the names' five bytes is no target's name. Assumes nothing.
use Rattle.std.specs.Prelude.{ℕ, ◌≡◌, ◌≢◌, refl, Bool, true, false, ◌&&◌, List, [], ◌∷◌, length, eqb, None}
use Rattle.std.proofs.Common.{arith}
use Rattle.text.specs.Same.{same_text}
use Rattle.record.specs.declared.Target.TheVariants.{Sm10, Sm13, Sm20, Sm30}
use Rattle.rules.specs.Targets.{target_name}
use Rattle.targets.specs.Named.{named_of}

other_text : (l k : List ℕ) → length l ≢ length k → same_text l k ≡ false
unfolding same_text
other_text [] [] h = absurd (h refl)
other_text [] (b ∷ k) h = refl
other_text (a ∷ l) [] h = refl
other_text (a ∷ l) (b ∷ k) h = go (eqb a b) (other_text l k (λ e. h (omega (arith, e))))
  where
    go : (t : Bool) → same_text l k ≡ false → t && same_text l k ≡ false
    go true e = e
    go false e = refl

pub other_length : (l : List ℕ) → length l ≢ 5 → named_of l ≡ None
unfolding named_of
other_length l h =
    rw (other_text l (target_name Sm10) h, other_text l (target_name Sm13) h)
    (rw (other_text l (target_name Sm20) h, other_text l (target_name Sm30) h) refl)
