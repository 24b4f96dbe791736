-- The target that a name names: laws join it to the names of the rules. Assumes nothing.
use Rattle.std.specs.Prelude.{ℕ, ◌≡◌, refl, Bool, true, false, cond, List, [], ◌∷◌, map, Option, Some, None}
use Rattle.std.proofs.Common.{arith, ap, ◌∙◌}
use Rattle.signs.specs.Text.{bytes}
use Rattle.text.specs.Same.{same_text, same_text_lem}
use Rattle.record.specs.declared.Target.{Target}
use Rattle.record.specs.declared.Target.TheVariants.{Sm10, Sm13, Sm20, Sm30}
use Rattle.rules.specs.Targets.{target_name}

unfoldable pub named_of : List ℕ → Option Target
named_of l =
    cond (same_text l (target_name Sm10)) (Some Sm10)
    (cond (same_text l (target_name Sm13)) (Some Sm13)
    (cond (same_text l (target_name Sm20)) (Some Sm20)
    (cond (same_text l (target_name Sm30)) (Some Sm30)
    None)))

-- each target has its name,
pub name_named : (t : Target) → named_of (target_name t) ≡ Some t
unfolding named_of same_text
name_named Sm10 = refl
name_named Sm13 = refl
name_named Sm20 = refl
name_named Sm30 = refl

-- spelled out, with names that are none,
pub names_figure :
    map named_of (bytes "sm_10" ∷ bytes "sm_13" ∷ bytes "sm_20" ∷ bytes "sm_30" ∷ bytes "sm_3" ∷ bytes "SM_30" ∷ bytes "sm_30 " ∷ [] ∷ [])
    ≡ Some Sm10 ∷ Some Sm13 ∷ Some Sm20 ∷ Some Sm30 ∷ None ∷ None ∷ None ∷ None ∷ []
unfolding named_of same_text
names_figure = refl

-- and nothing else is one
pub named_name : (l : List ℕ) (t : Target) → named_of l ≡ Some t → l ≡ target_name t
unfolding named_of
named_name l t e = go (same_text l (target_name Sm10)) (same_text l (target_name Sm13)) (same_text l (target_name Sm20)) (same_text l (target_name Sm30)) refl refl refl refl e
  where
    by : (s : Target) → same_text l (target_name s) ≡ true → s ≡ t → l ≡ target_name t
    by s h k = same_text_lem l (target_name s) h ∙ ap target_name k

    go : (a b c d : Bool) → same_text l (target_name Sm10) ≡ a → same_text l (target_name Sm13) ≡ b → same_text l (target_name Sm20) ≡ c → same_text l (target_name Sm30) ≡ d
        → cond a (Some Sm10) (cond b (Some Sm13) (cond c (Some Sm20) (cond d (Some Sm30) None))) ≡ Some t → l ≡ target_name t
    go true b c d h i j k q = by Sm10 h cc
    go false true c d h i j k q = by Sm13 i cc
    go false false true d h i j k q = by Sm20 j cc
    go false false false true h i j k q = by Sm30 k cc
    go false false false false h i j k q = let z : ◌≡◌ {A = ℕ} 0 1 = cc in absurd (omega arith)
