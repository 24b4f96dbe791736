-- Texts in which a byte c does not stand: said once, for each byte.
use Rattle.std.specs.Prelude.{ℕ, ◌/◌, ◌≡◌, refl, List, [], ◌∷◌, ◌++◌, Bool, true, false, not, cond, eqb, ltb}
use Rattle.std.proofs.Common.{sym, ap, ◌∙◌, eqb-true}
use Rattle.signs.specs.Bytes.{is_digit, is_name_byte, All}
use Rattle.signs.specs.Bytes.All.{none, more}
use Rattle.rules.specs.Shape.{Name, dotted, digit, number_text}
use Rattle.rules.specs.Grammar.{GoodNames}
use Rattle.scan.specs.NumberLaws.{digit_is}
use Rattle.scan.specs.RunLaws.{not_so}

abbrev pub without : ℕ → ℕ → Bool
without c b = not (eqb b c)

pub joined : {P : ℕ → Bool} {a b : List ℕ} → All P a → All P b → All P (a ++ b)
joined none y = y
joined (more h x) y = more h (joined x y)

module _ (c : ℕ) where
  -- the bytes of a class that has not c
  pub class_without : (P : ℕ → Bool) → P c ≡ false → {w : List ℕ} → All P w → All (without c) w
  class_without P e none = none
  class_without P e (more {b = b} h a) = more (go (eqb b c) refl) (class_without P e a)
    where
      go : (t : Bool) → eqb b c ≡ t → not t ≡ true
      go true q = not_so (sym e ∙ ap P (sym (eqb-true b c q)) ∙ h)
      go false q = refl

  pub number_without : is_digit c ≡ false → (n : ℕ) → All (without c) (number_text n)
  number_without e n = go (ltb n 10) (ltb n 100)
    where
      go : (s t : Bool) → All (without c) (cond s (digit n ∷ []) (cond t (digit (n / 10) ∷ digit n ∷ []) (digit (n / 100) ∷ digit (n / 10) ∷ digit n ∷ [])))
      go true t = class_without is_digit e (more (digit_is n) none)
      go false true = class_without is_digit e (more (digit_is (n / 10)) (more (digit_is n) none))
      go false false = class_without is_digit e (more (digit_is (n / 100)) (more (digit_is (n / 10)) (more (digit_is n) none)))

  pub dotted_without : is_name_byte c ≡ false → without c 46 ≡ true → {ns : List Name} → GoodNames ns → All (without c) (dotted ns)
  dotted_without e f GoodNames.none = none
  dotted_without e f (GoodNames.more g gs) = more f (joined (class_without is_name_byte e g.all) (dotted_without e f gs))
