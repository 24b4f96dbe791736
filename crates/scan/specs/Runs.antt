-- Places and runs, as the scanners count them.
use Rattle.std.specs.Prelude.{ℕ, suc, ◌+◌, ◌-◌, List, [], ◌∷◌, Bool, cond, leb}
use Rattle.signs.specs.Bytes.{is_blank, is_digit, is_name_byte}
use Rattle.scan.specs.declared.Class.{Class}
use Rattle.scan.specs.declared.Class.TheVariants.{Blank, Digit, Name}

-- the highest number that a place can have
abbrev pub most : ℕ
most = 18446744073709551615

unfoldable pub capped_sum : ℕ → ℕ → ℕ
capped_sum place n = cond (leb n (most - place)) (place + n) most

abbrev pub in_class : Class → ℕ → Bool
in_class Blank b = is_blank b
in_class Digit b = is_digit b
in_class Name b = is_name_byte b

-- how many of the class stand at the front
abbrev pub run_length : (ℕ → Bool) → List ℕ → ℕ
run_length p [] = 0
run_length p (x ∷ xs) = cond (p x) (suc (run_length p xs)) 0
