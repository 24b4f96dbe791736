-- The register at the front of a list, as the scanner finds it.
use Rattle.std.specs.Prelude.{ℕ, ◌+◌, List, cond, eqb, get_or, drop, Err, Ok, Result}
use Rattle.tree.specs.Seen.{place_in}
use Rattle.scan.specs.Numbers.{number_found}
use Rattle.record.specs.declared.File.{File}
use Rattle.record.specs.declared.File.TheVariants.{Words, Halves, Doubles, Preds}
use Rattle.tree.specs.declared.Place.{Place}

-- a file, and how many bytes its prefix has
pattern abbrev pub prefix_got : File → ℕ → Result (File × ℕ) ℕ
prefix_got x n = Ok (x, n)

-- the place of the first byte that is wrong
pattern abbrev pub prefix_bad : ℕ → Result (File × ℕ) ℕ
prefix_bad k = Err k

-- a register, and how many bytes it has
pattern abbrev pub register_got : Place → ℕ → Result (Place × ℕ) ℕ
register_got x n = Ok (x, n)

-- the place of the first byte that is wrong
pattern abbrev pub register_bad : ℕ → Result (Place × ℕ) ℕ
register_bad k = Err k

unfoldable pub prefix_by : ℕ → ℕ → ℕ → Result (File × ℕ) ℕ
prefix_by a b c =
    cond (eqb a 37)
    (cond (eqb b 112) (prefix_got Preds 2)
    (cond (eqb b 114) (cond (eqb c 100) (prefix_got Doubles 3) (cond (eqb c 115) (prefix_got Halves 3) (prefix_got Words 2)))
    (prefix_bad 1)))
    (prefix_bad 0)

unfoldable pub register_from : File → ℕ → Result (ℕ × ℕ) ℕ → Result (Place × ℕ) ℕ
register_from f n (Ok (v, m)) = register_got (place_in f v) (n + m)
register_from f n (Err p) = register_bad (n + p)

unfoldable pub register_by : Result (File × ℕ) ℕ → List ℕ → Result (Place × ℕ) ℕ
register_by (Ok (f, n)) s = register_from f n (number_found (drop n s))
register_by (Err p) s = register_bad p

unfoldable pub register_of : List ℕ → Result (Place × ℕ) ℕ
register_of s = register_by (prefix_by (get_or s 0 0) (get_or s 1 0) (get_or s 2 0)) s
