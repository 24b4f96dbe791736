-- The guard at the front of a list, as the scanner finds it.
use Rattle.std.specs.Prelude.{ℕ, ◌+◌, List, Bool, true, false, cond, eqb, get_or, drop, Err, Result, Ok}
use Rattle.signs.specs.Bytes.{is_blank}
use Rattle.tree.specs.declared.Guarding.TheVariants.{Unguarded, Guarded}
use Rattle.scan.specs.Runs.{run_length, capped_sum}
use Rattle.scan.specs.Registers.{register_got, register_of}
use Rattle.tree.specs.declared.Guarding.{Guarding}
use Rattle.tree.specs.declared.Place.{Place}

-- a guard with the blanks behind it, and how many bytes they have
pattern abbrev pub guard_got : Guarding → ℕ → Result (Guarding × ℕ) ℕ
guard_got x n = Ok (x, n)

-- the place of the first byte that is wrong
pattern abbrev pub guard_bad : ℕ → Result (Guarding × ℕ) ℕ
guard_bad k = Err k

unfoldable pub guard_by : Bool → ℕ → Result (Place × ℕ) ℕ → List ℕ → Result (Guarding × ℕ) ℕ
guard_by negated n (register_got p m) w =
    let blanks = run_length is_blank (drop m w) in
    cond (eqb blanks 0) (guard_bad (n + m)) (guard_got (Guarded negated p) (capped_sum (n + m) blanks))
guard_by negated n (Err q) w = guard_bad (n + q)

unfoldable pub guard_of : List ℕ → Result (Guarding × ℕ) ℕ
guard_of w =
    cond (eqb (get_or w 0 0) 64)
    (cond (eqb (get_or w 1 0) 33) (guard_by true 2 (register_of (drop 2 w)) (drop 2 w)) (guard_by false 1 (register_of (drop 1 w)) (drop 1 w)))
    (guard_got Unguarded 0)
