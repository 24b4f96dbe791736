-- The number at the front of a list, as the scanner finds it.
use Rattle.std.specs.Prelude.{ℕ, ◌+◌, ◌*◌, ◌-◌, ◌%◌, List, cond, eqb, get_or, Result, Ok, Err}
use Rattle.signs.specs.Bytes.{is_digit}
use Rattle.scan.specs.Runs.{run_length}

abbrev pub digit_of : ℕ → ℕ
digit_of b = (b - 48) % 10

-- a number, and how many digits it has
pattern abbrev pub number_got : ℕ → ℕ → Result (ℕ × ℕ) ℕ
number_got x n = Ok (x, n)

-- the place of the first byte that is wrong
pattern abbrev pub number_bad : ℕ → Result (ℕ × ℕ) ℕ
number_bad k = Err k

unfoldable pub number_by : ℕ → ℕ → ℕ → ℕ → Result (ℕ × ℕ) ℕ
number_by n a b c =
    cond (eqb n 0) (number_bad 0)
    (cond (eqb a 0) (cond (eqb n 1) (number_got 0 1) (number_bad 1))
    (cond (eqb n 1) (number_got a 1)
    (cond (eqb n 2) (number_got (10 * a + b) 2)
    (cond (eqb n 3) (number_got (100 * a + 10 * b + c) 3)
    (number_bad 3)))))

unfoldable pub number_found : List ℕ → Result (ℕ × ℕ) ℕ
number_found s = number_by (run_length is_digit s) (digit_of (get_or s 0 0)) (digit_of (get_or s 1 0)) (digit_of (get_or s 2 0))
