-- The operand at the front of a list, as the scanner finds it.
use Rattle.std.specs.Prelude.{ℕ, ◌+◌, List, cond, eqb, get_or, drop, take, Err, Ok, Result}
use Rattle.signs.specs.Bytes.{is_name_byte}
use Rattle.base.specs.Pack.{code_of}
use Rattle.scan.specs.Runs.{run_length, capped_sum}
use Rattle.scan.specs.Registers.{register_of}
use Rattle.tree.specs.declared.Place.{Place}
use Rattle.tree.specs.declared.Spot.{Spot}
use Rattle.tree.specs.declared.Spot.TheVariants.{At, Nothing}
use Rattle.tree.specs.declared.Tree.TheVariants.{Inverted, Pair, Bare, Part}
use Rattle.tree.specs.declared.Tree.{Tree}

-- an operand, and how many bytes it has
pattern abbrev pub operand_got : Tree → ℕ → Result (Tree × ℕ) ℕ
operand_got x n = Ok (x, n)

-- the place of the first byte that is wrong
pattern abbrev pub operand_bad : ℕ → Result (Tree × ℕ) ℕ
operand_bad k = Err k

unfoldable pub inverted_by : Result (Place × ℕ) ℕ → Result (Tree × ℕ) ℕ
inverted_by (Ok (p, n)) = operand_got (Inverted p) (n + 1)
inverted_by (Err q) = operand_bad (q + 1)

unfoldable pub second_by : Spot → ℕ → Result (Place × ℕ) ℕ → Result (Tree × ℕ) ℕ
second_by p n (Ok (q, m)) = operand_got (Pair p (At q)) (n + m)
second_by p n (Err q) = operand_bad (n + q)

unfoldable pub second_of : Spot → ℕ → List ℕ → Result (Tree × ℕ) ℕ
second_of p n s = cond (eqb (get_or (drop n s) 0 0) 95) (operand_got (Pair p Nothing) (n + 1)) (second_by p n (register_of (drop n s)))

unfoldable pub part_of : Place → ℕ → List ℕ → Result (Tree × ℕ) ℕ
part_of p n s =
    let w = drop n s in
    let m = run_length is_name_byte w in
    cond (eqb m 0) (operand_bad n) (operand_got (Part p (code_of (take m w))) (capped_sum n m))

unfoldable pub after_by : Place → ℕ → ℕ → List ℕ → Result (Tree × ℕ) ℕ
after_by p n b s = cond (eqb b 124) (second_of (At p) (n + 1) s) (cond (eqb b 46) (part_of p (n + 1) s) (operand_got (Bare p) n))

unfoldable pub first_of : Result (Place × ℕ) ℕ → List ℕ → Result (Tree × ℕ) ℕ
first_of (Ok (p, n)) s = after_by p n (get_or s n 0) s
first_of (Err q) s = operand_bad q

unfoldable pub operand_scanned : List ℕ → Result (Tree × ℕ) ℕ
operand_scanned s =
    cond (eqb (get_or s 0 0) 33) (inverted_by (register_of (drop 1 s)))
    (cond (eqb (get_or s 0 0) 95) (cond (eqb (get_or s 1 0) 124) (second_of Nothing 2 s) (operand_bad 1))
    (first_of (register_of s) s))
