-- The limit of turns is never reached: of a line of at most 160 bytes every loop ends by itself.
use Rattle.std.specs.Prelude.{ℕ, ◌≤◌, ◌<◌, ◌≡◌, refl, List, [], ◌∷◌, Bool, true, false, cond, eqb, length, get_or, drop, take, Err, Ok, Result}
use Rattle.std.proofs.Common.{sym, ◌∙◌, arith, length-drop}
use Rattle.signs.specs.Bytes.{is_blank, is_name_byte}
use Rattle.base.specs.Pack.{code_of}
use Rattle.tree.specs.declared.Head.{Head}
use Rattle.tree.specs.declared.Operands.{Operands}
use Rattle.scan.specs.Runs.{run_length, capped_sum}
use Rattle.scan.specs.RunLaws.{not_so, sum_some}
use Rattle.scan.specs.Registers.{prefix_by, register_by, register_of}
use Rattle.shape.specs.Turns.{most_turns}
use Rattle.shape.specs.TurnLaws.{enough}
use Rattle.shape.specs.Operand.{operand_bad, first_of, operand_scanned}
use Rattle.shape.specs.Head.{Names, start_names, pushed_name, name_by, name_turn, head_of}
use Rattle.shape.specs.HeadLaws as head
use Rattle.shape.specs.Operands.{Listed, pushed_tree, start_list, divider_by, divider_of, divided_by, operand_by, operand_turn, operands_scanned}
use Rattle.shape.specs.ListLaws as list
use Rattle.shape.specs.declared.Divider.{Divider}
use Rattle.shape.specs.declared.Divider.TheVariants as divider
use Rattle.tree.specs.declared.Tree.{Tree}

-- a step into a list leaves less of it
shorter : (x : ℕ) (w : List ℕ) (n : ℕ) → 0 < n → length (drop n (x ∷ w)) < length (x ∷ w)
shorter x w n h = omega (arith, length-drop n (x ∷ w))

-- ---- names

by_less : (st : Names) (n b c x : ℕ) (w : List ℕ) → (name_by st n b c).more ≡ true → length (drop (name_by st n b c).step (x ∷ w)) < length (x ∷ w)
unfolding name_by
by_less st n b c x w e = go (eqb n 0) (eqb b 46) e
  where
    longer : Head
    longer = pushed_name st.head c

    end : ℕ
    end = capped_sum st.place n

    result : Bool → Bool → Names
    result t u =
        cond t (record { more = false; good = false; place = st.place; step = 0; head = st.head })
        (cond u (record { more = true; good = false; place = capped_sum end 1; step = capped_sum n 1; head = longer }) (record { more = false; good = true; place = end; step = n; head = longer }))

    go : (t u : Bool) → (result t u).more ≡ true → length (drop (result t u).step (x ∷ w)) < length (x ∷ w)
    go true u f = not_so f
    go false true f = shorter x w (capped_sum n 1) (sum_some n 1 (omega arith))
    go false false f = not_so f

name_less : (w : List ℕ) (st : Names) → (name_turn w st).more ≡ true → length (drop (name_turn w st).step w) < length w
unfolding name_turn name_by
name_less [] st e = not_so e
name_less (x ∷ w) st e = let n = run_length is_name_byte (x ∷ w) in by_less st n (get_or (x ∷ w) n 0) (code_of (take n (x ∷ w))) x w e

pub head_ends : (w : List ℕ) → length w ≤ 160 → (head_of w).more ≡ false
unfolding head_of
head_ends w m = enough head.going head.took name_turn name_less most_turns w start_names (omega arith)

-- ---- operands

divider_some : (r : List ℕ) (m : ℕ) → divider_of r ≡ Ok (divider.Comma m) → 0 < m
unfolding divider_of divider_by
divider_some r m e = go (eqb b 44) (eqb b 59) e
  where
    n : ℕ
    n = run_length is_blank r

    b : ℕ
    b = get_or (drop n r) 0 0

    k : ℕ
    k = run_length is_blank (drop 1 (drop n r))

    go : (t u : Bool) → ◌≡◌ {A = Result Divider ℕ} (cond t (Ok (divider.Comma (capped_sum (capped_sum n 1) k))) (cond u (Ok (divider.Semicolon (capped_sum n 1))) (Err n))) (Ok (divider.Comma m)) → 0 < m
    go true u f =
        let q : capped_sum (capped_sum n 1) k ≡ m = cc in
        let i = sum_some n 1 (omega arith) in
        let j = sum_some (capped_sum n 1) k (omega arith) in
        omega arith
    go false true f = let z : ◌≡◌ {A = ℕ} 0 1 = cc in absurd (omega arith)
    go false false f = let z : ◌≡◌ {A = ℕ} 0 1 = cc in absurd (omega arith)

divided_less : (p : ℕ) (o : Operands) (n : ℕ) (r : List ℕ) (d : Result Divider ℕ) → divider_of r ≡ d → (x : ℕ) (w : List ℕ) → (divided_by p o n d).more ≡ true → length (drop (divided_by p o n d).step (x ∷ w)) < length (x ∷ w)
unfolding divided_by
divided_less p o n r (Ok (divider.Comma m)) q x w e = let i = divider_some r m q in shorter x w (capped_sum n m) (sum_some n m (omega arith))
divided_less p o n r (Ok (divider.Semicolon m)) q x w e = not_so e
divided_less p o n r (Err m) q x w e = not_so e

read_less : (st : Listed) (x : ℕ) (w : List ℕ) (r : Result (Tree × ℕ) ℕ) → (operand_by st r (x ∷ w)).more ≡ true → length (drop (operand_by st r (x ∷ w)).step (x ∷ w)) < length (x ∷ w)
unfolding operand_by
read_less st x w (Ok (t, n)) e = divided_less st.place (pushed_tree st.operands t) n (drop n (x ∷ w)) (divider_of (drop n (x ∷ w))) refl x w e
read_less st x w (Err p) e = not_so e

nothing_read : operand_scanned [] ≡ operand_bad 0
unfolding operand_scanned first_of register_of register_by prefix_by
nothing_read = refl

nothing_stops : (st : Listed) (r : Result (Tree × ℕ) ℕ) → r ≡ operand_bad 0 → (operand_by st r []).more ≡ false
unfolding operand_by
nothing_stops st r e = rw e

operand_less : (w : List ℕ) (st : Listed) → (operand_turn w st).more ≡ true → length (drop (operand_turn w st).step w) < length w
unfolding operand_turn
operand_less [] st e = not_so (sym (nothing_stops st (operand_scanned []) nothing_read) ∙ e)
operand_less (x ∷ w) st e = read_less st x w (operand_scanned (x ∷ w)) e

pub operands_end : (w : List ℕ) → length w ≤ 160 → (operands_scanned w).more ≡ false
unfolding operands_scanned
operands_end w m = enough list.going list.took operand_turn operand_less most_turns w start_list (omega arith)
