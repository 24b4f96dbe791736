-- One turn of the scanner apart from the names and operands that it leaves, and that a whole line is read to its end. Laws of crate shape that its code
-- needs no longer.
use Rattle.std.specs.Prelude.{ℕ, ◌≤◌, ◌≡◌, refl, List, Bool, true, false, cond, eqb, ltb, length, drop, is_ok, Result, Ok, Err}
use Rattle.std.proofs.Common.{arith, ap, sym, ltb-false}
use Rattle.base.specs.Pairs.{ok_pair}
use Rattle.signs.specs.Bytes.{is_blank}
use Rattle.scan.specs.Runs.{run_length, capped_sum}
use Rattle.tree.specs.declared.Head.{Head}
use Rattle.tree.specs.declared.Tree.{Tree}
use Rattle.tree.specs.declared.Operands.{Operands}
use Rattle.tree.specs.declared.Parts.{Parts}
use Rattle.shape.specs.declared.Divider.{Divider}
use Rattle.shape.specs.declared.Divider.TheVariants.{Comma, Semicolon}
use Rattle.shape.specs.Head.{Names, pushed_name, name_by}
use Rattle.shape.specs.Operands.{Listed, pushed_tree, divider_of, divided_by, operand_by}
use Rattle.shape.specs.Line.{from_end, stopped_at}

pub record Turn : Type 0 where
  pub more : Bool
  pub good : Bool
  pub place : ℕ
  pub step : ℕ

abbrev pub turn : Bool → Bool → ℕ → ℕ → Turn
turn more good place step = record { more = more; good = good; place = place; step = step }

abbrev pub names_by : Turn → Head → Names
names_by t h = record { more = t.more; good = t.good; place = t.place; step = t.step; head = h }

abbrev pub turn_named : ℕ → ℕ → ℕ → Turn
turn_named p n b =
    cond (eqb n 0) (turn false false p 0)
    (cond (eqb b 46) (turn true false (capped_sum (capped_sum p n) 1) (capped_sum n 1))
    (turn false true (capped_sum p n) n))

-- no name, and a name
pub none_apart : (st : Names) (n b code : ℕ) → eqb n 0 ≡ true → name_by st n b code ≡ names_by (turn_named st.place n b) st.head
unfolding name_by
none_apart st n b code e = rw e refl

pub name_apart : (st : Names) (n b code : ℕ) → eqb n 0 ≡ false → name_by st n b code ≡ names_by (turn_named st.place n b) (pushed_name st.head code)
unfolding name_by
name_apart st n b code e = rw e (go (eqb b 46))
  where
    longer : Head
    longer = pushed_name st.head code

    go : (d : Bool)
        → cond d (names_by (turn true false (capped_sum (capped_sum st.place n) 1) (capped_sum n 1)) longer) (names_by (turn false true (capped_sum st.place n) n) longer)
        ≡ names_by (cond d (turn true false (capped_sum (capped_sum st.place n) 1) (capped_sum n 1)) (turn false true (capped_sum st.place n) n)) longer
    go true = refl
    go false = refl

abbrev pub listed_by : Turn → Operands → Listed
listed_by t o = record { more = t.more; good = t.good; place = t.place; step = t.step; operands = o }

abbrev pub turn_divided : ℕ → ℕ → Result Divider ℕ → Turn
turn_divided p n (Ok (Comma m)) = turn true false (capped_sum (capped_sum p n) m) (capped_sum n m)
turn_divided p n (Ok (Semicolon m)) = turn false true (capped_sum (capped_sum p n) m) (capped_sum n m)
turn_divided p n (Err q) = turn false false (capped_sum (capped_sum p n) q) 0

abbrev pub turn_by : ℕ → Result (Tree × ℕ) ℕ → List ℕ → Turn
turn_by p (Ok (t, n)) w = turn_divided p n (divider_of (drop n w))
turn_by p (Err q) w = turn false false (capped_sum p q) 0

divided_apart : (p : ℕ) (o : Operands) (n : ℕ) (d : Result Divider ℕ) → divided_by p o n d ≡ listed_by (turn_divided p n d) o
unfolding divided_by
divided_apart p o n (Ok (Comma m)) = refl
divided_apart p o n (Ok (Semicolon m)) = refl
divided_apart p o n (Err q) = refl

pub got_apart : (st : Listed) (t : Tree) (n : ℕ) (w : List ℕ) → operand_by st (Ok (t, n)) w ≡ listed_by (turn_by st.place (Ok (t, n)) w) (pushed_tree st.operands t)
unfolding operand_by
got_apart st t n w = divided_apart st.place (pushed_tree st.operands t) n (divider_of (drop n w))

pub bad_apart : (st : Listed) (q : ℕ) (w : List ℕ) → operand_by st (Err q) w ≡ listed_by (turn_by st.place (Err q) w) st.operands
unfolding operand_by
bad_apart st q w = refl

-- ==== the end of a whole line

never : {A : Type 0} (k n : ℕ) (y : Parts) → ◌≡◌ {A = Result (Parts × ℕ) ℕ} (Err k) (Ok (y, n)) → A
never k n y e = let z : false ≡ true = ap is_ok e in let m : ◌≡◌ {A = ℕ} 0 1 = cc in absurd (omega arith)

-- behind its semicolon it is blank to the end, and the place to which it is read is behind these blanks
pub end_reached : (p n : ℕ) (x y : Parts) (w : List ℕ) → from_end p x w ≡ Ok (y, n)
    → (length w ≤ run_length is_blank w) × (n ≡ capped_sum p (run_length is_blank w))
unfolding from_end
end_reached p n x y w e = go (ltb (run_length is_blank w) (length w)) refl e
  where
    end : ℕ
    end = capped_sum p (run_length is_blank w)

    go : (b : Bool) → ltb (run_length is_blank w) (length w) ≡ b → cond b (stopped_at end) (Ok (x, end)) ≡ Ok (y, n)
        → (length w ≤ run_length is_blank w) × (n ≡ end)
    go true h f = never _ n y f
    go false h f = (ltb-false (run_length is_blank w) (length w) h, sym (ok_pair f).1)
