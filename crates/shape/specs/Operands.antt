-- The operands at the front of a list, as the scanner finds them.
use Rattle.std.specs.Prelude.{ℕ, zero, suc, ◌+◌, ◌-◌, ◌≤◌, ◌<◌, ◌≡◌, refl, List, Bool, true, false, cond, leb, eqb, get_or, drop, set, replicate, Err, Ok, Result}
use Rattle.std.proofs.Common.{ap, ◌∙◌, arith}
use Rattle.signs.specs.Bytes.{is_blank}
use Rattle.tree.specs.Seen.{operands_kept, spare}
use Rattle.tree.specs.declared.Tree.{Tree}
use Rattle.tree.specs.declared.Slot.{Slot}
use Rattle.tree.specs.declared.Operands.{Operands}
use Rattle.scan.specs.Runs.{run_length, capped_sum}
use Rattle.scan.specs.RunLaws.{sum_is}
use Rattle.shape.specs.Operand.{operand_scanned}
use Rattle.shape.specs.Turns.{turns, most_turns}
use Rattle.shape.specs.TurnLaws.{no_turn}
use Rattle.shape.specs.declared.Divider.{Divider}
use Rattle.shape.specs.declared.Divider.TheVariants.{Comma, Semicolon}

abbrev pub no_operands : Operands
no_operands = record { n = 0; at = replicate operands_kept spare }

unfoldable pub pushed_tree : Operands → Tree → Operands
pushed_tree o t = record { n = capped_sum o.n 1; at = cond (leb operands_kept o.n) o.at (set o.at o.n (record { tree = t })) }

unfoldable pub divider_by : ℕ → ℕ → ℕ → Result Divider ℕ
divider_by n b m = cond (eqb b 44) (Ok (Comma (capped_sum (capped_sum n 1) m))) (cond (eqb b 59) (Ok (Semicolon (capped_sum n 1))) (Err n))

unfoldable pub divider_of : List ℕ → Result Divider ℕ
divider_of w = let sign = drop (run_length is_blank w) w in divider_by (run_length is_blank w) (get_or sign 0 0) (run_length is_blank (drop 1 sign))

-- How far the operands are read, as for a head.
-- The flags stay: `operands_end` says that no list is cut off in its turns.
pub record Listed : Type 0 where
  pub more : Bool
  pub good : Bool
  pub place : ℕ
  pub step : ℕ
  pub operands : Operands

abbrev pub start_list : Listed
start_list = record { more = true; good = false; place = 0; step = 0; operands = no_operands }

unfoldable pub divided_by : ℕ → Operands → ℕ → Result Divider ℕ → Listed
divided_by p o n (Ok (Comma m)) = record { more = true; good = false; place = capped_sum (capped_sum p n) m; step = capped_sum n m; operands = o }
divided_by p o n (Ok (Semicolon m)) = record { more = false; good = true; place = capped_sum (capped_sum p n) m; step = capped_sum n m; operands = o }
divided_by p o n (Err q) = record { more = false; good = false; place = capped_sum (capped_sum p n) q; step = 0; operands = o }

unfoldable pub operand_by : Listed → Result (Tree × ℕ) ℕ → List ℕ → Listed
operand_by st (Ok (t, n)) w = divided_by st.place (pushed_tree st.operands t) n (divider_of (drop n w))
operand_by st (Err p) w = record { more = false; good = false; place = capped_sum st.place p; step = 0; operands = st.operands }

unfoldable pub operand_turn : List ℕ → Listed → Listed
operand_turn w st = operand_by st (operand_scanned w) w

abbrev pub operand_turns : ℕ → List ℕ → Listed → Listed
operand_turns = turns (λ (st : Listed). st.more) (λ (st : Listed). st.step) operand_turn

unfoldable pub operands_scanned : List ℕ → Listed
operands_scanned s = operand_turns most_turns s start_list

-- whole operands with what ends them, and how many bytes they have; or the place of the first byte that is wrong
abbrev pub operands_read : Listed → Result (Operands × ℕ) ℕ
operands_read st = cond st.good (Ok (st.operands, st.place)) (Err st.place)

-- ==== the loop, turn by turn

-- what is left of a list with k turns left, after p bytes and the operands o
unfoldable pub list_left : ℕ → List ℕ → ℕ → Operands → Result (Operands × ℕ) ℕ
list_left k w p o = operands_read (operand_turns k w (record { more = true; good = false; place = p; step = 0; operands = o }))

-- after an operand of n bytes, by what divides it from the next
abbrev pub list_divided : ℕ → List ℕ → ℕ → Operands → ℕ → Result Divider ℕ → Result (Operands × ℕ) ℕ
list_divided k w p o n (Ok (Comma m)) = list_left k (drop (capped_sum n m) w) (capped_sum p m) o
list_divided k w p o n (Ok (Semicolon m)) = Ok (o, capped_sum p m)
list_divided k w p o n (Err q) = Err (capped_sum p q)

-- by the operand
abbrev pub list_by : ℕ → List ℕ → ℕ → Operands → Result (Tree × ℕ) ℕ → Result (Operands × ℕ) ℕ
list_by k w p o (Ok (t, n)) = list_divided k w (capped_sum p n) (pushed_tree o t) n (divider_of (drop n w))
list_by k w p o (Err q) = Err (capped_sum p q)

by_free : (w : List ℕ) (p s : ℕ) (o : Operands) (r : Result (Tree × ℕ) ℕ)
    → operand_by (record { more = true; good = false; place = p; step = s; operands = o }) r w ≡ operand_by (record { more = true; good = false; place = p; step = 0; operands = o }) r w
unfolding operand_by
by_free w p s o (Ok (t, n)) = refl
by_free w p s o (Err q) = refl

step_free : (k : ℕ) (w : List ℕ) (p s : ℕ) (o : Operands) → operands_read (operand_turns k w (record { more = true; good = false; place = p; step = s; operands = o })) ≡ list_left k w p o
unfolding list_left turns operand_turn
step_free zero w p s o = refl
step_free (suc k) w p s o = ap (λ (st : Listed). operands_read (operand_turns k (drop st.step w) st)) (by_free w p s o (operand_scanned w))

-- a turn that ends the loop, and one that goes on
ends : (k : ℕ) (w : List ℕ) (st : Listed) → st.more ≡ false → operands_read (operand_turns k (drop st.step w) st) ≡ operands_read st
ends k w st e = ap operands_read (no_turn (λ (x : Listed). x.more) (λ (x : Listed). x.step) operand_turn k (drop st.step w) st e)

turn_divided : (k : ℕ) (w : List ℕ) (p n : ℕ) (o : Operands) (d : Result Divider ℕ)
    → operands_read (operand_turns k (drop (divided_by p o n d).step w) (divided_by p o n d)) ≡ list_divided k w (capped_sum p n) o n d
unfolding divided_by
turn_divided k w p n o (Ok (Comma m)) = step_free k (drop (capped_sum n m) w) (capped_sum (capped_sum p n) m) (capped_sum n m) o
turn_divided k w p n o (Ok (Semicolon m)) = ends k w (record { more = false; good = true; place = capped_sum (capped_sum p n) m; step = capped_sum n m; operands = o }) refl
turn_divided k w p n o (Err q) = ends k w (record { more = false; good = false; place = capped_sum (capped_sum p n) q; step = 0; operands = o }) refl

turn_by : (k : ℕ) (w : List ℕ) (p : ℕ) (o : Operands) (r : Result (Tree × ℕ) ℕ)
    → let st = operand_by (record { more = true; good = false; place = p; step = 0; operands = o }) r w in operands_read (operand_turns k (drop st.step w) st) ≡ list_by k w p o r
unfolding operand_by
turn_by k w p o (Ok (t, n)) = turn_divided k w p n (pushed_tree o t) (divider_of (drop n w))
turn_by k w p o (Err q) = ends k w (record { more = false; good = false; place = capped_sum p q; step = 0; operands = o }) refl

one_turn : (k : ℕ) (w : List ℕ) (p : ℕ) (o : Operands) → list_left (suc k) w p o ≡ list_by k w p o (operand_scanned w)
unfolding list_left turns operand_turn
one_turn k w p o = turn_by k w p o (operand_scanned w)

-- before the first turn, in the turn after n others, after the last
pub list_starts : (s : List ℕ) → operands_read (operands_scanned s) ≡ list_left most_turns s 0 no_operands
unfolding operands_scanned list_left
list_starts s = refl

pub list_turns : (n : ℕ) (w : List ℕ) (p : ℕ) (o : Operands) → n < most_turns → list_left (most_turns - n) w p o ≡ list_by (most_turns - (n + 1)) w p o (operand_scanned w)
list_turns n w p o h =
    let k : most_turns - n ≡ suc (most_turns - (n + 1)) = omega arith in
    ap (λ (i : ℕ). list_left i w p o) k ∙ one_turn (most_turns - (n + 1)) w p o

pub list_ends : (n : ℕ) (w : List ℕ) (p : ℕ) (o : Operands) → most_turns ≤ n → list_left (most_turns - n) w p o ≡ Err p
unfolding list_left turns
list_ends n w p o h = let k : most_turns - n ≡ 0 = omega arith in rw k

-- an operand kept, before the turns run out
pub kept_tree : (n : ℕ) (at : List Slot) (t : Tree) → n < most_turns
    → pushed_tree (record { n = n; at = at }) t ≡ record { n = n + 1; at = cond (leb operands_kept n) at (set at n (record { tree = t })) }
unfolding pushed_tree
kept_tree n at t h = rw (sum_is n 1 (omega arith))

-- what read_operands is proved by
pub ruleset list_loop = (list_starts, list_turns, list_ends, kept_tree)
