-- The head at the front of a list, as the scanner finds it.
use Rattle.std.specs.Prelude.{ℕ, zero, suc, ◌+◌, ◌-◌, ◌≤◌, ◌<◌, ◌≡◌, refl, List, Bool, true, false, cond, leb, eqb, get_or, take, drop, set, replicate, Result, Ok, Err}
use Rattle.std.proofs.Common.{ap, ◌∙◌, arith}
use Rattle.signs.specs.Bytes.{is_name_byte}
use Rattle.base.specs.Pack.{code_of}
use Rattle.tree.specs.Seen.{names_kept}
use Rattle.tree.specs.declared.Head.{Head}
use Rattle.scan.specs.Runs.{run_length, capped_sum}
use Rattle.scan.specs.RunLaws.{sum_is}
use Rattle.shape.specs.Turns.{turns, most_turns}
use Rattle.shape.specs.TurnLaws.{no_turn}

abbrev pub no_head : Head
no_head = record { n = 0; at = replicate names_kept 0 }

unfoldable pub pushed_name : Head → ℕ → Head
pushed_name h code = record { n = capped_sum h.n 1; at = cond (leb names_kept h.n) h.at (set h.at h.n code) }

-- How far a head is read, and its names: `place` bytes, `step` of them in the last turn; `more` while a name must follow, `good` once it is whole.
-- The flags stay: `head_ends` says that no head is cut off in its turns.
pub record Names : Type 0 where
  pub more : Bool
  pub good : Bool
  pub place : ℕ
  pub step : ℕ
  pub head : Head

abbrev pub start_names : Names
start_names = record { more = true; good = false; place = 0; step = 0; head = no_head }

unfoldable pub name_by : Names → ℕ → ℕ → ℕ → Names
name_by st n b code =
    let longer = pushed_name st.head code in
    let end = capped_sum st.place n in
    cond (eqb n 0) (record { more = false; good = false; place = st.place; step = 0; head = st.head })
    (cond (eqb b 46) (record { more = true; good = false; place = capped_sum end 1; step = capped_sum n 1; head = longer })
    (record { more = false; good = true; place = end; step = n; head = longer }))

unfoldable pub name_turn : List ℕ → Names → Names
name_turn w st = let n = run_length is_name_byte w in name_by st n (get_or w n 0) (code_of (take n w))

abbrev pub name_turns : ℕ → List ℕ → Names → Names
name_turns = turns (λ (st : Names). st.more) (λ (st : Names). st.step) name_turn

unfoldable pub head_of : List ℕ → Names
head_of s = name_turns most_turns s start_names

-- a whole head, and how many bytes it has; or the place of the first byte that is wrong
abbrev pub head_read : Names → Result (Head × ℕ) ℕ
head_read st = cond st.good (Ok (st.head, st.place)) (Err st.place)

-- ==== the loop, turn by turn

-- what is left of a head with k turns left, after p bytes and the names h
unfoldable pub head_left : ℕ → List ℕ → ℕ → Head → Result (Head × ℕ) ℕ
head_left k w p h = head_read (name_turns k w (record { more = true; good = false; place = p; step = 0; head = h }))

-- by the length of the name and the byte after it
abbrev pub head_by : ℕ → List ℕ → ℕ → Head → ℕ → ℕ → Result (Head × ℕ) ℕ
head_by k w p h n b =
    let longer = pushed_name h (code_of (take n w)) in
    cond (eqb n 0) (Err p) (cond (eqb b 46) (head_left k (drop (capped_sum n 1) w) (capped_sum (capped_sum p n) 1) longer) (Ok (longer, capped_sum p n)))

step_free : (k : ℕ) (w : List ℕ) (p s : ℕ) (h : Head) → head_read (name_turns k w (record { more = true; good = false; place = p; step = s; head = h })) ≡ head_left k w p h
unfolding head_left turns name_turn name_by
step_free zero w p s h = refl
step_free (suc k) w p s h = refl

-- a turn that ends the loop, and one that goes on
ends : (k : ℕ) (w : List ℕ) (st : Names) → st.more ≡ false → head_read (name_turns k (drop st.step w) st) ≡ head_read st
ends k w st e = ap head_read (no_turn (λ (x : Names). x.more) (λ (x : Names). x.step) name_turn k (drop st.step w) st e)

turn_by : (k : ℕ) (w : List ℕ) (p n b : ℕ) (h : Head)
    → let st = name_by (record { more = true; good = false; place = p; step = 0; head = h }) n b (code_of (take n w)) in head_read (name_turns k (drop st.step w) st) ≡ head_by k w p h n b
unfolding name_by
turn_by k w p n b h = go (eqb n 0) (eqb b 46)
  where
    longer : Head
    longer = pushed_name h (code_of (take n w))

    after : Bool → Bool → Names
    after t u =
        cond t (record { more = false; good = false; place = p; step = 0; head = h })
        (cond u (record { more = true; good = false; place = capped_sum (capped_sum p n) 1; step = capped_sum n 1; head = longer }) (record { more = false; good = true; place = capped_sum p n; step = n; head = longer }))

    go : (t u : Bool) → head_read (name_turns k (drop (after t u).step w) (after t u))
        ≡ cond t (Err p) (cond u (head_left k (drop (capped_sum n 1) w) (capped_sum (capped_sum p n) 1) longer) (Ok (longer, capped_sum p n)))
    go true u = ends k w (record { more = false; good = false; place = p; step = 0; head = h }) refl
    go false true = step_free k (drop (capped_sum n 1) w) (capped_sum (capped_sum p n) 1) (capped_sum n 1) longer
    go false false = ends k w (record { more = false; good = true; place = capped_sum p n; step = n; head = longer }) refl

one_turn : (k : ℕ) (w : List ℕ) (p : ℕ) (h : Head) → let n = run_length is_name_byte w in head_left (suc k) w p h ≡ head_by k w p h n (get_or w n 0)
unfolding head_left turns name_turn
one_turn k w p h = let n = run_length is_name_byte w in turn_by k w p n (get_or w n 0) h

-- before the first turn, in the turn after n others, after the last
pub names_start : (s : List ℕ) → head_read (head_of s) ≡ head_left most_turns s 0 no_head
unfolding head_of head_left
names_start s = refl

pub names_turn : (n : ℕ) (w : List ℕ) (p : ℕ) (h : Head) → n < most_turns
    → let m = run_length is_name_byte w in head_left (most_turns - n) w p h ≡ head_by (most_turns - (n + 1)) w p h m (get_or w m 0)
names_turn n w p h i =
    let k : most_turns - n ≡ suc (most_turns - (n + 1)) = omega arith in
    ap (λ (j : ℕ). head_left j w p h) k ∙ one_turn (most_turns - (n + 1)) w p h

pub names_end : (n : ℕ) (w : List ℕ) (p : ℕ) (h : Head) → most_turns ≤ n → head_left (most_turns - n) w p h ≡ Err p
unfolding head_left turns
names_end n w p h i = let k : most_turns - n ≡ 0 = omega arith in rw k

-- a name kept, before the turns run out
pub kept_name : (n : ℕ) (at : List ℕ) (c : ℕ) → n < most_turns → pushed_name (record { n = n; at = at }) c ≡ record { n = n + 1; at = cond (leb names_kept n) at (set at n c) }
unfolding pushed_name
kept_name n at c h = rw (sum_is n 1 (omega arith))

-- what read_head is proved by
pub ruleset names_loop = (names_start, names_turn, names_end, kept_name)
