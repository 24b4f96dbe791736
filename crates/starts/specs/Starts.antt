-- Where the pieces of a line start, as the code finds it. No one has to believe it: laws join it to the tree.
use Rattle.std.specs.Prelude.{ℕ, zero, suc, ◌+◌, ◌-◌, ◌≤◌, ◌<◌, ◌≡◌, refl, List, Bool, true, false, cond, eqb, get_or, drop, Err, Ok, Result}
use Rattle.std.proofs.Common.{arith, ap, ◌∙◌}
use Rattle.signs.specs.Bytes.{is_blank, is_name_byte}
use Rattle.scan.specs.Runs.{run_length, capped_sum}
use Rattle.shape.specs.Guard.{guard_of}
use Rattle.shape.specs.Operand.{operand_scanned}
use Rattle.shape.specs.Operands.{divider_of}
use Rattle.shape.specs.declared.Divider.{Divider}
use Rattle.shape.specs.declared.Divider.TheVariants.{Comma, Semicolon}
use Rattle.starts.specs.Without.{without}
use Rattle.starts.specs.declared.Next.{Next}
use Rattle.starts.specs.declared.Next.TheVariants.{Operand, End}
use Rattle.tree.specs.declared.Guarding.{Guarding}
use Rattle.tree.specs.declared.Tree.{Tree}

unfoldable pub guard_end : ℕ → Result (Guarding × ℕ) ℕ → ℕ
guard_end n (Ok (g, m)) = capped_sum n m
guard_end n (Err q) = n

unfoldable pub head_at : List ℕ → ℕ
head_at s = let n = run_length is_blank s in guard_end n (guard_of (drop n s))

-- the k-th name from here on, after p bytes
unfoldable pub name_from : ℕ → ℕ → List ℕ → ℕ
name_from p zero w = p
name_from p (suc k) w = let m = run_length is_name_byte w in cond (eqb (get_or w m 0) 46) (name_from (capped_sum p (capped_sum m 1)) k (drop (capped_sum m 1) w)) (capped_sum p m)

-- ---- one turn of the loop

pub name_done : (p k : ℕ) (w : List ℕ) → k ≤ 0 → name_from p k w ≡ p
unfolding name_from
name_done p zero w h = refl
name_done p (suc k) w h = absurd (omega arith)

pub name_stops : (p k m b : ℕ) (w : List ℕ) → 0 < k → m ≡ run_length is_name_byte w → b ≡ get_or w m 0 → eqb b 46 ≡ false → name_from p k w ≡ capped_sum p m
unfolding name_from
name_stops p zero m b w h e f g = absurd (omega arith)
name_stops p (suc k) m b w h e f g = rw (← e, ← f, g)

pub name_goes : (p k m b n q : ℕ) (w v : List ℕ) → 0 < k → m ≡ run_length is_name_byte w → b ≡ get_or w m 0 → eqb b 46 ≡ true → n ≡ capped_sum m 1 → v ≡ drop n w → q ≡ capped_sum p n → name_from p k w ≡ name_from q (k - 1) v
unfolding name_from
name_goes p zero m b n q w v h e f g i j l = absurd (omega arith)
name_goes p (suc k) m b n q w v h e f g i j l =
    let z : suc k - 1 ≡ k = omega arith in
    rw (← e, ← f, g, ← i, ← j, ← l, z)

-- ---- the loop, turn by turn: by the length of the name, with k turns left after this one

abbrev pub name_by : ℕ → ℕ → List ℕ → ℕ → ℕ
name_by p k w m = let n = capped_sum m 1 in cond (eqb (get_or w m 0) 46) (name_from (capped_sum p n) k (drop n w)) (capped_sum p m)

pub name_turns : (p k i : ℕ) (w : List ℕ) → i < k → name_from p (k - i) w ≡ name_by p (k - (i + 1)) w (run_length is_name_byte w)
unfolding name_from
name_turns p k i w h =
    let e : k - i ≡ suc (k - (i + 1)) = omega arith in
    ap (λ (j : ℕ). name_from p j w) e

pub name_ends : (p k i : ℕ) (w : List ℕ) → k ≤ i → name_from p (k - i) w ≡ p
name_ends p k i w h = name_done p (k - i) w (omega arith)

-- what name_start is proved by
pub ruleset name_loop = (name_turns, name_ends)

-- ==== operands

unfoldable pub operands_at : List ℕ → ℕ
operands_at s =
    let h = head_at s in
    let w = drop h s in
    let n = name_from 0 160 w in
    capped_sum (capped_sum h n) (run_length is_blank (drop n w))

unfoldable pub next_by : ℕ → Result Divider ℕ → Next
next_by n (Ok (Comma m)) = Operand (capped_sum n m)
next_by n (Ok (Semicolon m)) = End n
next_by n (Err q) = End n

unfoldable pub next_of : Result (Tree × ℕ) ℕ → List ℕ → Next
next_of (Ok (o, n)) w = next_by n (divider_of (drop n w))
next_of (Err q) w = End 0

unfoldable pub next_at : List ℕ → Next
next_at w = next_of (operand_scanned w) w

-- whether another operand follows, and the bytes up to it or of the last one
abbrev pub goes : Next → Bool
goes (Operand n) = true
goes (End n) = false

abbrev pub taken : Next → ℕ
taken (Operand n) = n
taken (End n) = n

-- the k-th operand from here on, after p bytes
unfoldable pub operand_from : ℕ → ℕ → List ℕ → ℕ
operand_from p zero w = p
operand_from p (suc k) w = let n = next_at w in cond (goes n) (operand_from (capped_sum p (taken n)) k (drop (taken n) w)) (capped_sum p (taken n))

pub operand_done : (p k : ℕ) (w : List ℕ) → k ≤ 0 → operand_from p k w ≡ p
unfolding operand_from
operand_done p zero w h = refl
operand_done p (suc k) w h = absurd (omega arith)

pub operand_stops : (p k n : ℕ) (w : List ℕ) → 0 < k → next_at w ≡ End n → operand_from p k w ≡ capped_sum p n
unfolding operand_from
operand_stops p zero n w h e = absurd (omega arith)
operand_stops p (suc k) n w h e = rw e

pub operand_goes : (p k q n : ℕ) (w v : List ℕ) → 0 < k → next_at w ≡ Operand n → v ≡ drop n w → q ≡ capped_sum p n → operand_from p k w ≡ operand_from q (k - 1) v
unfolding operand_from
operand_goes p zero q n w v h e g i = absurd (omega arith)
operand_goes p (suc k) q n w v h e g i =
    let z : suc k - 1 ≡ k = omega arith in
    rw (e, g, i, z)

-- ---- the loop, turn by turn: by what follows, with k turns left after this one

abbrev pub operand_by : ℕ → ℕ → List ℕ → Next → ℕ
operand_by p k w (Operand n) = operand_from (capped_sum p n) k (drop n w)
operand_by p k w (End n) = capped_sum p n

one_turn : (p k : ℕ) (w : List ℕ) → operand_from p (suc k) w ≡ operand_by p k w (next_at w)
unfolding operand_from
one_turn p k w = go (next_at w)
  where
    go : (n : Next) → cond (goes n) (operand_from (capped_sum p (taken n)) k (drop (taken n) w)) (capped_sum p (taken n)) ≡ operand_by p k w n
    go (Operand n) = refl
    go (End n) = refl

pub operand_turns : (p k i : ℕ) (w : List ℕ) → i < k → operand_from p (k - i) w ≡ operand_by p (k - (i + 1)) w (next_at w)
operand_turns p k i w h =
    let e : k - i ≡ suc (k - (i + 1)) = omega arith in
    ap (λ (j : ℕ). operand_from p j w) e ∙ one_turn p (k - (i + 1)) w

pub operand_ends : (p k i : ℕ) (w : List ℕ) → k ≤ i → operand_from p (k - i) w ≡ p
operand_ends p k i w h = operand_done p (k - i) w (omega arith)

-- what operand_start is proved by
pub ruleset operand_loop = (operand_turns, operand_ends)

-- ==== the second place of a pair

abbrev pub not_bar : ℕ → Bool
not_bar = without 124

unfoldable pub bar_at : List ℕ → ℕ
bar_at s = capped_sum (run_length not_bar s) 1
