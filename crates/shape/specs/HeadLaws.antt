-- Every head's text is read as its names.
use Rattle.std.specs.Prelude.{ℕ, suc, zero, ◌+◌, ◌≤◌, ◌<◌, ◌≡◌, refl, List, [], ◌∷◌, ◌++◌, Bool, true, false, eqb, length, get_or}
use Rattle.std.proofs.Common.{ap, ◌∙◌, append_assoc, arith, ne_eqb, length-append}
use Rattle.std.proofs.Math.Seq.{take-append_seam}
use Rattle.signs.specs.Bytes.{is_name_byte}
use Rattle.base.specs.Pack.{code_of}
use Rattle.rules.specs.Shape.{Name, dotted, head_text}
use Rattle.rules.specs.Grammar.{GoodName, GoodNames}
use Rattle.rules.specs.Grammar.GoodNames.{none, more}
use Rattle.tree.specs.Seen.{seen_head}
use Rattle.tree.specs.declared.Head.{Head}
use Rattle.scan.specs.Runs.{most}
use Rattle.scan.specs.RunLaws.{Stops, run_all_lem, seam, past_seam, sum_is}
use Rattle.shape.specs.Turns.{most_turns}
use Rattle.shape.specs.TurnLaws.{next_turn, last_turn}
use Rattle.shape.specs.Head.{Names, no_head, pushed_name, name_by, name_turn, name_turns, head_of}
use Rattle.shape.specs.KeptLaws.{kept_names, kept_names_lem}

-- a name must follow; the head is whole
abbrev pub on : ℕ → ℕ → Head → Names
on p s h = record { more = true; good = false; place = p; step = s; head = h }

abbrev pub over : ℕ → ℕ → Head → Names
over p s h = record { more = false; good = true; place = p; step = s; head = h }

turn_name : (n : Name) (r : List ℕ) (st : Names) → GoodName n → Stops is_name_byte r → name_turn (n ++ r) st ≡ name_by st (length n) (get_or r 0 0) (code_of n)
unfolding name_turn
turn_name n r st g z = rw (run_all_lem is_name_byte r g.all z, seam n r, take-append_seam n r)

by_last : (p s : ℕ) (h : Head) (n b c : ℕ) → 0 < n → eqb b 46 ≡ false → p + n ≤ most → name_by (on p s h) n b c ≡ over (p + n) n (pushed_name h c)
unfolding name_by
by_last p s h n b c k e m = rw (ne_eqb n 0 (λ q. omega arith), e, sum_is p n m)

by_dot : (p s : ℕ) (h : Head) (n c : ℕ) → 0 < n → p + n + 1 ≤ most → name_by (on p s h) n 46 c ≡ on (p + n + 1) (n + 1) (pushed_name h c)
unfolding name_by
by_dot p s h n c k m = rw (ne_eqb n 0 (λ q. omega arith), sum_is p n (omega arith), sum_is (p + n) 1 m, sum_is n 1 (omega arith))

abbrev pub going : Names → Bool
going st = st.more

abbrev pub took : Names → ℕ
took st = st.step

pub last_name : (n : Name) (r : List ℕ) (p s : ℕ) (h : Head) (k : ℕ) → GoodName n → Stops is_name_byte r → eqb (get_or r 0 0) 46 ≡ false → p + length n ≤ most
    → name_turns (suc k) (n ++ r) (on p s h) ≡ over (p + length n) (length n) (pushed_name h (code_of n))
last_name n r p s h k g z e m =
    let w : List ℕ = n ++ r in
    let st : Names = over (p + length n) (length n) (pushed_name h (code_of n)) in
    let t : name_turn w (on p s h) ≡ st = turn_name n r (on p s h) g z ∙ by_last p s h (length n) (get_or r 0 0) (code_of n) g.some e m in
    last_turn going took name_turn k w (on p s h) st refl t refl

pub next_name : (n : Name) (r : List ℕ) (p s : ℕ) (h : Head) (k : ℕ) → GoodName n → p + length n + 1 ≤ most
    → name_turns (suc k) (n ++ (46 ∷ r)) (on p s h) ≡ name_turns k r (on (p + length n + 1) (length n + 1) (pushed_name h (code_of n)))
next_name n r p s h k g m =
    let w : List ℕ = n ++ (46 ∷ r) in
    let st : Names = on (p + length n + 1) (length n + 1) (pushed_name h (code_of n)) in
    let t : name_turn w (on p s h) ≡ st = turn_name n (46 ∷ r) (on p s h) g refl ∙ by_dot p s h (length n) (code_of n) g.some m in
    next_turn going took name_turn k w (on p s h) st refl t
    ∙ ap (λ (l : List ℕ). name_turns k l st) (past_seam n 46 r)

-- the head was read whole, with its length and its names
pub record HeadRead (st : Names) (n : ℕ) (h : Head) : Type 0 where
  pub good : st.good ≡ true
  pub place : st.place ≡ n
  pub head : st.head ≡ h

read_from : (n : Name) (ns : List Name) (r : List ℕ) (p s : ℕ) (h : Head) (k : ℕ) → GoodName n → GoodNames ns → Stops is_name_byte r → eqb (get_or r 0 0) 46 ≡ false → length ns < k
    → p + length (n ++ dotted ns) ≤ most → HeadRead (name_turns k ((n ++ dotted ns) ++ r) (on p s h)) (p + length (n ++ dotted ns)) (kept_names h (n ∷ ns))
read_from n ns r p s h zero g a z e l m = absurd (omega arith)
read_from n [] r p s h (suc k) g none z e l m =
    let q : length (n ++ []) ≡ length n = simp length-append (omega arith) in
    let t : name_turns (suc k) ((n ++ []) ++ r) (on p s h) ≡ over (p + length n) (length n) (pushed_name h (code_of n)) =
    ap (λ (l : List ℕ). name_turns (suc k) l (on p s h)) (append_assoc n [] r) ∙ last_name n r p s h k g z e (omega arith) in
    record { good = ap (λ (x : Names). x.good) t; place = ap (λ (x : Names). x.place) t ∙ omega arith; head = ap (λ (x : Names). x.head) t }
read_from n (v ∷ ns) r p s h (suc k) g (more b a) z e l m =
    let rest : List ℕ = v ++ dotted ns in
    let q : length (n ++ (46 ∷ rest)) ≡ length n + 1 + length rest = simp length-append (omega arith) in
    let x : Head = pushed_name h (code_of n) in
    let i = read_from v ns r (p + length n + 1) (length n + 1) x k b a z e (omega arith) (omega arith) in
    let t : name_turns (suc k) ((n ++ (46 ∷ rest)) ++ r) (on p s h) ≡ name_turns k (rest ++ r) (on (p + length n + 1) (length n + 1) x) =
    ap (λ (l : List ℕ). name_turns (suc k) l (on p s h)) (append_assoc n (46 ∷ rest) r) ∙ next_name n (rest ++ r) p s h k g (omega arith) in
    record {
      good = ap (λ (y : Names). y.good) t ∙ i.good;
      place = ap (λ (y : Names). y.place) t ∙ i.place ∙ omega arith;
      head = ap (λ (y : Names). y.head) t ∙ i.head;
    }

-- a head has no more names than bytes
pub few_names : (ns : List Name) → length ns ≤ length (dotted ns)
few_names [] = omega arith
few_names (n ∷ ns) = let i = few_names ns in omega (arith, length-append n (dotted ns))

pub head_complete : (n : Name) (ns : List Name) (r : List ℕ) → GoodName n → GoodNames ns → Stops is_name_byte r → eqb (get_or r 0 0) 46 ≡ false → length (head_text (n ∷ ns)) ≤ 160
    → HeadRead (head_of (head_text (n ∷ ns) ++ r)) (length (head_text (n ∷ ns))) (seen_head (n ∷ ns))
unfolding head_of
head_complete n ns r g a z e m =
    let f = few_names ns in
    let l = length-append n (dotted ns) in
    let s = g.some in
    let i = read_from n ns r 0 0 no_head most_turns g a z e (omega arith) (omega arith) in
    record { good = i.good; place = i.place ∙ omega arith; head = i.head ∙ kept_names_lem (n ∷ ns) (omega arith) }
