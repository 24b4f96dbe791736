-- Every list of operands is read as those operands.
use Rattle.std.specs.Prelude.{ℕ, suc, zero, ◌+◌, ◌≤◌, ◌<◌, ◌≡◌, refl, List, [], ◌∷◌, ◌++◌, map, Bool, true, false, length, get_or, drop, Ok}
use Rattle.std.proofs.Common.{ap, ◌∙◌, append_assoc, arith, length-append}
use Rattle.std.proofs.lemmas.List.{length-map}
use Rattle.std.proofs.Math.Seq.{drop-append_seam, drop-append-add}
use Rattle.signs.specs.Bytes.{is_blank, All}
use Rattle.rules.specs.Shape.{OperandTree, operand_text}
use Rattle.rules.specs.Grammar.{Divided, divided_text, GoodOperand, GoodOthers}
use Rattle.rules.specs.Grammar.GoodOthers.{none, more}
use Rattle.tree.specs.Seen.{seen_operand, seen_operands}
use Rattle.tree.specs.declared.Operands.{Operands}
use Rattle.scan.specs.Runs.{most}
use Rattle.scan.specs.RunLaws.{Stops, run_all_lem, sum_is}
use Rattle.shape.specs.Turns.{most_turns}
use Rattle.shape.specs.TurnLaws.{next_turn, last_turn}
use Rattle.shape.specs.OperandLaws.{Edge, edge_after, operand_complete, operand_first}
use Rattle.shape.specs.Operands.{Listed, no_operands, pushed_tree, divider_by, divider_of, divided_by, operand_by, operand_turn, operand_turns, operands_scanned}
use Rattle.shape.specs.KeptLaws.{kept_operands, kept_operands_lem}
use Rattle.shape.specs.declared.Divider.TheVariants.{Comma, Semicolon}

-- ---- what divides operands

pub comma_found : (b a r : List ℕ) → All is_blank b → All is_blank a → Stops is_blank r → length b + 1 + length a ≤ most → divider_of (b ++ (44 ∷ (a ++ r))) ≡ Ok (Comma (length b + 1 + length a))
unfolding divider_of divider_by
comma_found b a r x y z m =
    rw (run_all_lem is_blank (44 ∷ (a ++ r)) x refl, drop-append_seam b (44 ∷ (a ++ r)), run_all_lem is_blank r y z, sum_is (length b) 1 (omega arith), sum_is (length b + 1) (length a) m)

pub semicolon_found : (b r : List ℕ) → All is_blank b → length b + 1 ≤ most → divider_of (b ++ (59 ∷ r)) ≡ Ok (Semicolon (length b + 1))
unfolding divider_of divider_by
semicolon_found b r x m = rw (run_all_lem is_blank (59 ∷ r) x refl, drop-append_seam b (59 ∷ r), sum_is (length b) 1 m)

-- ---- one turn

abbrev pub on : ℕ → ℕ → Operands → Listed
on p s o = record { more = true; good = false; place = p; step = s; operands = o }

abbrev pub over : ℕ → ℕ → Operands → Listed
over p s o = record { more = false; good = true; place = p; step = s; operands = o }

turn_operand : (t : OperandTree) (r : List ℕ) (p s : ℕ) (o : Operands) → GoodOperand t → Edge (get_or r 0 0) → length (operand_text t) ≤ most
    → operand_turn (operand_text t ++ r) (on p s o) ≡ divided_by p (pushed_tree o (seen_operand t)) (length (operand_text t)) (divider_of r)
unfolding operand_turn operand_by
turn_operand t r p s o g e m = rw (operand_complete t r g e m, drop-append_seam (operand_text t) r)

by_comma : (p : ℕ) (o : Operands) (n m : ℕ) → p + n + m ≤ most → divided_by p o n (Ok (Comma m)) ≡ on (p + n + m) (n + m) o
unfolding divided_by
by_comma p o n m h = rw (sum_is p n (omega arith), sum_is (p + n) m h, sum_is n m (omega arith))

by_semicolon : (p : ℕ) (o : Operands) (n m : ℕ) → p + n + m ≤ most → divided_by p o n (Ok (Semicolon m)) ≡ over (p + n + m) (n + m) o
unfolding divided_by
by_semicolon p o n m h = rw (sum_is p n (omega arith), sum_is (p + n) m h, sum_is n m (omega arith))

abbrev pub going : Listed → Bool
going st = st.more

abbrev pub took : Listed → ℕ
took st = st.step

pub last_operand : (t : OperandTree) (b r : List ℕ) (p s : ℕ) (o : Operands) (k : ℕ) → GoodOperand t → All is_blank b → p + length (operand_text t) + (length b + 1) ≤ most
    → operand_turns (suc k) (operand_text t ++ (b ++ (59 ∷ r))) (on p s o)
    ≡ over (p + length (operand_text t) + (length b + 1)) (length (operand_text t) + (length b + 1)) (pushed_tree o (seen_operand t))
last_operand t b r p s o k g x m =
    let n : ℕ = length (operand_text t) in
    let d : List ℕ = b ++ (59 ∷ r) in
    let w : List ℕ = operand_text t ++ d in
    let q : Operands = pushed_tree o (seen_operand t) in
    let st : Listed = over (p + n + (length b + 1)) (n + (length b + 1)) q in
    let e : operand_turn w (on p s o) ≡ st =
    turn_operand t d p s o g (edge_after 59 r (record { digit = refl; name = refl; bar = refl; dot = refl }) x) (omega arith)
    ∙ ap (divided_by p q n) (semicolon_found b r x (omega arith)) ∙ by_semicolon p q n (length b + 1) m in
    last_turn going took operand_turn k w (on p s o) st refl e refl

-- past a comma with its blanks
past_comma : (b a r : List ℕ) → drop (length b + 1 + length a) (b ++ (44 ∷ (a ++ r))) ≡ r
past_comma b a r =
    let q : length b + 1 + length a ≡ length b + suc (length a) = omega arith in
    ap (λ (n : ℕ). drop n (b ++ (44 ∷ (a ++ r)))) q ∙ drop-append-add b (44 ∷ (a ++ r)) (suc (length a)) ∙ drop-append_seam a r

pub next_operand : (t : OperandTree) (b a r : List ℕ) (p s : ℕ) (o : Operands) (k : ℕ) → GoodOperand t → All is_blank b → All is_blank a → Stops is_blank r → p + length (operand_text t) + (length b + 1 + length a) ≤ most
    → operand_turns (suc k) (operand_text t ++ (b ++ (44 ∷ (a ++ r)))) (on p s o)
    ≡ operand_turns k r (on (p + length (operand_text t) + (length b + 1 + length a)) (length (operand_text t) + (length b + 1 + length a)) (pushed_tree o (seen_operand t)))
next_operand t b a r p s o k g x y z m =
    let n : ℕ = length (operand_text t) in
    let c : ℕ = length b + 1 + length a in
    let d : List ℕ = b ++ (44 ∷ (a ++ r)) in
    let w : List ℕ = operand_text t ++ d in
    let q : Operands = pushed_tree o (seen_operand t) in
    let st : Listed = on (p + n + c) (n + c) q in
    let e : operand_turn w (on p s o) ≡ st =
    turn_operand t d p s o g (edge_after 44 (a ++ r) (record { digit = refl; name = refl; bar = refl; dot = refl }) x) (omega arith)
    ∙ ap (divided_by p q n) (comma_found b a r x y z (omega arith)) ∙ by_comma p q n c m in
    next_turn going took operand_turn k w (on p s o) st refl e
    ∙ ap (λ (l : List ℕ). operand_turns k l st) (drop-append-add (operand_text t) d c ∙ past_comma b a r)

-- ---- the whole list

-- the operands were read with what ends them, with their length
pub record ListRead (st : Listed) (n : ℕ) (o : Operands) : Type 0 where
  pub good : st.good ≡ true
  pub place : st.place ≡ n
  pub operands : st.operands ≡ o

abbrev pub operands_in : List Divided → List OperandTree
operands_in = map (λ (d : Divided). d.operand)

pub divided_joined : (b a t r l : List ℕ) → (b ++ (44 ∷ []) ++ a ++ t ++ r) ++ l ≡ b ++ (44 ∷ (a ++ (t ++ (r ++ l))))
divided_joined b a t r l = simp append_assoc

pub divided_length : (b a t r : List ℕ) → length (b ++ (44 ∷ []) ++ a ++ t ++ r) ≡ length b + 1 + length a + (length t + length r)
divided_length b a t r = simp length-append (omega arith)

read_from : (t : OperandTree) (ds : List Divided) (b r : List ℕ) (p s : ℕ) (o : Operands) (k : ℕ) → GoodOperand t → GoodOthers ds → All is_blank b → length ds < k
    → p + (length (operand_text t) + length (divided_text ds)) + (length b + 1) ≤ most
    → ListRead (operand_turns k (operand_text t ++ (divided_text ds ++ (b ++ (59 ∷ r)))) (on p s o)) (p + (length (operand_text t) + length (divided_text ds)) + (length b + 1)) (kept_operands o (t ∷ operands_in ds))
read_from t ds b r p s o zero g a x l m = absurd (omega arith)
read_from t [] b r p s o (suc k) g none x l m =
    let e = last_operand t b r p s o k g x (omega arith) in
    record { good = ap (λ (y : Listed). y.good) e; place = ap (λ (y : Listed). y.place) e ∙ omega arith; operands = ap (λ (y : Listed). y.operands) e }
read_from t (d ∷ ds) b r p s o (suc k) g (more h a) x l m =
    let n : ℕ = length (operand_text t) in
    let c : ℕ = length d.before + 1 + length d.after in
    let u : List ℕ = operand_text d.operand in
    let tail : List ℕ = u ++ (divided_text ds ++ (b ++ (59 ∷ r))) in
    let v : length (divided_text (d ∷ ds)) ≡ c + (length u + length (divided_text ds)) = divided_length d.before d.after u (divided_text ds) in
    let i = read_from d.operand ds b r (p + n + c) (n + c) (pushed_tree o (seen_operand t)) k h.operand a x (omega arith) (omega arith) in
    let e =
    ap (λ (z : List ℕ). operand_turns (suc k) (operand_text t ++ z) (on p s o)) (divided_joined d.before d.after u (divided_text ds) (b ++ (59 ∷ r)))
    ∙ next_operand t d.before d.after tail p s o k g h.before h.after (operand_first d.operand (divided_text ds ++ (b ++ (59 ∷ r)))) (omega arith) in
    record {
      good = ap (λ (y : Listed). y.good) e ∙ i.good;
      place = ap (λ (y : Listed). y.place) e ∙ i.place ∙ omega arith;
      operands = ap (λ (y : Listed). y.operands) e ∙ i.operands;
    }

-- a line has fewer operands than bytes
pub few_operands : (ds : List Divided) → length ds ≤ length (divided_text ds)
few_operands [] = omega arith
few_operands (d ∷ ds) = let i = few_operands ds in omega (arith, divided_length d.before d.after (operand_text d.operand) (divided_text ds))

pub operands_complete : (t : OperandTree) (ds : List Divided) (b r : List ℕ) → GoodOperand t → GoodOthers ds → All is_blank b → length (operand_text t) + length (divided_text ds) + (length b + 1) ≤ 160
    → ListRead (operands_scanned (operand_text t ++ (divided_text ds ++ (b ++ (59 ∷ r))))) (length (operand_text t) + length (divided_text ds) + (length b + 1)) (seen_operands (t ∷ operands_in ds))
unfolding operands_scanned
operands_complete t ds b r g a x m =
    let f = few_operands ds in
    let l : length (operands_in ds) ≡ length ds = length-map ds (λ (d : Divided). d.operand) in
    let i = read_from t ds b r 0 0 no_operands most_turns g a x (omega arith) (omega arith) in
    record { good = i.good; place = i.place ∙ omega arith; operands = i.operands ∙ kept_operands_lem (t ∷ operands_in ds) (omega arith) }
