-- Every operand's text is read as that operand.
use Rattle.std.specs.Prelude.{ℕ, ◌+◌, ◌≤◌, ◌≡◌, refl, List, [], ◌∷◌, ◌++◌, Bool, true, false, ◌||◌, eqb, length, get_or}
use Rattle.std.proofs.Common.{sym, ap, ◌∙◌, subst, append_assoc, arith, ne_eqb, eqb-true, length-append}
use Rattle.std.proofs.Math.Seq.{take-append_seam}
use Rattle.signs.specs.Bytes.{is_blank, is_digit, is_name_byte, All}
use Rattle.signs.specs.Bytes.All.{none, more}
use Rattle.base.specs.Pack.{code_of}
use Rattle.rules.specs.Shape.{Name, register_text, spot_text, OperandTree, inverted, pair, bare, part, operand_text}
use Rattle.rules.specs.Shape as grammar
use Rattle.rules.specs.Grammar.{GoodName, GoodSpot, GoodOperand}
use Rattle.tree.specs.Seen.{seen_place, seen_spot, seen_operand}
use Rattle.tree.specs.declared.Place.{Place}
use Rattle.tree.specs.declared.Spot.{Spot}
use Rattle.tree.specs.declared.Spot.TheVariants.{At, Nothing}
use Rattle.tree.specs.declared.Tree.TheVariants.{Inverted, Pair, Part}
use Rattle.scan.specs.Runs.{most}
use Rattle.scan.specs.RunLaws.{Stops, run_all_lem, seam, past_seam, sum_is}
use Rattle.scan.specs.RegisterLaws.{register_complete, register_first}
use Rattle.shape.specs.Operand.{operand_got, operand_scanned, inverted_by, first_of, after_by, second_of, second_by, part_of}

-- what may follow an operand: no digit, no name's byte, no bar, no dot
pub record Edge (b : ℕ) : Type 0 where
  pub digit : is_digit b ≡ false
  pub name : is_name_byte b ≡ false
  pub bar : eqb b 124 ≡ false
  pub dot : eqb b 46 ≡ false

-- what holds of a space and of a tab holds of every blank
pub blank_either : (P : ℕ → Type 0) → P 32 → P 9 → (b : ℕ) → is_blank b ≡ true → P b
blank_either P x y b e = go (eqb b 32) refl (eqb b 9) refl e
  where
    go : (t : Bool) → eqb b 32 ≡ t → (u : Bool) → eqb b 9 ≡ u → t || u ≡ true → P b
    go true p u q f = subst P (sym (eqb-true b 32 p)) x
    go false p true q f = subst P (sym (eqb-true b 9 q)) y
    go false p false q f = let z : ◌≡◌ {A = ℕ} 0 1 = cc in absurd (omega arith)

edge_blank : (b : ℕ) → is_blank b ≡ true → Edge b
edge_blank = blank_either Edge (record { digit = refl; name = refl; bar = refl; dot = refl }) (record { digit = refl; name = refl; bar = refl; dot = refl })

-- blanks and then an edge are an edge
pub edge_after : (c : ℕ) (l : List ℕ) → Edge c → {b : List ℕ} → All is_blank b → Edge (get_or (b ++ (c ∷ l)) 0 0)
edge_after c l e none = e
edge_after c l e (more {b = x} p a) = edge_blank x p

-- ---- an operand's text, with what follows it

pub operand_joined : (a : List ℕ) (x : ℕ) (c r : List ℕ) → (a ++ (x ∷ []) ++ c) ++ r ≡ a ++ (x ∷ (c ++ r))
operand_joined a x c r = append_assoc (a ++ (x ∷ [])) c r ∙ append_assoc a (x ∷ []) (c ++ r)

pub joined_length : (a : List ℕ) (x : ℕ) (c : List ℕ) → length (a ++ (x ∷ []) ++ c) ≡ length a + 1 + length c
joined_length a x c = simp length-append (omega arith)

second_complete : (p : Spot) (q : grammar.Spot) (pre r : List ℕ) → GoodSpot q → Edge (get_or r 0 0)
    → second_of p (length pre + 1) (pre ++ (124 ∷ (spot_text q ++ r))) ≡ operand_got (Pair p (seen_spot q)) (length pre + 1 + length (spot_text q))
unfolding second_of second_by
second_complete p grammar.nothing pre r h e = rw (past_seam pre 124 (95 ∷ r))
second_complete p (grammar.at x) pre r h e = rw (past_seam pre 124 (register_text x ++ r), register_first x r, register_complete x r h e.digit)

part_complete : (p : Place) (n : Name) (pre r : List ℕ) → GoodName n → Stops is_name_byte r → length pre + 1 + length n ≤ most
    → part_of p (length pre + 1) (pre ++ (46 ∷ (n ++ r))) ≡ operand_got (Part p (code_of n)) (length pre + 1 + length n)
unfolding part_of
part_complete p n pre r g z h =
    let k = g.some in
    rw (past_seam pre 46 (n ++ r), run_all_lem is_name_byte r g.all z, ne_eqb (length n) 0 (λ e. omega arith), take-append_seam n r, sum_is (length pre + 1) (length n) h)

pub operand_complete : (t : OperandTree) (r : List ℕ) → GoodOperand t → Edge (get_or r 0 0) → length (operand_text t) ≤ most
    → operand_scanned (operand_text t ++ r) ≡ operand_got (seen_operand t) (length (operand_text t))
unfolding operand_scanned inverted_by first_of after_by
operand_complete (inverted x) r h e m = rw (register_complete x r h e.digit) (ap (operand_got (Inverted (seen_place x))) (omega arith))
operand_complete (bare x) r h e m = rw (register_first x r, register_complete x r h e.digit, seam (register_text x) r, e.bar, e.dot)
operand_complete (pair grammar.nothing q) r h e m =
    second_complete Nothing q (95 ∷ []) r h.1 e ∙ ap (operand_got (Pair Nothing (seen_spot q))) (omega (arith, joined_length (95 ∷ []) 124 (spot_text q)))
operand_complete (pair (grammar.at x) q) r h e m =
    rw (operand_joined (register_text x) 124 (spot_text q) r, register_first x (124 ∷ (spot_text q ++ r)), register_complete x (124 ∷ (spot_text q ++ r)) h.0 refl, seam (register_text x) (124 ∷ (spot_text q ++ r)))
    (second_complete (At (seen_place x)) q (register_text x) r h.1 e ∙ ap (operand_got (Pair (At (seen_place x)) (seen_spot q))) (sym (joined_length (register_text x) 124 (spot_text q))))
operand_complete (part x n) r h e m =
    rw (operand_joined (register_text x) 46 n r, register_first x (46 ∷ (n ++ r)), register_complete x (46 ∷ (n ++ r)) h.0 refl, seam (register_text x) (46 ∷ (n ++ r)))
    (part_complete (seen_place x) n (register_text x) r h.1 e.name (omega (arith, joined_length (register_text x) 46 n)) ∙ ap (operand_got (Part (seen_place x) (code_of n))) (sym (joined_length (register_text x) 46 n)))

-- no operand begins with a blank
pub operand_first : (t : OperandTree) (l : List ℕ) → Stops is_blank (operand_text t ++ l)
operand_first (inverted x) l = refl
operand_first (bare x) l = rw (register_first x l)
operand_first (pair grammar.nothing q) l = refl
operand_first (pair (grammar.at x) q) l = rw (operand_joined (register_text x) 124 (spot_text q) l, register_first x (124 ∷ (spot_text q ++ l)))
operand_first (part x n) l = rw (operand_joined (register_text x) 46 n l, register_first x (46 ∷ (n ++ l)))
