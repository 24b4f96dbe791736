-- What the scanner of a guard finds is a guard's text.
use Rattle.std.specs.Prelude.{ℕ, suc, ◌+◌, ◌≤◌, ◌≡◌, refl, List, ◌∷◌, ◌++◌, Bool, true, false, cond, eqb, length, get_or, drop, Err, Result}
use Rattle.std.proofs.Common.{sym, ap, ◌∙◌, append_assoc, arith, ne_eqb, eqb-true, length-append}
use Rattle.std.proofs.Math.Seq.{drop-append_seam}
use Rattle.base.specs.Pairs.{ok_pair}
use Rattle.signs.specs.Bytes.{is_blank, All, Some}
use Rattle.signs.specs.Bytes.All.{none, more}
use Rattle.record.specs.Registers as files
use Rattle.rules.specs.Shape.{register_text}
use Rattle.rules.specs.Grammar.{GuardTree, unguarded, guarded, guard_tree_text, GoodPlace, GoodGuard}
use Rattle.tree.specs.Seen.{seen_place, seen_guard}
use Rattle.tree.specs.declared.Place.{Place}
use Rattle.tree.specs.declared.Guarding.{Guarding}
use Rattle.tree.specs.declared.Guarding.TheVariants.{Unguarded, Guarded}
use Rattle.scan.specs.Runs.{run_length, capped_sum, most}
use Rattle.scan.specs.RunLaws.{split, at_is, sum_is}
use Rattle.scan.specs.Registers.{register_got, register_of}
use Rattle.scan.specs.RegisterLaws.{RegisterAt, register_sound}
use Rattle.shape.specs.Guard.{guard_got, guard_bad, guard_by, guard_of}

never : {A : Type 0} (p : ℕ) (g : Guarding) (n : ℕ) → guard_bad p ≡ guard_got g n → A
never p g n e = let z : ◌≡◌ {A = ℕ} 0 1 = cc in absurd (omega arith)

-- a register and at least one blank, after k signs
record SignedAt (w : List ℕ) (negated : Bool) (k : ℕ) (g : Guarding) (n : ℕ) : Type 0 where
  place : files.Place
  blanks : List ℕ
  after : List ℕ
  whole : w ≡ (register_text place ++ blanks) ++ after
  good : GoodPlace place
  some : Some is_blank blanks
  sees : Guarded negated (seen_place place) ≡ g
  taken : n ≡ k + length (register_text place ++ blanks)

by_count : (w : List ℕ) (negated : Bool) (k : ℕ) (p : Place) (m : ℕ) (c : ℕ) → run_length is_blank (drop m w) ≡ c
    → guard_by negated k (register_got p m) w ≡ cond (eqb c 0) (guard_bad (k + m)) (guard_got (Guarded negated p) (capped_sum (k + m) c))
unfolding guard_by
by_count w negated k p m c e = rw e

by_blanks : (w : List ℕ) (negated : Bool) (k : ℕ) (p : Place) (m : ℕ) → k + length w ≤ most → (a : RegisterAt w p m) → (b c : List ℕ) → a.after ≡ b ++ c → All is_blank b → run_length is_blank (drop m w) ≡ length b
    → (g : Guarding) (n : ℕ) → guard_by negated k (register_got p m) w ≡ guard_got g n → SignedAt w negated k g n
by_blanks w negated k p m h a b c d none q g n e = never (k + m) g n (sym (by_count w negated k p m 0 q) ∙ e)
by_blanks w negated k p m h a b c d (more {b = x} {w = v} y z) q g n e =
    let t : List ℕ = register_text a.place in
    let s : List ℕ = x ∷ v in
    let l : length w ≡ length t + (length s + length c) = ap length a.whole ∙ length-append t a.after ∙ ap (λ (i : ℕ). length t + i) (ap length d ∙ length-append s c) in
    let u : guard_got (Guarded negated p) (capped_sum (k + m) (length s)) ≡ guard_got g n = sym (by_count w negated k p m (length s) q ∙ rw (ne_eqb (length s) 0 (λ i. omega arith))) ∙ e in
    let f : capped_sum (k + m) (length s) ≡ k + m + length s = sum_is (k + m) (length s) (omega (arith, a.taken)) in
    let (i, j) = ok_pair u in
    record {
      place = a.place;
      blanks = s;
      after = c;
      whole = a.whole ∙ ap (λ (y : List ℕ). t ++ y) d ∙ sym (append_assoc t s c);
      good = a.good;
      some = record { all = more y z; some = omega arith };
      sees = ap (Guarded negated) a.sees ∙ i;
      taken = omega (arith, a.taken, length-append t s);
    }

signed_sound : (w : List ℕ) (negated : Bool) (k : ℕ) → k + length w ≤ most → (x : Result (Place × ℕ) ℕ) → register_of w ≡ x → (g : Guarding) (n : ℕ) → guard_by negated k x w ≡ guard_got g n → SignedAt w negated k g n
unfolding guard_by
signed_sound w negated k h (Err q) o g n e = never (k + q) g n e
signed_sound w negated k h (register_got p m) o g n e =
    let a = register_sound w p m o in
    let d : drop m w ≡ a.after = ap (λ (i : ℕ). drop i w) a.taken ∙ ap (drop (length (register_text a.place))) a.whole ∙ drop-append_seam (register_text a.place) a.after in
    let x = split is_blank refl a.after in
    by_blanks w negated k p m h a x.front x.back x.whole x.all (ap (run_length is_blank) d ∙ x.count) g n e

pub record GuardAt (w : List ℕ) (g : Guarding) (n : ℕ) : Type 0 where
  pub tree : GuardTree
  pub after : List ℕ
  pub whole : w ≡ guard_tree_text tree ++ after
  pub good : GoodGuard tree
  pub sees : seen_guard tree ≡ g
  pub taken : n ≡ length (guard_tree_text tree)

none_there : (w : List ℕ) (g : Guarding) (n : ℕ) → guard_got Unguarded 0 ≡ guard_got g n → GuardAt w g n
none_there w g n e = let (a, b) = ok_pair e in record { tree = unguarded; after = w; whole = refl; good = tt; sees = a; taken = sym b }

negated_there : (w v : List ℕ) (g : Guarding) (n : ℕ) → w ≡ 64 ∷ 33 ∷ v → SignedAt v true 2 g n → GuardAt w g n
negated_there w v g n d i =
    record { tree = guarded true i.place i.blanks; after = i.after; whole = d ∙ ap (λ (l : List ℕ). 64 ∷ 33 ∷ l) i.whole; good = (i.good, i.some); sees = i.sees; taken = i.taken ∙ omega arith }

plain_there : (w v : List ℕ) (g : Guarding) (n : ℕ) → w ≡ 64 ∷ v → SignedAt v false 1 g n → GuardAt w g n
plain_there w v g n d i =
    record { tree = guarded false i.place i.blanks; after = i.after; whole = d ∙ ap (λ (l : List ℕ). 64 ∷ l) i.whole; good = (i.good, i.some); sees = i.sees; taken = i.taken ∙ omega arith }

pub guard_sound : (w : List ℕ) (g : Guarding) (n : ℕ) → length w ≤ 160 → guard_of w ≡ guard_got g n → GuardAt w g n
unfolding guard_of
guard_sound w g n m e = go (eqb (get_or w 0 0) 64) refl (eqb (get_or w 1 0) 33) refl e
  where
    at_sign : eqb (get_or w 0 0) 64 ≡ true → w ≡ 64 ∷ drop 1 w
    at_sign q = at_is w 0 64 (omega arith) (eqb-true (get_or w 0 0) 64 q)

    go : (t : Bool) → eqb (get_or w 0 0) 64 ≡ t → (u : Bool) → eqb (get_or w 1 0) 33 ≡ u
        → cond t (cond u (guard_by true 2 (register_of (drop 2 w)) (drop 2 w)) (guard_by false 1 (register_of (drop 1 w)) (drop 1 w))) (guard_got Unguarded 0) ≡ guard_got g n → GuardAt w g n
    go false q u r e = none_there w g n e
    go true q true r e =
        let d : w ≡ 64 ∷ 33 ∷ drop 2 w = at_sign q ∙ ap (λ (l : List ℕ). 64 ∷ l) (at_is w 1 33 (omega arith) (eqb-true (get_or w 1 0) 33 r)) in
        let l : length w ≡ suc (suc (length (drop 2 w))) = ap length d in
        negated_there w (drop 2 w) g n d (signed_sound (drop 2 w) true 2 (omega arith) (register_of (drop 2 w)) refl g n e)
    go true q false r e =
        let l : length w ≡ suc (length (drop 1 w)) = ap length (at_sign q) in
        plain_there w (drop 1 w) g n (at_sign q) (signed_sound (drop 1 w) false 1 (omega arith) (register_of (drop 1 w)) refl g n e)
