-- Every guard's text is read as that guard.
use Rattle.std.specs.Prelude.{ℕ, ◌+◌, ◌≤◌, ◌<◌, ◌≡◌, refl, List, ◌++◌, Bool, true, false, eqb, length, get_or}
use Rattle.std.proofs.Common.{sym, ap, ◌∙◌, append_assoc, arith, ne_eqb, length-append}
use Rattle.std.proofs.Math.Seq.{drop-append_seam}
use Rattle.signs.specs.Bytes.{is_blank, is_digit, is_name_byte, All, Some}
use Rattle.signs.specs.Bytes.All.{none, more}
use Rattle.record.specs.Registers as files
use Rattle.rules.specs.Shape.{Name, register_text}
use Rattle.rules.specs.Grammar.{GuardTree, unguarded, guarded, guard_tree_text, GoodPlace, GoodName, GoodGuard}
use Rattle.tree.specs.Seen.{seen_place, seen_guard}
use Rattle.tree.specs.declared.Guarding.TheVariants.{Guarded}
use Rattle.scan.specs.Runs.{most}
use Rattle.scan.specs.RunLaws.{Stops, run_all_lem, sum_is}
use Rattle.scan.specs.Registers.{register_of}
use Rattle.scan.specs.RegisterLaws.{register_complete, register_first}
use Rattle.shape.specs.OperandLaws.{blank_either}
use Rattle.shape.specs.Guard.{guard_got, guard_by, guard_of}

-- ---- first bytes

-- what holds of a space and of a tab holds of the first byte of blanks
pub blank_first : (P : ℕ → Type 0) → P 32 → P 9 → {b : List ℕ} → Some is_blank b → (r : List ℕ) → P (get_or (b ++ r) 0 0)
blank_first P x y s r = go s.all s.some
  where
    go : {b : List ℕ} → All is_blank b → 0 < length b → P (get_or (b ++ r) 0 0)
    go none h = absurd (omega arith)
    go (more {b = c} e a) h = blank_either P x y c e

pub name_first : {n : Name} → GoodName n → (r : List ℕ) → is_name_byte (get_or (n ++ r) 0 0) ≡ true
name_first g r = go g.all g.some
  where
    go : {n : Name} → All is_name_byte n → 0 < length n → is_name_byte (get_or (n ++ r) 0 0) ≡ true
    go none h = absurd (omega arith)
    go (more e a) h = e

-- a byte of a class is none that is not of the class
apart : (p : ℕ → Bool) (b c : ℕ) → p b ≡ true → p c ≡ false → eqb b c ≡ false
apart p b c e f = ne_eqb b c (λ q. off (sym e ∙ ap p q ∙ f))
  where
    off : true ≡ false → ⊥
    off q = let z : ◌≡◌ {A = ℕ} 0 1 = cc in omega arith

pub name_no_blank : (b : ℕ) → is_name_byte b ≡ true → is_blank b ≡ false
name_no_blank b e = rw (apart is_name_byte b 32 e refl, apart is_name_byte b 9 e refl)

-- ---- the guard

by_register_lem : (negated : Bool) (k : ℕ) (p : files.Place) (b r : List ℕ) → GoodPlace p → Some is_blank b → Stops is_blank r → k + length (register_text p) + length b ≤ most
    → let w = register_text p ++ (b ++ r) in guard_by negated k (register_of w) w ≡ guard_got (Guarded negated (seen_place p)) (k + length (register_text p) + length b)
unfolding guard_by
by_register_lem negated k p b r g s z m =
    let l = s.some in
    rw (
      register_complete p (b ++ r) g (blank_first (λ (c : ℕ). is_digit c ≡ false) refl refl s r),
      drop-append_seam (register_text p) (b ++ r),
      run_all_lem is_blank r s.all z,
      ne_eqb (length b) 0 (λ q. omega arith),
      sum_is (k + length (register_text p)) (length b) m,
    )

pub guard_complete : (g : GuardTree) (r : List ℕ) → GoodGuard g → is_name_byte (get_or r 0 0) ≡ true → length (guard_tree_text g) ≤ most
    → guard_of (guard_tree_text g ++ r) ≡ guard_got (seen_guard g) (length (guard_tree_text g))
unfolding guard_of
guard_complete unguarded r h e m = rw (apart is_name_byte (get_or r 0 0) 64 e refl)
guard_complete (guarded true p b) r h e m =
    let l = length-append (register_text p) b in
    ap (λ (w : List ℕ). guard_by true 2 (register_of w) w) (append_assoc (register_text p) b r)
    ∙ by_register_lem true 2 p b r h.0 h.1 (name_no_blank (get_or r 0 0) e) (omega arith)
    ∙ ap (guard_got (Guarded true (seen_place p))) (omega arith)
guard_complete (guarded false p b) r h e m =
    let l = length-append (register_text p) b in
    rw (append_assoc (register_text p) b r, register_first p (b ++ r))
    (by_register_lem false 1 p b r h.0 h.1 (name_no_blank (get_or r 0 0) e) (omega arith)
    ∙ ap (guard_got (Guarded false (seen_place p))) (omega arith))

-- a guard's text with a head behind it does not begin with a blank
pub guard_first : (g : GuardTree) (r : List ℕ) → is_name_byte (get_or r 0 0) ≡ true → Stops is_blank (guard_tree_text g ++ r)
guard_first unguarded r e = name_no_blank (get_or r 0 0) e
guard_first (guarded true p b) r e = refl
guard_first (guarded false p b) r e = refl
