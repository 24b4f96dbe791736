-- The outcomes of writing and executing one by one, and which numbers they refuse with. Assumes nothing.
use Rattle.std.specs.Prelude.{ℕ, ◌≤◌, ◌<◌, ◌≡◌, refl, not, List, [], ◌∷◌, ltb, length}
use Rattle.std.proofs.Common.{arith}
use Rattle.std.proofs.Math.Bool.{Bool, true, false, cond}
use borrow.Author.Tests.{lt-ltb, le-ltb}
use Rattle.record.specs.Registers.{Files}
use Rattle.record.specs.Refusals.{is_legal, Legal}
use Rattle.record.specs.declared.Record.{Record}
use Rattle.record.specs.declared.Target.{Target}
use Rattle.rules.specs.StandardLine.{standard}
use Rattle.signs.specs.Lists.{Listed}
use Rattle.signs.specs.Lists.Listed.{here, later}
use Rattle.rules.specs.Writing.{written, refused, Outcome, outcome, front, writing}
use Rattle.rules.specs.Targets.{allows, Allowed}
use Rattle.rules.specs.Executing as executing
use Rattle.rules.specs.Executing.{sizes_fit, preds_fit, Admitted, guard_holds, after, done, skipped, run}

-- ==== writing

module _ (x : Record) (b : List ℕ) where
  pub write_8 : is_legal x ≡ false → writing x b ≡ outcome (refused 8) b
  unfolding writing
  write_8 e = rw e

  pub write_9 : Legal x → length b < length (standard x) → writing x b ≡ outcome (refused 9) b
  unfolding writing
  write_9 e h = rw (e, lt-ltb (length b) (length (standard x)) h)

  pub writes_standard : Legal x → length (standard x) ≤ length b → writing x b ≡ outcome (written (length (standard x))) (front (standard x) b)
  unfolding writing
  writes_standard e h = rw (e, le-ltb (length b) (length (standard x)) h)

  -- a refusal has number 8 or 9, and the buffer is as it was lent
  pub write_refused : (n : ℕ) → (writing x b).answer ≡ refused n → Listed n (8 ∷ 9 ∷ []) × ((writing x b).buffer ≡ b)
  unfolding writing
  write_refused n = go (not (is_legal x)) (ltb (length b) (length (standard x)))
    where
      said : Bool → Bool → Outcome
      said illegal short =
          cond illegal (outcome (refused 8) b) (cond short (outcome (refused 9) b) (outcome (written (length (standard x))) (front (standard x) b)))

      go : (i s : Bool) → (said i s).answer ≡ refused n → Listed n (8 ∷ 9 ∷ []) × ((said i s).buffer ≡ b)
      go true s e = let h : n ≡ 8 = cc in (here h, refl)
      go false true e = let h : n ≡ 9 = cc in (later (here h), refl)
      go false false e = let h : ◌≡◌ {A = ℕ} 0 1 = cc in absurd (omega arith)

-- ==== executing

-- files that pass 10 and 11 are admitted
pub admits : (f : Files) → sizes_fit f ≡ true → preds_fit f.preds ≡ true → Admitted f
admits f s b = record { sizes = s; bits = b }

module _ (target : Target) (x : Record) (f : Files) where
  pub execute_8 : is_legal x ≡ false → run target x f ≡ executing.outcome (executing.refused 8) f
  unfolding run
  execute_8 e = rw e

  pub execute_12 : Legal x → allows target x ≡ false → run target x f ≡ executing.outcome (executing.refused 12) f
  unfolding run
  execute_12 e a = rw (e, a)

  pub execute_10 : Allowed target x → sizes_fit f ≡ false → run target x f ≡ executing.outcome (executing.refused 10) f
  unfolding run
  execute_10 e s = rw (e.legal, e.allowed, s)

  pub execute_11 : Allowed target x → sizes_fit f ≡ true → preds_fit f.preds ≡ false → run target x f ≡ executing.outcome (executing.refused 11) f
  unfolding run
  execute_11 e s p = rw (e.legal, e.allowed, s, p)

  pub executes : Allowed target x → Admitted f → guard_holds f.preds x.guard ≡ true → run target x f ≡ executing.outcome done (after target x.instruction f)
  unfolding run
  executes e a g = rw (e.legal, e.allowed, a.sizes, a.bits, g)

  pub skips : Allowed target x → Admitted f → guard_holds f.preds x.guard ≡ false → run target x f ≡ executing.outcome skipped f
  unfolding run
  skips e a g = rw (e.legal, e.allowed, a.sizes, a.bits, g)

  -- what holds of each of the six outcomes holds of the one that there is
  pub run_cases : (P : executing.Outcome → Type 0)
      → P (executing.outcome (executing.refused 8) f)
      → P (executing.outcome (executing.refused 12) f)
      → P (executing.outcome (executing.refused 10) f)
      → P (executing.outcome (executing.refused 11) f)
      → P (executing.outcome done (after target x.instruction f))
      → P (executing.outcome skipped f)
      → P (run target x f)
  unfolding run
  run_cases P a o b c d e = go (not (is_legal x)) (not (allows target x)) (not (sizes_fit f)) (not (preds_fit f.preds)) (guard_holds f.preds x.guard)
    where
      go : (i t s p g : Bool)
          → P (cond i (executing.outcome (executing.refused 8) f) (cond t (executing.outcome (executing.refused 12) f) (cond s (executing.outcome (executing.refused 10) f) (cond p (executing.outcome (executing.refused 11) f) (cond g (executing.outcome done (after target x.instruction f)) (executing.outcome skipped f))))))
      go true t s p g = a
      go false true s p g = o
      go false false true p g = b
      go false false false true g = c
      go false false false false true = d
      go false false false false false = e

  -- a refusal has number 8, 12, 10 or 11, and the files are as they were lent
  pub execute_refused : (n : ℕ) → (run target x f).answer ≡ executing.refused n → Listed n (8 ∷ 12 ∷ 10 ∷ 11 ∷ []) × ((run target x f).files ≡ f)
  execute_refused n =
      run_cases (λ (o : executing.Outcome). o.answer ≡ executing.refused n → Listed n (8 ∷ 12 ∷ 10 ∷ 11 ∷ []) × (o.files ≡ f))
      (λ e. let h : n ≡ 8 = cc in (here h, refl)) (λ e. let h : n ≡ 12 = cc in (later (here h), refl))
      (λ e. let h : n ≡ 10 = cc in (later (later (here h)), refl)) (λ e. let h : n ≡ 11 = cc in (later (later (later (here h))), refl))
      (λ e. let h : ◌≡◌ {A = ℕ} 0 1 = cc in absurd (omega arith))
      (λ e. let h : ◌≡◌ {A = ℕ} 0 1 = cc in absurd (omega arith))

  -- skipped and refused move nothing
  pub unless_done_unmoved : ((run target x f).answer ≡ done → ⊥) → (run target x f).files ≡ f
  unless_done_unmoved =
      run_cases (λ (o : executing.Outcome). (o.answer ≡ done → ⊥) → o.files ≡ f) (λ h. refl) (λ h. refl) (λ h. refl) (λ h. refl) (λ h. absurd (h refl)) (λ h. refl)
