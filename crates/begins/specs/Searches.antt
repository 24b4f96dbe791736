-- The first wrong element of a list by a test of its first k elements: at a place that is guessed, or searched from the front. Said once, for any set
-- of lists of anything.
use Prim.Native.Nat.{ℕ, zero, suc, ◌+◌, ◌-◌, ◌≤◌, ◌<◌}
use native.Mathlib.Omega.{arith}
use Rattle.std.specs.Prelude.{◌≡◌, List, [], Bool, not, ◌&&◌, cond, ltb, eqb, length, take}
use Rattle.std.proofs.Math.Path.{refl, ap}
use Rattle.std.proofs.Common.{sym, ◌∙◌, ltb-false, eqb-true}
use Rattle.std.proofs.Math.Bool.{true, false}
use Rattle.rules.specs.BytePlaces.{Begins, FirstWrong}

not_true : false ≡ true → ⊥
not_true e = let o : ◌≡◌ {A = ℕ} 0 1 = cc in omega arith

-- what a test answers is what t says
abbrev pub Gives : (ℕ → Bool → Type 0) → (ℕ → Bool) → Type 0
Gives answers t = (k : ℕ) (b : Bool) → answers k b → b ≡ t k

module _ (test : ℕ → Bool) where
  -- the test holds of the first k of n, and fails of one more, or there is no more
  unfoldable pub turns_at : ℕ → ℕ → Bool
  turns_at n k = cond (ltb n k) false (cond (eqb k n) (test k) (test k && not (test (k + 1))))

  -- the first from k on, with m more, for which the test fails of one more, or the end
  unfoldable pub searched : ℕ → ℕ → ℕ
  searched k zero = k
  searched k (suc m) = cond (test (suc k)) (searched (suc k) m) k

  -- the place that is guessed, if the test turns there, or the one that is searched
  unfoldable pub first_wrong_by : ℕ → ℕ → ℕ
  first_wrong_by n guess = cond (turns_at n guess) guess (searched 0 n)

  -- ---- one turn of the loop

  pub searched_starts : (n : ℕ) → searched 0 n ≡ searched 0 (n - 0)
  searched_starts n = ap (searched 0) (omega arith)

  pub searched_stops : (k n : ℕ) → k < n → test (k + 1) ≡ false → searched k (n - k) ≡ k
  unfolding searched
  searched_stops k n h e = go (n - k) refl
    where
      go : (m : ℕ) → n - k ≡ m → searched k m ≡ k
      go zero q = refl
      go (suc m) q = let z : suc k ≡ k + 1 = omega arith in rw (ap test z ∙ e)

  pub searched_goes : (k n : ℕ) → k < n → test (k + 1) ≡ true → searched k (n - k) ≡ searched (k + 1) (n - (k + 1))
  unfolding searched
  searched_goes k n h e = go (n - k) refl
    where
      go : (m : ℕ) → n - k ≡ m → searched k m ≡ searched (k + 1) (n - (k + 1))
      go zero q = absurd (omega arith)
      go (suc m) q =
          let y : suc k ≡ k + 1 = omega arith in
          let z : n - (k + 1) ≡ m = omega arith in
          rw (ap test y ∙ e, z) (ap (λ (i : ℕ). searched i m) y)

  pub searched_ends : (k n : ℕ) → n ≤ k → searched k (n - k) ≡ k
  unfolding searched
  searched_ends k n h = let z : n - k ≡ 0 = omega arith in rw z

-- the test says whether some list of the set begins so
module _ {A : Type 0} (L : List A → Type 0) (l : List A) (test : ℕ → Bool) where
  pub record Tells : Type 0 where
    pub right : (k : ℕ) → k < length l → test (suc k) ≡ true → Begins L (take (suc k) l)
    pub all : (k : ℕ) → k < length l → Begins L (take (suc k) l) → test (suc k) ≡ true
    pub some : Begins L []

  module _ (tells : Tells) where
    none_more : (k : ℕ) → k < length l → test (suc k) ≡ false → Begins L (take (suc k) l) → ⊥
    none_more k h e b = not_true (sym e ∙ tells.all k h b)

    begun : (k : ℕ) → k ≤ length l → test k ≡ true → Begins L (take k l)
    begun zero h e = tells.some
    begun (suc k) h e = tells.right k h e

    pub turn_first_wrong : (k : ℕ) → turns_at test (length l) k ≡ true → FirstWrong L l k
    unfolding turns_at
    turn_first_wrong k e = go (ltb (length l) k) refl (eqb k (length l)) refl (test k) refl (test (k + 1)) refl e
      where
        more : test (k + 1) ≡ false → test (suc k) ≡ false
        more h = let z : suc k ≡ k + 1 = omega arith in ap test z ∙ h

        go : (a : Bool) → ltb (length l) k ≡ a → (c : Bool) → eqb k (length l) ≡ c → (b : Bool) → test k ≡ b → (d : Bool) → test (k + 1) ≡ d
            → cond a false (cond c b (b && not d)) ≡ true → FirstWrong L l k
        go true p c r b q d s e = absurd (not_true e)
        go false p true r false q d s e = absurd (not_true e)
        go false p true r true q d s e =
            let h = ltb-false (length l) k p in
            record { within = h; begins = begun k h q; wrong = λ i. absurd (omega (arith, eqb-true k (length l) r)) }
        go false p false r false q d s e = absurd (not_true e)
        go false p false r true q true s e = absurd (not_true e)
        go false p false r true q false s e = let h = ltb-false (length l) k p in record { within = h; begins = begun k h q; wrong = λ i. none_more k i (more s) }

    search_from : (k m : ℕ) → k + m ≡ length l → Begins L (take k l) → FirstWrong L l (searched test k m)
    unfolding searched
    search_from k zero e b = record { within = omega arith; begins = b; wrong = λ h. absurd (omega arith) }
    search_from k (suc m) e b = go (test (suc k)) refl (λ c. search_from (suc k) m (omega arith) c)
      where
        go : (t : Bool) → test (suc k) ≡ t → (Begins L (take (suc k) l) → FirstWrong L l (searched test (suc k) m)) → FirstWrong L l (searched test k (suc m))
        go true q f = rw q (f (tells.right k (omega arith) q))
        go false q f = rw q (record { within = omega arith; begins = b; wrong = λ h. none_more k h q })

    pub search_first_wrong : FirstWrong L l (searched test 0 (length l))
    search_first_wrong = search_from 0 (length l) (omega arith) tells.some
