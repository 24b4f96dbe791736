-- Laws of a loop of turns.
use Prim.Native.Nat.{ℕ, suc, zero, ◌+◌, ◌-◌, ◌≤◌, ◌<◌}
use Rattle.std.specs.Prelude.{◌≡◌, Bool, true, false, List, length, drop}
use Rattle.std.proofs.Math.Path.{refl, sym, ap}
use Rattle.std.proofs.Common.{◌∙◌}
use native.Mathlib.Omega.{arith}
use Rattle.shape.specs.Turns.{turns}

module _ {St : Type 0} (more : St → Bool) (step : St → ℕ) (turn : List ℕ → St → St) where
  pub one_turn : (k : ℕ) (w : List ℕ) (st : St) → more st ≡ true → turns more step turn (suc k) w st ≡ turns more step turn k (drop (step (turn w st)) w) (turn w st)
  unfolding turns
  one_turn k w st e = rw e

  pub no_turn : (k : ℕ) (w : List ℕ) (st : St) → more st ≡ false → turns more step turn k w st ≡ st
  unfolding turns
  no_turn zero w st e = refl
  no_turn (suc k) w st e = rw e

  -- a turn whose outcome is known: another follows, or none
  pub next_turn : (k : ℕ) (w : List ℕ) (st t : St) → more st ≡ true → turn w st ≡ t → turns more step turn (suc k) w st ≡ turns more step turn k (drop (step t) w) t
  next_turn k w st t e q = one_turn k w st e ∙ ap (λ (x : St). turns more step turn k (drop (step x) w) x) q

  pub last_turn : (k : ℕ) (w : List ℕ) (st t : St) → more st ≡ true → turn w st ≡ t → more t ≡ false → turns more step turn (suc k) w st ≡ t
  last_turn k w st t e q f = next_turn k w st t e q ∙ no_turn k (drop (step t) w) t f

  -- the loop, which has made i of its k turns: what is left of them, from here on, gives the whole
  pub goes_on_lem : (whole : St) (k i : ℕ) (w : List ℕ) (st : St) → i < k → more st ≡ true → whole ≡ turns more step turn (k - i) w st
      → whole ≡ turns more step turn (k - (i + 1)) (drop (step (turn w st)) w) (turn w st)
  goes_on_lem whole k i w st h e q =
      let n : k - i ≡ suc (k - (i + 1)) = omega arith in
      q ∙ ap (λ (j : ℕ). turns more step turn j w st) n ∙ one_turn (k - (i + 1)) w st e

  pub stops : (whole : St) (k : ℕ) (w : List ℕ) (st : St) → more st ≡ false → whole ≡ turns more step turn k w st → st ≡ whole
  stops whole k w st e q = sym (q ∙ no_turn k w st e)

  pub runs_out : (whole : St) (k i : ℕ) (w : List ℕ) (st : St) → k ≤ i → whole ≡ turns more step turn (k - i) w st → st ≡ whole
  unfolding turns
  runs_out whole k i w st h q =
      let n : k - i ≡ 0 = omega arith in
      sym (q ∙ ap (λ (j : ℕ). turns more step turn j w st) n)

  -- where each turn that goes on leaves fewer bytes, as many turns as bytes and one more are enough
  pub enough : ((w : List ℕ) (st : St) → more (turn w st) ≡ true → length (drop (step (turn w st)) w) < length w) → (k : ℕ) (w : List ℕ) (st : St) → length w < k → more (turns more step turn k w st) ≡ false
  enough less zero w st h = absurd (omega arith)
  enough less (suc k) w st h = go (more st) refl (more (turn w st)) refl (enough less k (drop (step (turn w st)) w) (turn w st))
    where
      go : (t : Bool) → more st ≡ t → (u : Bool) → more (turn w st) ≡ u
          → (length (drop (step (turn w st)) w) < k → more (turns more step turn k (drop (step (turn w st)) w) (turn w st)) ≡ false)
          → more (turns more step turn (suc k) w st) ≡ false
      go false e u f i = ap more (no_turn (suc k) w st e) ∙ e
      go true e false f i = ap more (one_turn k w st e ∙ no_turn k (drop (step (turn w st)) w) (turn w st) f) ∙ f
      go true e true f i = ap more (one_turn k w st e) ∙ i (omega (arith, less w st f))
