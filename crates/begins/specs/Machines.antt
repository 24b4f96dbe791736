-- A list read from the front by states finds the first wrong element, where every state but the wrong ones has a tail and every list of the set goes through. Said once, for any
-- set of lists of anything.
use Rattle.std.specs.Prelude.{ℕ, suc, ◌+◌, ◌≤◌, ◌<◌, ◌≡◌, Bool, true, false, cond, length, take, drop, get_or}
use Rattle.std.proofs.Common.{arith, add-one, sym, subst, ◌∙◌, drop_of_length-le, take_at, drop-cons}
use Rattle.std.proofs.Math.Path.{refl, ap}
use mathlib.Core.List.{List, [], ◌∷◌, ◌++◌, append_assoc}
use Rattle.std.proofs.Math.ListN.{length-append}
use Rattle.rules.specs.BytePlaces.{Begins, FirstWrong}

not_true : false ≡ true → ⊥
not_true e = let o : ◌≡◌ {A = ℕ} 0 1 = cc in omega arith

module _ {A Q : Type 0} (step : Q → A → Q) where
  -- the state to which a list leads
  abbrev pub reach : Q → List A → Q
  reach q [] = q
  reach q (a ∷ s) = reach (step q a) s

  pub reach_append : (q : Q) (s t : List A) → reach q (s ++ t) ≡ reach (reach q s) t
  reach_append q [] t = refl
  reach_append q (a ∷ s) t = reach_append (step q a) s t

-- what may follow in a state may, with elements before it, follow in the state before them
module _ {A Q : Type 0} (step : Q → A → Q) (Tail : Q → List A → Type 0) (back : (q : Q) (a : A) (w : List A) → Tail (step q a) w → Tail q (a ∷ w)) where
  pub all_back : (q : Q) (s w : List A) → Tail (reach step q s) w → Tail q (s ++ w)
  all_back q [] w t = t
  all_back q (a ∷ s) w t = back q a (s ++ w) (all_back (step q a) s w t)

-- what is to be known of states, of which some are wrong: what may follow in each (Tail), in the words of the set
module _ {A Q : Type 0} (step : Q → A → Q) (wrong : Q → Bool) (start : Q) (L : List A → Type 0) where
  pub record Exact (Tail : Q → List A → Type 0) : Type 0 where
    -- what may follow in a state may, with an element before it, follow in the state before
    pub back : (q : Q) (a : A) (w : List A) → Tail (step q a) w → Tail q (a ∷ w)
    -- something may follow in every state that is not wrong
    pub some : (q : Q) → wrong q ≡ false → (w : List A) × Tail q w
    -- what may follow at the start is of the set
    pub whole : (w : List A) → Tail start w → L w
    -- a list of the set leads to no wrong state
    pub through : (w : List A) → L w → wrong (reach step start w) ≡ false
    -- and nothing leads back from a wrong one
    pub stuck : (q : Q) (a : A) → wrong q ≡ true → wrong (step q a) ≡ true

module _ {A Q : Type 0} {step : Q → A → Q} {wrong : Q → Bool} {start : Q} {L : List A → Type 0} {Tail : Q → List A → Type 0} (m : Exact step wrong start L Tail) where
  alive : (s : List A) → wrong (reach step start s) ≡ false → Begins L s
  alive s e =
      let t = m.some (reach step start s) e in
      record { rest = t.0; whole = m.whole (s ++ t.0) (all_back step Tail m.back start s t.0 t.1) }

  all_stuck : (q : Q) (s : List A) → wrong q ≡ true → wrong (reach step q s) ≡ true
  all_stuck q [] e = e
  all_stuck q (a ∷ s) e = all_stuck (step q a) s (m.stuck q a e)

  dead : (s : List A) → wrong (reach step start s) ≡ true → Begins L s → ⊥
  dead s e b =
      let x : wrong (reach step start (s ++ b.rest)) ≡ true = ap wrong (reach_append step start s b.rest) ∙ all_stuck (reach step start s) b.rest e in
      not_true (sym (m.through (s ++ b.rest) b.whole) ∙ x)

-- ==== the first element that leads to a wrong state

module _ {A Q : Type 0} (step : Q → A → Q) (wrong : Q → Bool) where
  -- after i elements that led to q; or the end
  unfoldable pub wrong_from : Q → ℕ → List A → ℕ
  wrong_from q i [] = i
  wrong_from q i (a ∷ w) = cond (wrong (step q a)) i (wrong_from (step q a) (suc i) w)

  -- ---- one turn of the loop

  one_more : (q r : Q) (i : ℕ) (a : A) (w v : List A) → v ≡ a ∷ w → r ≡ step q a → wrong_from q i v ≡ cond (wrong r) i (wrong_from r (suc i) w)
  unfolding wrong_from
  one_more q r i a w v e f = rw (e, f)

  pub wrong_stops : (l : List A) (i : ℕ) (q r : Q) (d : A) → i < length l → r ≡ step q (get_or l i d) → wrong r ≡ true → wrong_from q i (drop i l) ≡ i
  wrong_stops l i q r d h e f = one_more q r i (get_or l i d) (drop (suc i) l) (drop i l) (drop-cons l i d h) e ∙ rw f

  pub wrong_goes : (l : List A) (i : ℕ) (q r : Q) (d : A) → i < length l → r ≡ step q (get_or l i d) → wrong r ≡ false → wrong_from q i (drop i l) ≡ wrong_from r (i + 1) (drop (i + 1) l)
  wrong_goes l i q r d h e f = rw add-one (one_more q r i (get_or l i d) (drop (suc i) l) (drop i l) (drop-cons l i d h) e ∙ rw f)

  pub wrong_ends : (l : List A) (i : ℕ) (q : Q) → length l ≤ i → wrong_from q i (drop i l) ≡ i
  unfolding wrong_from
  wrong_ends l i q h = ap (wrong_from q i) (drop_of_length-le l h)

module _ {A Q : Type 0} {step : Q → A → Q} {wrong : Q → Bool} {start : Q} {L : List A → Type 0} {Tail : Q → List A → Type 0} (m : Exact step wrong start L Tail) where
  begun : (s w : List A) → wrong (reach step start s) ≡ false → Begins L (take (length s) (s ++ w))
  begun s w e = subst (Begins L) (sym (take_at s w (length s) refl)) (alive m s e)

  none_more : (s : List A) (a : A) (w : List A) → wrong (reach step start (s ++ a ∷ [])) ≡ true → Begins L (take (suc (length s)) (s ++ a ∷ w)) → ⊥
  none_more s a w e b =
      let n : length (s ++ a ∷ []) ≡ suc (length s) = length-append s (a ∷ []) ∙ omega arith in
      let t : take (suc (length s)) (s ++ a ∷ w) ≡ s ++ a ∷ [] = ap (take (suc (length s))) (sym (append_assoc s (a ∷ []) w)) ∙ take_at (s ++ a ∷ []) w (suc (length s)) n in
      dead m (s ++ a ∷ []) e (subst (Begins L) t b)

  first_from : (s w : List A) (q : Q) → reach step start s ≡ q → wrong q ≡ false → FirstWrong L (s ++ w) (wrong_from step wrong q (length s) w)
  unfolding wrong_from
  first_from s [] q e f = record {
    within = omega (arith, length-append s []);
    begins = begun s [] (ap wrong e ∙ f);
    wrong = λ h. absurd (omega (arith, length-append s []));
  }
  first_from s (a ∷ w) q e f = go (wrong (step q a)) refl (λ g. first_from (s ++ a ∷ []) w (step q a) reached g)
    where
      reached : reach step start (s ++ a ∷ []) ≡ step q a
      reached = reach_append step start s (a ∷ []) ∙ ap (λ (p : Q). step p a) e

      one : length (s ++ a ∷ []) ≡ suc (length s)
      one = length-append s (a ∷ []) ∙ omega arith

      go : (t : Bool) → wrong (step q a) ≡ t → (wrong (step q a) ≡ false → FirstWrong L ((s ++ a ∷ []) ++ w) (wrong_from step wrong (step q a) (length (s ++ a ∷ [])) w))
          → FirstWrong L (s ++ a ∷ w) (cond (wrong (step q a)) (length s) (wrong_from step wrong (step q a) (suc (length s)) w))
      go true g rest = rw g (record {
        within = omega (arith, length-append s (a ∷ w));
        begins = begun s (a ∷ w) (ap wrong e ∙ f);
        wrong = λ h. none_more s a w (ap wrong reached ∙ g);
      })
      go false g rest = rw g (subst (λ (n : ℕ). FirstWrong L (s ++ a ∷ w) (wrong_from step wrong (step q a) n w)) one
          (subst (λ (l : List A). FirstWrong L l (wrong_from step wrong (step q a) (length (s ++ a ∷ [])) w)) (append_assoc s (a ∷ []) w) (rest g)))

  -- it is the first with which the list begins as none of the set does
  pub wrong_first : wrong start ≡ false → (l : List A) → FirstWrong L l (wrong_from step wrong start 0 l)
  wrong_first e l = first_from [] l start refl e
