-- The laws that a writer of digits goes by. Assumes nothing.
use Rattle.std.specs.Prelude.{ℕ, zero, suc, ◌+◌, ◌-◌, ◌*◌, ◌/◌, ◌%◌, ◌^◌, ◌≤◌, ◌<◌, ◌≡◌, refl, List, [], ◌∷◌, ◌++◌, length}
use Rattle.std.proofs.Common.{pow-suc, arith, sym, ap, subst, ◌∙◌, length-append, lt-ltb, le-ltb}
use Rattle.std.proofs.Math.Decide.{dec_lt}
use Rattle.signs.specs.Digits.{zero_byte, decimal_in, decimal, hex_digit, hex}

small : (k n : ℕ) → n < 10 → decimal_in (suc k) n ≡ (n + zero_byte) ∷ []
unfolding decimal_in
small k n h = rw (lt-ltb n 10 h)

large : (k n : ℕ) → 10 ≤ n → decimal_in (suc k) n ≡ decimal_in k (n / 10) ++ ((n % 10 + zero_byte) ∷ [])
unfolding decimal_in
large k n h = rw (le-ltb n 10 h)

-- steps beyond n change nothing
same : (k m n : ℕ) → n < k → n < m → decimal_in k n ≡ decimal_in m n
same zero m n h i = absurd (omega arith)
same (suc k) zero n h i = absurd (omega arith)
same (suc k) (suc m) n h i = go (dec_lt n 10) (same k m (n / 10))
  where
    go : Dec (n < 10) → (n / 10 < k → n / 10 < m → decimal_in k (n / 10) ≡ decimal_in m (n / 10)) → decimal_in (suc k) n ≡ decimal_in (suc m) n
    go (yes a) less = small k n a ∙ sym (small m n a)
    go (no a) less =
        let t : 10 ≤ n = omega arith in
        large k n t ∙ ap (λ (l : List ℕ). l ++ ((n % 10 + zero_byte) ∷ [])) (less (omega arith) (omega arith)) ∙ sym (large m n t)

pub one_digit : (n : ℕ) → n < 10 → decimal n ≡ (n + zero_byte) ∷ []
unfolding decimal
one_digit n h = small n n h

pub more_digits : (n : ℕ) → 10 ≤ n → decimal n ≡ decimal (n / 10) ++ ((n % 10 + zero_byte) ∷ [])
unfolding decimal
more_digits n h = large n n h ∙ ap (λ (l : List ℕ). l ++ ((n % 10 + zero_byte) ∷ [])) (same n (suc (n / 10)) (n / 10) (omega arith) (omega arith))

-- a number below 10 to the k has at most k digits
decimal_in_short : (j k n : ℕ) → 0 < k → n < 10 ^ k → length (decimal_in j n) ≤ k
unfolding decimal_in
decimal_in_short zero k n p h = omega arith
decimal_in_short (suc j) zero n p h = absurd (omega arith)
decimal_in_short (suc j) (suc k) n p h = go (dec_lt n 10) (decimal_in_short j k (n / 10))
  where
    e : 10 ^ suc k ≡ 10 ^ k * 10
    e = pow-suc 10 k

    go : Dec (n < 10) → (0 < k → n / 10 < 10 ^ k → length (decimal_in j (n / 10)) ≤ k) → length (decimal_in (suc j) n) ≤ suc k
    go (yes a) less = rw (small j n a) (omega arith)
    go (no a) less = rw (large j n (omega arith)) (by_k k refl)
      where
        by_k : (i : ℕ) → k ≡ i → length (decimal_in j (n / 10) ++ ((n % 10 + zero_byte) ∷ [])) ≤ suc k
        by_k zero z = absurd (a (subst (λ (i : ℕ). n < 10 ^ suc i) z h))
        by_k (suc i) z = let r = less (omega arith) (omega (arith, e)) in simp length-append (omega arith)

-- a number of 64 bits has at most 20 digits
abbrev pub most_digits : ℕ
most_digits = 20

pub decimal_short : (n : ℕ) → n < 2 ^ 64 → length (decimal n) ≤ most_digits
unfolding decimal
decimal_short n h = decimal_in_short (suc n) most_digits n (omega arith) (omega arith)

pub hex_none : (x : ℕ) → hex 0 x ≡ []
unfolding hex
hex_none x = refl

pub hex_more : (k x : ℕ) → 0 < k → hex k x ≡ hex (k - 1) (x / 16) ++ (hex_digit (x % 16) ∷ [])
unfolding hex
hex_more zero x h = absurd (omega arith)
hex_more (suc k) x h =
    let e : suc k - 1 ≡ k = omega arith in
    rw e refl

pub hex_length : (k x : ℕ) → length (hex k x) ≡ k
unfolding hex
hex_length zero x = refl
hex_length (suc k) x = let r = hex_length k (x / 16) in simp length-append (omega arith)
