-- What the code reads is what the text says, and a text says one thing. Assumes nothing.
use Rattle.std.specs.Prelude.{◌≡◌, ℕ, zero, suc, ◌+◌, ◌-◌, ◌*◌, ◌/◌, ◌%◌, ◌^◌, ◌<◌, ◌≤◌, Bool, true, false, cond, List, [], ◌∷◌, ◌++◌, length, drop, ◌≢◌, nat_le, nat_lt}
use Rattle.std.proofs.Common.{mod-eq_of_lt, pow-suc, sym, ap, ◌∙◌, append_assoc, append-nil, lt-ltb, le-ltb, ne_eqb, le-leb, leb-true}
use Rattle.std.proofs.Math.Decide.{dec_lt}
use native.Mathlib.Omega.{arith}
use Rattle.std.proofs.Math.Path.{refl}
use Rattle.std.proofs.Math.Option.{Option, none, some}
use Rattle.std.proofs.Math.Seq.{take-length, take-append_seam}
use Rattle.signs.specs.Text.{bytes}
use Rattle.signs.specs.Digits.{zero_byte, ten_byte, decimal, hex_digit, hex}
use Rattle.signs.specs.Bytes.{space_byte, All, more}
use Rattle.signs.specs.Bytes as class
use Rattle.rules.specs.Numbers.{word_size}
use Rattle.text.specs.Same.{same_text, text_same, same_text_lem}
use Rattle.text.specs.DigitLaws.{one_digit, more_digits}
use Rattle.tally.specs.declared.Read.{Read}
use Rattle.passlog.specs.Log.{Says, is_of, is_none, SaysFloor, FloorFits, floor_digits, floor_text, word_digits, read_text, ReadFits, SaysRead}
use Rattle.lines.specs.Until.{length_to}
use Rattle.passlog.specs.Spelling.{digit_of, number_from, number_of, word_at, rest_of, guess_of, floor_guess, spelled, read_of, floor_of}

-- ==== the digits of numbers

-- a number and its last digit
number_append : (base v b : ℕ) (s : List ℕ) → number_from base v (s ++ (b ∷ [])) ≡ (number_from base v s * base + digit_of b) % word_size
unfolding number_from
number_append base v b [] = refl
number_append base v b (x ∷ s) = number_append base ((v * base + digit_of x) % word_size) b s

decimal_digit : (d : ℕ) → d < 10 → digit_of (d + zero_byte) ≡ d
decimal_digit d h = rw (le-ltb (d + zero_byte) zero_byte (omega arith), lt-ltb (d + zero_byte) ten_byte (omega arith)) (omega arith)

hex_digit_lem : (d : ℕ) → d < 16 → digit_of (hex_digit d) ≡ d
hex_digit_lem d h = go (dec_lt d 10)
  where
    go : Dec (d < 10) → digit_of (hex_digit d) ≡ d
    go (yes a) = rw (lt-ltb d 10 a) (decimal_digit d a)
    go (no a) =
        let k : 10 ≤ d = omega arith in
        rw (le-ltb d 10 k, le-ltb (d - 10 + ten_byte) zero_byte (omega arith), le-ltb (d - 10 + ten_byte) ten_byte (omega arith)) (omega arith)

decimal_read : (k n : ℕ) → n < k → n < word_size → number_of 10 (decimal n) ≡ n
unfolding number_from
decimal_read zero n h w = absurd (omega arith)
decimal_read (suc k) n h w = go (dec_lt n 10) (decimal_read k (n / 10))
  where
    go : Dec (n < 10) → (n / 10 < k → n / 10 < word_size → number_of 10 (decimal (n / 10)) ≡ n / 10) → number_of 10 (decimal n) ≡ n
    go (yes a) less = rw (one_digit n a, decimal_digit n a) (omega arith)
    go (no a) less =
        let k : 10 ≤ n = omega arith in
        rw (more_digits n k, number_append 10 0 (n % 10 + zero_byte) (decimal (n / 10)), less (omega arith) (omega arith), decimal_digit (n % 10) (omega arith))
        (omega arith)

hex_read : (k x : ℕ) → x < 16 ^ k → x < word_size → number_of 16 (hex k x) ≡ x
unfolding hex number_from
hex_read zero x h w = omega arith
hex_read (suc k) x h w =
    let e : 16 ^ suc k ≡ 16 ^ k * 16 = pow-suc 16 k in
    rw (number_append 16 0 (hex_digit (x % 16)) (hex k (x / 16)), hex_read k (x / 16) (omega (arith, e)) (omega arith), hex_digit_lem (x % 16) (omega arith))
    (omega arith)

-- ==== no blank among them

abbrev above : ℕ → Bool
above b = nat_le zero_byte b

all_append : {p : ℕ → Bool} (s t : List ℕ) → All p s → All p t → All p (s ++ t)
all_append [] t a b = b
all_append (x ∷ s) t (more e a) b = more e (all_append s t a b)

decimal_above : (k n : ℕ) → n < k → All above (decimal n)
decimal_above zero n h = absurd (omega arith)
decimal_above (suc k) n h = go (dec_lt n 10) (decimal_above k (n / 10))
  where
    go : Dec (n < 10) → (n / 10 < k → All above (decimal (n / 10))) → All above (decimal n)
    go (yes a) less = rw (one_digit n a) (more (le-leb zero_byte (n + zero_byte) (omega arith)) class.none)
    go (no a) less =
        let k : 10 ≤ n = omega arith in
        rw (more_digits n k) (all_append (decimal (n / 10)) ((n % 10 + zero_byte) ∷ []) (less (omega arith)) (more (le-leb zero_byte (n % 10 + zero_byte) (omega arith)) class.none))

hex_digit_above : (d : ℕ) → above (hex_digit d) ≡ true
hex_digit_above d = go (nat_lt d 10)
  where
    go : (t : Bool) → above (cond t (d + zero_byte) (d - 10 + ten_byte)) ≡ true
    go true = le-leb zero_byte (d + zero_byte) (omega arith)
    go false = le-leb zero_byte (d - 10 + ten_byte) (omega arith)

hex_above : (k x : ℕ) → All above (hex k x)
unfolding hex
hex_above zero x = class.none
hex_above (suc k) x = all_append (hex k (x / 16)) (hex_digit (x % 16) ∷ []) (hex_above k (x / 16)) (more (hex_digit_above (x % 16)) class.none)

past_digits : (w s : List ℕ) → All above w → length_to space_byte (w ++ s) ≡ length w + length_to space_byte s
unfolding length_to
past_digits [] s a = omega arith
past_digits (b ∷ w) s (more e a) = rw (ne_eqb b space_byte (λ k. omega (arith, leb-true zero_byte b e)), past_digits w s a) (omega arith)

module _ (w s : List ℕ) (a : All above w) where
  word_length : length_to space_byte (w ++ space_byte ∷ s) ≡ length w
  unfolding length_to
  word_length = past_digits w (space_byte ∷ s) a ∙ omega arith

  word_first : word_at (w ++ space_byte ∷ s) ≡ w
  word_first = rw word_length (take-append_seam w (space_byte ∷ s))

  word_rest : rest_of (w ++ space_byte ∷ s) ≡ s
  word_rest = rw word_length (go w)
    where
      go : (v : List ℕ) → drop (suc (length v)) (v ++ space_byte ∷ s) ≡ s
      go [] = refl
      go (b ∷ v) = go v

word_last : (w : List ℕ) → All above w → word_at w ≡ w
unfolding length_to
word_last w a =
    let e : length_to space_byte w ≡ length w = ap (length_to space_byte) (sym (append-nil w)) ∙ past_digits w [] a ∙ omega arith in
    rw e (take-length w)

-- ==== a read's own text is read back

words_apart : (a b c d : List ℕ) → a ++ bytes " " ++ b ++ bytes " " ++ c ++ bytes " " ++ d ≡ a ++ (space_byte ∷ (b ++ (space_byte ∷ (c ++ (space_byte ∷ d)))))
words_apart a b c d = simp append_assoc refl

module _ (r : Read) where
  -- what stands behind each of the first three words
  abbrev second : List ℕ
  second = hex word_digits r.second

  abbrev words : List ℕ
  words = hex word_digits r.first ++ (space_byte ∷ second)

  abbrev numbers : List ℕ
  numbers = decimal r.pass ++ (space_byte ∷ words)

  guess_back : ReadFits r → guess_of (read_text r) ≡ r
  unfolding guess_of
  guess_back f =
      let tag = decimal_above (suc r.tag) r.tag (omega arith) in
      let pass = decimal_above (suc r.pass) r.pass (omega arith) in
      let first = hex_above word_digits r.first in
      rw (
        words_apart (decimal r.tag) (decimal r.pass) (hex word_digits r.first) second,
        word_first (decimal r.tag) numbers tag,
        word_rest (decimal r.tag) numbers tag,
        word_first (decimal r.pass) words pass,
        word_rest (decimal r.pass) words pass,
        word_first (hex word_digits r.first) second first,
        word_rest (hex word_digits r.first) second first,
        word_last second (hex_above word_digits r.second),
        decimal_read (suc r.tag) r.tag (omega arith) f.tag,
        decimal_read (suc r.pass) r.pass (omega arith) f.pass,
        hex_read word_digits r.first f.first f.first,
        hex_read word_digits r.second f.second f.second,
      )
      refl

floor_back : (floor : ℕ) → FloorFits floor → floor_guess (floor_text floor) ≡ floor
unfolding floor_guess
floor_back floor f = rw (hex_read floor_digits floor f (omega arith)) (mod-eq_of_lt f)

-- ==== what is guessed is in range

number_lt : (base v : ℕ) (s : List ℕ) → v < word_size → number_from base v s < word_size
unfolding number_from
number_lt base v [] h = h
number_lt base v (b ∷ s) h = number_lt base ((v * base + digit_of b) % word_size) s (omega arith)

pub guess_fits : (l : List ℕ) → ReadFits (guess_of l)
unfolding guess_of
guess_fits l = record {
  tag = number_lt 10 0 (word_at l) (omega arith);
  pass = number_lt 10 0 (word_at (rest_of l)) (omega arith);
  first = number_lt 16 0 (word_at (rest_of (rest_of l))) (omega arith);
  second = number_lt 16 0 (word_at (rest_of (rest_of (rest_of l)))) (omega arith);
}

pub floor_fits : (l : List ℕ) → FloorFits (floor_guess l)
unfolding floor_guess
floor_fits l = omega arith

-- ==== what the code reads is what the text says

module _ {A : Type 0} (InRange : A → Type 0) (text_of : A → List ℕ) (guess : List ℕ → A) (fits : (l : List ℕ) → InRange (guess l)) (back : (x : A) → InRange x → guess (text_of x) ≡ x) where
  spelled_says : (l : List ℕ) → Says InRange text_of l (spelled text_of l (guess l))
  spelled_says l = go (same_text (text_of (guess l)) l) refl
    where
      other : same_text (text_of (guess l)) l ≡ false → (x : A) → InRange x → l ≢ text_of x
      other h x f e =
          let g : guess l ≡ x = ap guess e ∙ back x f in
          let s : text_of (guess l) ≡ l = ap text_of g ∙ sym e in
          let t : true ≡ false = sym (text_same l) ∙ ap (λ (k : List ℕ). same_text k l) (sym s) ∙ h in
          let z : ◌≡◌ {A = ℕ} 0 1 = cc in
          omega arith

      go : (t : Bool) → same_text (text_of (guess l)) l ≡ t → Says InRange text_of l (cond t (some (guess l)) none)
      go true h = is_of (fits l) (sym (same_text_lem (text_of (guess l)) l h))
      go false h = is_none (other h)

  said_yes : (l : List ℕ) → same_text (text_of (guess l)) l ≡ true → Says InRange text_of l (some (guess l))
  said_yes l h = rw h at (spelled_says l)

  said_no : (l : List ℕ) → same_text (text_of (guess l)) l ≡ false → Says InRange text_of l none
  said_no l h = rw h at (spelled_says l)

  -- a text says one thing
  spelled_one : {l : List ℕ} {x y : Option A} → Says InRange text_of l x → Says InRange text_of l y → x ≡ y
  spelled_one (is_of {x = x} f e) (is_of {x = y} g h) = ap some (sym (back x f) ∙ ap guess (sym e ∙ h) ∙ back y g)
  spelled_one (is_of {x = x} f e) (is_none k) = absurd (k x f e)
  spelled_one (is_none k) (is_of {x = y} g h) = absurd (k y g h)
  spelled_one (is_none k) (is_none m) = refl

pub read_yes : (l : List ℕ) → same_text (read_text (guess_of l)) l ≡ true → SaysRead l (some (guess_of l))
read_yes l h = said_yes ReadFits read_text guess_of guess_fits guess_back l h

pub read_no : (l : List ℕ) → same_text (read_text (guess_of l)) l ≡ false → SaysRead l none
read_no l h = said_no ReadFits read_text guess_of guess_fits guess_back l h

pub floor_yes : (l : List ℕ) → same_text (floor_text (floor_guess l)) l ≡ true → SaysFloor l (some (floor_guess l))
floor_yes l h = said_yes FloorFits floor_text floor_guess floor_fits floor_back l h

pub floor_no : (l : List ℕ) → same_text (floor_text (floor_guess l)) l ≡ false → SaysFloor l none
floor_no l h = said_no FloorFits floor_text floor_guess floor_fits floor_back l h

-- every line says something, and no line says two things; so does a word
pub read_says : (l : List ℕ) → SaysRead l (read_of l)
read_says l = spelled_says ReadFits read_text guess_of guess_fits guess_back l

pub read_one : {l : List ℕ} {x y : Option Read} → SaysRead l x → SaysRead l y → x ≡ y
read_one a b = spelled_one ReadFits read_text guess_of guess_fits guess_back a b

pub floor_says : (l : List ℕ) → SaysFloor l (floor_of l)
floor_says l = spelled_says FloorFits floor_text floor_guess floor_fits floor_back l

pub floor_one : {l : List ℕ} {x y : Option ℕ} → SaysFloor l x → SaysFloor l y → x ≡ y
floor_one a b = spelled_one FloorFits floor_text floor_guess floor_fits floor_back a b

-- each read has its line (the bounds stand here as README has them, so that they do not hang on a name), and no line is two reads'
pub read_written : (r : Read) → r.tag ≤ 4294967295 → r.pass ≤ 4294967295 → r.first < 2 ^ 32 → r.second < 2 ^ 32 → SaysRead (read_text r) (some r)
read_written r a b c d = is_of {x = r} (record { tag = omega arith; pass = omega arith; first = omega arith; second = omega arith }) refl

pub texts_one : (r s : Read) → ReadFits r → ReadFits s → read_text r ≡ read_text s → r ≡ s
texts_one r s f g e = sym (guess_back r f) ∙ ap guess_of e ∙ guess_back s g
