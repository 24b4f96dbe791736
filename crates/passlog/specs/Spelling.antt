-- The code's own way to read a text: it takes numbers from it as if it were well formed, writes the text of these numbers, and looks whether that is the
-- text that it has. SpellingLaws join this to `Says`.
use Rattle.std.specs.Prelude.{ℕ, ◌+◌, ◌-◌, ◌*◌, ◌%◌, ◌^◌, cond, List, [], ◌∷◌, nat_lt}
use Rattle.std.proofs.Math.Option.{Option, none, some}
use Rattle.signs.specs.Digits.{zero_byte, ten_byte}
use Rattle.signs.specs.Bytes.{space_byte}
use Rattle.rules.specs.Numbers.{word_size}
use Rattle.text.specs.Same.{same_text}
use Rattle.lines.specs.Until.{before, behind}
use Rattle.tally.specs.declared.Read.{Read}
use Rattle.passlog.specs.Log.{floor_digits, floor_text, read_text}

-- what a digit stands for, also a hexadecimal one; any other byte stands for something too
abbrev pub digit_of : ℕ → ℕ
digit_of b = cond (nat_lt b zero_byte) 0 (cond (nat_lt b ten_byte) (b - zero_byte) (b - ten_byte + 10))

-- the number behind v, modulo 2^32
unfoldable pub number_from : ℕ → ℕ → List ℕ → ℕ
number_from base v [] = v
number_from base v (b ∷ s) = number_from base ((v * base + digit_of b) % word_size) s

abbrev pub number_of : ℕ → List ℕ → ℕ
number_of base s = number_from base 0 s

abbrev pub word_at : List ℕ → List ℕ
word_at s = before space_byte s

abbrev pub rest_of : List ℕ → List ℕ
rest_of s = behind space_byte s

unfoldable pub guess_of : List ℕ → Read
guess_of l = record {
  tag = number_of 10 (word_at l);
  pass = number_of 10 (word_at (rest_of l));
  first = number_of 16 (word_at (rest_of (rest_of l)));
  second = number_of 16 (word_at (rest_of (rest_of (rest_of l))));
}

unfoldable pub floor_guess : List ℕ → ℕ
floor_guess l = number_of 16 l % 16 ^ floor_digits

-- the guess, where its text is the one at hand
abbrev pub spelled : {A : Type 0} → (A → List ℕ) → List ℕ → A → Option A
spelled text_of l x = cond (same_text (text_of x) l) (some x) none

abbrev pub read_of : List ℕ → Option Read
read_of l = spelled read_text l (guess_of l)

abbrev pub floor_of : List ℕ → Option ℕ
floor_of l = spelled floor_text l (floor_guess l)
