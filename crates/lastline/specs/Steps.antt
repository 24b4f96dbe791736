-- What the functions' answers say in these words, and what stands in the lent buffer; and the code's own way: what it makes of a word, and how it counts
-- lines.
use Rattle.std.specs.Prelude.{◌≡◌, ℕ, ◌+◌, ◌<◌, ◌≤◌, Bool, cond, List, [], ◌∷◌, length, ◌==◌, refl, Err, Ok, Result, Some, None}
use Rattle.std.proofs.Math.Option.{Option, none, some}
use Rattle.signs.specs.Bytes.{line_feed}
use Rattle.rules.specs.Writing.{front}
use Rattle.laws.specs.LineLengths.{longest_line}
use Rattle.text.specs.Buffer.{Buffer, Puts}
use Rattle.text.specs.DigitLaws.{most_digits}
use Rattle.tree.specs.declared.Place.{Place}
use Rattle.tree.specs.declared.Place.TheVariants.{Word, Half, Double, Pred}
use Rattle.record.specs.declared.Word as register
use Rattle.std.specs.declared.option.Option.{Option as Given}
use Rattle.lastline.specs.LastText.{Printed}

-- ==== the word

abbrev pub asked_of : Given register.Word → Option ℕ
asked_of (Some w) = some w.0
asked_of None = none

abbrev pub word_in : Place → Bool → Option ℕ
word_in (Word w) whole = cond whole (some w.0) none
word_in (Half h) whole = none
word_in (Double d) whole = none
word_in (Pred p) whole = none

-- what is found at the front, where it is all of the word
abbrev pub asked_by : Result (Place × ℕ) ℕ → List ℕ → Option ℕ
asked_by (Ok (p, n)) l = word_in p (n == length l)
asked_by (Err k) l = none

-- ==== the text

-- how many line feeds there are: whole lines have as many
abbrev pub feed_in : ℕ → ℕ
feed_in b = cond (b == line_feed) 1 0

unfoldable pub feeds_in : List ℕ → ℕ
feeds_in [] = 0
feeds_in (b ∷ s) = feed_in b + feeds_in s

-- what is printed was put, behind x, to y
pub record PutsPrinted (s : List ℕ) (n : ℕ) (x y : Buffer) : Type 0 where
  pub text : List ℕ
  pub prints : Printed s n text
  pub puts : Puts x text y

-- as many bytes as a text has at most: a number, a space, a standard line, a line feed
abbrev pub answer_room : ℕ
answer_room = most_digits + 1 + longest_line + 1

abbrev pub said_of : Given ℕ → Option ℕ
said_of (Some n) = some n
said_of None = none

-- a buffer that may be too short is left as it was; else the text stands at its front, and behind it all is as it was
pub data Lays (s : List ℕ) (n : ℕ) (out : List ℕ) : Option ℕ → List ℕ → Type 0 where
  no_room : length out < answer_room → Lays s n out none out
  laid : {t : List ℕ} → answer_room ≤ length out → Printed s n t → Lays s n out (some (length t)) (front t out)

-- one to one: no two answers say the same
pub asked_one : (x y : Given register.Word) → asked_of x ≡ asked_of y → x ≡ y
asked_one (Some v) (Some w) e = let z : v.0 ≡ w.0 = cc in λ i. Some (record { 0 = z i })
asked_one (Some v) None e = cc
asked_one None (Some w) e = cc
asked_one None None e = refl

pub said_one : (x y : Given ℕ) → said_of x ≡ said_of y → x ≡ y
said_one (Some m) (Some n) e = cc
said_one (Some m) None e = cc
said_one None (Some n) e = cc
said_one None None e = refl
