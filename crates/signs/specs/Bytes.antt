-- The classes of bytes that document 01's shape of a line speaks of, and lists made of one class. Assumes nothing.
use Rattle.std.specs.Prelude.{ℕ, ◌<◌, ◌≡◌, Bool, true, ◌&&◌, ◌||◌, List, [], ◌∷◌, leb, eqb, length}
use Rattle.signs.specs.Digits.{zero_byte}

-- the byte that ends a line of a listing
abbrev pub line_feed : ℕ
line_feed = 10

-- Blank means space or tab
abbrev pub space_byte : ℕ
space_byte = 32

abbrev pub tab_byte : ℕ
tab_byte = 9

abbrev pub is_blank : ℕ → Bool
is_blank b = eqb b space_byte || eqb b tab_byte

-- 0-9
abbrev pub nine_byte : ℕ
nine_byte = 57

abbrev pub is_digit : ℕ → Bool
is_digit b = leb zero_byte b && leb b nine_byte

-- a-z
abbrev pub letter_a : ℕ
letter_a = 97

abbrev pub letter_z : ℕ
letter_z = 122

abbrev pub is_letter : ℕ → Bool
is_letter b = leb letter_a b && leb b letter_z

-- one of a-z and 0-9
abbrev pub is_name_byte : ℕ → Bool
is_name_byte b = is_letter b || is_digit b

-- every byte of the list is of the class
pub data All (p : ℕ → Bool) : List ℕ → Type 0 where
  none : All p []
  more : {b : ℕ} {w : List ℕ} → p b ≡ true → All p w → All p (b ∷ w)

-- and there is at least one
pub record Some (p : ℕ → Bool) (w : List ℕ) : Type 0 where
  pub all : All p w
  pub some : 0 < length w
