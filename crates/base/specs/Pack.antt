-- A short text as one number: its bytes are the digits, the first the lowest. No one has to believe it: laws join the number to the text.
use Rattle.std.specs.Prelude.{ℕ, zero, suc, ◌+◌, ◌*◌, ◌/◌, ◌%◌, ◌^◌, ◌≤◌, ◌<◌, ◌≡◌, Bool, true, ◌&&◌, cond, List, [], ◌∷◌, ◌++◌, leb, ltb, eqb, length}
use Rattle.signs.specs.Bytes.{is_name_byte}
use Rattle.base.specs.Values.{every}

-- a name's bytes are below 128
abbrev pub radix : ℕ
radix = 128

abbrev pub pack : List ℕ → ℕ
pack [] = 0
pack (b ∷ w) = b % radix + radix * pack w

-- nine digits fit 64 bits; a longer name is none that the bench knows
abbrev pub longest_name : ℕ
longest_name = 9

unfoldable pub code_of : List ℕ → ℕ
code_of w = cond (leb (length w) longest_name) (pack w) 0

-- ==== back from the number

-- at most so many bytes of a number
unfoldable pub unpack_in : ℕ → ℕ → List ℕ
unpack_in zero x = []
unpack_in (suc k) x = cond (eqb x 0) [] (x % radix ∷ unpack_in k (x / radix))

-- 64 bits are at most ten bytes
unfoldable pub unpacked : ℕ → List ℕ
unpacked x = unpack_in 10 x

-- the texts of several numbers, one after another; 0 stands for none
abbrev pub spelled : List ℕ → List ℕ
spelled [] = []
spelled (x ∷ l) = unpacked x ++ spelled l

-- ==== texts that a number keeps

-- no byte is 0, and each is below 128
abbrev pub is_plain : ℕ → Bool
is_plain b = ltb 0 b && ltb b radix

-- one to nine bytes of a-z and 0-9
abbrev pub is_short_name : List ℕ → Bool
is_short_name w = ltb 0 (length w) && (leb (length w) longest_name && every is_name_byte w)

-- a number stands for a name, which is good and short
pub record CodeOf (x : ℕ) (w : List ℕ) : Type 0 where
  pub code : x ≡ code_of w
  pub short : is_short_name w ≡ true

-- x is the number of the text w, which has at most k bytes
pub record NumberSpells (k x : ℕ) (w : List ℕ) : Type 0 where
  pub few : k ≤ longest_name
  pub code : x ≡ pack w
  pub small : x < radix ^ k
  pub plain : every is_plain w ≡ true
