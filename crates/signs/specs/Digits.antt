-- Numbers as text: decimal without leading zeros, and hexadecimal with capitals in a given number of digits.
use Rattle.std.specs.Prelude.{ℕ, zero, suc, ◌+◌, ◌-◌, ◌/◌, ◌%◌, cond, List, [], ◌∷◌, ◌++◌, ltb}

-- `0` and the letter that stands for ten
abbrev pub zero_byte : ℕ
zero_byte = 48

abbrev pub ten_byte : ℕ
ten_byte = 65

-- the last digit stands behind those of a tenth; in at most so many steps
unfoldable pub decimal_in : ℕ → ℕ → List ℕ
decimal_in zero n = []
decimal_in (suc k) n = cond (ltb n 10) ((n + zero_byte) ∷ []) (decimal_in k (n / 10) ++ ((n % 10 + zero_byte) ∷ []))

-- n has at most n + 1 digits, so none is lost
unfoldable pub decimal : ℕ → List ℕ
decimal n = decimal_in (suc n) n

-- hex digits, capitals
abbrev pub hex_digit : ℕ → ℕ
hex_digit d = cond (ltb d 10) (d + zero_byte) (d - 10 + ten_byte)

unfoldable pub hex : ℕ → ℕ → List ℕ
hex zero x = []
hex (suc k) x = hex k (x / 16) ++ (hex_digit (x % 16) ∷ [])
