-- Document 01, the listing program (under "Bench figures"): the registers at the start, and what is printed of them at the end.
use Rattle.std.specs.Prelude.{ℕ, zero, suc, ◌*◌, cond, List, [], ◌∷◌, ◌++◌, eqb}
use Rattle.signs.specs.Lists.{tab}
use Rattle.signs.specs.Bytes.{line_feed}
use Rattle.signs.specs.Text.{bytes}
use Rattle.record.specs.declared.File.{File}
use Rattle.record.specs.declared.File.TheVariants.{Words, Halves, Doubles, Preds}
use Rattle.record.specs.Registers.{count_of, Files, files, Place, reg, at}
use Rattle.rules.specs.Shape.{register_text}
use Rattle.signs.specs.Digits.{hex}

-- 01010101 hex
abbrev pub word_step : ℕ
word_step = 0x01010101

-- At the start `%rN` is N times 01010101 hex, `%rdN` is N, predicates 0. T-06: the listing starts `%rsN` at N
abbrev pub start_value : Place → ℕ
start_value (reg Words n) = n * word_step
start_value (reg Halves n) = n
start_value (reg Doubles n) = n
start_value (reg Preds n) = 0

abbrev pub start_file : File → List ℕ
start_file file = tab (count_of file) (λ n. start_value (reg file n))

unfoldable pub start_files : Files
start_files = files (start_file Words) (start_file Halves) (start_file Doubles) (start_file Preds)

-- `%r` (8 hex digits, capitals), `%rd` (16), `%p`. T-06: 4 digits
abbrev pub digits_of : File → ℕ
digits_of Words = 8
digits_of Halves = 4
digits_of Doubles = 16
digits_of Preds = 1

abbrev pub value_text : Place → ℕ → List ℕ
value_text (reg file n) v = register_text (reg file n) ++ bytes " " ++ hex (digits_of file) v ++ (line_feed ∷ [])

-- the registers whose value differs from the start
unfoldable pub change_text : Place → ℕ → List ℕ
change_text p v = cond (eqb v (start_value p)) [] (value_text p v)

-- the first k registers of a file, numbers rising
unfoldable pub changes_text : File → ℕ → Files → List ℕ
changes_text file zero f = []
changes_text file (suc k) f = changes_text file k f ++ change_text (reg file k) (at f (reg file k))

abbrev pub file_changes : File → Files → List ℕ
file_changes file f = changes_text file (count_of file) f

-- T-06: between `%r` and `%rd`
unfoldable pub registers_text : Files → List ℕ
registers_text f = file_changes Words f ++ file_changes Halves f ++ file_changes Doubles f ++ file_changes Preds f
