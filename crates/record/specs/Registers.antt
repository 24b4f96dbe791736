-- Document 01, "Registers": the lent files and their places. Document 01 has three, request T-06 adds a fourth, the new file second.
use Rattle.std.specs.Prelude.{ℕ, ◌<◌, ◌≡◌, Bool, List, ltb, get_or, length}
use Rattle.record.specs.declared.Word.{Word}
use Rattle.record.specs.declared.Pred.{Pred}
use Rattle.record.specs.declared.Operand.{Operand}
use Rattle.record.specs.declared.File.{File}
use Rattle.record.specs.declared.File.TheVariants.{Words, Halves, Doubles, Preds}

-- ==== the files

-- Four lent files: words, half-words, double-words, predicates
pub record Files : Type 0 where
  pub words : List ℕ
  pub halves : List ℕ
  pub doubles : List ℕ
  pub preds : List ℕ

abbrev pub files : List ℕ → List ℕ → List ℕ → List ℕ → Files
files ws hs ds ps = record { words = ws; halves = hs; doubles = ds; preds = ps }

-- what one of them holds
abbrev pub file_of : Files → File → List ℕ
file_of f Words = f.words
file_of f Halves = f.halves
file_of f Doubles = f.doubles
file_of f Preds = f.preds

-- the files with another list in the place of one
abbrev pub with_file : File → List ℕ → Files → Files
with_file Words l f = files l f.halves f.doubles f.preds
with_file Halves l f = files f.words l f.doubles f.preds
with_file Doubles l f = files f.words f.halves l f.preds
with_file Preds l f = files f.words f.halves f.doubles l

-- 64 words of 32 bits (`%r0` to `%r63`)
abbrev pub word_count : ℕ
word_count = 64

abbrev pub word_bits : ℕ
word_bits = 32

-- T-06: `%rs0` to `%rs31`, 16-bit registers
abbrev pub half_count : ℕ
half_count = 32

abbrev pub half_bits : ℕ
half_bits = 16

-- 32 of 64 bits (`%rd0` to `%rd31`)
abbrev pub double_count : ℕ
double_count = 32

abbrev pub double_bits : ℕ
double_bits = 64

-- 16 predicates (`%p0` to `%p15`)
abbrev pub pred_count : ℕ
pred_count = 16

abbrev pub count_of : File → ℕ
count_of Words = word_count
count_of Halves = half_count
count_of Doubles = double_count
count_of Preds = pred_count

-- ==== their places

-- Word, half-word, double-word and predicate numbers are kept apart: a register is its file and its number, so `%r3`, `%rs3`, `%rd3` and `%p3` are
-- four different places
pub data Place : Type 0 where
  reg : File → ℕ → Place

abbrev pub word : ℕ → Place
word n = reg Words n

abbrev pub pred : ℕ → Place
pred n = reg Preds n

-- the register that a record names, as a place
abbrev pub r : Word → Place
r w = word w.0

abbrev pub p : Pred → Place
p q = pred q.0

abbrev pub operand_place : Operand → Place
operand_place (Operand.Word w) = reg Words w.0
operand_place (Operand.Half h) = reg Halves h.0
operand_place (Operand.Double d) = reg Doubles d.0

-- a register's number, and its file's size
abbrev pub number_of : Place → ℕ
number_of (reg file n) = n

abbrev pub file_size : Place → ℕ
file_size (reg file n) = count_of file

-- the place is in its file: its number is below the size of that file
abbrev pub Inside : Place → Type 0
Inside q = number_of q < file_size q

abbrev pub is_inside : Place → Bool
is_inside q = ltb (number_of q) (file_size q)

-- what a place of the files holds
abbrev pub at : Files → Place → ℕ
at f (reg file n) = get_or (file_of f file) n 0

-- the files g are as long as the files f
abbrev pub SameLengths : Files → Files → Type 0
SameLengths f g = (file : File) → length (file_of g file) ≡ length (file_of f file)
