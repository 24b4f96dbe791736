-- What the proofs of this crate share: the pieces of a register's text, and how long they are. Assumes nothing.
use Prim.Native.Nat.{ℕ, zero, suc, ◌*◌, ◌/◌, ◌≤◌, ◌<◌}
use native.Mathlib.Decide.{dec_lt}
use native.Mathlib.Omega.{arith}
use mathlib.Core.Path.{◌≡◌, refl, ap, ap₂, subst, ◌∙◌}
use mathlib.Core.Bool.{Bool, true, false, cond}
use mathlib.Core.List.{List, [], ◌∷◌, ◌++◌}
use lib.ListN.{length, get_or, length-append}
use lib.Dec.{ltb, eqb}
use borrow.Author.Tests.{lt-ltb, le-ltb}
use Rattle.signs.specs.Lists.{tab}
use Rattle.signs.specs.Text.{bytes}
use Rattle.record.specs.Registers.{word_count, half_count, double_count, pred_count, count_of, Files, reg, at}
use Rattle.rules.specs.Shape.{digit, number_text, file_text, register_text}
use Rattle.text.specs.Buffer.{buffer, Puts, whole_front}
use Rattle.text.specs.Out.{Writes}
use Rattle.text.specs.declared.Out.{Out}
use Rattle.signs.specs.Digits.{decimal, hex}
use Rattle.text.specs.DigitLaws.{one_digit, more_digits, hex_length}
use Rattle.signs.specs.Bytes.{line_feed}
use Rattle.changes.specs.Changes.{start_value, digits_of, value_text, change_text, changes_text, registers_text}
use Rattle.changes.specs.Registers.{value_room, registers_room, printed_bytes, print_outcome, printing}
use Rattle.record.specs.declared.File.{File}
use Rattle.record.specs.declared.File.TheVariants.{Words, Halves, Doubles, Preds}

-- ==== a register

-- a number below 100 has the digits that a register's has
decimal_number : (n : ℕ) → n < 100 → decimal n ≡ number_text n
decimal_number n h = by_size (dec_lt n 10)
  where
    by_size : Dec (n < 10) → decimal n ≡ number_text n
    by_size (yes a) = rw (lt-ltb n 10 a) (one_digit n a ∙ ap (λ (d : ℕ). d ∷ []) (omega arith))
    by_size (no a) =
        let k : 10 ≤ n = omega arith in
        let m : n / 10 < 10 = omega arith in
        rw (le-ltb n 10 k, lt-ltb n 100 h) (more_digits n k ∙ rw (one_digit (n / 10) m) (ap (λ (d : ℕ). d ∷ digit n ∷ []) (omega arith)))

register_text_lem : (file : File) (k : ℕ) → k < 100 → file_text file ++ decimal k ≡ register_text (reg file k)
register_text_lem file k h = ap (λ (t : List ℕ). file_text file ++ t) (decimal_number k h)

pub below_100 : (file : File) (k : ℕ) → k < count_of file → k < 100
below_100 Words k h = omega arith
below_100 Halves k h = omega arith
below_100 Doubles k h = omega arith
below_100 Preds k h = omega arith

pub value_put : {d : ℕ} {x y : Out} (file : File) (k v : ℕ) → k < 100 → d ≡ digits_of file
    → Writes x (file_text file ++ decimal k ++ bytes " " ++ hex d v ++ (line_feed ∷ [])) y → Writes x (value_text (reg file k) v) y
value_put {d} {x} {y} file k v h e a =
    let t : file_text file ++ decimal k ++ bytes " " ++ hex d v ++ (line_feed ∷ []) ≡ value_text (reg file k) v =
    ap (λ (t : List ℕ). t ++ bytes " " ++ hex d v ++ (line_feed ∷ [])) (register_text_lem file k h)
    ∙ ap (λ (m : ℕ). register_text (reg file k) ++ bytes " " ++ hex m v ++ (line_feed ∷ [])) e in
    subst (λ (t : List ℕ). Writes x t y) t a

-- ==== all registers

number_short : (n : ℕ) → n < 100 → length (number_text n) ≤ 2
number_short n h = go (ltb n 10) refl
  where
    go : (t : Bool) → ltb n 10 ≡ t → length (cond t (digit n ∷ []) (cond (ltb n 100) (digit (n / 10) ∷ digit n ∷ []) (digit (n / 100) ∷ digit (n / 10) ∷ digit n ∷ []))) ≤ 2
    go true e = omega arith
    go false e = rw (lt-ltb n 100 h) (omega arith)

value_short : (file : File) (k v : ℕ) → k < 100 → length (value_text (reg file k) v) ≤ value_room
value_short Words k v h = simp (length-append, hex_length) (omega (arith, number_short k h))
value_short Halves k v h = simp (length-append, hex_length) (omega (arith, number_short k h))
value_short Doubles k v h = simp (length-append, hex_length) (omega (arith, number_short k h))
value_short Preds k v h = simp (length-append, hex_length) (omega (arith, number_short k h))

change_short : (file : File) (k v : ℕ) → k < 100 → length (change_text (reg file k) v) ≤ value_room
unfolding change_text
change_short file k v h = go (eqb v (start_value (reg file k)))
  where
    go : (t : Bool) → length (cond t [] (value_text (reg file k) v)) ≤ value_room
    go true = omega arith
    go false = value_short file k v h

changes_short : (file : File) (k : ℕ) (f : Files) → k ≤ 100 → length (changes_text file k f) ≤ k * value_room
unfolding changes_text
changes_short file zero f h = omega arith
changes_short file (suc k) f h =
    let a = changes_short file k f (omega arith) in
    simp length-append (omega (arith, a, change_short file k (at f (reg file k)) (omega arith)))

registers_short : (f : Files) → length (registers_text f) ≤ registers_room
unfolding registers_text
registers_short f =
    simp length-append
    (omega (arith, changes_short Words word_count f (omega arith), changes_short Halves half_count f (omega arith), changes_short Doubles double_count f (omega arith), changes_short Preds pred_count f (omega arith)))

pub registers_printed : (f : Files) {out after : List ℕ} {n : ℕ} → registers_room ≤ length out → Puts (buffer out 0) (registers_text f) (buffer after n)
    → print_outcome (printed_bytes n) after ≡ printing f out
unfolding printing
registers_printed f {out} {after} {n} h p =
    let w = whole_front p (omega (arith, registers_short f)) in
    rw (le-ltb (length out) registers_room h) (ap₂ (λ (m : ℕ) (l : List ℕ). print_outcome (printed_bytes m) l) w.0 w.1)

-- ==== the registers at the start

-- a list whose places are known
pub tabbed : (n : ℕ) (f : ℕ → ℕ) (l : List ℕ) → length l ≡ n → ((i : ℕ) → i < n → get_or l i 0 ≡ f i) → l ≡ tab n f
tabbed zero f [] e h = refl
tabbed zero f (x ∷ l) e h = absurd (omega arith)
tabbed (suc n) f [] e h = absurd (omega arith)
tabbed (suc n) f (x ∷ l) e h = ap₂ ◌∷◌ (h 0 (omega arith)) (tabbed n (λ i. f (suc i)) l (omega arith) (λ i b. h (suc i) (omega arith)))
