-- The code's own way: from the end of the listing back, a line at a time. No one has to believe it: BackLaws and LastLaws join it to `last_of`.
use Rattle.std.specs.Prelude.{ℕ, zero, suc, ◌-◌, Bool, false, not, cond, List, length, take, drop, get_or, eqb, ltb}
use Rattle.std.proofs.Math.Option.{Option, none, some}
use Rattle.signs.specs.Bytes.{line_feed}
use Rattle.record.specs.declared.Mode.TheVariants.{Ordinary}
use Rattle.record.specs.declared.Target.TheVariants.{Sm30}
use Rattle.rules.specs.Reading as reading
use Rattle.read.specs.Mirror.{read_of}
use Rattle.lines.specs.Lines.{lines_of}
use Rattle.last.specs.Last.{has_destination, last_in}

-- the reader's own reading; it is a full one (`read_of_full`)
abbrev pub own_answer : List ℕ → reading.Answer
own_answer l = read_of Sm30 Ordinary l

unfoldable pub own_has : ℕ → List ℕ → Bool
own_has n l = has_destination n (own_answer l)

-- where the line that ends before `at` ends: before its line feed, if it has one
abbrev pub line_end : List ℕ → ℕ → ℕ
line_end s at = cond (eqb (get_or s (at - 1) 0) line_feed) (at - 1) at

-- where the line that ends at a place begins: behind a line feed, or with the listing
unfoldable pub line_start : List ℕ → ℕ → ℕ
line_start s zero = 0
line_start s (suc k) = cond (eqb (get_or s k 0) line_feed) (suc k) (line_start s k)

-- the bytes from a place up to another
abbrev pub part : List ℕ → ℕ → ℕ → List ℕ
part s from end = take (end - from) (drop from s)

-- the line that stands before the last `gone` bytes: where it ends, and where it begins
abbrev pub end_before : List ℕ → ℕ → ℕ
end_before s gone = line_end s (length s - gone)

abbrev pub start_before : List ℕ → ℕ → ℕ
start_before s gone = line_start s (end_before s gone)

unfoldable pub line_before : List ℕ → ℕ → List ℕ
line_before s gone = part s (start_before s gone) (end_before s gone)

-- how far from the end it begins
unfoldable pub line_back : List ℕ → ℕ → ℕ
line_back s gone = length s - start_before s gone

-- there is one, and it has not `%rn` as destination
unfoldable pub goes_on : List ℕ → ℕ → ℕ → Bool
goes_on s gone n = cond (eqb (length s - gone) 0) false (not (own_has n (line_before s gone)))

-- where it begins, if there is one
unfoldable pub found_at : List ℕ → ℕ → Option ℕ
found_at s gone = cond (ltb gone (length s)) (some (line_back s gone)) none

-- what is found in the lines that stand before the last `gone` bytes; the distance is that from the end of all
unfoldable pub last_beyond : List ℕ → ℕ → ℕ → Option ℕ
last_beyond s gone n = last_in own_answer n (length s) 0 (lines_of (take (length s - gone) s))
