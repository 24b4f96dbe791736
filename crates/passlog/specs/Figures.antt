-- What the tally program prints of a wash bay's morning (examples/wash-bay.reads at floor 80), worked out by hand, and which lines are reads (`read_of` is
-- what a line says, by `read_says`).
use Rattle.std.specs.Prelude.{◌≡◌, ℕ, List, [], ◌∷◌, ◌++◌, map, refl}
use Prim.Native.String.{String}
use Rattle.std.proofs.Common.{arith, subst}
use Rattle.std.proofs.Math.Option.{Option, none, some}
use Rattle.signs.specs.Text.{bytes}
use Rattle.signs.specs.Digits.{decimal, decimal_in, hex}
use Rattle.signs.specs.Bytes.{line_feed}
use Rattle.text.specs.Same.{same_text}
use Rattle.lines.specs.Lines.{lines_with}
use Rattle.tally.specs.declared.Read.{Read}
use Rattle.tally.specs.Votes.{vote_of}
use Rattle.tally.specs.Passes.{is_tally, called}
use Rattle.tally.specs.Lent.{entries_of, keeping, call_of}
use Rattle.passlog.specs.Log.{logged_line, Output}
use Rattle.lines.specs.Until.{length_to}
use Rattle.passlog.specs.Spelling.{number_from, guess_of, floor_guess, read_of, floor_of}
use Rattle.passlog.specs.OutputLaws.{computed, computed_output}

-- texts, each with a line feed behind it
abbrev fed : List String → List ℕ
fed [] = []
fed (t ∷ ts) = bytes t ++ (line_feed ∷ []) ++ fed ts

abbrev bay : List String
bay =
    "4711 101 A1B0C3D4 9F8E8000"
    ∷ "4711 101 A1B0C3D4 9F8E8000"
    ∷ "4711 102 80808080 7F7F7F7F"
    ∷ "4711 102 80808080 807F7F7F"
    ∷ "815 7 FFFFFFFF FFFFFFFF"
    ∷ "4711 103 FFFFFFFF 00000080"
    ∷ "4711 99 FFFFFFFF FFFFFFFF"
    ∷ "4711 104 FFFFFFFF 000000FF"
    ∷ "4711 0105 FFFFFFFF FFFFFFFF"
    ∷ "815 8 0000FFFF 00000000" ∷ []

abbrev logged : List String
logged =
    "1 counted 1"
    ∷ "2 duplicate"
    ∷ "3 weak 4"
    ∷ "4 counted 2"
    ∷ "5 counted 1"
    ∷ "6 counted 3"
    ∷ "7 refused 19"
    ∷ "8 counted 3"
    ∷ "9 not a read"
    ∷ "10 weak 2"
    ∷ "4711 104 3 washed"
    ∷ "815 7 1" ∷ []

bay_computed : computed 0x80 (fed bay) ≡ fed logged
unfolding lines_with length_to number_from guess_of same_text decimal decimal_in hex logged_line call_of called is_tally vote_of entries_of keeping
bay_computed = refl

pub bay_figure : Output 0x80 (fed bay) (fed logged)
bay_figure = subst (Output 0x80 (fed bay)) bay_computed (computed_output 0x80 (fed bay) (omega arith))

-- ==== lines that are nearly reads, and are none

unfoldable pub nearly : List String
nearly =
    ""
    ∷ "7"
    ∷ "7 3 80808080"
    ∷ "7 3 80808080 "
    ∷ "7 3 80808080 FFFFFFFF "
    ∷ " 7 3 80808080 FFFFFFFF"
    ∷ "7  3 80808080 FFFFFFFF"
    ∷ "7 3 80808080 FFFFFFFF 1"
    ∷ "07 3 80808080 FFFFFFFF"
    ∷ "7 03 80808080 FFFFFFFF"
    ∷ "7 00 80808080 FFFFFFFF"
    ∷ "+7 3 80808080 FFFFFFFF"
    ∷ "7 -3 80808080 FFFFFFFF"
    ∷ "4294967296 3 80808080 FFFFFFFF"
    ∷ "7 4294967296 80808080 FFFFFFFF"
    ∷ "7 42949672963 80808080 FFFFFFFF"
    ∷ "A 3 80808080 FFFFFFFF"
    ∷ "7 3 8080808 FFFFFFFF"
    ∷ "7 3 080808080 FFFFFFFF"
    ∷ "7 3 80808080 FFFFFFF"
    ∷ "7 3 80808080 ffffffff"
    ∷ "7 3 8080808G FFFFFFFF"
    ∷ "7 3 80808080,FFFFFFFF"
    ∷ "7,3 80808080 FFFFFFFF" ∷ []

pub nearly_none : map (λ (t : String). read_of (bytes t)) nearly ≡ map (λ _. none) nearly
unfolding nearly length_to number_from guess_of same_text decimal decimal_in hex
nearly_none = refl

-- the least numbers, and words to their last digit (the greatest numbers are run: their texts are too long a computation here)
abbrev read_figure : ℕ → ℕ → ℕ → ℕ → Option Read
read_figure tag pass first second = some (record { tag = tag; pass = pass; first = first; second = second })

pub least_read : read_of (bytes "0 0 00000000 00000000") ≡ read_figure 0 0 0 0
unfolding length_to number_from guess_of same_text decimal decimal_in hex
least_read = refl

pub words_read : read_of (bytes "7 103 FFFFFFFE 0123ABCD") ≡ read_figure 7 103 0xFFFFFFFE 0x0123ABCD
unfolding length_to number_from guess_of same_text decimal decimal_in hex
words_read = refl

-- a floor
pub floor_read : floor_of (bytes "8C") ≡ some 0x8C
unfolding number_from floor_guess same_text hex
floor_read = refl
