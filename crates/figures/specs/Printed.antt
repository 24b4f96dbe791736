-- What the listing program starts with and prints of the registers (Changes): figures. Of each file some register differs from the start, the highest among
-- them, and of the half-words (T-06) two.
use Rattle.std.specs.Prelude.{ℕ, ◌≡◌, refl, true, ◌&&◌, List, [], ◌∷◌, ◌++◌, get_or, set}
use Rattle.signs.specs.Bytes.{line_feed}
use Rattle.signs.specs.Text.{bytes}
use Rattle.signs.specs.Digits.{hex}
use Rattle.record.specs.Registers.{files}
use Rattle.rules.specs.Executing.{sizes_fit, preds_fit}
use Rattle.changes.specs.Changes.{start_files, change_text, changes_text, registers_text}

-- `%r` (8 hex digits, capitals), between `%r` and `%rd` `%rs` (4), `%rd` (16), `%p`; numbers rising
pub printed_figure :
    registers_text
    (files (set start_files.words 63 0xABCDEF) (set (set start_files.halves 2 0x1F) 31 0x80AB) (set start_files.doubles 31 0xFEDC) (set start_files.preds 15 1))
    ≡ bytes "%r63 00ABCDEF"
    ++ (line_feed ∷ bytes "%rs2 001F")
    ++ (line_feed ∷ bytes "%rs31 80AB")
    ++ (line_feed ∷ bytes "%rd31 000000000000FEDC")
    ++ (line_feed ∷ bytes "%p15 1")
    ++ (line_feed ∷ [])
unfolding registers_text changes_text change_text start_files hex
printed_figure = refl

-- no register differs at the start
pub nothing_printed : registers_text start_files ≡ []
unfolding registers_text changes_text change_text start_files hex
nothing_printed = refl

-- `%rN` is N times 01010101 hex, `%rsN` and `%rdN` are N, predicates 0
abbrev started : List ℕ
started =
    get_or start_files.words 63 0
    ∷ get_or start_files.halves 1 0
    ∷ get_or start_files.halves 31 0
    ∷ get_or start_files.doubles 31 0
    ∷ get_or start_files.preds 15 2
    ∷ []

pub start_figure : started ≡ 0x3F3F3F3F ∷ 1 ∷ 31 ∷ 31 ∷ 0 ∷ []
unfolding start_files
start_figure = refl

-- so that no line of a listing gets 10 or 11 at the start
pub start_admitted : sizes_fit start_files && preds_fit start_files.preds ≡ true
unfolding start_files sizes_fit preds_fit
start_admitted = refl
