-- Document 01, the listing program (under "Bench figures"): how long a listing may be, and which lines it has. The listing program, the tally program
-- (T-13) and the question who wrote last (T-11) divide their input so.
use Rattle.std.specs.Prelude.{ℕ, ◌≡◌, cond, List, [], ◌∷◌, ◌++◌, eqb, length}
use Rattle.signs.specs.Bytes.{line_feed}

-- The listing program reads standard input, at most 65,536 bytes
abbrev pub listing_limit : ℕ
listing_limit = 65536

-- a last one without a line feed counts if not empty
abbrev pub last_line : List ℕ → List (List ℕ)
last_line [] = []
last_line (b ∷ l) = (b ∷ l) ∷ []

-- Lines end at a line feed; l is what the line has so far
unfoldable pub lines_with : List ℕ → List ℕ → List (List ℕ)
lines_with l [] = last_line l
lines_with l (b ∷ s) = cond (eqb b line_feed) (l ∷ lines_with [] s) (lines_with (l ++ (b ∷ [])) s)

abbrev pub lines_of : List ℕ → List (List ℕ)
lines_of s = lines_with [] s

-- the last byte is a line feed
pub data Ended : List ℕ → Type 0 where
  feed : Ended (line_feed ∷ [])
  more : {b : ℕ} {p : List ℕ} → Ended p → Ended (b ∷ p)

-- whole lines: none, or some, the last of which is ended
pub data WholeLines : List ℕ → Type 0 where
  no_line : WholeLines []
  some_lines : {p : List ℕ} → Ended p → WholeLines p

-- a line stands at a distance from the end: whole lines before it; what is from it on begins with it, and is so long; and the lines behind it
pub record Stands (s : List ℕ) (d : ℕ) (before line : List ℕ) (behind : List (List ℕ)) : Type 0 where
  pub from_it : List ℕ
  pub both : s ≡ before ++ from_it
  pub whole : WholeLines before
  pub lines : lines_of from_it ≡ line ∷ behind
  pub far : length from_it ≡ d
