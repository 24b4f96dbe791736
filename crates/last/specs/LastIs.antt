-- T-11 said once more, as a relation, of the grammar and the listing's bytes alone, apart from any reading in order. LastIsLaws: it allows one answer, that of
-- `last_of`.
use Rattle.std.specs.Prelude.{ℕ, ◌≤◌, ◌<◌, List, length}
use Rattle.signs.specs.Lists.{Listed}
use Rattle.record.specs.Registers.{word, word_count}
use Rattle.record.specs.declared.Record.{Record}
use Rattle.record.specs.declared.Mode.TheVariants.{Ordinary}
use Rattle.record.specs.declared.Target.TheVariants.{Sm30}
use Rattle.rules.specs.Executing.{destinations}
use Rattle.rules.specs.Reading.{Answers, read}
use Rattle.lines.specs.Lines.{lines_of, listing_limit, Stands}
use Rattle.last.specs.Last.{Answer, distance, none_has, refused_by}

-- a line accepted at sm_30 that has `%rn` as destination, guarded or not
pub record Has (n : ℕ) (l : List ℕ) : Type 0 where
  pub spelled : Record
  pub accepted : Answers Sm30 Ordinary l (read spelled)
  pub destination : Listed (word n) (destinations spelled.instruction)

abbrev pub NoneHas : ℕ → List (List ℕ) → Type 0
NoneHas n ls = (l : List ℕ) → Listed l ls → Has n l → ⊥

pub data LastIs (s : List ℕ) (n : ℕ) : Answer → Type 0 where
  -- 22 for a longer listing
  too_long : listing_limit < length s → LastIs s n (refused_by 22)
  -- then 6 for a register over 63
  no_register : length s ≤ listing_limit → word_count ≤ n → LastIs s n (refused_by 6)
  -- none has
  nowhere : length s ≤ listing_limit → n < word_count → NoneHas n (lines_of s) → LastIs s n none_has
  -- a line that has it stands at that distance, and no line behind it has
  at_distance : length s ≤ listing_limit → n < word_count → {d : ℕ} {p l : List ℕ} {ls : List (List ℕ)} → Stands s d p l ls → Has n l → NoneHas n ls → LastIs s n (distance d)
