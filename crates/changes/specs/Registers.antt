-- What `registers` answers, and how long a buffer it takes.
use Rattle.std.specs.Prelude.{ℕ, ◌+◌, ◌*◌, ◌≡◌, refl, cond, List, length, ltb, Option, Some, None}
use Rattle.record.specs.Registers.{word_count, half_count, double_count, pred_count, Files}
use Rattle.rules.specs.Writing.{front}
use Rattle.changes.specs.Changes.{registers_text}

-- as many bytes as the text of a register has at most: `%rd31`, a space, 16 digits, a line feed; and those of all
abbrev pub value_room : ℕ
value_room = 23

abbrev pub registers_room : ℕ
registers_room = (word_count + half_count + double_count + pred_count) * value_room

pub data PrintAnswer : Type 0 where
  printed_bytes : ℕ → PrintAnswer
  no_room : PrintAnswer

pub record PrintOutcome : Type 0 where
  pub answer : PrintAnswer
  pub buffer : List ℕ

abbrev pub print_outcome : PrintAnswer → List ℕ → PrintOutcome
print_outcome a b = record { answer = a; buffer = b }

-- a buffer that may be too short is left as it was; else the text stands at its front, and behind it all is as it was
unfoldable pub printing : Files → List ℕ → PrintOutcome
printing f out = cond (ltb (length out) registers_room) (print_outcome no_room out) (print_outcome (printed_bytes (length (registers_text f))) (front (registers_text f) out))

abbrev pub answer_of : Option ℕ → PrintAnswer
answer_of (Some n) = printed_bytes n
answer_of None = no_room

-- one to one: no two answers say the same
pub answers_one : (x y : Option ℕ) → answer_of x ≡ answer_of y → x ≡ y
answers_one (Some m) (Some n) e = cc
answers_one (Some m) None e = cc
answers_one None (Some n) e = cc
answers_one None None e = refl
