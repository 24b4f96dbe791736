-- The code's side: an exact number z is kept as z + 2^36 in 64 bits, lanes are kept in arrays of four. Nobody has to believe these: laws join them to the rules.
use Rattle.std.specs.Prelude.{ℕ, ◌+◌, ◌%◌, ◌^◌, ◌<◌, ◌≤◌, ◌≡◌, List, ℤ, get_or}
use Rattle.record.specs.declared.LaneWidth.{LaneWidth}
use Rattle.base.specs.Moved.{un}
use Rattle.rules.specs.Numbers.{word_size, lane_size, lanes, joined}

-- what every number is moved up by: a multiple of 2^32, and as much as four `Wide` numbers can take away
abbrev pub bias : ℕ
bias = 2 ^ 36

-- the exact number that x stands for
abbrev pub exactly : ℕ → ℤ
exactly x = un bias x

-- within 32 bits either way, as a part or a word is; within 34, as what is made of two
abbrev pub Near : ℕ → Type 0
Near x = (bias ≤ x + 2 ^ 32) × (x < bias + 2 ^ 32)

abbrev pub Wide : ℕ → Type 0
Wide x = (bias ≤ x + 2 ^ 34) × (x < bias + 2 ^ 34)

-- an array has room for four lanes: what holds of each
abbrev pub EachLane : (ℕ → Type 0) → Type 0
EachLane P = P 0 × P 1 × P 2 × P 3

-- the array's numbers stand for f 0, f 1, f 2 and f 3
abbrev pub StandFor : List ℕ → (ℕ → ℤ) → Type 0
StandFor t f = EachLane (λ i. exactly (get_or t i 0) ≡ f i)

abbrev pub AllNear : List ℕ → Type 0
AllNear t = EachLane (λ i. Near (get_or t i 0))

abbrev pub AllWide : List ℕ → Type 0
AllWide t = EachLane (λ i. Wide (get_or t i 0))

-- four lanes in an array, rejoined
unfoldable pub rejoined_of : LaneWidth → List ℕ → ℕ
rejoined_of w l = joined (lane_size w) (lanes w) (λ i. get_or l i 0) % word_size
