-- Short texts, each kept as one number, put one after another. Assumes nothing.
use Rattle.std.specs.Prelude.{ℕ, suc, ◌+◌, ◌<◌, ◌≡◌, List, length, get_or, drop}
use Rattle.std.proofs.Common.{add-one, drop-cons}
use Rattle.base.specs.Pack.{unpacked, spelled}
use Rattle.text.specs.Buffer.{Buffer, Puts, filled, goes_on_lem}

-- one text of several, and the rest from there on
pub put_next : {x y : Buffer} (l : List ℕ) (k : ℕ) → k < length l → Puts x (unpacked (get_or l k 0)) y → filled y (spelled (drop (k + 1) l)) ≡ filled x (spelled (drop k l))
put_next l k h a = rw (add-one k, drop-cons l k 0 h) (goes_on_lem (spelled (drop (suc k) l)) a)
