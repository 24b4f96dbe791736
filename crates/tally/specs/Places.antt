-- The code's own way: places in the struct's array.
use Rattle.std.specs.Prelude.{ℕ, suc, ◌+◌, cond, List, [], ◌∷◌, ltb, eqb, set}
use Rattle.tally.specs.declared.Entry.{Entry}
use Rattle.tally.specs.declared.Tally.{Tally}

-- where a tag stands; past the end where it does not
abbrev pub place_of : ℕ → List Entry → ℕ
place_of tag [] = 0
place_of tag (e ∷ l) = cond (eqb e.tag tag) 0 (suc (place_of tag l))

abbrev pub put_at : Tally → ℕ → Entry → Tally
put_at t i e = record { len = cond (ltb i t.len) t.len (i + 1); entries = set t.entries i e }
