-- How far a head begins as a row does, as the code tries it. No one has to believe it: laws join it to the table.
use Rattle.std.specs.Prelude.{ℕ, ◌+◌, ◌-◌, [], ◌∷◌, ◌≡◌, Bool, true, false, ◌||◌, cond, eqb, ltb, Result, Ok, Err}
use Rattle.base.specs.Pack.{pack}
use Rattle.signs.specs.Text.{bytes}
use Rattle.record.specs.Modifiers.{instruction_modifiers_fit}
use Rattle.record.specs.declared.Instruction.{Instruction}
use Rattle.begins.specs.Searches.{turns_at, searched}
use Rattle.tree.specs.declared.Head.{Head}
use Rattle.heads.specs.Rows.{name_at, row_of}
use Rattle.heads.specs.declared.HeadError.{HeadError}

abbrev pub fits : Instruction → Bool
fits i = instruction_modifiers_fit i

abbrev pub is_found : Result Instruction HeadError → Bool
is_found (Ok i) = fits i
is_found (Err HeadError.NoOpcode) = false
is_found (Err (HeadError.Wrong k)) = false

unfoldable pub is_row : Head → Bool
is_row h = is_found (row_of h)

unfoldable pub entry : Head → ℕ → ℕ → ℕ → ℕ → ℕ → ℕ
entry h k x y z j = cond (ltb j k) (name_at h j) (cond (eqb (j - k) 0) x (cond (eqb (j - k) 1) y (cond (eqb (j - k) 2) z 0)))

unfoldable pub completed : Head → ℕ → ℕ → ℕ → ℕ → ℕ → Head
completed h k n x y z = let e : ℕ → ℕ = entry h k x y z in record { n = k + n; at = e 0 ∷ e 1 ∷ e 2 ∷ e 3 ∷ e 4 ∷ e 5 ∷ e 6 ∷ e 7 ∷ [] }

unfoldable pub tried : Head → ℕ → ℕ → ℕ → ℕ → ℕ → Bool
tried h k n x y z = is_row (completed h k n x y z)

-- the numbers of `u32`, `f32`, `eq`
abbrev pub u32_code : ℕ
u32_code = pack (bytes "u32")

abbrev pub f32_code : ℕ
f32_code = pack (bytes "f32")

abbrev pub eq_code : ℕ
eq_code = pack (bytes "eq")

unfoldable pub begins_row : Head → ℕ → Bool
begins_row h k =
    let t = tried h k in
    cond (ltb 6 k) false
    (t 0 0 0 0 || (t 1 u32_code 0 0 || (t 2 u32_code u32_code 0 || (t 3 u32_code u32_code u32_code || (t 3 u32_code u32_code eq_code || (t 2 u32_code eq_code 0
    || (t 1 eq_code 0 0 || (t 3 eq_code u32_code u32_code || (t 2 u32_code f32_code 0 || (t 1 f32_code 0 0 || t 2 eq_code u32_code 0))))))))))

-- where the reader stopped
unfoldable pub guess_of : Result Instruction HeadError → ℕ → ℕ
guess_of (Ok i) n = cond (eqb n 0) 0 (n - 1)
guess_of (Err HeadError.NoOpcode) n = 0
guess_of (Err (HeadError.Wrong k)) n = k

unfoldable pub row_place_of : Head → ℕ
row_place_of h =
    let k = guess_of (row_of h) h.n in
    cond (turns_at (begins_row h) h.n k) k (searched (begins_row h) 0 h.n)

pub row_guessed : (h : Head) (f : Result Instruction HeadError) (k : ℕ) → f ≡ row_of h → k ≡ guess_of f h.n → turns_at (begins_row h) h.n k ≡ true → k ≡ row_place_of h
unfolding row_place_of
row_guessed h f k r e t = rw (← r, ← e, t)

pub row_searched : (h : Head) (f : Result Instruction HeadError) (k : ℕ) → f ≡ row_of h → k ≡ guess_of f h.n → turns_at (begins_row h) h.n k ≡ false → searched (begins_row h) 0 h.n ≡ row_place_of h
unfolding row_place_of
row_searched h f k r e t = rw (← r, ← e, t)
