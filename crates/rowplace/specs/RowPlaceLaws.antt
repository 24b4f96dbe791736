-- What the code tries tells whether some row begins with the first names of a head: so where it stops is the place of refusal 4.
use Rattle.std.specs.Prelude.{ℕ, zero, suc, ◌+◌, ◌-◌, ◌≤◌, ◌<◌, ◌≡◌, Bool, ◌||◌, List, [], ◌∷◌, ◌++◌, map, eqb, length, take, Result, Ok, Err}
use Rattle.std.proofs.Common.{arith, ap₂, ◌∙◌, subst, take_at, lt-ltb, le-ltb, ltb-true, ltb-false}
use Rattle.std.proofs.Math.Path.{refl, sym, ap}
use Rattle.std.proofs.Math.Bool.{true, false, cond}
use Rattle.std.proofs.Math.Dec.{ltb}
use Rattle.std.proofs.Math.ListN.{get_or, replicate, length-append, length-map}
use Rattle.std.proofs.Math.Seq.{length-take-le}
use Rattle.base.specs.Pack.{code_of, is_short_name}
use Rattle.base.specs.PackLaws.{short_name}
use Rattle.signs.specs.Text.{bytes}
use Rattle.record.specs.declared.DataType.TheVariants.{U32}
use Rattle.record.specs.declared.SlctType.TheVariants as slct
use Rattle.record.specs.declared.Form.{Form}
use Rattle.record.specs.declared.Form.TheVariants.{Plain, Merge, Combine}
use Rattle.record.specs.declared.Combination.{Combination}
use Rattle.record.specs.declared.Combination.TheVariants.{Alone, With}
use Rattle.record.specs.declared.Instruction.{Instruction}
use Rattle.record.specs.declared.Instruction.TheVariants.{Arithmetic, Vset, VsetLanes, ArithmeticLanes, Set, Setp, Selp, Slct}
use Rattle.rules.specs.Shape.{Name}
use Rattle.rules.specs.Names.{head_names, braced, form_op2, combination_names}
use Rattle.rules.specs.Grammar.{GoodName, GoodNames}
use Rattle.rules.specs.Grammar.GoodNames.{none, more}
use Rattle.rules.specs.BytePlaces.{Begins, FirstWrong}
use Rattle.begins.specs.Searches.{turns_at, searched, Tells, turn_first_wrong, search_first_wrong}
use Rattle.rules.specs.Reading.{LegalNames}
use Rattle.begins.specs.Endings.{Each, no_more, and_more, some, some_right, some_all, low, high, three}
use Rattle.tree.specs.Seen.{seen_head, names_kept}
use Rattle.tree.specs.declared.Head.{Head}
use Rattle.tree.specs.Blank.{no_pred, blank_choice}
use Rattle.heads.specs.Rows.{name_at, row_of}
use Rattle.heads.specs.Complete.{row_complete, fit_blank}
use Rattle.heads.specs.Sound.{kept_at, row_sound}
use Rattle.heads.specs.declared.HeadError.{HeadError}
use Rattle.rowplace.specs.Tries.{is_found, is_row, entry, completed, tried, begins_row, guess_of, row_place_of}
use Rattle.rowplace.specs.EndingLaws.{endings, Ends, row_ends}

not_so : {A : Type 0} → false ≡ true → A
not_so e = let z : ◌≡◌ {A = ℕ} 0 1 = cc in absurd (omega arith)

-- ==== a row that is found is a legal list of names

row_right : (ns : List Name) → GoodNames ns → is_row (seen_head ns) ≡ true → LegalNames ns
unfolding is_row
row_right ns g e = go (row_of (seen_head ns)) refl e
  where
    go : (f : Result Instruction HeadError) → row_of (seen_head ns) ≡ f → is_found f ≡ true → LegalNames ns
    go (Ok i) p q = record { instruction = i; row = record { names = (row_sound ns i g p).0; fit = q } }
    go (Err HeadError.NoOpcode) p q = not_so q
    go (Err (HeadError.Wrong k)) p q = not_so q

row_all : (ns : List Name) → LegalNames ns → is_row (seen_head ns) ≡ true
unfolding is_row
row_all ns l = ap (λ (s : List Name). is_found (row_of (seen_head s))) l.row.names ∙ ap is_found (row_complete l.instruction) ∙ fit_blank l.instruction ∙ l.row.fit

good_append : {s t : List Name} → GoodNames s → GoodNames t → GoodNames (s ++ t)
good_append none h = h
good_append (more g gs) h = more g (good_append gs h)

-- ==== the first k names with others behind them

eight : (l : List ℕ) → get_or l 0 0 ∷ get_or l 1 0 ∷ get_or l 2 0 ∷ get_or l 3 0 ∷ get_or l 4 0 ∷ get_or l 5 0 ∷ get_or l 6 0 ∷ get_or l 7 0 ∷ [] ≡ take 8 (l ++ replicate 8 0)
eight [] = refl
eight (a ∷ []) = refl
eight (a ∷ b ∷ []) = refl
eight (a ∷ b ∷ c ∷ []) = refl
eight (a ∷ b ∷ c ∷ d ∷ []) = refl
eight (a ∷ b ∷ c ∷ d ∷ e ∷ []) = refl
eight (a ∷ b ∷ c ∷ d ∷ e ∷ f ∷ []) = refl
eight (a ∷ b ∷ c ∷ d ∷ e ∷ f ∷ g ∷ []) = refl
eight (a ∷ b ∷ c ∷ d ∷ e ∷ f ∷ g ∷ h ∷ l) = refl

of_entries : (h : Head) (ws : List Name) (k n x y z : ℕ) → k + n ≡ length ws → ((j : ℕ) → j < 8 → entry h k x y z j ≡ get_or (map code_of ws) j 0) → completed h k n x y z ≡ seen_head ws
unfolding completed seen_head
of_entries h ws k n x y z e f =
    ap₂ (λ (m : ℕ) (l : List ℕ). record { n = m; at = l }) e
    (rw (f 0 (omega arith), f 1 (omega arith), f 2 (omega arith), f 3 (omega arith), f 4 (omega arith), f 5 (omega arith), f 6 (omega arith), f 7 (omega arith)) (eight (map code_of ws)))

module _ (ns : List Name) (k : ℕ) (inside : k ≤ length ns) (e : List Name) (short : length e ≤ 3) where
  -- the numbers of the ending
  abbrev code : ℕ → ℕ
  code i = get_or (map code_of e) i 0

  entry_is : (j : ℕ) → j < 8 → entry (seen_head ns) k (code 0) (code 1) (code 2) j ≡ get_or (map code_of (take k ns ++ e)) j 0
  unfolding entry name_at seen_head
  entry_is j h = go (ltb j k) refl
    where
      go : (t : Bool) → ltb j k ≡ t
          → cond t (cond (ltb j names_kept) (get_or (take 8 (map code_of ns ++ replicate 8 0)) j 0) 0) (cond (eqb (j - k) 0) (code 0) (cond (eqb (j - k) 1) (code 1) (cond (eqb (j - k) 2) (code 2) 0)))
          ≡ get_or (map code_of (take k ns ++ e)) j 0
      go true q = rw (lt-ltb j names_kept h) (kept_at 8 8 j (map code_of ns) h ∙ sym (low code_of 0 ns e k j inside (ltb-true j k q)))
      go false q = three 0 (map code_of e) (omega (arith, length-map e code_of)) (j - k) ∙ sym (high code_of 0 ns e k j inside (ltb-false j k q))

  tried_is : tried (seen_head ns) k (length e) (code 0) (code 1) (code 2) ≡ is_row (seen_head (take k ns ++ e))
  unfolding tried
  tried_is =
      ap is_row (of_entries (seen_head ns) (take k ns ++ e) k (length e) (code 0) (code 1) (code 2) (omega (arith, length-append (take k ns) e, length-take-le k ns inside)) entry_is)

-- ==== all endings

abbrev row_test : List Name → Bool
row_test s = is_row (seen_head s)

or_false : (t : Bool) → t ≡ t || false
or_false true = refl
or_false false = refl

begins_is : (ns : List Name) (k : ℕ) → k ≤ length ns → k ≤ 6 → begins_row (seen_head ns) k ≡ some row_test (take k ns) endings
unfolding begins_row code_of
begins_is ns k h i =
    rw (le-ltb 6 k i)
    (ap₂ ◌||◌ (tried_is ns k h ([]) (omega arith))
    (ap₂ ◌||◌ (tried_is ns k h (bytes "u32" ∷ []) (omega arith))
    (ap₂ ◌||◌ (tried_is ns k h (bytes "u32" ∷ bytes "u32" ∷ []) (omega arith))
    (ap₂ ◌||◌ (tried_is ns k h (bytes "u32" ∷ bytes "u32" ∷ bytes "u32" ∷ []) (omega arith))
    (ap₂ ◌||◌ (tried_is ns k h (bytes "u32" ∷ bytes "u32" ∷ bytes "eq" ∷ []) (omega arith))
    (ap₂ ◌||◌ (tried_is ns k h (bytes "u32" ∷ bytes "eq" ∷ []) (omega arith))
    (ap₂ ◌||◌ (tried_is ns k h (bytes "eq" ∷ []) (omega arith))
    (ap₂ ◌||◌ (tried_is ns k h (bytes "eq" ∷ bytes "u32" ∷ bytes "u32" ∷ []) (omega arith))
    (ap₂ ◌||◌ (tried_is ns k h (bytes "u32" ∷ bytes "f32" ∷ []) (omega arith))
    (ap₂ ◌||◌ (tried_is ns k h (bytes "f32" ∷ []) (omega arith))
    ((tried_is ns k h (bytes "eq" ∷ bytes "u32" ∷ []) (omega arith)) ∙ or_false _)))))))))))

good_name : (w : Name) → is_short_name w ≡ true → GoodName w
good_name w e = (short_name w e).0

endings_good : Each GoodNames endings
endings_good =
    let u : GoodName (bytes "u32") = good_name (bytes "u32") refl in
    let f : GoodName (bytes "f32") = good_name (bytes "f32") refl in
    let q : GoodName (bytes "eq") = good_name (bytes "eq") refl in
    and_more none
    (and_more (more u none)
    (and_more (more u (more u none))
    (and_more (more u (more u (more u none)))
    (and_more (more u (more u (more q none)))
    (and_more (more u (more q none))
    (and_more (more q none)
    (and_more (more q (more u (more u none)))
    (and_more (more u (more f none))
    (and_more (more f none)
    (and_more (more q (more u none))
    no_more))))))))))

-- ==== the place

good_take : {ns : List Name} → GoodNames ns → (k : ℕ) → GoodNames (take k ns)
good_take g zero = none
good_take none (suc k) = none
good_take (more g gs) (suc k) = more g (good_take gs k)

-- no row has over six names
option : (t : Bool) (n : Name) → length (braced t n) ≤ 1
option true n = omega arith
option false n = omega arith

form_names : (f : Form) → length (form_op2 f) ≤ 1
form_names (Plain d) = omega arith
form_names (Merge d s c) = omega arith
form_names (Combine o d c) = omega arith

with_names : (b : Combination) → length (combination_names b) ≤ 1
with_names Alone = omega arith
with_names (With o c) = omega arith

names_at_most : (i : Instruction) → length (head_names i) ≤ 6
names_at_most (Arithmetic op d sat s) = omega (arith, option sat (bytes "sat"), form_names s.form, length-append (braced sat (bytes "sat")) (form_op2 s.form))
names_at_most (Vset c s) = omega (arith, form_names s.form)
names_at_most (VsetLanes c l) = omega (arith, option l.add (bytes "add"))
names_at_most (ArithmeticLanes op d sat l) = omega (arith, option sat (bytes "sat"), option l.add (bytes "add"), length-append (braced sat (bytes "sat")) (braced l.add (bytes "add")))
names_at_most (Set d w s) =
    simp length-append (omega (arith, with_names s.combination, option s.ftz (bytes "ftz")))
names_at_most (Setp d s) = simp length-append (omega (arith, with_names s.combination, option s.ftz (bytes "ftz")))
names_at_most (Selp s c) = omega arith
names_at_most (Slct slct.S32 s c) = omega arith
names_at_most (Slct (slct.F32 ftz) s c) = simp length-append (omega (arith, option ftz (bytes "ftz")))

at_most : (h : Head) (k : ℕ) → begins_row h k ≡ true → k ≤ 6
unfolding begins_row
at_most h k e = go (ltb 6 k) refl _ e
  where
    go : (t : Bool) → ltb 6 k ≡ t → (x : Bool) → cond t false x ≡ true → k ≤ 6
    go true p x q = not_so q
    go false p x q = ltb-false 6 k p

-- what begins a row has at most six, and is ended by one of the endings
row_begun : (ns : List Name) (k : ℕ) → suc k ≤ length ns → Begins LegalNames (take (suc k) ns) → (suc k ≤ 6) × Ends (take (suc k) ns)
row_begun ns k h b =
    let i = b.whole.instruction in
    let s : List Name = take (suc k) ns in
    let n : length s ≡ suc k = length-take-le (suc k) ns h in
    let l : length s + length b.rest ≤ 6 = subst (λ (x : ℕ). x ≤ 6) (sym (ap length b.whole.row.names) ∙ length-append s b.rest) (names_at_most i) in
    let e : take (suc k) (head_names i) ≡ s = ap (take (suc k)) (sym b.whole.row.names) ∙ take_at s b.rest (suc k) n in
    (omega arith, subst Ends e (row_ends i b.whole.row.fit k))

pub row_tells : (ns : List Name) → GoodNames ns → Tells LegalNames ns (begins_row (seen_head ns))
row_tells ns g = record {
  right = λ k h e. some_right row_test (take (suc k) ns) (λ x y. row_right (take (suc k) ns ++ x) (good_append (good_take g (suc k)) y)) endings_good
      (sym (begins_is ns (suc k) h (at_most (seen_head ns) (suc k) e)) ∙ e);
  all = λ k h b. let x = row_begun ns k h b in begins_is ns (suc k) h x.0 ∙ some_all row_test (take (suc k) ns) row_all x.1;
  some = record { rest = head_names (Selp (blank_choice U32) no_pred); whole = record { instruction = Selp (blank_choice U32) no_pred; row = record { names = refl; fit = refl } } };
}

-- the code's place is the first name that no legal list has after the ones before it, or the end of the list
pub row_place_right : (ns : List Name) → GoodNames ns → FirstWrong LegalNames ns (row_place_of (seen_head ns))
unfolding row_place_of seen_head
row_place_right ns g = go (turns_at (begins_row (seen_head ns)) (length ns) k) refl
  where
    k : ℕ
    k = guess_of (row_of (seen_head ns)) (length ns)

    tells : Tells LegalNames ns (begins_row (seen_head ns))
    tells = row_tells ns g

    go : (t : Bool) → turns_at (begins_row (seen_head ns)) (length ns) k ≡ t → FirstWrong LegalNames ns (cond t k (searched (begins_row (seen_head ns)) 0 (length ns)))
    go true e = turn_first_wrong LegalNames ns (begins_row (seen_head ns)) tells k e
    go false e = search_first_wrong LegalNames ns (begins_row (seen_head ns)) tells
