-- The reader's stages and the grammar agree: each line gets the answer that the grammar gives it, and no other. Assumes nothing.
use Rattle.std.specs.Prelude.{ℕ, zero, suc, ◌≤◌, ◌<◌, ◌≡◌, refl, Bool, true, false, not, ◌&&◌, List, length, ltb, Err, Ok, Result, is_ok}
use Rattle.std.proofs.Common.{arith, sym, ap, subst, ◌∙◌, lt-ltb, le-ltb, ltb-true, ltb-false}
use Rattle.record.specs.Modifiers.{instruction_modifiers_fit, modifiers_fit}
use Rattle.record.specs.Operands.{operands_fit}
use Rattle.record.specs.Refusals.{numbers_in_range, pair_apart, is_legal, Legal}
use Rattle.record.specs.declared.Guard.{Guard}
use Rattle.record.specs.declared.Guard.TheVariants.{Always, When}
use Rattle.record.specs.declared.Instruction.{Instruction}
use Rattle.record.specs.declared.Record.{Record}
use Rattle.record.specs.declared.Target.{Target}
use Rattle.record.specs.declared.Mode.{Mode}
use Rattle.record.specs.declared.File.TheVariants.{Words, Halves, Doubles, Preds}
use Rattle.record.specs.Registers.{reg}
use Rattle.rules.specs.Shape.{Name}
use Rattle.rules.specs.Names.{head_names}
use Rattle.rules.specs.Grammar.GoodNames.{more as name_more}
use Rattle.rules.specs.Grammar.GoodOperands.{more as operand-more}
use Rattle.rules.specs.Grammar.{LineTree, GuardTree, unguarded, guarded, names_of, operands_of, Shaped}
use Rattle.rules.specs.Targets.{allows, Allowed}
use Rattle.rules.specs.Strict.{passes, Readable}
use Rattle.rules.specs.Reading.{GuardSpells, Spells, Relates, line_limit, opcodes, Row, Fits}
use Rattle.signs.specs.Lists.{Listed}
use Rattle.read.specs.Refuses.{Refuses, over_160, no_shape, no_opcode, no_row, no_fit, out_of_file, same_pair, old_target, same_part, Decides, decides_read, decides_refused}
use Rattle.tree.specs.Seen.{seen, seen_guard, seen_head, seen_operands}
use Rattle.tree.specs.Blank.{blank}
use Rattle.tree.specs.declared.Guarding.{Guarding}
use Rattle.tree.specs.declared.Parts.{Parts}
use Rattle.laws.specs.PlaceLaws.{legal_parts}
use Rattle.shape.specs.Line.{parts_of, shape_of}
use Rattle.shape.specs.Complete.{shape_complete}
use Rattle.shape.specs.Sound.{shape_sound}
use Rattle.heads.specs.Rows.{row_of}
use Rattle.heads.specs.Complete.{row_complete, same_row, wrong_no_row, fit_blank, blank_names}
use Rattle.heads.specs.Sound.{row_sound, row_listed, no_opcode_known, wrong_known}
use Rattle.heads.specs.declared.HeadError.{HeadError}
use Rattle.fills.specs.Fills.{filled_of}
use Rattle.fills.specs.FillComplete.{fill_complete}
use Rattle.fills.specs.FillSound.{fill_sound}
use Rattle.refusals.specs.Order.{first_reading}
use Rattle.places.specs.Mirror.{guard_good}
use Rattle.places.specs.PlacedLaws.{guard_good_lem, good_operands}
use Rattle.read.specs.Mirror.{Verdict, guard_in, instruction_in, full_is, filled_in, record_of, candidate_by, candidate_of, fit_by, refusal_of, decided, decided_by, verdict_of}

-- ==== what stands between the rooms

off : {A : Type 0} {t : Bool} → t ≡ true → t ≡ false → A
off e f = let z : true ≡ false = sym e ∙ f in let y : ◌≡◌ {A = ℕ} 0 1 = cc in absurd (omega arith)

-- legality, rule by rule
all_legal : (m : Record) → modifiers_fit m ≡ true → operands_fit m ≡ true → numbers_in_range m ≡ true → pair_apart m ≡ true → Legal m
unfolding is_legal
all_legal m a b c d = rw (a, b, c, d)

-- the guard that the tree spells is the one that is kept
guard_found : (g : GuardTree) (h : Guard) → GuardSpells g h → (guard_good (seen_guard g) ≡ true) × (guard_in (seen_guard g) ≡ h)
guard_found g h s = (guard_good_lem g h s, guard_is g h s)
  where
    guard_is : (g : GuardTree) (h : Guard) → GuardSpells g h → guard_in (seen_guard g) ≡ h
    guard_is unguarded Always s = refl
    guard_is unguarded (When c) s = absurd s
    guard_is (guarded n q b) Always s = absurd s
    guard_is (guarded n q b) (When c) s = rw (s.0, s.1) refl

guard_spells : (g : GuardTree) → guard_good (seen_guard g) ≡ true → GuardSpells g (guard_in (seen_guard g))
guard_spells unguarded e = tt
guard_spells (guarded n (reg Words k) b) e = off e refl
guard_spells (guarded n (reg Halves k) b) e = off e refl
guard_spells (guarded n (reg Doubles k) b) e = off e refl
guard_spells (guarded n (reg Preds k) b) e = (refl, refl)

-- ==== a tree and the records that it spells

-- a record that it spells is the one that is found
spelled_found : (t : LineTree) (m : Record) → Spells t m
    → (row_of (seen_head (names_of t)) ≡ Ok (blank m.instruction))
    × (filled_of (blank m.instruction) (seen_operands (operands_of t)) ≡ Ok m.instruction)
spelled_found t m s = (
  ap (λ (ns : List Name). row_of (seen_head ns)) s.head ∙ row_complete m.instruction,
  fill_complete m.instruction (operands_of t) s.operands,
)

-- of trees of which the same is kept, two records that they spell are one
seen_one : (t u : LineTree) → seen t ≡ seen u → (m n : Record) → Spells t m → Spells u n → m ≡ n
seen_one t u e m n s v =
    let a = spelled_found t m s in
    let b = spelled_found u n v in
    let g = guard_found t.guard m.guard s.guard in
    let h = guard_found u.guard n.guard v.guard in
    let z : Ok (blank m.instruction) ≡ Ok (blank n.instruction) = sym a.0 ∙ ap (λ (x : Parts). row_of x.head) e ∙ b.0 in
    let k : blank m.instruction ≡ blank n.instruction = cc in
    let y : Ok m.instruction ≡ Ok n.instruction = sym a.1 ∙ ap (λ (x : Parts). filled_of (blank m.instruction) x.operands) e ∙ ap (λ (i : Instruction). filled_of i (seen_operands (operands_of u))) k ∙ b.1 in
    let i : m.instruction ≡ n.instruction = cc in
    let q : m.guard ≡ n.guard = sym g.1 ∙ ap (λ (x : Parts). guard_in x.guard) e ∙ h.1 in
    ap (λ (x : Guard). record_of x m.instruction) q ∙ ap (record_of n.guard) i

-- ==== a line that has the shape

module _ (l : List ℕ) (short : length l ≤ line_limit) (t : LineTree) (shaped : Shaped l t) where
  is_good : (is_ok (shape_of l) ≡ true) × ((parts_of (shape_of l)) ≡ seen t)
  is_good =
      subst (λ (k : List ℕ). (is_ok (shape_of k) ≡ true) × ((parts_of (shape_of k)) ≡ seen t)) shaped.text
      (shape_complete t shaped.good (rw shaped.text short))

  -- what the reader says of it, by its tree
  abbrev said : Target → Mode → Result Instruction HeadError → Result Instruction ℕ → Verdict
  said target mode found filled = decided_by target mode false true (candidate_by (seen_guard t.guard) found filled)

  abbrev found : Result Instruction HeadError
  found = row_of (seen_head (names_of t))

  abbrev filled_by : Result Instruction HeadError → Result Instruction ℕ
  filled_by f = filled_of (instruction_in f) (seen_operands (operands_of t))

  is_said : (target : Target) (mode : Mode) → verdict_of target mode l ≡ said target mode found (filled_by found)
  unfolding verdict_of candidate_of
  is_said target mode = rw (le-ltb line_limit (length l) short, is_good.0, is_good.1)

  pub spelled_said : (target : Target) (mode : Mode) (m : Record) → Spells t m
      → verdict_of target mode l ≡ decided_by target mode false true (record { spelled = m; opcode = true; row = modifiers_fit m; fit = operands_fit m })
  spelled_said target mode m s =
      let f = spelled_found t m s in
      let g = guard_found t.guard m.guard s.guard in
      is_said target mode ∙ rw (f.0, f.1, g.0, g.1, fit_blank m.instruction)

  -- what is found and passes all stages is spelled
  found_spells : (i j : Instruction) → found ≡ Ok i → filled_by (Ok i) ≡ Ok j → guard_good (seen_guard t.guard) ≡ true
      → Spells t (record_of (guard_in (seen_guard t.guard)) j) × (blank j ≡ i)
  found_spells i j e f g =
      let r = row_sound (names_of t) i (name_more shaped.good.opcode shaped.good.modifiers) e in
      let k = fill_sound i j (operands_of t) r.1 (operand-more shaped.good.first (good_operands t.others shaped.good.others)) f in
      let h : names_of t ≡ head_names j = r.0 ∙ ap head_names (sym k.1) ∙ blank_names j in
      (record { guard = guard_spells t.guard g; head = h; operands = k.0 }, k.1)

  -- ---- each stage gives the answer that the grammar gives

  -- the line spells m, which fits
  fits_answers : (target : Target) (mode : Mode) (m : Record) → Fits t m → Decides target mode l (decided_by target mode false true (record { spelled = m; opcode = true; row = true; fit = true }))
  fits_answers target mode m f = go (numbers_in_range m) refl (pair_apart m) refl (allows target m) refl (passes mode m) refl
    where
      related : Relates l m
      related = record { short = short; tree = t; shaped = shaped; spells = f.spells }

      here : numbers_in_range m ≡ true → pair_apart m ≡ true → allows target m ≡ true → Allowed target m
      here e q a = record { legal = all_legal m f.modifiers f.operands e q; allowed = a }

      go : (x : Bool) → numbers_in_range m ≡ x → (y : Bool) → pair_apart m ≡ y → (z : Bool) → allows target m ≡ z → (w : Bool) → passes mode m ≡ w
          → Decides target mode l (decided (first_reading false false false false false (not x) (not y) (not z) (not w)) m)
      go false e y q z a w b = decides_refused (out_of_file short t shaped m f e)
      go true e false q z a w b = decides_refused (same_pair short t shaped m f e q)
      go true e true q false a w b = decides_refused (old_target m related (all_legal m f.modifiers f.operands e q) a)
      go true e true q true a false b = decides_refused (same_part m related (here e q a) b)
      go true e true q true a true b = decides_read m related (record { allowed = here e q a; passed = b })

  -- the row fits; the operands are j's, or wrong
  operands_answer : (target : Target) (mode : Mode) (i : Instruction) → found ≡ Ok i → instruction_modifiers_fit i ≡ true → (x : Result Instruction ℕ) → filled_by (Ok i) ≡ x
      → Decides target mode l (decided_by target mode false true (record {
        spelled = record_of (guard_in (seen_guard t.guard)) (filled_in x);
        opcode = true;
        row = true;
        fit = guard_good (seen_guard t.guard) && full_is x && operands_fit (record_of (guard_in (seen_guard t.guard)) (filled_in x));
      }))
  operands_answer target mode i e f x q = go x q (guard_good (seen_guard t.guard)) refl
    where
      row : Row (names_of t) i
      row = record { names = (row_sound (names_of t) i (name_more shaped.good.opcode shaped.good.modifiers) e).0; fit = f }

      g : Guarding
      g = seen_guard t.guard

      -- a record that fits would have been found, with its guard
      none_full : (k : ℕ) → filled_by (Ok i) ≡ Err k → (m : Record) → Fits t m → ⊥
      none_full k w m h =
          let a = spelled_found t m h.spells in
          let z : Err k ≡ Ok m.instruction = sym w ∙ ap filled_by (sym e ∙ a.0) ∙ a.1 in
          let o : ◌≡◌ {A = ℕ} 0 1 = cc in
          omega arith

      none_guarded : guard_good g ≡ false → (m : Record) → Fits t m → ⊥
      none_guarded w m h = off (guard_found t.guard m.guard h.spells.guard).0 w

      go : (x : Result Instruction ℕ) → filled_by (Ok i) ≡ x → (b : Bool) → guard_good g ≡ b
          → Decides target mode l (decided_by target mode false true (record { spelled = record_of (guard_in g) (filled_in x); opcode = true; row = true; fit = b && full_is x && operands_fit (record_of (guard_in g) (filled_in x)) }))
      go x q false b = decides_refused (no_fit short t shaped i row (none_guarded b))
      go (Err k) q true b = decides_refused (no_fit short t shaped i row (none_full k q))
      go (Ok j) q true b = fit (operands_fit (record_of (guard_in g) j)) refl
        where
          s : Spells t (record_of (guard_in g) j) × (blank j ≡ i)
          s = found_spells i j e q b

          fit : (c : Bool) → operands_fit (record_of (guard_in g) j) ≡ c
              → Decides target mode l (decided_by target mode false true (record { spelled = record_of (guard_in g) j; opcode = true; row = true; fit = c }))
          fit true c = fits_answers target mode (record_of (guard_in g) j) (record { spells = s.0; modifiers = sym (fit_blank j) ∙ ap instruction_modifiers_fit s.1 ∙ f; operands = c })
          fit false c =
              decides_refused
              (no_fit short t shaped i row λ m h. off h.operands (ap operands_fit (seen_one t t refl m (record_of (guard_in g) j) h.spells s.0) ∙ c))

  found_answers : (target : Target) (mode : Mode) (f : Result Instruction HeadError) → found ≡ f → Decides target mode l (said target mode f (filled_by f))
  found_answers target mode (Err HeadError.NoOpcode) e = decides_refused (no_opcode short t shaped (no_opcode_known t.opcode t.modifiers shaped.good.opcode e))
  found_answers target mode (Err (HeadError.Wrong k)) e =
      decides_refused (no_row short t shaped (wrong_known t.opcode t.modifiers k shaped.good.opcode e) λ i r. wrong_no_row (names_of t) k e i r.names)
  found_answers target mode (Ok i) e = fit (instruction_modifiers_fit i) refl
    where
      r : (names_of t ≡ head_names i) × (blank i ≡ i)
      r = row_sound (names_of t) i (name_more shaped.good.opcode shaped.good.modifiers) e

      -- rows of one head fit together
      unfit : instruction_modifiers_fit i ≡ false → (j : Instruction) → Row (names_of t) j → ⊥
      unfit w j q =
          let z = same_row j i (sym q.names ∙ r.0) in
          off q.fit (sym (fit_blank j) ∙ ap instruction_modifiers_fit z ∙ fit_blank i ∙ w)

      fit : (b : Bool) → instruction_modifiers_fit i ≡ b → Decides target mode l (decided_by target mode false true (record {
        spelled = record_of (guard_in (seen_guard t.guard)) (filled_in (filled_by (Ok i)));
        opcode = true;
        row = b;
        fit = guard_good (seen_guard t.guard) && full_is (filled_by (Ok i)) && operands_fit (record_of (guard_in (seen_guard t.guard)) (filled_in (filled_by (Ok i))));
      }))
      fit true w = operands_answer target mode i e w (filled_by (Ok i)) refl
      fit false w = decides_refused (no_row short t shaped (row_listed i t.opcode t.modifiers r.0) (unfit w))

  pub shaped_answers : (target : Target) (mode : Mode) → Decides target mode l (verdict_of target mode l)
  shaped_answers target mode = subst (Decides target mode l) (sym (is_said target mode)) (found_answers target mode found refl)

-- ==== every line

-- every line gets the answer that the grammar gives it
pub decides : (target : Target) (mode : Mode) (l : List ℕ) → Decides target mode l (verdict_of target mode l)
unfolding verdict_of
decides target mode l = go (ltb line_limit (length l)) refl
  where
    shapes : length l ≤ line_limit → (b : Bool) → is_ok (shape_of l) ≡ b → Decides target mode l (decided_by target mode false b (candidate_of (parts_of (shape_of l))))
    shapes h true e =
        let s = shape_sound l h e in
        subst (Decides target mode l) (rw (le-ltb line_limit (length l) h, e)) (shaped_answers l h s.tree s.shaped target mode)
    shapes h false e = decides_refused (no_shape h λ t s. off (is_good l h t s).0 e)

    go : (b : Bool) → ltb line_limit (length l) ≡ b → Decides target mode l (decided_by target mode b (is_ok (shape_of l)) (candidate_of (parts_of (shape_of l))))
    go true e = decides_refused (over_160 (ltb-true line_limit (length l) e))
    go false e = shapes (ltb-false line_limit (length l) e) (is_ok (shape_of l)) refl

-- ==== and no other

module _ (l : List ℕ) (short : length l ≤ line_limit) (t : LineTree) (shaped : Shaped l t) where
  found_only : (target : Target) (mode : Mode) (a : Verdict) → ((f : Result Instruction HeadError) → found l short t shaped ≡ f → said l short t shaped target mode f (filled_by l short t shaped f) ≡ a)
      → verdict_of target mode l ≡ a
  found_only target mode a k = is_said l short t shaped target mode ∙ k (found l short t shaped) refl

  row_of_lem : (i : Instruction) → found l short t shaped ≡ Ok i → names_of t ≡ head_names i
  row_of_lem i e = (row_sound (names_of t) i (name_more shaped.good.opcode shaped.good.modifiers) e).0

  no_opcode_only : (target : Target) (mode : Mode) → (Listed t.opcode opcodes → ⊥) → verdict_of target mode l ≡ Err 3
  no_opcode_only target mode k = found_only target mode (Err 3) go
    where
      go : (f : Result Instruction HeadError) → found l short t shaped ≡ f → said l short t shaped target mode f (filled_by l short t shaped f) ≡ Err 3
      go (Err HeadError.NoOpcode) e = refl
      go (Err (HeadError.Wrong j)) e = absurd (k (wrong_known t.opcode t.modifiers j shaped.good.opcode e))
      go (Ok i) e = absurd (k (row_listed i t.opcode t.modifiers (row_of_lem i e)))

  no_row_only : (target : Target) (mode : Mode) → Listed t.opcode opcodes → ((i : Instruction) → Row (names_of t) i → ⊥) → verdict_of target mode l ≡ Err 4
  no_row_only target mode o k = found_only target mode (Err 4) go
    where
      unfit : (i : Instruction) → names_of t ≡ head_names i → (b : Bool) → instruction_modifiers_fit i ≡ b → instruction_modifiers_fit i ≡ false
      unfit i n true e = absurd (k i (record { names = n; fit = e }))
      unfit i n false e = e

      go : (f : Result Instruction HeadError) → found l short t shaped ≡ f → said l short t shaped target mode f (filled_by l short t shaped f) ≡ Err 4
      go (Err HeadError.NoOpcode) e = absurd (no_opcode_known t.opcode t.modifiers shaped.good.opcode e o)
      go (Err (HeadError.Wrong j)) e = refl
      go (Ok i) e = rw (unfit i (row_of_lem i e) (instruction_modifiers_fit i) refl)

  no_fit_only : (target : Target) (mode : Mode) (i : Instruction) → Row (names_of t) i → ((m : Record) → Fits t m → ⊥) → verdict_of target mode l ≡ Err 5
  no_fit_only target mode i r k =
      is_said l short t shaped target mode ∙ rw e (rw (fits) (go (filled_by l short t shaped (Ok (blank i))) refl (guard_good g) refl))
    where
      g : Guarding
      g = seen_guard t.guard

      e : found l short t shaped ≡ Ok (blank i)
      e = ap (λ (ns : List Name). row_of (seen_head ns)) r.names ∙ row_complete i

      fits : instruction_modifiers_fit (blank i) ≡ true
      fits = fit_blank i ∙ r.fit

      go : (x : Result Instruction ℕ) → filled_by l short t shaped (Ok (blank i)) ≡ x → (b : Bool) → guard_good g ≡ b
          → decided_by target mode false true (record { spelled = record_of (guard_in g) (filled_in x); opcode = true; row = true; fit = b && full_is x && operands_fit (record_of (guard_in g) (filled_in x)) }) ≡ Err 5
      go x q false b = refl
      go (Err j) q true b = refl
      go (Ok j) q true b = fit (operands_fit (record_of (guard_in g) j)) refl
        where
          s : Spells t (record_of (guard_in g) j) × (blank j ≡ blank i)
          s = found_spells l short t shaped (blank i) j e q b

          fit : (c : Bool) → operands_fit (record_of (guard_in g) j) ≡ c
              → decided_by target mode false true (record { spelled = record_of (guard_in g) j; opcode = true; row = true; fit = c }) ≡ Err 5
          fit false c = refl
          fit true c =
              absurd
              (k (record_of (guard_in g) j)
              (record { spells = s.0; modifiers = sym (fit_blank j) ∙ ap instruction_modifiers_fit s.1 ∙ fits; operands = c }))

  fits_only : (target : Target) (mode : Mode) (m : Record) → Fits t m → verdict_of target mode l ≡ decided_by target mode false true (record { spelled = m; opcode = true; row = true; fit = true })
  fits_only target mode m f = spelled_said l short t shaped target mode m f.spells ∙ rw (f.modifiers, f.operands)

no_shape_only : (target : Target) (mode : Mode) (l : List ℕ) → length l ≤ line_limit → ((t : LineTree) → Shaped l t → ⊥) → verdict_of target mode l ≡ Err 2
unfolding verdict_of
no_shape_only target mode l h k = rw (le-ltb line_limit (length l) h) (go (is_ok (shape_of l)) refl)
  where
    go : (b : Bool) → is_ok (shape_of l) ≡ b → decided_by target mode false b (candidate_of (parts_of (shape_of l))) ≡ Err 2
    go true e = let s = shape_sound l h e in absurd (k s.tree s.shaped)
    go false e = refl

over_only : (target : Target) (mode : Mode) (l : List ℕ) → line_limit < length l → verdict_of target mode l ≡ Err 1
unfolding verdict_of
over_only target mode l h = rw (lt-ltb line_limit (length l) h)

-- a line that spells a legal record
legal_only : (target : Target) (mode : Mode) (l : List ℕ) (m : Record) → Relates l m → Legal m → verdict_of target mode l ≡ decided_by target mode false true (record { spelled = m; opcode = true; row = true; fit = true })
legal_only target mode l m r h =
    let k = legal_parts m h in
    fits_only l r.short r.tree r.shaped target mode m (record { spells = r.spells; modifiers = k.0; operands = k.1 })

refusal_only : (target : Target) (mode : Mode) (l : List ℕ) (n : ℕ) → Refuses target mode l n → verdict_of target mode l ≡ Err n
refusal_only target mode l n (over_160 h) = over_only target mode l h
refusal_only target mode l n (no_shape h k) = no_shape_only target mode l h k
refusal_only target mode l n (no_opcode h t s k) = no_opcode_only l h t s target mode k
refusal_only target mode l n (no_row h t s o k) = no_row_only l h t s target mode o k
refusal_only target mode l n (no_fit h t s i r k) = no_fit_only l h t s target mode i r k
refusal_only target mode l n (out_of_file h t s m f e) = fits_only l h t s target mode m f ∙ rw e
refusal_only target mode l n (same_pair h t s m f e q) = fits_only l h t s target mode m f ∙ rw (e, q)
refusal_only target mode l n (old_target m r h a) = let k = legal_parts m h in legal_only target mode l m r h ∙ rw (k.2, k.3, a)
refusal_only target mode l n (same_part m r h b) = let k = legal_parts m h.legal in legal_only target mode l m r h.legal ∙ rw (k.2, k.3, h.allowed, b)

related_only : (target : Target) (mode : Mode) (l : List ℕ) (m : Record) → Relates l m → Readable target mode m → verdict_of target mode l ≡ Ok m
related_only target mode l m r h =
    let a = h.allowed in
    let k = legal_parts m a.legal in
    legal_only target mode l m r a.legal ∙ rw (k.2, k.3, a.allowed, h.passed)

pub only : (target : Target) (mode : Mode) (l : List ℕ) (a : Verdict) → Decides target mode l a → verdict_of target mode l ≡ a
only target mode l a (decides_read m r h) = related_only target mode l m r h
only target mode l a (decides_refused {n} r) = refusal_only target mode l n r

-- no line gets two decides
pub decides_unique : (target : Target) (mode : Mode) (l : List ℕ) (a b : Verdict) → Decides target mode l a → Decides target mode l b → a ≡ b
decides_unique target mode l a b x y = sym (only target mode l a x) ∙ only target mode l b y

-- no line is related to two records
pub one_record : (l : List ℕ) (m n : Record) → Relates l m → Relates l n → m ≡ n
one_record l m n r q =
    let e : seen r.tree ≡ seen q.tree = sym (is_good l r.short r.tree r.shaped).1 ∙ (is_good l q.short q.tree q.shaped).1 in
    seen_one r.tree q.tree e m n r.spells q.spells

-- what one tree of a line spells, each of its trees spells
pub spelled_by_all : (l : List ℕ) → length l ≤ line_limit → (t u : LineTree) → Shaped l t → Shaped l u → (m : Record) → Spells t m → Spells u m
spelled_by_all l h t u s v m k =
    let e : seen t ≡ seen u = sym (is_good l h t s).1 ∙ (is_good l h u v).1 in
    let f = spelled_found t m k in
    let g = guard_found t.guard m.guard k.guard in
    let row : found l h u v ≡ Ok (blank m.instruction) = ap (λ (x : Parts). row_of x.head) (sym e) ∙ f.0 in
    let full : filled_of (blank m.instruction) (seen_operands (operands_of u)) ≡ Ok m.instruction = ap (λ (x : Parts). filled_of (blank m.instruction) x.operands) (sym e) ∙ f.1 in
    let good : guard_good (seen_guard u.guard) ≡ true = ap (λ (x : Parts). guard_good x.guard) (sym e) ∙ g.0 in
    let same : guard_in (seen_guard u.guard) ≡ m.guard = ap (λ (x : Parts). guard_in x.guard) (sym e) ∙ g.1 in
    subst (λ (w : Guard). Spells u (record_of w m.instruction)) same (found_spells l h u v (blank m.instruction) m.instruction row full good).0

-- and a row of which one tree of a line has the names, each of its trees has
pub row_by_all : (l : List ℕ) → length l ≤ line_limit → (t u : LineTree) → Shaped l t → Shaped l u → (i : Instruction) → Row (names_of t) i → Row (names_of u) i
row_by_all l h t u s v i r =
    let e : seen t ≡ seen u = sym (is_good l h t s).1 ∙ (is_good l h u v).1 in
    let f : row_of (seen_head (names_of t)) ≡ Ok (blank i) = ap (λ (ns : List Name). row_of (seen_head ns)) r.names ∙ row_complete i in
    let row : found l h u v ≡ Ok (blank i) = ap (λ (x : Parts). row_of x.head) (sym e) ∙ f in
    record { names = row_of_lem l h u v (blank i) row ∙ blank_names i; fit = r.fit }

-- ==== as the code decides, stage by stage

-- the guard is looked at last
pub ends_full : (target : Target) (mode : Mode) (good : Bool) (m : Record) → decided_by target mode false true (fit_by good m) ≡ decided_by target mode false true (record { spelled = m; opcode = true; row = true; fit = good && true && operands_fit m })
ends_full target mode true m = refl
ends_full target mode false m = refl

pub ends_wrong : (target : Target) (mode : Mode) (good : Bool) (m : Record) → Err 5 ≡ decided_by target mode false true (record { spelled = m; opcode = true; row = true; fit = good && false && operands_fit m })
ends_wrong target mode true m = refl
ends_wrong target mode false m = refl

-- a number, 0 for none
pub ends_refused : (target : Target) (mode : Mode) (good : Bool) (m : Record) (n : ℕ) → n ≡ refusal_of target mode false true (fit_by good m) → (n ≡ 0 → ⊥) → Err n ≡ decided_by target mode false true (fit_by good m)
ends_refused target mode good m zero e h = absurd (h refl)
ends_refused target mode good m (suc n) e h = rw (← e)

pub ends_read : (target : Target) (mode : Mode) (good : Bool) (m : Record) (n : ℕ) → n ≡ refusal_of target mode false true (fit_by good m) → n ≡ 0 → Ok m ≡ decided_by target mode false true (fit_by good m)
ends_read target mode good m n e z = rw (← e, z)
