-- A name is known by its number.
use Rattle.std.specs.Prelude.{ℕ, suc, zero, ◌+◌, ◌*◌, ◌-◌, ◌%◌, ◌^◌, ◌≤◌, ◌<◌, ◌≡◌, List, [], ◌∷◌, length, get_or, drop}
use Rattle.std.proofs.Common.{arith, pow-suc, le-leb, length-drop, drop-cons}
use Rattle.std.proofs.lemmas.Bool.{lt-leb}
use Rattle.base.specs.Pack.{radix, pack, longest_name, code_of}

-- ---- the loop that packs a name, from its last byte

positive : (k : ℕ) → 0 < radix ^ k
positive zero = omega arith
positive (suc k) = let i = positive k in rw (pow-suc radix k) (omega arith)

-- k bytes are below 128 ^ k
pack_small : (k : ℕ) (w : List ℕ) → length w ≤ k → pack w < radix ^ k
pack_small k [] h = positive k
pack_small zero (b ∷ w) h = absurd (omega arith)
pack_small (suc k) (b ∷ w) h =
    let i : pack w < radix ^ k = pack_small k w (omega arith) in
    rw (pow-suc radix k) (omega arith)

pub pack_rest : (w : List ℕ) (i : ℕ) → 0 < i → length w ≤ longest_name → pack (drop i w) < radix ^ 8
pack_rest w i h l = pack_small 8 (drop i w) (rw (length-drop i w) (omega arith))

pub pack_turn : (w : List ℕ) (i number : ℕ) → 0 < i → i ≤ length w → number ≡ pack (drop i w) → get_or w (i - 1) 0 % radix + radix * number ≡ pack (drop (i - 1) w)
pack_turn w zero number h l e = absurd (omega arith)
pack_turn w (suc i) number h l e = rw (before i, drop-cons w i 0 l, e)
  where
    before : (i : ℕ) → suc i - 1 ≡ i
    before i = omega arith

pub pack_end : (w : List ℕ) (i number : ℕ) → length w ≤ longest_name → i ≤ 0 → number ≡ pack (drop i w) → number ≡ code_of w
unfolding code_of
pack_end w zero number l h e = rw (le-leb (length w) longest_name l) e
pack_end w (suc i) number l h e = absurd (omega arith)

pub code_long : (w : List ℕ) → longest_name < length w → 0 ≡ code_of w
unfolding code_of
code_long w h = rw (lt-leb (length w) longest_name h)
