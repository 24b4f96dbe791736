-- No two outcomes satisfy a contract as it stands in src/lib.rt.
use Prim.Native.Nat.{ℕ}
use mathlib.Core.Bool.{Bool}
use mathlib.Core.List.{List}
use mathlib.Core.Path.{◌≡◌}
use contract.Lifetimes.{Lfts}
use borrow.Fn.Kind.{ParamKind}
use borrow.Fn.Kinds.{Dens, ended_of}
use denote.RattleType.{RattleType}
use denote.Param.Laws.{Laws}
use denote.Triple.Clauses.{AtExit}
use mir.Syntax.{Dict}
use Rattle.base.specs.Promise.{one_outcome}
use Rattle.begins.specs.Searches.{Gives}
use Rattle.begins.specs.contracts.first_wrong.{F-post}
use Rattle.begins.specs.contracts.first_wrong.F-Fn as fn
use Rattle.begins.proofs.first_wrong.Kinds as first-wrong-kinds
use Rattle.begins.proofs.first_wrong.Reads as first-wrong

module _ (F : RattleType) (laws : Laws F) (ghosts : fn.Ghosts F) (code again once dropped : Dict) where
  abbrev ps : List (ParamKind 1)
  ps = first-wrong-kinds.ps F laws

  abbrev Exit : Lfts 1 → Type 0
  Exit κs = AtExit (ended_of 1 ps (first-wrong-kinds.r F laws)) κs

  abbrev Post : (κs : Lfts 1) → Dens κs ps → ℕ → Exit κs → Type 0
  Post = first-wrong.Post F laws ghosts code again once dropped

  -- where some function says what the test answers
  pub first_wrong_one_outcome :
      (κs : Lfts 1) (a : Dens κs ps) (x y : ℕ) (s t : Exit κs) (tells : ℕ → Bool)
      → Gives (F-post F ghosts code again once dropped a.0) tells → Post κs a x s → Post κs a y t → x ≡ y
  first_wrong_one_outcome κs a x y s t tells h p q = one_outcome (p tells h) (q tells h)
