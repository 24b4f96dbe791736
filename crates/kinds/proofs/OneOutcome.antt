-- No two outcomes satisfy a contract as it stands in src/lib.rt.
use Rattle.std.specs.Prelude.{Option}
use contract.Lifetimes.{Lfts}
use borrow.Fn.Kinds.{Dens, ended_of}
use denote.Triple.Clauses.{AtExit}
use mathlib.Core.Path.{◌≡◌}
use Rattle.base.specs.Promise.{one_outcome}
use Rattle.kinds.proofs.word_of.Kinds as word-of-kinds
use Rattle.kinds.proofs.word_of.Reads as word_of
use Rattle.kinds.proofs.bare_word.Kinds as bare-word-kinds
use Rattle.kinds.proofs.bare_word.Reads as bare-word
use Rattle.kinds.proofs.bare_pred.Kinds as bare-pred-kinds
use Rattle.kinds.proofs.bare_pred.Reads as bare-pred
use Rattle.kinds.proofs.bare_operand.Kinds as bare-operand-kinds
use Rattle.kinds.proofs.bare_operand.Reads as bare-operand
use Rattle.kinds.proofs.condition_of.Kinds as condition-of-kinds
use Rattle.kinds.proofs.condition_of.Reads as condition-of
use Rattle.kinds.proofs.destination_of.Kinds as destination-of-kinds
use Rattle.kinds.proofs.destination_of.Reads as destination-of
use Rattle.record.specs.declared.Condition.{Condition}
use Rattle.record.specs.declared.Destination.{Destination}
use Rattle.record.specs.declared.Operand.{Operand}
use Rattle.record.specs.declared.Pred.{Pred}
use Rattle.record.specs.declared.Word.{Word}

pub word_of_one_outcome : (κs : Lfts 0) (a : Dens κs word-of-kinds.ps) (x y : Option Word) (s t : AtExit (ended_of 0 word-of-kinds.ps word-of-kinds.r) κs) → word_of.Post κs a x s → word_of.Post κs a y t → x ≡ y
word_of_one_outcome κs a x y s t p q = one_outcome p q

pub bare_word_one_outcome : (κs : Lfts 0) (a : Dens κs bare-word-kinds.ps) (x y : Option Word) (s t : AtExit (ended_of 0 bare-word-kinds.ps bare-word-kinds.r) κs) → bare-word.Post κs a x s → bare-word.Post κs a y t → x ≡ y
bare_word_one_outcome κs a x y s t p q = one_outcome p q

pub bare_pred_one_outcome : (κs : Lfts 0) (a : Dens κs bare-pred-kinds.ps) (x y : Option Pred) (s t : AtExit (ended_of 0 bare-pred-kinds.ps bare-pred-kinds.r) κs) → bare-pred.Post κs a x s → bare-pred.Post κs a y t → x ≡ y
bare_pred_one_outcome κs a x y s t p q = one_outcome p q

pub bare_operand_one_outcome : (κs : Lfts 0) (a : Dens κs bare-operand-kinds.ps) (x y : Option Operand) (s t : AtExit (ended_of 0 bare-operand-kinds.ps bare-operand-kinds.r) κs) → bare-operand.Post κs a x s → bare-operand.Post κs a y t → x ≡ y
bare_operand_one_outcome κs a x y s t p q = one_outcome p q

pub condition_of_one_outcome : (κs : Lfts 0) (a : Dens κs condition-of-kinds.ps) (x y : Option Condition) (s t : AtExit (ended_of 0 condition-of-kinds.ps condition-of-kinds.r) κs) → condition-of.Post κs a x s → condition-of.Post κs a y t → x ≡ y
condition_of_one_outcome κs a x y s t p q = one_outcome p q

pub destination_of_one_outcome : (κs : Lfts 0) (a : Dens κs destination-of-kinds.ps) (x y : Option Destination) (s t : AtExit (ended_of 0 destination-of-kinds.ps destination-of-kinds.r) κs) → destination-of.Post κs a x s → destination-of.Post κs a y t → x ≡ y
destination_of_one_outcome κs a x y s t p q = one_outcome p q
