-- The code's own form of the documents' order: a test for each refusal, and the number of the first that holds, 0 where none does. No one has
-- to believe it: the proofs of `read` and `execute` join it to `Answers` and `run`.
use Rattle.std.specs.Prelude.{ℕ, Bool, cond}

-- Reading: 1 to 7, T-07: 12 after 7, T-09: 15 after 12
abbrev pub first_reading : Bool → Bool → Bool → Bool → Bool → Bool → Bool → Bool → Bool → ℕ
first_reading tooLong no_shape noOpcode no_row noFit outOfFile same_pair tooOld against_itself =
    cond tooLong 1
    (cond no_shape 2
    (cond noOpcode 3
    (cond no_row 4
    (cond noFit 5
    (cond outOfFile 6
    (cond same_pair 7
    (cond tooOld 12
    (cond against_itself 15
    0))))))))

-- Executing: 8, 10, 11, T-07: 12 straight after 8
abbrev pub first_executing : Bool → Bool → Bool → Bool → ℕ
first_executing illegal notAllowed wrong_sizes wrong_preds = cond illegal 8 (cond notAllowed 12 (cond wrong_sizes 10 (cond wrong_preds 11 0)))
