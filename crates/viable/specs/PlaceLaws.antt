-- The states of a line are exact: the first byte that leads to the wrong one is the place that the change request asks for.
use Rattle.std.specs.Prelude.{ℕ, refl, List}
use Rattle.rules.specs.BytePlaces.{FirstWrong, ShapedLine}
use Rattle.begins.specs.Machines.{Exact, wrong_first}
use Rattle.viable.specs.States.{step, is_wrong, shape_place_of}
use Rattle.viable.specs.Tails.{Tail, step_back, start_line, state_tail}
use Rattle.viable.specs.Through.{through, stuck}
use Rattle.viable.specs.declared.State.TheVariants.{Start}

shape_exact : Exact step is_wrong Start ShapedLine Tail
shape_exact = record { back = λ q b w. (step_back q b w).back; some = state_tail; whole = start_line; through = through; stuck = stuck }

-- the code's place is the first byte with which the line begins as no line of the right shape does, or its length
pub shape_place_right : (l : List ℕ) → FirstWrong ShapedLine l (shape_place_of l)
unfolding shape_place_of
shape_place_right l = wrong_first shape_exact refl l
