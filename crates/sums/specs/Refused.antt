-- The code's refusals in 01's terms.
use Rattle.std.specs.Prelude.{ℕ, Result, Ok, Err}
use Rattle.sums.specs.Refusals.{Answer, accepted, refused}
use Rattle.sums.specs.declared.refusals.Refusal.{Refusal}
use Rattle.sums.specs.declared.refusals.Refusal.TheVariants.{Range, Length, FewRows, Draws, Unordered, Indivisible, Budget, Misshapen, Unplaced, NoResult}

-- the numbers of 01, 'Ranges and refusal numbers', 02 (iii) and 02 (vi)
abbrev pub number_of : Refusal → ℕ
number_of Range = 1
number_of Length = 2
number_of FewRows = 3
number_of Draws = 4
number_of Unordered = 5
number_of Indivisible = 6
number_of Budget = 7
number_of Misshapen = 8
number_of Unplaced = 9
number_of NoResult = 10

-- a function's result as what a call gives: its value, seen by `figure`, or its refusal's number
abbrev pub told : {A B : Type 0} → (A → B) → Result A Refusal → Answer B
told figure (Ok value) = accepted (figure value)
told figure (Err refusal) = refused (number_of refusal)

-- the number of its refusal, and 0 for none
abbrev pub number_in : {A : Type 0} → Result A Refusal → ℕ
number_in (Ok value) = 0
number_in (Err refusal) = number_of refusal
