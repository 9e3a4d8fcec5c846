-- The definitions compute: √4, √2, the root of the smallest positive value, and the row 3, 4 brought to length one. Assumes nothing.
use mathlib.Core.Path.{◌≡◌, refl}
use mathlib.Core.Bool.{false}
use mathlib.Core.List.{[], ◌∷◌}
use lib.IntN.{pos, negsuc}
use lib.Count.{count_trailing_zeros}
use lib.Ieee.{fin, size, span, climb, odd, units, round, sum, add, mul, div, lt}
use Rattle.sums.specs.Sums.{sum_from, norm_of}
use Rattle.sphere.specs.Root.{whole_root, dropped, scaled, digits_of, root_units, root_of}
use Rattle.sphere.specs.Unit.{times_all, unit_if, unit_row}

root-of-four : root_of (fin false 1 (pos 2)) ≡ fin false 1 (pos 1)
unfolding root_of root_units digits_of scaled dropped whole_root odd size span climb count_trailing_zeros
root-of-four = refl

root-of-two : root_of (fin false 1 (pos 1)) ≡ fin false 11863283 (negsuc 22)
unfolding root_of root_units digits_of scaled dropped whole_root odd size span climb count_trailing_zeros
root-of-two = refl

root-of-least : root_of (fin false 1 (negsuc 148)) ≡ fin false 11863283 (negsuc 97)
unfolding root_of root_units digits_of scaled dropped whole_root odd size span climb count_trailing_zeros
root-of-least = refl

unit-of-three-four : unit_row (fin false 3 (pos 0) ∷ fin false 1 (pos 2) ∷ []) ≡ fin false 5033165 (negsuc 22) ∷ fin false 13421773 (negsuc 23) ∷ []
unfolding unit_row unit_if times_all norm_of sum_from lt root_of root_units digits_of scaled dropped whole_root add sum mul div round units odd size span climb count_trailing_zeros
unit-of-three-four = refl
