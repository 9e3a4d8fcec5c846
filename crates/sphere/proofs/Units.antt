-- What callers use of the setting: off it changes nothing, and on or off there are as many centroids. Assumes nothing.
use mathlib.Core.Path.{◌≡◌, refl}
use mathlib.Core.Bool.{Bool, true, false}
use mathlib.Core.List.{List}
use lib.ListN.{length, length-map}
use Rattle.sums.specs.Rows.{Row}
use Rattle.sphere.specs.Unit.{unit_row, sphered}

pub sphered_off : (rows : List Row) → sphered false rows ≡ rows
unfolding sphered
sphered_off rows = refl

pub sphered_length : (spherical : Bool) (rows : List Row) → length (sphered spherical rows) ≡ length rows
unfolding sphered
sphered_length false rows = refl
sphered_length true rows = length-map rows unit_row
