-- 02, (iv): centroids on the unit sphere (the source's normalize_centroids).
use Rattle.std.specs.Prelude.{Bool, true, false, cond, List, map, Float}
use Rattle.std.specs.Float.{binary32}
use Rattle.std.specs.Float.Ieee.{lt, mul, div}
use Rattle.sums.specs.Rows.{Row}
use Rattle.sums.specs.Sums.{zero32, one32, norm_of}
use Rattle.sphere.specs.Root.{root_of}

-- each value times the factor
unfoldable pub times_all : Float → Row → Row
times_all factor row = map (λ v. mul binary32 v factor) row

-- a row of this norm: times the inverse of the norm's root, where the norm is above zero
unfoldable pub unit_if : Float → Row → Row
unit_if norm row = cond (lt zero32 norm) (times_all (div binary32 one32 (root_of norm)) row) row

-- one centroid, its norm summed ascending
unfoldable pub unit_row : Row → Row
unit_row row = unit_if (norm_of row) row

-- every centroid so with the setting on, and none with it off
unfoldable pub sphered : Bool → List Row → List Row
sphered false rows = rows
sphered true rows = map unit_row rows
