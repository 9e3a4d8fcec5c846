-- Centroids laid out sixteen to a panel, so that sixteen dots grow side by side, each in stated order.
use Rattle.std.specs.Prelude.{cond, List, ℕ, ◌+◌, ◌*◌, ◌/◌, ◌%◌, ltb, length, get_or, Float}
use Rattle.std.specs.Float.{nan}
use Rattle.sums.specs.Rows.{Row, row_at}
use Rattle.sums.specs.Sums.{dot_of, zero32}
use Rattle.sums.specs.Tables.{tabulate}
use Rattle.sums.specs.declared.readings.Rows.{Rows}

-- value d of centroid c, or +0.0 past the last centroid
abbrev pub value_at : Rows → ℕ → ℕ → Float
value_at centroids c d = cond (ltb c centroids.count) (get_or (row_at centroids.values.now centroids.dim c) d nan) zero32

-- n cells of panels, one after the other: a panel is dim lines, and line d has value d of sixteen centroids
unfoldable pub panels_of : Rows → ℕ → List Float
panels_of centroids n = tabulate (λ p. value_at centroids (16 * (p / 16 / centroids.dim) + p % 16) (p / 16 % centroids.dim)) n

-- the first n values of column j of a panel
abbrev pub column_of : List Float → ℕ → ℕ → Row
column_of panel n j = tabulate (λ d. get_or panel (16 * d + j) nan) n

-- the dot of the row with each column
unfoldable pub dots_of : Row → List Float → List Float
dots_of row panel = tabulate (λ j. dot_of row (column_of panel (length row) j)) 16
