-- The code's rows as definitions have them.
use Rattle.std.specs.Prelude.{List}
use Rattle.sums.specs.Rows.{Row, rows_from}
use Rattle.sums.specs.declared.readings.Rows.{Rows}

-- each of the rows that are lent, in their order
abbrev pub rows_of : Rows → List Row
rows_of rows = rows_from rows.dim rows.count rows.values.now
