-- What the functions inside say of their slices.
use Rattle.std.specs.Prelude.{◌≡◌, cond, List, [], ◌∷◌, ◌++◌, ℕ, ◌+◌, ◌-◌, ◌/◌, ◌≤◌, ltb, length, take, drop, Float}
use Rattle.sums.specs.Cells.{Below}
use Rattle.sums.specs.Rows.{Row, rows_from}
use Rattle.sums.specs.declared.readings.Rows.{Rows}
use Rattle.grouping.specs.Parts.{sizes_of, flat}

-- a stretch holds the parts, and the sizes are theirs
abbrev pub Laid : List (List ℕ) → List ℕ → List ℕ → Type 0
Laid parts part sizes = (part ≡ flat parts) × (sizes ≡ sizes_of parts)

-- a list turned: its first k go behind the others
abbrev pub turned : ℕ → List ℕ → List ℕ
turned k l = drop k l ++ take k l

-- a list with the stretch from a up to e turned
abbrev pub stretch : ℕ → ℕ → (List ℕ → List ℕ) → List ℕ → List ℕ
stretch a e turn l = take a l ++ (turn (take (e - a) (drop a l)) ++ drop (e - a) (drop a l))

-- what stands at `from` leaves its place and goes before what stood at `end`
abbrev pub carried : ℕ → ℕ → List ℕ → List ℕ
carried from end l = cond (ltb from end) (stretch from end (turned 1) l) (stretch end (from + 1) (λ m. turned (length m - 1) m) l)

-- the sum of the numbers
unfoldable pub total : List ℕ → ℕ
total [] = 0
total (n ∷ ns) = n + total ns

-- what balancing is lent: rows of a table, in parts that make up their stretch, and a centroid for each part
abbrev pub Parted : Rows → Rows → List ℕ → List ℕ → Type 0
Parted rows centroids part sizes =
    record { below : Below rows.count part; centred : length sizes ≡ centroids.count; alike : centroids.dim ≡ rows.dim; whole : total sizes ≡ length part; few : length part ≤ 4096 }

-- cells that are lent as rows of dim values: as many as there are whole ones
abbrev pub table_of : ℕ → List Float → List Row
table_of dim values = rows_from dim (length values / dim) values

-- and what balancing is lent of them, likewise
abbrev pub PartedCells : ℕ → List Float → List Float → List ℕ → List ℕ → Type 0
PartedCells dim values centroids part sizes =
    record { below : Below (length values / dim) part; centred : length sizes ≡ length centroids / dim; whole : total sizes ≡ length part; few : length part ≤ 4096 }
