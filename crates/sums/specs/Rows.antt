-- Readings come as one flat list, row after row (01, 'Port order and what must change shape').
use Rattle.std.specs.Prelude.{ℕ, zero, suc, ◌*◌, List, [], ◌∷◌, map, take, drop, slice_index_or, Float}

abbrev pub Row : Type 0
Row = List Float

-- n rows of dim cells each, from the front of the list
unfoldable pub rows_from : {A : Type 0} → ℕ → ℕ → List A → List (List A)
rows_from dim zero values = []
rows_from dim (suc n) values = take dim values ∷ rows_from dim n (drop dim values)

-- row i alone
abbrev pub row_at : {A : Type 0} → List A → ℕ → ℕ → List A
row_at values dim i = take dim (drop (i * dim) values)

-- the rows that stand at the positions, in the positions' order
abbrev pub rows_at : List Row → List ℕ → List Row
rows_at rows positions = map (λ i. slice_index_or rows i []) positions
