-- 01, 'Grouping': the parts of a group, as lists of row numbers, in cluster order.
use Rattle.std.specs.Prelude.{cond, List, [], ◌∷◌, ◌++◌, map, ℕ, eqb, length}
use Rattle.sums.specs.Tables.{tabulate}

-- the rows of the group whose label is c, in their order
unfoldable pub having : ℕ → List ℕ → List ℕ → List ℕ
having c [] labels = []
having c (r ∷ group) [] = []
having c (r ∷ group) (l ∷ labels) = cond (eqb l c) (r ∷ having c group labels) (having c group labels)

-- rows gathered per label: k parts, in cluster order
abbrev pub gathered : ℕ → List ℕ → List ℕ → List (List ℕ)
gathered k group labels = tabulate (λ c. having c group labels) k

abbrev pub sizes_of : List (List ℕ) → List ℕ
sizes_of parts = map length parts

-- Parts laid out in the row order, the last part first: it is taken next.
unfoldable pub flat : List (List ℕ) → List ℕ
flat [] = []
flat (p ∷ parts) = flat parts ++ p
