-- Lists given by their index.
use Rattle.std.specs.Prelude.{ℕ, zero, suc, List, [], ◌∷◌, ◌++◌}

-- f 0, f 1, .., f (n - 1); it grows at its end, as a slice does that a loop fills from the front
abbrev pub tabulate : {A : Type 0} → (ℕ → A) → ℕ → List A
tabulate f zero = []
tabulate f (suc n) = tabulate f n ++ (f n ∷ [])

-- 0, 1, .., n - 1
abbrev pub up_to : ℕ → List ℕ
up_to n = tabulate (λ i. i) n
