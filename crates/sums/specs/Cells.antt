-- What small loops over a slice leave in it.
use Rattle.std.specs.Prelude.{ℕ, ◌+◌, ◌<◌, List, ◌∷◌, ◌++◌, length, take, drop, slice_index, slice_range}

-- v stands at `to`; what stood from there up to `last` has moved up one place, over what stood at `last`
abbrev pub inserted : {A : Type 0} → List A → ℕ → ℕ → A → List A
inserted s to last v = take to s ++ (v ∷ (slice_range s to last ++ drop (last + 1) s))

-- every number of the list is below m
abbrev pub Below : ℕ → List ℕ → Type 0
Below m l = (i : ℕ) → i < length l → slice_index l i < m
