-- What the types keep that are read from bytes: so many values, by their index.
use Rattle.std.specs.Prelude.{◌≡◌, ℕ, ◌*◌, List, map}
use Rattle.std.specs.Float.{binary32}
use Rattle.std.specs.Float.Ieee.{of_bits}
use mathlib.Core.Path.{ap, ◌∙◌}
use Rattle.sums.specs.Tables.{tabulate}
use Rattle.sums.proofs.Tables.{map_tab}
use Rattle.sums.proofs.Rows.{map_rows}
use Rattle.words.specs.Bytes.{number_of, u16_at, u32_at, halves_from, words_from, floats_from}

pub halves_tab : (n : ℕ) (bytes : List ℕ) → halves_from n bytes ≡ tabulate (λ i. u16_at bytes (i * 2)) n
halves_tab n bytes = map_rows number_of 2 n bytes

pub words_tab : (n : ℕ) (bytes : List ℕ) → words_from n bytes ≡ tabulate (λ i. u32_at bytes (i * 4)) n
words_tab n bytes = map_rows number_of 4 n bytes

pub floats_tab : (n : ℕ) (bytes : List ℕ) → floats_from n bytes ≡ tabulate (λ i. of_bits binary32 (u32_at bytes (i * 4))) n
floats_tab n bytes = ap (map (of_bits binary32)) (words_tab n bytes) ∙ map_tab (of_bits binary32) (λ i. u32_at bytes (i * 4)) n
