-- Little-endian bytes (01, 'Batch file and listing', and the exported functions of 'What is ported'; 02 (vi), the result file).
use Rattle.std.specs.Prelude.{List, [], ◌∷◌, map, ℕ, ◌+◌, ◌*◌, ◌/◌, ◌%◌, take, drop, Float}
use Rattle.std.specs.Float.{binary32}
use Rattle.std.specs.Float.Ieee.{of_bits}
use Rattle.sums.specs.Rows.{rows_from}

-- the first byte counts least
unfoldable pub number_of : List ℕ → ℕ
number_of [] = 0
number_of (b ∷ bytes) = b + 256 * number_of bytes

-- the 32-bit number that starts at a place
abbrev pub u32_at : List ℕ → ℕ → ℕ
u32_at bytes at = number_of (take 4 (drop at bytes))

-- the 16-bit number that starts at a place
abbrev pub u16_at : List ℕ → ℕ → ℕ
u16_at bytes at = number_of (take 2 (drop at bytes))

-- n numbers of 32 bits, one after the other
abbrev pub words_from : ℕ → List ℕ → List ℕ
words_from n bytes = map number_of (rows_from 4 n bytes)

-- n numbers of 16 bits
abbrev pub halves_from : ℕ → List ℕ → List ℕ
halves_from n bytes = map number_of (rows_from 2 n bytes)

-- numbers of 32 bits as floats: every pattern is one, and a NaN's is NaN
abbrev pub floats_from : ℕ → List ℕ → List Float
floats_from n bytes = map (of_bits binary32) (words_from n bytes)

-- a 16-bit number as two bytes
abbrev pub bytes16 : ℕ → List ℕ
bytes16 n = n % 256 ∷ n / 256 ∷ []

-- a 32-bit number as four
abbrev pub bytes32 : ℕ → List ℕ
bytes32 n = n % 256 ∷ n / 256 % 256 ∷ n / 65536 % 256 ∷ n / 16777216 ∷ []
