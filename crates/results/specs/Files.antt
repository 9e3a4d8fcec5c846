-- The bytes of a result file (02, (vi)), written and read. The reader is the writer turned round: a file is read exactly where the grouping
-- that stands in it is sound and the writer makes this file of it.
use Rattle.std.specs.Prelude.{Bool, ◌&&◌, cond, ℕ, ◌+◌, ◌-◌, ◌*◌, length, take, drop}
use mathlib.Core.List.{List, [], ◌∷◌, ◌++◌, flat_map}
use Rattle.sums.specs.Refusals.{Answer, accepted, refused, same_all, padded, blank_cell}
use Rattle.words.specs.Bytes.{u32_at, words_from, bytes16, bytes32, halves_from}
use Rattle.results.specs.Grouping.{Stored, sound}

-- how many bytes: the three blocks and 24 of trailer
abbrev pub file_length : ℕ → ℕ → ℕ → ℕ
file_length rows dim groups = rows * 2 + groups * 2 + groups * dim * 4 + 24

-- six numbers: where row numbers, ends and means start, and then rows, dim and groups
abbrev pub trailer_of : ℕ → ℕ → ℕ → List ℕ
trailer_of rows dim groups = 0 ∷ rows * 2 ∷ (rows * 2 + groups * 2) ∷ rows ∷ dim ∷ groups ∷ []

-- row numbers, one end a group, dim means a group, and the trailer, without gaps
unfoldable pub written : Stored → List ℕ
written g =
    flat_map bytes16 g.order ++ (flat_map bytes16 (take g.groups g.ends)
    ++ (flat_map bytes32 (take (g.groups * g.dim) g.means) ++ flat_map bytes32 (trailer_of g.rows g.dim g.groups)))

-- what stands in a file under these numbers
unfoldable pub stored_at : ℕ → ℕ → ℕ → List ℕ → Stored
stored_at rows dim groups file =
    record {
      rows = rows;
      dim = dim;
      groups = groups;
      order = halves_from rows file;
      ends = padded blank_cell rows (halves_from groups (drop (rows * 2) file));
      means = padded 0 (rows * dim) (words_from (groups * dim) (drop (rows * 2 + groups * 2) file));
    }

-- the same by the last three numbers of its trailer
unfoldable pub stored_in : List ℕ → Stored
stored_in file =
    let w : ℕ → ℕ = λ i. u32_at file (length file - 24 + i) in
    stored_at (w 12) (w 16) (w 20) file

-- a result file: what stands in it is sound, and the writer makes this very file of it
unfoldable pub is_result : List ℕ → Bool
is_result file = sound (stored_in file) && same_all (written (stored_in file)) file

-- the grouping of a result file, and 10 for anything else
unfoldable pub reads : List ℕ → Answer Stored
reads file = cond (is_result file) (accepted (stored_in file)) (refused 10)
