-- What the parts of the reader say of themselves.
use Rattle.std.specs.Prelude.{Bool, ◌&&◌, List, ℕ, ◌+◌, ◌-◌, ◌*◌, eqb, length, drop}
use Rattle.words.specs.Bytes.{u32_at, halves_from}
use Rattle.results.specs.Grouping.{each_once, rising}
use Rattle.results.specs.Files.{file_length}

-- a file is as long as its numbers say, and its blocks start where they have to
unfoldable pub laid_out : List ℕ → ℕ → ℕ → ℕ → Bool
laid_out file rows dim groups =
    let w : ℕ → ℕ = λ i. u32_at file (length file - 24 + i) in
    eqb (length file) (file_length rows dim groups) && (eqb (w 0) 0 && eqb (w 4) (rows * 2) && eqb (w 8) (rows * 2 + groups * 2))

-- each row stands in it once, and its ends rise to rows
unfoldable pub holds_rows : List ℕ → ℕ → ℕ → Bool
holds_rows file rows groups = each_once rows (halves_from rows file) && rising 0 (halves_from groups (drop (rows * 2) file)) rows
