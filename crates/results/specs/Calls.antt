-- The writer's and the reader's whole calls, on what a caller lends (02, (vi)).
use Rattle.std.specs.Prelude.{◌≡◌, cond, List, [], ◌∷◌, ℕ, ◌*◌, length, Result}
use Rattle.sums.specs.Refusals.{Answer, accepted, refused, same_all, lowest, unless, on_accepted, cells_of, blank_cell}
use Rattle.sums.specs.declared.refusals.Refusal.{Refusal}
use Rattle.sums.specs.Refused.{told}
use Rattle.results.specs.Grouping.{Stored, numbers_fit, cells_lent, sound}
use Rattle.results.specs.Files.{file_length, written, reads}
use Rattle.results.specs.declared.reader.Numbers.{Numbers}

-- 1: rows or dim out of range; 2: a slice, the output too, is not as long as the numbers say
unfoldable pub write_refusal : ℕ → ℕ → ℕ → ℕ → ℕ → ℕ → ℕ → ℕ
write_refusal rows dim groups order ends means out =
    lowest (numbers_fit rows dim ∷ same_all (order ∷ ends ∷ means ∷ out ∷ []) (rows ∷ rows ∷ rows * dim ∷ file_length rows dim groups ∷ []) ∷ [])

-- then 10, for a grouping that the reader never gives
unfoldable pub write_call : Stored → ℕ → Answer (List ℕ)
write_call g out =
    unless (write_refusal g.rows g.dim g.groups (length g.order) (length g.ends) (length g.means) out)
    (cond (sound g) (accepted (written g)) (refused 10))

-- the writer's whole result: its answer, and the output's n bytes, which are the file, or zeros after any refusal
pub record Writes (answer : Answer (List ℕ)) (n : ℕ) (r : Result (Unit {0}) Refusal) (out : List ℕ) : Type 0 where
  pub result : told (λ (done : Unit {0}). tt {0}) r ≡ on_accepted (λ (file : List ℕ). tt {0}) answer
  pub bytes : out ≡ cells_of 0 n (λ (file : List ℕ). file) answer

-- 10 is ahead of 2, which is for lent slices that are not as long as the file says
unfoldable pub lent_to : List ℕ → Answer Stored → Answer Stored
lent_to lent (accepted g) = cond (same_all lent (cells_lent g.rows g.dim)) (accepted g) (refused 2)
lent_to lent (refused number) = refused number

-- the reader's call, of a file and the lengths of what is lent
unfoldable pub read_call : List ℕ → List ℕ → Answer Stored
read_call file lent = lent_to lent (reads file)

-- what the reader's numbers say
abbrev pub numbers_of : Numbers → ℕ × ℕ × ℕ
numbers_of n = (n.rows, n.dim, n.groups)

-- what is told of an acceptance
abbrev pub figures : Stored → ℕ × ℕ × ℕ
figures g = (g.rows, g.dim, g.groups)

-- the reader's whole result: its answer, and its cells, which are blank after any refusal
pub record Reads (answer : Answer Stored) (order_room end_room mean_room : ℕ) (r : Result Numbers Refusal) (order ends means : List ℕ) : Type 0 where
  pub result : told numbers_of r ≡ on_accepted figures answer
  pub ordered : order ≡ cells_of blank_cell order_room (λ (g : Stored). g.order) answer
  pub ended : ends ≡ cells_of blank_cell end_room (λ (g : Stored). g.ends) answer
  pub meant : means ≡ cells_of 0 mean_room (λ (g : Stored). g.means) answer
