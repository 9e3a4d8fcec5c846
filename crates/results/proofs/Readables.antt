-- A file is read exactly when what document 02, (vi), asks of it holds. Assumes nothing.
use Prim.Native.Nat.{ℕ, suc, ◌+◌, ◌-◌, ◌*◌, ◌≤◌, ◌<◌, suc-le-suc, zero-le}
use mathlib.Core.Path.{◌≡◌, refl, sym, ap, ◌∙◌}
use mathlib.Core.Bool.{true, ◌&&◌}
use mathlib.Core.Logic.{◌↔◌}
use mathlib.Core.List.{List, [], ◌∷◌}
use native.Mathlib.Omega.{arith}
use borrow.Author.Tests.{eqb-true, eq-eqb, le-leb}
use lib.Dec.{eqb}
use lib.ListN.{length, get_or, drop}
use Rattle.sums.specs.Cells.{Below}
use Rattle.sums.specs.Refusals.{on_accepted}
use Rattle.sums.proofs.Refusing.{both}
use Rattle.sums.proofs.Weighs.{weigh}
use Rattle.words.specs.Bytes.{u32_at, halves_from}
use Rattle.words.proofs.Blocks.{halves_length}
use Rattle.results.specs.Grouping.{times_in, each_once, rising, numbers_fit}
use Rattle.results.specs.Files.{file_length, reads}
use Rattle.results.specs.Inside.{laid_out, holds_rows}
use Rattle.std.proofs.Common.{Ok}
use Rattle.sums.specs.Refused.{told}
use Rattle.results.specs.Calls.{numbers_of, figures}
use Rattle.results.proofs.Sounds.{numbers_is}
use Rattle.results.proofs.Answers.{found, is_found, numbers_read, numbered}
use Rattle.results.proofs.Promises.{sizes_from, times_count, once_each, each_once_lem, rise_sizes, sizes_rise}
use Rattle.results.proofs.Accepteds.{count_none}

-- A file with these numbers of rows, dim and groups, in the words of 02.
pub record Readable (file : List ℕ) (rows dim groups : ℕ) : Type 0 where
  -- they stand in its trailer, and are in range
  pub rows_told : rows ≡ u32_at file (length file - 24 + 12)
  pub dim_told : dim ≡ u32_at file (length file - 24 + 16)
  pub groups_told_lem : groups ≡ u32_at file (length file - 24 + 20)
  pub rows_most : rows ≤ 4096
  pub dim_least : 1 ≤ dim
  pub dim_most : dim ≤ 64
  -- the blocks follow each other from byte 0 without gaps, and the trailer follows them
  pub order_start : u32_at file (length file - 24 + 0) ≡ 0
  pub ends_start : u32_at file (length file - 24 + 4) ≡ rows * 2
  pub means_start : u32_at file (length file - 24 + 8) ≡ rows * 2 + groups * 2
  pub long : length file ≡ file_length rows dim groups
  -- each row stands once
  pub each : (x : ℕ) → x < rows → times_in x (halves_from rows file) ≡ 1
  -- the sizes are above zero, with sum rows
  pub above : (i : ℕ) → i < groups → 0 < get_or (sizes_from 0 (halves_from groups (drop (rows * 2) file))) i 0
  pub sum : weigh (λ n. n) (sizes_from 0 (halves_from groups (drop (rows * 2) file))) ≡ rows

sizes_length : (start : ℕ) (ends : List ℕ) → length (sizes_from start ends) ≡ length ends
sizes_length start [] = refl
sizes_length start (end ∷ ends) = ap suc (sizes_length end ends)

-- numbers above zero are no more than their sum
few_by_sum : (l : List ℕ) → ((i : ℕ) → i < length l → 0 < get_or l i 0) → length l ≤ weigh (λ n. n) l
few_by_sum [] h = zero-le
few_by_sum (x ∷ l) h = omega (arith, h 0 (suc-le-suc zero-le), few_by_sum l (λ i k. h (suc i) (suc-le-suc k)))

module _ (file : List ℕ) (rows dim groups : ℕ) where
  abbrev ends : List ℕ
  ends = halves_from groups (drop (rows * 2) file)

  ends_long : length ends ≡ groups
  ends_long = halves_length groups (drop (rows * 2) file)

  read_readable : told numbers_of (Ok (record { rows = rows; dim = dim; groups = groups })) ≡ on_accepted figures (reads file) → Readable file rows dim groups
  unfolding laid_out holds_rows
  read_readable e =
      let n = numbered file rows dim groups e in
      let f = found file rows dim groups n.e12 n.e16 n.e20 n.is in
      let m = numbers_is rows dim f.numbers in
      let p = both (eqb (length file) (file_length rows dim groups)) _ f.laid in
      let q = both (eqb (u32_at file (length file - 24 + 0)) 0 && eqb (u32_at file (length file - 24 + 4)) (rows * 2)) (eqb (u32_at file (length file - 24 + 8)) (rows * 2 + groups * 2)) p.1 in
      let r = both (eqb (u32_at file (length file - 24 + 0)) 0) (eqb (u32_at file (length file - 24 + 4)) (rows * 2)) q.0 in
      let h = both (each_once rows (halves_from rows file)) (rising 0 ends rows) f.holds in
      let s = rise_sizes 0 ends rows h.1 in
      record {
        rows_told = n.e12;
        dim_told = n.e16;
        groups_told_lem = n.e20;
        rows_most = m.few;
        dim_least = m.some;
        dim_most = m.narrow;
        order_start = eqb-true _ _ r.0;
        ends_start = eqb-true _ _ r.1;
        means_start = eqb-true _ _ q.1;
        long = eqb-true _ _ p.0;
        each = (once_each rows (halves_from rows file) h.0).0;
        above = λ i k. s.0 i (rw ends_long k);
        sum = omega (arith, s.1);
      }

  readable_read : Below 256 file → Readable file rows dim groups → told numbers_of (Ok (record { rows = rows; dim = dim; groups = groups })) ≡ on_accepted figures (reads file)
  unfolding laid_out holds_rows numbers_fit
  readable_read bytes d =
      let many : length (sizes_from 0 ends) ≡ groups = sizes_length 0 ends ∙ ends_long in
      let fewer : groups ≤ rows = omega (arith, few_by_sum (sizes_from 0 ends) (λ i k. d.above i (rw many at k)), many, d.sum) in
      let once : each_once rows (halves_from rows file) ≡ true
      = each_once_lem rows (halves_from rows file) d.each (λ x k. times_count x (halves_from rows file) ∙ count_none rows (halves_from rows file) (halves_length rows file) (λ y l. sym (times_count y (halves_from rows file)) ∙ d.each y l) x k) in
      let rise : rising 0 ends rows ≡ true = sizes_rise 0 ends rows (λ i k. d.above i (rw ends_long at k)) (omega (arith, d.sum)) in
      numbers_read file rows dim groups d.rows_told d.dim_told d.groups_told_lem
      (is_found file rows dim groups d.rows_told d.dim_told d.groups_told_lem bytes
      (record {
        numbers = rw (le-leb 0 rows zero-le, le-leb rows 4096 d.rows_most, le-leb 1 dim d.dim_least, le-leb dim 64 d.dim_most);
        fewer = fewer;
        laid = rw (eq-eqb _ _ d.long, eq-eqb _ _ d.order_start, eq-eqb _ _ d.ends_start, eq-eqb _ _ d.means_start);
        holds = rw (once, rise);
      }))

  -- The reader tells these numbers of a file of bytes exactly when it is so.
  pub read_exactly : Below 256 file → (told numbers_of (Ok (record { rows = rows; dim = dim; groups = groups })) ≡ on_accepted figures (reads file)) ↔ Readable file rows dim groups
  read_exactly bytes = (read_readable, readable_read bytes)
