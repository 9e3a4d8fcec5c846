-- What a caller reads in the result cells of a grouping call, and that the call alone decides it. Assumes nothing.
use mathlib.Core.Path.{◌≡◌, refl, sym, ap, ◌∙◌}
use mathlib.Core.Bool.{true}
use mathlib.Core.List.{List, [], ◌∷◌, ◌++◌, flatten, flat_map}
use Prim.Native.Nat.{ℕ, zero, suc, ◌+◌, ◌-◌, ◌*◌, ◌/◌, ◌≤◌, ◌<◌}
use native.Mathlib.Nat.{mul-le-mul_right}
use native.Mathlib.Omega.{arith}
use lib.Ieee.{Float, nan}
use lib.ListN.{length, get_or, take, drop, replicate}
use Rattle.sums.specs.Rows.{Row, rows_from, row_at}
use Rattle.sums.specs.Sums.{zero32}
use Rattle.sums.specs.Refusals.{Answer, accepted, refused, on_accepted, cells_of, padded, blank_cell, Cleared}
use Rattle.sums.proofs.Weighs.{count_of}
use Rattle.sums.proofs.Pairs.{all_at}
use Rattle.sums.proofs.Fronts.{flat_length}
use Rattle.sums.proofs.Refusing.{same_cons, padded_all, padded_none, padded_is, padded_length, padded_at, padded_past, cleared_same}
use Rattle.labels.specs.declared.mode.Mode.TheVariants.{Strict}
use Rattle.grouping.specs.declared.config.GroupingConfig.{GroupingConfig}
use Rattle.std.specs.Prelude.{Result as Outcome, Ok, Err}
use Rattle.sums.specs.declared.refusals.Refusal.{Refusal}
use Rattle.sums.specs.Refused.{number_of, told}
use Rattle.sums.proofs.Told.{told_same}
use Rattle.grouping.specs.declared.waiting.Counts.{Counts}
use Rattle.grouping.specs.Groups.{Groups, mean_of, ends_from}
use Rattle.grouping.specs.Answers.{counted, figures}
use Rattle.grouping.specs.Call.{lengths_fit, Gives}
use Rattle.grouping.proofs.Stretches.{flatten_part, flat_map_part, ends_length, start_is, end_is}
use Rattle.grouping.proofs.Averages.{mean_length}
use Rattle.grouping.proofs.GroupPromises.{Sized, Listing, some_group}
use Rattle.grouping.proofs.CallPromises.{call, passed_exactly, accepted_passed, EndsAfter, accepted_splits, call_listing, call_unplaced, call_placed}

-- group i as a caller reads it: the stretch of the row order from the end before it, 0 for the first, up to its own end
abbrev pub group_at : List ℕ → List ℕ → ℕ → List ℕ
group_at order ends i = take (get_or ends i 0 - get_or (0 ∷ ends) i 0) (drop (get_or (0 ∷ ends) i 0) order)

-- What an accepted call leaves in the row order and in the group ends, where it tells so many groups.
pub record Cells (limit rows groups : ℕ) (order ends : List ℕ) : Type 0 where
  -- each row number stands exactly once, and nothing else
  pub once : (x : ℕ) → x < rows → count_of x order ≡ 1
  pub all : length order ≡ rows
  -- each group has from one row to the limit
  pub sized : (i : ℕ) → i < groups → Sized limit (group_at order ends i)
  -- a group's end is the end before it and its size together, and the last is the number of rows
  pub total : (i : ℕ) → i < groups → get_or ends i 0 ≡ get_or (0 ∷ ends) i 0 + length (group_at order ends i)
  pub last : 0 < rows → get_or ends (groups - 1) 0 ≡ rows
  -- there is a cell for each row, and those past the last group's are blank
  pub cells : length ends ≡ rows
  pub blank : (i : ℕ) → groups ≤ i → i < rows → get_or ends i 0 ≡ blank_cell
  -- there are at most as many groups as rows, and at least rows div limit, rounded up
  pub most : groups ≤ rows
  pub least : 0 < limit → (rows + (limit - 1)) / limit ≤ groups

-- What it leaves in the means.
pub record Means (dim rows groups : ℕ) (readings : List Row) (order ends : List ℕ) (means : List Float) : Type 0 where
  -- mean i is that of the readings of group i's rows, in the order in which they stand
  pub mean : (i : ℕ) → i < groups → row_at means dim i ≡ mean_of dim readings (group_at order ends i)
  -- there are dim cells for each row, and those past the last group's are zero
  pub cells : length means ≡ rows * dim
  pub blank : (i : ℕ) → groups * dim ≤ i → i < rows * dim → get_or means i nan ≡ zero32

-- What a refused call leaves, however long its slices are.
pub record Blank (order_room end_room mean_room : ℕ) (order ends : List ℕ) (means : List Float) : Type 0 where
  pub order_blank : order ≡ replicate order_room blank_cell
  pub ends_blank : ends ≡ replicate end_room blank_cell
  pub means_zero : means ≡ replicate mean_room zero32

-- slices that fit: those of the results
record Measured (rows dim order_room end_room mean_room : ℕ) : Type 0 where
  order_cells : order_room ≡ rows
  end_cells : end_room ≡ rows
  mean_cells : mean_room ≡ rows * dim

measured : (rows dim values o e m : ℕ) (work : List ℕ) → lengths_fit rows dim values (o ∷ e ∷ m ∷ work) ≡ true → Measured rows dim o e m
unfolding lengths_fit
measured rows dim values o e m work fit =
    let a = same_cons _ _ _ _ fit in
    let b = same_cons _ _ _ _ a.1 in
    let c = same_cons _ _ _ _ b.1 in
    let d = same_cons _ _ _ _ c.1 in
    record { order_cells = b.0; end_cells = c.0; mean_cells = d.0 }

-- One call, with its settings, its draws, its readings one after the other, and the lengths of what is lent; `work` are those of the work slices.
module _ (rows dim : ℕ) (config : GroupingConfig) (drawn : List ℕ) (values : List Float) (order_room end_room mean_room : ℕ) (work : List ℕ) where
  abbrev pub called : Answer Groups
  called = call rows dim config drawn values (order_room ∷ end_room ∷ mean_room ∷ work)

  -- the readings as rows
  abbrev pub table : List Row
  table = rows_from dim rows values

  -- a result that the call may give
  abbrev pub Result : Outcome Counts Refusal → List ℕ → List ℕ → List Float → Type 0
  Result r order ends means = Gives called dim table order_room end_room mean_room r order ends means

  -- A call that is told a refusal is refused by its number, and its result cells are blank.
  pub refused_cells : (refusal : Refusal) (order ends : List ℕ) (means : List Float) → Result (Err refusal) order ends means
      → (called ≡ refused (number_of refusal)) × Blank order_room end_room mean_room order ends means
  unfolding on_accepted cells_of
  refused_cells refusal order ends means given = go called refl given.result given.ordered given.ended given.meant
    where
      go : (a : Answer Groups) → called ≡ a → told counted (Err refusal) ≡ on_accepted figures a
          → order ≡ cells_of blank_cell order_room (λ (g : Groups). flatten g.groups) a → ends ≡ cells_of blank_cell end_room (λ (g : Groups). ends_from 0 g.groups) a
          → means ≡ cells_of zero32 mean_room (λ (g : Groups). flat_map (mean_of dim table) g.groups) a
          → (called ≡ refused (number_of refusal)) × Blank order_room end_room mean_room order ends means
      go (accepted g) e t o n m = let z : ◌≡◌ {A = ℕ} 0 1 = cc in absurd (omega arith)
      go (refused number) e t o n m =
          let z : number ≡ number_of refusal = cc in
          (rw z at e, record { order_blank = o ∙ padded_none blank_cell order_room; ends_blank = n ∙ padded_none blank_cell end_room; means_zero = m ∙ padded_none zero32 mean_room })

  -- what lies behind a call that is told its counts
  record Behind (counts : Counts) (order ends : List ℕ) (means : List Float) : Type 0 where
    g : Groups
    is : called ≡ accepted g
    many : length g.groups ≡ counts.groups
    done : g.splits ≡ counts.splits
    lost : g.unplaced ≡ counts.unplaced
    ordered : order ≡ padded blank_cell order_room (flatten g.groups)
    ended : ends ≡ padded blank_cell end_room (ends_from 0 g.groups)
    meant : means ≡ padded zero32 mean_room (flat_map (mean_of dim table) g.groups)

  behind : (counts : Counts) (order ends : List ℕ) (means : List Float) → Result (Ok counts) order ends means
      → Behind counts order ends means
  unfolding on_accepted cells_of
  behind counts order ends means given = go called refl given.result given.ordered given.ended given.meant
    where
      go : (a : Answer Groups) → called ≡ a → told counted (Ok counts) ≡ on_accepted figures a
          → order ≡ cells_of blank_cell order_room (λ (g : Groups). flatten g.groups) a → ends ≡ cells_of blank_cell end_room (λ (g : Groups). ends_from 0 g.groups) a
          → means ≡ cells_of zero32 mean_room (λ (g : Groups). flat_map (mean_of dim table) g.groups) a
          → Behind counts order ends means
      go (accepted g) e t o n m =
          let z : ◌≡◌ {A = ℕ × ℕ × ℕ} (figures g) (counted counts) = cc in
          record {
            g = g;
            is = e;
            many = ap (λ (f : ℕ × ℕ × ℕ). f.0) z;
            done = ap (λ (f : ℕ × ℕ × ℕ). f.1) z;
            lost = ap (λ (f : ℕ × ℕ × ℕ). f.2) z;
            ordered = o;
            ended = n;
            meant = m;
          }
      go (refused number) e t o n m = let z : ◌≡◌ {A = ℕ} 0 1 = cc in absurd (omega arith)

  module _ {counts : Counts} {order ends : List ℕ} {means : List Float} (b : Behind counts order ends means) where
    abbrev gs : List (List ℕ)
    gs = b.g.groups

    abbrev lent : List ℕ
    lent = order_room ∷ end_room ∷ mean_room ∷ work

    fits : Measured rows dim order_room end_room mean_room
    fits =
        let e = accepted_passed rows dim config drawn values lent b.g b.is in
        measured rows dim (length values) order_room end_room mean_room work ((passed_exactly rows dim config drawn values lent).0 e).1

    listing : Listing config.limit rows gs
    listing = call_listing rows dim config drawn values lent b.g b.is

    order_is : order ≡ flatten gs
    order_is = b.ordered ∙ padded_all blank_cell order_room (flatten gs) (listing.all ∙ sym fits.order_cells)

    end_at : (i : ℕ) → i < counts.groups → get_or ends i 0 ≡ get_or (ends_from 0 gs) i 0
    end_at i h =
        ap (λ (l : List ℕ). get_or l i 0) b.ended
        ∙ padded_at blank_cell end_room (ends_from 0 gs) i 0 (omega (arith, ends_length 0 gs, listing.most, fits.end_cells)) (omega (arith, ends_length 0 gs, b.many))

    start_at : (i : ℕ) → i < counts.groups → get_or (0 ∷ ends) i 0 ≡ length (flatten (take i gs))
    start_at zero h = start_is 0 gs 0 (omega arith) ∙ omega arith
    start_at (suc i) h = end_at i (omega arith) ∙ (start_is 0 gs (suc i) (omega (arith, b.many)) ∙ omega arith)

    size_at : (i : ℕ) → i < counts.groups → get_or ends i 0 ≡ get_or (0 ∷ ends) i 0 + length (get_or gs i [])
    size_at i h = end_at i h ∙ (end_is 0 gs i (omega (arith, b.many)) ∙ omega (arith, start_at i h))

    group_is : (i : ℕ) → i < counts.groups → group_at order ends i ≡ get_or gs i []
    group_is i h =
        let z : get_or ends i 0 - get_or (0 ∷ ends) i 0 ≡ length (get_or gs i []) = omega (arith, size_at i h) in
        ap (λ (l : List ℕ). group_at l ends i) order_is ∙ rw (z, start_at i h) (flatten_part gs i (omega (arith, b.many)))

    ends_cells : Cells config.limit rows counts.groups order ends
    ends_cells = record {
      once = λ x h. rw order_is (listing.once x h);
      all = ap length order_is ∙ listing.all;
      sized = λ i h. rw (group_is i h) (all_at (Sized config.limit) gs [] listing.sized i (omega (arith, b.many)));
      total = λ i h. rw (group_is i h) (size_at i h);
      last = λ h.
          let s : 0 < length gs = some_group gs (omega (arith, listing.all)) in
          end_at (counts.groups - 1) (omega (arith, b.many)) ∙ rw b.many at (listing.last h);
      cells = ap length b.ended ∙ (padded_length blank_cell end_room (ends_from 0 gs) ∙ fits.end_cells);
      blank = λ i h k.
          ap (λ (l : List ℕ). get_or l i 0) b.ended
          ∙ padded_past blank_cell end_room (ends_from 0 gs) i 0 (omega (arith, ends_length 0 gs, b.many)) (omega (arith, fits.end_cells));
      most = omega (arith, listing.most, b.many);
      least = λ h. omega (arith, listing.least h, b.many);
    }

    mean_cells : Means dim rows counts.groups table order ends means
    mean_cells =
        let f : List ℕ → Row = mean_of dim table in
        let n : length (flat_map f gs) ≡ counts.groups * dim = flat_length f dim (mean_length dim table) gs ∙ rw b.many in
        let room : length (flat_map f gs) ≤ mean_room = rw (n, fits.mean_cells) (mul-le-mul_right dim (omega (arith, listing.most, b.many))) in
        record {
          mean = λ i h.
              let r = mean_room - length (flat_map f gs) in
              let p : means ≡ flat_map f gs ++ replicate r zero32 = b.meant ∙ padded_is zero32 mean_room r (flat_map f gs) (omega (arith, room)) in
              rw (p, group_is i h) (flat_map_part f dim (mean_length dim table) gs (replicate r zero32) i [] (omega (arith, b.many)));
          cells = ap length b.meant ∙ (padded_length zero32 mean_room (flat_map f gs) ∙ fits.mean_cells);
          blank = λ i h k.
              ap (λ (l : List Float). get_or l i nan) b.meant
              ∙ padded_past zero32 mean_room (flat_map f gs) i nan (omega (arith, n)) (omega (arith, fits.mean_cells));
        }

  -- A call that is told its counts finds in its row order and group ends each row once, in groups of one row to the limit, and their ends.
  pub call_cells : (counts : Counts) (order ends : List ℕ) (means : List Float) → Result (Ok counts) order ends means
      → Cells config.limit rows counts.groups order ends
  call_cells counts order ends means given = ends_cells (behind counts order ends means given)

  -- And in its means those of these groups.
  pub call_means : (counts : Counts) (order ends : List ℕ) (means : List Float) → Result (Ok counts) order ends means
      → Means dim rows counts.groups table order ends means
  call_means counts order ends means given = mean_cells (behind counts order ends means given)

  -- The splits that it is told are those after which no group waited.
  pub told_splits : (counts : Counts) (order ends : List ℕ) (means : List Float) → Result (Ok counts) order ends means
      → EndsAfter rows dim config drawn values (order_room ∷ end_room ∷ mean_room ∷ work) counts.splits
  told_splits counts order ends means given =
      let b = behind counts order ends means given in
      ((accepted_splits rows dim config drawn values (order_room ∷ end_room ∷ mean_room ∷ work) counts.splits).0 (b.g, (b.is, b.done))).1

  -- The unplaced rows that it is told are at most its splits times its rows, and their count never wraps.
  pub told_unplaced : (counts : Counts) (order ends : List ℕ) (means : List Float) → Result (Ok counts) order ends means
      → (counts.unplaced ≤ counts.splits * rows) × (counts.unplaced ≤ 33554432)
  told_unplaced counts order ends means given =
      let b = behind counts order ends means given in
      rw (b.done, b.lost) at (call_unplaced rows dim config drawn values (order_room ∷ end_room ∷ mean_room ∷ work) b.g b.is)

  -- In the strict mode it is told 0 unplaced rows.
  pub strict_told : config.mode ≡ Strict → (counts : Counts) (order ends : List ℕ) (means : List Float) → Result (Ok counts) order ends means
      → counts.unplaced ≡ 0
  strict_told m counts order ends means given =
      let b = behind counts order ends means given in
      sym b.lost ∙ call_placed rows dim config drawn values (order_room ∷ end_room ∷ mean_room ∷ work) m b.g b.is

-- ---- the answer and every cell follow from the call alone
-- counts with the same figures are the same
counted_same : (c d : Counts) → counted c ≡ counted d → c ≡ d
counted_same c d e = rw (ap (λ (f : ℕ × ℕ × ℕ). f.0) e, ap (λ (f : ℕ × ℕ × ℕ). f.1) e, ap (λ (f : ℕ × ℕ × ℕ). f.2) e)

-- Any two results that a call may give are the same: answer, row order, ends and means, and both work slices.
pub one_answer : {answer : Answer Groups} {dim : ℕ} {rows : List Row} {o e m : ℕ} {r r' : Outcome Counts Refusal} {order order' ends ends' : List ℕ} {means means' : List Float}
    → Gives answer dim rows o e m r order ends means → Gives answer dim rows o e m r' order' ends' means'
    → (gathered gathered' training training' : List Float) → Cleared zero32 gathered × Cleared zero32 training → Cleared zero32 gathered' × Cleared zero32 training'
    → length gathered ≡ length gathered' → length training ≡ length training'
    → ((r ≡ r') × (order ≡ order') × (ends ≡ ends') × (means ≡ means')) × ((gathered ≡ gathered') × (training ≡ training'))
one_answer {r = r} {r' = r'} g g' gathered gathered' training training' c c' k l = (
  (told_same counted counted_same r r' (g.result ∙ sym g'.result), g.ordered ∙ sym g'.ordered, g.ended ∙ sym g'.ended, g.meant ∙ sym g'.meant),
  (cleared_same zero32 gathered gathered' c.0 c'.0 k, cleared_same zero32 training training' c.1 c'.1 l),
)
