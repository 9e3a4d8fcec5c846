-- The result file's promises, in the words of document 02, (vi). Assumes nothing.
use Prim.Native.Nat.{ℕ, zero, suc, ◌+◌, ◌-◌, ◌*◌, ◌≤◌, ◌<◌, suc-le-suc, zero-le}
use mathlib.Core.Path.{◌≡◌, refl, sym, ap, ◌∙◌}
use mathlib.Core.Bool.{Bool, true, false, ◌&&◌, cond}
use mathlib.Core.List.{List, [], ◌∷◌, flat_map}
use native.Mathlib.Nat.{mul-le-mul_right, not-suc-le-zero, le_of_suc-le-suc}
use native.Mathlib.Omega.{arith}
use borrow.Author.Tests.{eqb-true, eq-eqb, ne_eqb, ltb-true, ltb-false, lt-ltb, le-leb}
use lib.Dec.{eqb, ltb}
use lib.ListN.{length, get_or, take, drop, get_or-replicate, length-drop}
use lib.Seq.{get_or-drop, length-take-le}
use Rattle.sums.specs.Refusals.{accepted, refused, same_all, lowest_from, unless, blank_cell}
use Rattle.sums.proofs.Refusing.{both, same_is, lowest_none}
use Rattle.sums.proofs.Tables.{get_d_tab, length_tab, tab_same, tab_const}
use Rattle.sums.proofs.Weighs.{weigh, one, count_of}
use Rattle.results.specs.Grouping.{Stored, all_pass, all_are, all_below, times_in, times_each, each_once, rising, numbers_fit, content_fits, sound}
use Rattle.results.specs.Files.{file_length, written, stored_in, is_result, reads}
use Rattle.results.specs.Calls.{write_refusal, write_call}
use Rattle.results.proofs.Pads.{all_blank, are_blank}
use Rattle.results.proofs.Sounds.{Lengths, sound_is, sound_numbers, sound_content, is_content}
use Rattle.results.proofs.Files.{same_refl, stored_back, written_length}

-- ---- round trips
-- reading what was written gives the same grouping
pub read_written : (t : Stored) → sound t ≡ true → reads (written t) ≡ accepted t
unfolding reads is_result
read_written t s =
    let e = stored_back t (sound_is t s) in
    rw (e, s, same_refl (written t))

-- what the reader gives is sound, and it was written so
pub read_sound : (file : List ℕ) (t : Stored) → reads file ≡ accepted t → (sound t ≡ true) × (written t ≡ file)
unfolding reads is_result
read_sound file t e = go (sound (stored_in file) && same_all (written (stored_in file)) file) refl e
  where
    go : (b : Bool) → (sound (stored_in file) && same_all (written (stored_in file)) file) ≡ b → cond b (accepted (stored_in file)) (refused 10) ≡ accepted t → (sound t ≡ true) × (written t ≡ file)
    go true h p =
        let k : stored_in file ≡ t = cc in
        let q = both (sound (stored_in file)) (same_all (written (stored_in file)) file) h in
        (rw k at q.0, same_is (written t) file (rw k at q.1))
    go false h p = let z : ◌≡◌ {A = ℕ} 0 1 = cc in absurd (omega arith)

write_none : (t : Stored) (n : ℕ) → sound t ≡ true → n ≡ length (written t)
    → write_refusal t.rows t.dim t.groups (length t.order) (length t.ends) (length t.means) n ≡ 0
unfolding write_refusal same_all
write_none t n e h =
    let s = sound_is t e in
    let l = s.lengths in
    let c = s.content in
    let ef : t.groups ≤ length t.ends = omega (arith, l.ends_long, c.fewer) in
    let mf : t.groups * t.dim ≤ length t.means = omega (arith, l.means_long, mul-le-mul_right t.dim c.fewer) in
    lowest_none 1 _ (
      sound_numbers t e,
      (
        rw (
          eq-eqb (length t.order) t.rows l.order_long,
          eq-eqb (length t.ends) t.rows l.ends_long,
          eq-eqb (length t.means) (t.rows * t.dim) l.means_long,
          eq-eqb n (file_length t.rows t.dim t.groups) (h ∙ written_length t l.order_long ef mf),
        ),
        tt,
      ),
    )

-- what is read and written again gives the same bytes
pub written_read : (file : List ℕ) (t : Stored) → reads file ≡ accepted t → write_call t (length file) ≡ accepted file
unfolding write_call unless
written_read file t e =
    let s = read_sound file t e in
    rw (write_none t (length file) s.0 (ap length (sym s.1)), s.0, s.1)

-- a written grouping is sound, and its bytes are read as it was
pub written_sound : (t : Stored) (n : ℕ) (file : List ℕ) → write_call t n ≡ accepted file → (sound t ≡ true) × (reads file ≡ accepted t)
unfolding write_call unless
written_sound t n file e = go (write_refusal t.rows t.dim t.groups (length t.order) (length t.ends) (length t.means) n) (sound t) refl e
  where
    go : (number : ℕ) (b : Bool) → sound t ≡ b → unless number (cond b (accepted (written t)) (refused 10)) ≡ accepted file → (sound t ≡ true) × (reads file ≡ accepted t)
    go zero true h p = let k : written t ≡ file = cc in (h, ap reads (sym k) ∙ read_written t h)
    go zero false h p = let z : ◌≡◌ {A = ℕ} 0 1 = cc in absurd (omega arith)
    go (suc number) b h p = let z : ◌≡◌ {A = ℕ} 0 1 = cc in absurd (omega arith)

-- ---- what a sound grouping is
-- the size of each group: an end less the end before it
abbrev pub sizes_from : ℕ → List ℕ → List ℕ
sizes_from start [] = []
sizes_from start (end ∷ ends) = (end - start) ∷ sizes_from end ends

-- 01's ranges; each row exactly once; sizes above zero with sum rows, one a group; unused cells blank
pub record Listed (t : Stored) : Type 0 where
  pub rows_most : t.rows ≤ 4096
  pub dim_least : 1 ≤ t.dim
  pub dim_most : t.dim ≤ 64
  pub cells : Lengths t.rows t.dim (length t.order) (length t.ends) (length t.means)
  pub fewer : t.groups ≤ t.rows
  pub each : (x : ℕ) → x < t.rows → times_in x t.order ≡ 1
  pub no_other : (x : ℕ) → t.rows ≤ x → times_in x t.order ≡ 0
  pub above : (i : ℕ) → i < t.groups → 0 < get_or (sizes_from 0 (take t.groups t.ends)) i 0
  pub sum : weigh (λ n. n) (sizes_from 0 (take t.groups t.ends)) ≡ t.rows
  pub ends_blank : (i : ℕ) → t.groups ≤ i → i < t.rows → get_or t.ends i 0 ≡ blank_cell
  pub means_blank : (i : ℕ) → t.groups * t.dim ≤ i → i < t.rows * t.dim → get_or t.means i 0 ≡ 0

-- `times_in` counts as sums' promises do
pub times_count : (x : ℕ) (l : List ℕ) → times_in x l ≡ count_of x l
unfolding times_in
times_count x [] = refl
times_count x (y ∷ l) = go (eqb y x) (times_count x l)
  where
    go : (b : Bool) → times_in x l ≡ count_of x l → cond b 1 0 + times_in x l ≡ one b + count_of x l
    go true e = rw e
    go false e = rw e

below_times : (n : ℕ) (l : List ℕ) → all_below n l ≡ true → (x : ℕ) → n ≤ x → times_in x l ≡ 0
unfolding all_pass times_in
below_times n [] e x h = refl
below_times n (y ∷ l) e x h =
    let p = both (ltb y n) (all_below n l) e in
    let q : eqb y x ≡ false = ne_eqb y x (λ f. omega (arith, ltb-true y n p.0, f)) in
    rw (q, below_times n l p.1 x h)

times_below : (n : ℕ) (l : List ℕ) → ((x : ℕ) → n ≤ x → times_in x l ≡ 0) → all_below n l ≡ true
unfolding all_pass times_in
times_below n [] h = refl
times_below n (y ∷ l) h = go (ltb y n) refl (times_below n l (λ x k. rest x k))
  where
    rest : (x : ℕ) → n ≤ x → times_in x l ≡ 0
    rest x k = omega (arith, h x k)

    go : (b : Bool) → ltb y n ≡ b → all_below n l ≡ true → (b && all_below n l) ≡ true
    go true e r = r
    go false e r = absurd (omega (arith, rw (eq-eqb y y refl) at (h y (ltb-false y n e))))

are_at : (v : ℕ) (l : List ℕ) → all_are v l ≡ true → (i : ℕ) → i < length l → get_or l i 0 ≡ v
are_at v l e i h = ap (λ (m : List ℕ). get_or m i 0) (are_blank v l e) ∙ get_or-replicate (length l) i v 0 h

at_are : (v : ℕ) (l : List ℕ) → ((i : ℕ) → i < length l → get_or l i 0 ≡ v) → all_are v l ≡ true
unfolding all_pass
at_are v [] h = refl
at_are v (x ∷ l) h = rw (eq-eqb x v (h 0 (suc-le-suc zero-le)), at_are v l (λ i k. h (suc i) (suc-le-suc k)))

-- the test of each row once, and what it says
pub once_each : (n : ℕ) (l : List ℕ) → each_once n l ≡ true → ((x : ℕ) → x < n → times_in x l ≡ 1) × ((x : ℕ) → n ≤ x → times_in x l ≡ 0)
unfolding each_once
once_each n l e =
    let h = both (all_below n l) (all_are 1 (times_each n l)) e in
    (λ x k. sym (get_d_tab (λ y. times_in y l) n x 0 k) ∙ are_at 1 (times_each n l) h.1 x (rw (length_tab (λ y. times_in y l) n) k), below_times n l h.0)

pub each_once_lem : (n : ℕ) (l : List ℕ) → ((x : ℕ) → x < n → times_in x l ≡ 1) → ((x : ℕ) → n ≤ x → times_in x l ≡ 0) → each_once n l ≡ true
unfolding each_once
each_once_lem n l each no_other =
    let ones : all_are 1 (times_each n l) ≡ true = ap (λ (m : List ℕ). all_are 1 m) (tab_same (λ x. times_in x l) (λ x. 1) n each ∙ tab_const 1 n) ∙ all_blank 1 n in
    rw (times_below n l no_other, ones)

pub rise_sizes : (start : ℕ) (ends : List ℕ) (rows : ℕ) → rising start ends rows ≡ true
    → ((i : ℕ) → i < length ends → 0 < get_or (sizes_from start ends) i 0) × (start + weigh (λ n. n) (sizes_from start ends) ≡ rows)
unfolding rising
rise_sizes start [] rows e = (λ i h. absurd (not-suc-le-zero h), omega (arith, eqb-true start rows e))
rise_sizes start (end ∷ ends) rows e =
    let p = both (ltb start end) (rising end ends rows) e in
    let l = ltb-true start end p.0 in
    let r = rise_sizes end ends rows p.1 in
    (above l r.0, omega (arith, l, r.1))
  where
    above : start < end → ((i : ℕ) → i < length ends → 0 < get_or (sizes_from end ends) i 0) → (i : ℕ) → i < suc (length ends) → 0 < get_or ((end - start) ∷ sizes_from end ends) i 0
    above l r zero h = omega arith
    above l r (suc i) h = r i (le_of_suc-le-suc h)

pub sizes_rise : (start : ℕ) (ends : List ℕ) (rows : ℕ) → ((i : ℕ) → i < length ends → 0 < get_or (sizes_from start ends) i 0)
    → start + weigh (λ n. n) (sizes_from start ends) ≡ rows → rising start ends rows ≡ true
unfolding rising
sizes_rise start [] rows h e = eq-eqb start rows (omega (arith, e))
sizes_rise start (end ∷ ends) rows h e =
    let l : 0 < end - start = h 0 (suc-le-suc zero-le) in
    rw (lt-ltb start end (omega (arith, l))) (sizes_rise end ends rows (λ i k. h (suc i) (suc-le-suc k)) (omega (arith, e, l)))

-- a sound grouping is that
pub sound_listed : (t : Stored) → sound t ≡ true → Listed t
sound_listed t e =
    let s = sound_is t e in
    let n = s.numbers in
    let l = s.lengths in
    let c = s.content in
    let once = once_each t.rows t.order c.once in
    let long : length (take t.groups t.ends) ≡ t.groups = length-take-le t.groups t.ends (omega (arith, l.ends_long, c.fewer)) in
    let r = rise_sizes 0 (take t.groups t.ends) t.rows c.rise in
    record {
      rows_most = n.few;
      dim_least = n.some;
      dim_most = n.narrow;
      cells = l;
      fewer = c.fewer;
      each = once.0;
      no_other = once.1;
      above = λ i h. r.0 i (rw long h);
      sum = omega (arith, r.1);
      ends_blank = λ i h k. past blank_cell t.groups t.ends c.ends_blank i h (omega (arith, l.ends_long, k));
      means_blank = λ i h k. past 0 (t.groups * t.dim) t.means c.means_blank i h (omega (arith, l.means_long, k));
    }
  where
    past : (v k : ℕ) (l : List ℕ) → all_are v (drop k l) ≡ true → (i : ℕ) → k ≤ i → i < length l → get_or l i 0 ≡ v
    past v k l e i h m =
        let p : k + (i - k) ≡ i = omega arith in
        ap (λ (j : ℕ). get_or l j 0) (sym p) ∙ sym (get_or-drop k l (i - k) 0) ∙ are_at v (drop k l) e (i - k) (omega (arith, length-drop k l))

-- and nothing else is: what is listed so is sound
pub listed_sound : (t : Stored) → Listed t → sound t ≡ true
unfolding numbers_fit
listed_sound t d =
    let l = d.cells in
    let long : length (take t.groups t.ends) ≡ t.groups = length-take-le t.groups t.ends (omega (arith, l.ends_long, d.fewer)) in
    let few : numbers_fit t.rows t.dim ≡ true = rw (le-leb 0 t.rows zero-le, le-leb t.rows 4096 d.rows_most, le-leb 1 t.dim d.dim_least, le-leb t.dim 64 d.dim_most) in
    sound_content t few l
    ∙ is_content t
    (record {
      fewer = d.fewer;
      once = each_once_lem t.rows t.order d.each d.no_other;
      rise = sizes_rise 0 (take t.groups t.ends) t.rows (λ i h. d.above i (rw long at h)) (omega (arith, d.sum));
      ends_blank = at_are blank_cell (drop t.groups t.ends) (λ i h. get_or-drop t.groups t.ends i 0 ∙ d.ends_blank (t.groups + i) (omega arith) (omega (arith, h, length-drop t.groups t.ends, l.ends_long)));
      means_blank = at_are 0 (drop (t.groups * t.dim) t.means) (λ i h. get_or-drop (t.groups * t.dim) t.means i 0 ∙ d.means_blank (t.groups * t.dim + i) (omega arith) (omega (arith, h, length-drop (t.groups * t.dim) t.means, l.means_long)));
    })

-- the result files are the bytes of the sound groupings, and no others
pub result_written : (t : Stored) → sound t ≡ true → is_result (written t) ≡ true
unfolding is_result
result_written t s = rw (stored_back t (sound_is t s), s, same_refl (written t))

pub result_of_lem : (file : List ℕ) → is_result file ≡ true → (sound (stored_in file) ≡ true) × (written (stored_in file) ≡ file)
unfolding is_result
result_of_lem file e =
    let h = both (sound (stored_in file)) (same_all (written (stored_in file)) file) e in
    (h.0, same_is (written (stored_in file)) file h.1)

-- ---- an example: three rows in two groups, 2 | 0 1, a NaN of unusual bits among the means
abbrev pub example : Stored
example = record { rows = 3; dim = 1; groups = 2; order = 2 ∷ 0 ∷ 1 ∷ []; ends = 1 ∷ 3 ∷ 65535 ∷ []; means = 1065353216 ∷ 4286578689 ∷ 0 ∷ [] }

abbrev pub example_file : List ℕ
example_file =
    2 ∷ 0 ∷ 0 ∷ 0 ∷ 1 ∷ 0 ∷ 1 ∷ 0 ∷ 3 ∷ 0 ∷ 0 ∷ 0 ∷ 128 ∷ 63 ∷ 1 ∷ 0 ∷ 128 ∷ 255
    ∷ 0 ∷ 0 ∷ 0 ∷ 0 ∷ 6 ∷ 0 ∷ 0 ∷ 0 ∷ 10 ∷ 0 ∷ 0 ∷ 0 ∷ 3 ∷ 0 ∷ 0 ∷ 0 ∷ 1 ∷ 0 ∷ 0 ∷ 0 ∷ 2 ∷ 0 ∷ 0 ∷ 0 ∷ []

pub example-written : write_call example 42 ≡ accepted example_file
unfolding write_call write_refusal lowest_from unless same_all numbers_fit sound content_fits each_once all_pass times_in rising written flat_map
example-written = refl

pub example-read : reads example_file ≡ accepted example
example-read = (written_sound example 42 example_file example-written).1

-- the same with its two ends alike is no grouping
pub example-refused : write_call (record { rows = 3; dim = 1; groups = 2; order = 2 ∷ 0 ∷ 1 ∷ []; ends = 3 ∷ 3 ∷ 65535 ∷ []; means = 0 ∷ 0 ∷ 0 ∷ [] }) 42 ≡ refused 10
unfolding write_call write_refusal lowest_from unless same_all numbers_fit sound content_fits each_once all_pass times_in rising
example-refused = refl
