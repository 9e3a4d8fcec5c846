-- A result file's blocks: where they stand, read and written again. Assumes nothing.
use Prim.Native.Nat.{ℕ, ◌+◌, ◌-◌, ◌*◌, ◌≤◌}
use mathlib.Core.Path.{◌≡◌, refl, sym, ap, ◌∙◌}
use mathlib.Core.Bool.{true}
use mathlib.Core.List.{List, [], ◌∷◌, ◌++◌, flat_map, append_assoc}
use native.Mathlib.Nat.{mul-le-mul_right}
use native.Mathlib.Omega.{arith}
use borrow.Author.Tests.{eq-eqb}
use lib.ListN.{length, take, drop, length-append, length-drop, take-append-drop}
use lib.Seq.{drop_at, drop-drop, length-take-le, take_all}
use Rattle.sums.specs.Cells.{Below}
use Rattle.sums.specs.Refusals.{same_all, padded, blank_cell}
use Rattle.sums.proofs.Belows.{below_drop}
use Rattle.sums.proofs.Refusing.{both, padded_length}
use Rattle.sums.proofs.Fronts.{flat_length}
use Rattle.words.specs.Bytes.{number_of, u32_at, words_from, bytes16, bytes32, halves_from}
use Rattle.words.proofs.ByteLaws.{words_length}
use Rattle.words.specs.Laws.{words_tab}
use Rattle.results.specs.Grouping.{Stored, all_are, content_fits, each_once, rising}
use Rattle.results.specs.Files.{file_length, trailer_of, written, stored_at, stored_in}
use Rattle.results.specs.Inside.{holds_rows}
use Rattle.words.proofs.Blocks.{block_read, block_again, back16, back32, again16, again32, halves_length}
use Rattle.results.proofs.Pads.{padded_front, padded_rest, padded_back, all_blank}
use Rattle.results.proofs.Sounds.{Numbers, Lengths, Content, Sound, is_content}

pub same_refl : (l : List ℕ) → same_all l l ≡ true
unfolding same_all
same_refl [] = refl
same_refl (x ∷ l) = rw (eq-eqb x x refl, same_refl l)

-- the block after three others
drop_three : (a b c d : List ℕ) (n k : ℕ) → n ≡ length a + length b + length c → drop (n + k) (a ++ (b ++ (c ++ d))) ≡ drop k d
drop_three a b c d n k e =
    sym (drop-drop k n (a ++ (b ++ (c ++ d))))
    ∙ ap (drop k)
    (ap (drop n) (sym (append_assoc a b (c ++ d)) ∙ sym (append_assoc (a ++ b) c d))
    ∙ drop_at ((a ++ b) ++ c) d n (length-append (a ++ b) c ∙ ap (λ (m : ℕ). m + length c) (length-append a b) ∙ sym e))

drop_two : (a b c : List ℕ) (n : ℕ) → n ≡ length a + length b → drop n (a ++ (b ++ c)) ≡ c
drop_two a b c n e = ap (drop n) (sym (append_assoc a b c)) ∙ drop_at (a ++ b) c n (length-append a b ∙ sym e)

-- ---- what the writer makes
module _ (t : Stored) (long : length t.order ≡ t.rows) (ends-fit : t.groups ≤ length t.ends) (means-fit : t.groups * t.dim ≤ length t.means) where
  order_bytes : length (flat_map bytes16 t.order) ≡ t.rows * 2
  order_bytes = flat_length bytes16 2 (λ x. refl) t.order ∙ ap (λ (n : ℕ). n * 2) long

  end_bytes : length (flat_map bytes16 (take t.groups t.ends)) ≡ t.groups * 2
  end_bytes = flat_length bytes16 2 (λ x. refl) (take t.groups t.ends) ∙ ap (λ (n : ℕ). n * 2) (length-take-le t.groups t.ends ends-fit)

  mean_bytes : length (flat_map bytes32 (take (t.groups * t.dim) t.means)) ≡ t.groups * t.dim * 4
  mean_bytes = flat_length bytes32 4 (λ x. refl) (take (t.groups * t.dim) t.means) ∙ ap (λ (n : ℕ). n * 4) (length-take-le (t.groups * t.dim) t.means means-fit)

  trailer_bytes : length (flat_map bytes32 (trailer_of t.rows t.dim t.groups)) ≡ 24
  trailer_bytes = flat_length bytes32 4 (λ x. refl) (trailer_of t.rows t.dim t.groups)

  pub written_length : length (written t) ≡ file_length t.rows t.dim t.groups
  unfolding written
  written_length = simp length-append (omega (arith, order_bytes, end_bytes, mean_bytes, trailer_bytes))

  tail_is : (k : ℕ) → drop (length (written t) - 24 + k) (written t) ≡ drop k (flat_map bytes32 (trailer_of t.rows t.dim t.groups))
  unfolding written
  tail_is k =
      drop_three (flat_map bytes16 t.order) (flat_map bytes16 (take t.groups t.ends)) (flat_map bytes32 (take (t.groups * t.dim) t.means))
      (flat_map bytes32 (trailer_of t.rows t.dim t.groups)) (length (written t) - 24) k
      (omega (arith, order_bytes, end_bytes, mean_bytes, written_length))

  -- the six numbers of the trailer
  pub tail_0 : u32_at (written t) (length (written t) - 24 + 0) ≡ 0
  unfolding flat_map
  tail_0 = ap (λ (l : List ℕ). number_of (take 4 l)) (tail_is 0) ∙ back32 0

  pub tail_4 : u32_at (written t) (length (written t) - 24 + 4) ≡ t.rows * 2
  unfolding flat_map
  tail_4 = ap (λ (l : List ℕ). number_of (take 4 l)) (tail_is 4) ∙ back32 (t.rows * 2)

  pub tail_8 : u32_at (written t) (length (written t) - 24 + 8) ≡ t.rows * 2 + t.groups * 2
  unfolding flat_map
  tail_8 = ap (λ (l : List ℕ). number_of (take 4 l)) (tail_is 8) ∙ back32 (t.rows * 2 + t.groups * 2)

  pub tail_12 : u32_at (written t) (length (written t) - 24 + 12) ≡ t.rows
  unfolding flat_map
  tail_12 = ap (λ (l : List ℕ). number_of (take 4 l)) (tail_is 12) ∙ back32 t.rows

  pub tail_16 : u32_at (written t) (length (written t) - 24 + 16) ≡ t.dim
  unfolding flat_map
  tail_16 = ap (λ (l : List ℕ). number_of (take 4 l)) (tail_is 16) ∙ back32 t.dim

  pub tail_20 : u32_at (written t) (length (written t) - 24 + 20) ≡ t.groups
  unfolding flat_map
  tail_20 = ap (λ (l : List ℕ). number_of (take 4 l)) (tail_is 20) ∙ back32 t.groups

  -- the three blocks, read
  pub order_read : halves_from t.rows (written t) ≡ t.order
  unfolding written
  order_read = ap (λ (n : ℕ). halves_from n (written t)) (sym long) ∙ block_read bytes16 2 (λ x. refl) back16 t.order _

  pub ends_read : halves_from t.groups (drop (t.rows * 2) (written t)) ≡ take t.groups t.ends
  unfolding written
  ends_read =
      ap (halves_from t.groups) (drop_at (flat_map bytes16 t.order) _ (t.rows * 2) order_bytes)
      ∙ ap (λ (n : ℕ). halves_from n (flat_map bytes16 (take t.groups t.ends) ++ (flat_map bytes32 (take (t.groups * t.dim) t.means) ++ flat_map bytes32 (trailer_of t.rows t.dim t.groups))))
      (sym (length-take-le t.groups t.ends ends-fit))
      ∙ block_read bytes16 2 (λ x. refl) back16 (take t.groups t.ends) _

  pub means_read : words_from (t.groups * t.dim) (drop (t.rows * 2 + t.groups * 2) (written t)) ≡ take (t.groups * t.dim) t.means
  unfolding written
  means_read =
      ap (words_from (t.groups * t.dim))
      (drop_two (flat_map bytes16 t.order) (flat_map bytes16 (take t.groups t.ends)) _ (t.rows * 2 + t.groups * 2) (omega (arith, order_bytes, end_bytes)))
      ∙ ap (λ (n : ℕ). words_from n (flat_map bytes32 (take (t.groups * t.dim) t.means) ++ flat_map bytes32 (trailer_of t.rows t.dim t.groups)))
      (sym (length-take-le (t.groups * t.dim) t.means means-fit))
      ∙ block_read bytes32 4 (λ x. refl) back32 (take (t.groups * t.dim) t.means) _

stored_same : (rows dim groups : ℕ) {o o' e e' m m' : List ℕ} → o ≡ o' → e ≡ e' → m ≡ m'
    → ◌≡◌ {A = Stored} (record { rows = rows; dim = dim; groups = groups; order = o; ends = e; means = m }) (record { rows = rows; dim = dim; groups = groups; order = o'; ends = e'; means = m' })
stored_same rows dim groups p q r = rw (p, q, r)

-- what a sound grouping's file holds is that grouping
pub stored_back : (t : Stored) → Sound t → stored_in (written t) ≡ t
unfolding stored_in stored_at
stored_back t s =
    let l = s.lengths in
    let c = s.content in
    let ef : t.groups ≤ length t.ends = omega (arith, l.ends_long, c.fewer) in
    let mf : t.groups * t.dim ≤ length t.means = omega (arith, l.means_long, mul-le-mul_right t.dim c.fewer) in
    let lo = l.order_long in
    rw (tail_12 t lo ef mf, tail_16 t lo ef mf, tail_20 t lo ef mf)
    (stored_same t.rows t.dim t.groups (order_read t lo ef mf)
    (ap (padded blank_cell t.rows) (ends_read t lo ef mf) ∙ padded_back blank_cell t.rows t.groups t.ends l.ends_long c.fewer c.ends_blank)
    (ap (padded 0 (t.rows * t.dim)) (means_read t lo ef mf) ∙ padded_back 0 (t.rows * t.dim) (t.groups * t.dim) t.means l.means_long (mul-le-mul_right t.dim c.fewer) c.means_blank))

-- ---- what the reader finds
cut_four : (l : List ℕ) (a b c : ℕ) → take a l ++ (take b (drop a l) ++ (take c (drop (a + b) l) ++ drop (a + b + c) l)) ≡ l
cut_four l a b c =
    rw (← drop-drop c (a + b) l, take-append-drop c (drop (a + b) l), ← drop-drop b a l, take-append-drop b (drop a l), take-append-drop a l)

word_in : (file : List ℕ) (at k v : ℕ) → u32_at file (at + k) ≡ v → u32_at (drop at file) k ≡ v
word_in file at k v e = ap (λ (l : List ℕ). number_of (take 4 l)) (drop-drop k at file) ∙ e

module _ (file : List ℕ) (rows dim groups : ℕ) (n : Numbers rows dim) (fewer : groups ≤ rows) where
  -- what stands in a file is of its lengths, and its unused cells are blank
  pub at_lengths : Lengths rows dim (length (stored_at rows dim groups file).order) (length (stored_at rows dim groups file).ends) (length (stored_at rows dim groups file).means)
  unfolding stored_at
  at_lengths = record {
    order_long = halves_length rows file;
    ends_long = padded_length blank_cell rows (halves_from groups (drop (rows * 2) file));
    means_long = padded_length 0 (rows * dim) (words_from (groups * dim) (drop (rows * 2 + groups * 2) file));
  }

  at_ends : take groups (stored_at rows dim groups file).ends ≡ halves_from groups (drop (rows * 2) file)
  unfolding stored_at
  at_ends = padded_front blank_cell rows groups (halves_from groups (drop (rows * 2) file)) (halves_length groups (drop (rows * 2) file)) fewer

  at_means : take (groups * dim) (stored_at rows dim groups file).means ≡ words_from (groups * dim) (drop (rows * 2 + groups * 2) file)
  unfolding stored_at
  at_means = padded_front 0 (rows * dim) (groups * dim) (words_from (groups * dim) (drop (rows * 2 + groups * 2) file)) (words_length (groups * dim) (drop (rows * 2 + groups * 2) file)) (mul-le-mul_right dim fewer)

  -- so it is sound where each row stands in it once and the ends rise
  pub at_content : holds_rows file rows groups ≡ true → content_fits (stored_at rows dim groups file) ≡ true
  unfolding holds_rows stored_at
  at_content e =
      let h = both (each_once rows (halves_from rows file)) (rising 0 (halves_from groups (drop (rows * 2) file)) rows) e in
      is_content (stored_at rows dim groups file)
      (record {
        fewer = fewer;
        once = h.0;
        rise = ap (λ (l : List ℕ). rising 0 l rows) at_ends ∙ h.1;
        ends_blank = ap (λ (l : List ℕ). all_are blank_cell l) (padded_rest blank_cell rows groups (halves_from groups (drop (rows * 2) file)) (halves_length groups (drop (rows * 2) file)) fewer) ∙ all_blank blank_cell (rows - groups);
        means_blank =
            ap (λ (l : List ℕ). all_are 0 l)
            (padded_rest 0 (rows * dim) (groups * dim) (words_from (groups * dim) (drop (rows * 2 + groups * 2) file)) (words_length (groups * dim) (drop (rows * 2 + groups * 2) file)) (mul-le-mul_right dim fewer))
            ∙ all_blank 0 (rows * dim - groups * dim);
      })

  pub content_holds : Content (stored_at rows dim groups file) → holds_rows file rows groups ≡ true
  unfolding holds_rows stored_at
  content_holds c = rw (c.once, sym (ap (λ (l : List ℕ). rising 0 l rows) at_ends) ∙ c.rise)

  -- a file of bytes that is laid out so is what the writer makes of it
  module _ (bytes : Below 256 file) (e12 : u32_at file (length file - 24 + 12) ≡ rows) (e16 : u32_at file (length file - 24 + 16) ≡ dim) (e20 : u32_at file (length file - 24 + 20) ≡ groups)
      (long : length file ≡ file_length rows dim groups) (e0 : u32_at file (length file - 24 + 0) ≡ 0) (e4 : u32_at file (length file - 24 + 4) ≡ rows * 2) (e8 : u32_at file (length file - 24 + 8) ≡ rows * 2 + groups * 2) where
    trailer_again : flat_map bytes32 (trailer_of rows dim groups) ≡ drop (length file - 24) file
    trailer_again =
        let at = length file - 24 in
        let l24 : length (drop (length file - 24) file) ≡ 24 = length-drop (length file - 24) file ∙ omega arith in
        let six : words_from 6 (drop (length file - 24) file) ≡ trailer_of rows dim groups
        = words_tab 6 (drop (length file - 24) file)
        ∙ rw (
          word_in file (length file - 24) 0 _ e0,
          word_in file (length file - 24) 4 _ e4,
          word_in file (length file - 24) 8 _ e8,
          word_in file (length file - 24) 12 _ e12,
          word_in file (length file - 24) 16 _ e16,
          word_in file (length file - 24) 20 _ e20,
        ) in
        ap (flat_map bytes32) (sym six)
        ∙ block_again bytes32 4 (λ x. refl) again32 6 (drop (length file - 24) file) (omega (arith, l24)) (below_drop 256 (length file - 24) file bytes)
        ∙ take_all 24 (drop (length file - 24) file) (omega (arith, l24))

    pub written_again : written (stored_at rows dim groups file) ≡ file
    unfolding written stored_at
    written_again =
        let start : length file - 24 ≡ rows * 2 + groups * 2 + groups * dim * 4 = omega arith in
        rw (
          at_ends,
          at_means,
          block_again bytes16 2 (λ x. refl) again16 rows file (omega arith) bytes,
          block_again bytes16 2 (λ x. refl) again16 groups (drop (rows * 2) file) (omega (arith, length-drop (rows * 2) file)) (below_drop 256 (rows * 2) file bytes),
          block_again bytes32 4 (λ x. refl) again32 (groups * dim) (drop (rows * 2 + groups * 2) file) (omega (arith, length-drop (rows * 2 + groups * 2) file)) (below_drop 256 (rows * 2 + groups * 2) file bytes),
          trailer_again,
          start,
        )
        (cut_four file (rows * 2) (groups * 2) (groups * dim * 4))
