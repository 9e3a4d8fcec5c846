-- From what the code finds to the writer's and the reader's whole answers. Assumes nothing.
use Prim.Native.Nat.{ℕ, ◌+◌, ◌-◌, ◌*◌, ◌≤◌, ◌<◌}
use mathlib.Core.Path.{◌≡◌, refl, sym, ap, subst, ◌∙◌}
use mathlib.Core.Bool.{Bool, true, false, ◌&&◌, cond, false≢true}
use mathlib.Core.List.{List, [], ◌∷◌}
use native.Mathlib.Nat.{mul-le-mul_right}
use native.Mathlib.Omega.{arith}
use borrow.Author.Tests.{eqb-true, eq-eqb}
use lib.Dec.{eqb}
use lib.ListN.{length, drop, replicate}
use Rattle.sums.specs.Cells.{Below}
use Rattle.sums.specs.Refusals.{Answer, accepted, refused, same_all, unless, on_accepted, padded, cells_of, blank_cell}
use Rattle.sums.proofs.Refusing.{both, same_is, same_cons, passed, padded_all, padded_none, padded_length}
use Rattle.words.specs.Bytes.{u32_at, words_from, halves_from}
use Rattle.results.specs.Grouping.{Stored, numbers_fit, cells_lent, content_fits, sound}
use Rattle.results.specs.Files.{file_length, written, stored_at, stored_in, is_result, reads}
use Rattle.results.specs.Calls.{write_refusal, write_call, Writes, lent_to, read_call, figures, Reads}
use Rattle.results.specs.Inside.{laid_out, holds_rows}
use Rattle.std.proofs.Common.{Ok, Err}
use Rattle.sums.specs.declared.refusals.Refusal.{Refusal}
use Rattle.sums.specs.declared.refusals.Refusal.TheVariants.{Length, NoResult}
use Rattle.sums.specs.Refused.{number_of}
use Rattle.sums.proofs.Told.{unless_number}
use Rattle.results.proofs.Sounds.{Numbers, Lengths, numbers_is, content_is, sound_is, sound_content, sound_numbers}
use Rattle.results.proofs.Files.{same_refl, written_length, tail_0, tail_4, tail_8, at_lengths, at_content, content_holds, written_again}
use Rattle.words.proofs.Blocks.{halves_length}

-- ---- the writer
module _ (t : Stored) (out : ℕ) where
  pub write_refused : (r : Refusal) (bytes : List ℕ) → number_of r ≡ write_refusal t.rows t.dim t.groups (length t.order) (length t.ends) (length t.means) out
      → bytes ≡ replicate out 0 → Writes (write_call t out) out (Err r) bytes
  unfolding write_call on_accepted cells_of
  write_refused r bytes e b =
      let u = unless_number r (cond (sound t) (accepted (written t)) (refused 10)) in
      record { result = rw (← e, u); bytes = b ∙ rw (← e, u) (sym (padded_none 0 out)) }

  -- what it is to pass 1 and 2
  pub record Fitting : Type 0 where
    pub numbers : numbers_fit t.rows t.dim ≡ true
    pub lengths : Lengths t.rows t.dim (length t.order) (length t.ends) (length t.means)
    pub out_long : out ≡ file_length t.rows t.dim t.groups

  module _ (e : write_refusal t.rows t.dim t.groups (length t.order) (length t.ends) (length t.means) out ≡ 0) where
    pub fitting : Fitting
    unfolding write_refusal
    fitting =
        let p = passed 0 _ e in
        let a = same_cons (length t.order) t.rows (length t.ends ∷ length t.means ∷ out ∷ []) (t.rows ∷ t.rows * t.dim ∷ file_length t.rows t.dim t.groups ∷ []) p.1.0 in
        let b = same_cons (length t.ends) t.rows (length t.means ∷ out ∷ []) (t.rows * t.dim ∷ file_length t.rows t.dim t.groups ∷ []) a.1 in
        let c = same_cons (length t.means) (t.rows * t.dim) (out ∷ []) (file_length t.rows t.dim t.groups ∷ []) b.1 in
        let d = same_cons out (file_length t.rows t.dim t.groups) [] [] c.1 in
        record { numbers = p.0; lengths = record { order_long = a.0; ends_long = b.0; means_long = c.0 }; out_long = d.0 }

    sound_by : (b : Bool) → content_fits t ≡ b → sound t ≡ b
    sound_by b h = sound_content t fitting.numbers fitting.lengths ∙ h

    pub write_bad : (bytes : List ℕ) → content_fits t ≡ false → bytes ≡ replicate out 0 → Writes (write_call t out) out (Err NoResult) bytes
    unfolding write_call unless on_accepted cells_of
    write_bad bytes h b = record { result = rw (e, sound_by false h); bytes = b ∙ rw (e, sound_by false h) (sym (padded_none 0 out)) }

    pub write_good : (bytes : List ℕ) → content_fits t ≡ true → bytes ≡ written t → Writes (write_call t out) out (Ok (tt {0})) bytes
    unfolding write_call unless on_accepted cells_of
    write_good bytes h b =
        let c = content_is t h in
        let l = fitting.lengths in
        let ef : t.groups ≤ length t.ends = omega (arith, l.ends_long, c.fewer) in
        let mf : t.groups * t.dim ≤ length t.means = omega (arith, l.means_long, mul-le-mul_right t.dim c.fewer) in
        let long : length (written t) ≡ out = written_length t l.order_long ef mf ∙ sym fitting.out_long in
        record { result = rw (e, sound_by true h); bytes = b ∙ rw (e, sound_by true h) (sym (padded_all 0 out (written t) long)) }

-- ---- the reader
pub not_true_false : (b : Bool) → (b ≡ true → ⊥) → false ≡ b
not_true_false true h = absurd (h refl)
not_true_false false h = refl

module _ (file : List ℕ) (rows dim groups : ℕ) (e12 : rows ≡ u32_at file (length file - 24 + 12)) (e16 : dim ≡ u32_at file (length file - 24 + 16)) (e20 : groups ≡ u32_at file (length file - 24 + 20)) where
  pub stored_is : stored_in file ≡ stored_at rows dim groups file
  unfolding stored_in
  stored_is = rw (e12, e16, e20)

  -- what the code finds of a result file
  pub record Found : Type 0 where
    pub numbers : numbers_fit rows dim ≡ true
    pub fewer : groups ≤ rows
    pub laid : laid_out file rows dim groups ≡ true
    pub holds : holds_rows file rows groups ≡ true

  -- the same of any file that a sound grouping was written to
  written_found : sound (stored_at rows dim groups file) ≡ true → written (stored_at rows dim groups file) ≡ file → Found
  unfolding laid_out stored_at
  written_found h w =
      let t = stored_at rows dim groups file in
      let s = sound_is (stored_at rows dim groups file) h in
      let l = s.lengths in
      let c = s.content in
      let n = numbers_is rows dim (sound_numbers (stored_at rows dim groups file) h) in
      let ef : groups ≤ length (stored_at rows dim groups file).ends = omega (arith, l.ends_long, c.fewer) in
      let mf : groups * dim ≤ length (stored_at rows dim groups file).means = omega (arith, l.means_long, mul-le-mul_right dim c.fewer) in
      let a : length file ≡ file_length rows dim groups = ap length (sym w) ∙ written_length t l.order_long ef mf in
      let p0 : u32_at file (length file - 24 + 0) ≡ 0 = subst (λ (f : List ℕ). u32_at f (length f - 24 + 0) ≡ 0) w (tail_0 t l.order_long ef mf) in
      let p4 : u32_at file (length file - 24 + 4) ≡ rows * 2 = subst (λ (f : List ℕ). u32_at f (length f - 24 + 4) ≡ rows * 2) w (tail_4 t l.order_long ef mf) in
      let p8 : u32_at file (length file - 24 + 8) ≡ rows * 2 + groups * 2 = subst (λ (f : List ℕ). u32_at f (length f - 24 + 8) ≡ rows * 2 + groups * 2) w (tail_8 t l.order_long ef mf) in
      record {
        numbers = sound_numbers (stored_at rows dim groups file) h;
        fewer = c.fewer;
        laid = rw (eq-eqb (length file) (file_length rows dim groups) a, eq-eqb (u32_at file (length file - 24 + 0)) 0 p0, eq-eqb (u32_at file (length file - 24 + 4)) (rows * 2) p4, eq-eqb (u32_at file (length file - 24 + 8)) (rows * 2 + groups * 2) p8);
        holds = content_holds file rows dim groups n c.fewer c;
      }

  pub found : is_result file ≡ true → Found
  unfolding is_result
  found e =
      let b = both (sound (stored_in file)) (same_all (written (stored_in file)) file) e in
      written_found (rw stored_is at b.0) (same_is (written (stored_at rows dim groups file)) file (rw stored_is at b.1))

  sound_at : Numbers rows dim → numbers_fit rows dim ≡ true → groups ≤ rows → holds_rows file rows groups ≡ true → sound (stored_at rows dim groups file) ≡ true
  unfolding stored_at
  sound_at n b fewer h = sound_content (stored_at rows dim groups file) b (at_lengths file rows dim groups n fewer) ∙ at_content file rows dim groups n fewer h

  -- and where it finds all that, the file is one
  pub is_found : Below 256 file → Found → is_result file ≡ true
  unfolding is_result laid_out
  is_found bytes f =
      let n = numbers_is rows dim f.numbers in
      let p = both (eqb (length file) (file_length rows dim groups)) _ f.laid in
      let q = both (eqb (u32_at file (length file - 24 + 0)) 0 && eqb (u32_at file (length file - 24 + 4)) (rows * 2)) (eqb (u32_at file (length file - 24 + 8)) (rows * 2 + groups * 2)) p.1 in
      let r = both (eqb (u32_at file (length file - 24 + 0)) 0) (eqb (u32_at file (length file - 24 + 4)) (rows * 2)) q.0 in
      let w = written_again file rows dim groups n f.fewer bytes (sym e12) (sym e16) (sym e20) (eqb-true _ _ p.0) (eqb-true _ _ r.0) (eqb-true _ _ r.1) (eqb-true _ _ q.1) in
      rw (stored_is, sound_at n f.numbers f.fewer f.holds, w) (same_refl file)

  pub laid_long : laid_out file rows dim groups ≡ true → length file ≡ file_length rows dim groups
  unfolding laid_out
  laid_long e = eqb-true (length file) (file_length rows dim groups) (both (eqb (length file) (file_length rows dim groups)) _ e).0

  pub found_long : is_result file ≡ true → length file ≡ file_length rows dim groups
  found_long e = laid_long (found e).laid

  -- what is left to test decides
  pub result_by : Below 256 file → numbers_fit rows dim ≡ true → groups ≤ rows → laid_out file rows dim groups ≡ true → holds_rows file rows groups ≡ is_result file
  result_by bytes n h l = go (holds_rows file rows groups) refl
    where
      go : (b : Bool) → holds_rows file rows groups ≡ b → b ≡ is_result file
      go true e = sym (is_found bytes (record { numbers = n; fewer = h; laid = l; holds = e }))
      go false e = not_true_false (is_result file) (λ r. false≢true (sym e ∙ (found r).holds))

  -- ---- the reader's answers
  pub numbers_read : is_result file ≡ true → accepted (rows, dim, groups) ≡ on_accepted figures (reads file)
  unfolding reads on_accepted stored_at
  numbers_read e = rw (e, stored_is)

  module _ (lent order ends means : List ℕ) (no ne nm : ℕ) where
    pub read_short : is_result file ≡ true → same_all lent (cells_lent rows dim) ≡ false → order ≡ replicate no blank_cell → ends ≡ replicate ne blank_cell → means ≡ replicate nm 0
        → Reads (read_call file lent) no ne nm (Err Length) order ends means
    unfolding read_call reads lent_to on_accepted cells_of stored_at
    read_short e l o d m =
        record {
          result = rw (e, stored_is, l);
          ordered = o ∙ rw (e, stored_is, l) (sym (padded_none blank_cell no));
          ended = d ∙ rw (e, stored_is, l) (sym (padded_none blank_cell ne));
          meant = m ∙ rw (e, stored_is, l) (sym (padded_none 0 nm));
        }

    pub read_good : is_result file ≡ true → same_all lent (cells_lent rows dim) ≡ true → no ≡ rows → ne ≡ rows → nm ≡ rows * dim
        → order ≡ halves_from rows file → ends ≡ padded blank_cell rows (halves_from groups (drop (rows * 2) file))
        → means ≡ padded 0 (rows * dim) (words_from (groups * dim) (drop (rows * 2 + groups * 2) file))
        → Reads (read_call file lent) no ne nm (Ok (record { rows = rows; dim = dim; groups = groups })) order ends means
    unfolding read_call reads lent_to on_accepted cells_of stored_at
    read_good e l p q r o d m =
        record {
          result = rw (e, stored_is, l);
          ordered = o ∙ rw (e, stored_is, l) (sym (padded_all blank_cell no (halves_from rows file) (halves_length rows file ∙ sym p)));
          ended = d ∙ rw (e, stored_is, l) (sym (padded_all blank_cell ne (padded blank_cell rows (halves_from groups (drop (rows * 2) file))) (padded_length blank_cell rows _ ∙ sym q)));
          meant = m ∙ rw (e, stored_is, l) (sym (padded_all 0 nm (padded 0 (rows * dim) (words_from (groups * dim) (drop (rows * 2 + groups * 2) file))) (padded_length 0 (rows * dim) _ ∙ sym r)));
        }

-- ---- what a caller has of the numbers that it was told
pub numbers_refused : (file : List ℕ) → false ≡ is_result file → refused 10 ≡ on_accepted figures (reads file)
unfolding reads on_accepted
numbers_refused file e = rw (← e)

pub record Numbered (file : List ℕ) (rows dim groups : ℕ) : Type 0 where
  pub is : is_result file ≡ true
  pub e12 : rows ≡ u32_at file (length file - 24 + 12)
  pub e16 : dim ≡ u32_at file (length file - 24 + 16)
  pub e20 : groups ≡ u32_at file (length file - 24 + 20)

pub numbered : (file : List ℕ) (rows dim groups : ℕ) → accepted (rows, dim, groups) ≡ on_accepted figures (reads file) → Numbered file rows dim groups
unfolding reads on_accepted stored_in stored_at
numbered file rows dim groups e = go (is_result file) refl e
  where
    go : (b : Bool) → is_result file ≡ b → accepted (rows, dim, groups) ≡ on_accepted figures (cond b (accepted (stored_in file)) (refused 10)) → Numbered file rows dim groups
    go true h p =
        let same : ◌≡◌ {A = ℕ × ℕ × ℕ} (rows, dim, groups) (figures (stored_in file)) = cc in
        record { is = h; e12 = ap (λ (f : ℕ × ℕ × ℕ). f.0) same; e16 = ap (λ (f : ℕ × ℕ × ℕ). f.1) same; e20 = ap (λ (f : ℕ × ℕ × ℕ). f.2) same }
    go false h p = let z : ◌≡◌ {A = ℕ} 0 1 = cc in absurd (omega arith)

-- blank cells, as they are after a refusal of the numbers
pub read_refused : (file lent order ends means : List ℕ) (oc ec mc : ℕ) (refusal : Refusal) → refused (number_of refusal) ≡ on_accepted figures (reads file)
    → order ≡ replicate oc blank_cell → ends ≡ replicate ec blank_cell → means ≡ replicate mc 0 → Reads (read_call file lent) oc ec mc (Err refusal) order ends means
unfolding read_call on_accepted lent_to cells_of
read_refused file lent order ends means oc ec mc refusal e o d m = go (reads file) e
  where
    go : (a : Answer Stored) → refused (number_of refusal) ≡ on_accepted figures a → Reads (lent_to lent a) oc ec mc (Err refusal) order ends means
    go (accepted g) p = let z : ◌≡◌ {A = ℕ} 0 1 = cc in absurd (omega arith)
    go (refused n) p = record { result = p; ordered = o ∙ sym (padded_none blank_cell oc); ended = d ∙ sym (padded_none blank_cell ec); meant = m ∙ sym (padded_none 0 mc) }

-- a file without room for a trailer is none
pub short_not : (file : List ℕ) → length file < 24 → false ≡ is_result file
short_not file h = not_true_false (is_result file) (λ e. omega (arith, found_long file _ _ _ refl refl refl e, h))
