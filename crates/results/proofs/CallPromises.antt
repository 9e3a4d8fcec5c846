-- What the writer and the reader promise of a call: which number refuses it, exactly when, and what a caller knows from an answer and its cells. Assumes nothing.
use Prim.Native.Nat.{ℕ, zero, suc, ◌*◌, ◌≤◌, ◌<◌}
use mathlib.Core.Path.{◌≡◌, refl, sym, ap, ◌∙◌}
use mathlib.Core.Bool.{Bool, true, false, cond}
use mathlib.Core.List.{List, [], ◌∷◌}
use mathlib.Core.Logic.{◌↔◌, ◌⊎◌, ⊎_elim, inl, inr}
use native.Mathlib.Nat.{mul-le-mul_right}
use native.Mathlib.Omega.{arith}
use lib.ListN.{length, replicate}
use Rattle.sums.specs.Refusals.{Answer, accepted, refused, same_all, unless, on_accepted, cells_of, blank_cell}
use Rattle.sums.proofs.Refusing.{padded_all, padded_none}
use Rattle.sums.proofs.Whens.{not_both, fails_exactly, later_exactly, accepted_exactly, refused_by, one_or_two}
use Rattle.results.specs.Grouping.{Stored, numbers_fit, cells_lent, sound}
use Rattle.results.specs.Files.{file_length, written, stored_in, is_result, reads}
use Rattle.results.specs.Calls.{write_refusal, write_call, Writes, lent_to, read_call, numbers_of, figures, Reads}
use Rattle.std.proofs.Common.{Result, Ok, Err}
use Rattle.sums.specs.declared.refusals.Refusal.{Refusal}
use Rattle.sums.specs.Refused.{number_of}
use Rattle.sums.proofs.Told.{told_same}
use Rattle.results.specs.declared.reader.Numbers.{Numbers}
use Rattle.results.proofs.Sounds.{sound_is, lengths_is}
use Rattle.results.proofs.Files.{written_length}
use Rattle.results.proofs.Answers.{fitting}
use Rattle.results.proofs.Promises.{read_sound, written_sound, written_read}

-- ---- 10, behind the tests that come before it
module _ {A : Type 0} (a : A) where
  ten_only : (b : Bool) (number : ℕ) → cond b (accepted a) (refused 10) ≡ refused number → (b ≡ false) × (number ≡ 10)
  ten_only true number e = absurd (not_both a number e)
  ten_only false number e = (refl, cc)

  taken_only : (b : Bool) (a' : A) → cond b (accepted a) (refused 10) ≡ accepted a' → (b ≡ true) × (a' ≡ a)
  taken_only true a' e = (refl, cc)
  taken_only false a' e = absurd (not_both a' 10 (sym e))

-- ---- the writer's call, of a grouping and an output of n bytes
module _ (t : Stored) (n : ℕ) where
  -- rows and dim are in range
  abbrev pub write-ranges : Bool
  write-ranges = numbers_fit t.rows t.dim

  -- every slice, the output too, is as long as the numbers say
  abbrev pub write-slices : Bool
  write-slices =
      same_all (length t.order ∷ length t.ends ∷ length t.means ∷ n ∷ []) (t.rows ∷ t.rows ∷ t.rows * t.dim ∷ file_length t.rows t.dim t.groups ∷ [])

  abbrev write-tests : List Bool
  write-tests = write-ranges ∷ write-slices ∷ []

  abbrev inner : Answer (List ℕ)
  inner = cond (sound t) (accepted (written t)) (refused 10)

  never : (number : ℕ) → number < 10 → inner ≡ refused number → ⊥
  never number h e = absurd (omega (arith, h, (ten_only (written t) (sound t) number e).1))

  -- Refused by 1 exactly when rows or dim is out of range.
  pub write_one : (write_call t n ≡ refused 1) ↔ (write-ranges ≡ false)
  unfolding write_call write_refusal
  write_one = fails_exactly write-tests inner 0 (λ _. never 1 (omega arith))

  -- Refused by 2 exactly when these are in range and a slice is not as long as the numbers say.
  pub write_two : (write_call t n ≡ refused 2) ↔ ((write-ranges ≡ true) × (write-slices ≡ false))
  unfolding write_call write_refusal
  write_two = fails_exactly write-tests inner 1 (λ _. never 2 (omega arith))

  -- Refused by 10 exactly when both tests pass and the grouping is not sound.
  pub write_ten : (write_call t n ≡ refused 10) ↔ (((write-ranges ≡ true) × (write-slices ≡ true)) × (sound t ≡ false))
  unfolding write_call write_refusal
  write_ten =
      let w = later_exactly write-tests inner 10 (omega arith) in (
        (λ c. let d = w.0 c in ((d.0.0, d.0.1.0), (ten_only (written t) (sound t) 10 d.1).0)),
        (λ d. w.1 ((d.0.0, (d.0.1, tt)), rw d.1)),
      )

  -- Accepted, with the file, exactly when both pass and the grouping is sound.
  pub write_accepted : (file : List ℕ) → (write_call t n ≡ accepted file) ↔ (((write-ranges ≡ true) × (write-slices ≡ true)) × ((sound t ≡ true) × (file ≡ written t)))
  unfolding write_call write_refusal
  write_accepted file =
      let w = accepted_exactly write-tests inner file in (
        (λ c. let d = w.0 c in ((d.0.0, d.0.1.0), taken_only (written t) (sound t) file d.1)),
        (λ d. w.1 ((d.0.0, (d.0.1, tt)), rw (d.1.0, d.1.1))),
      )

  -- No other number refuses it.
  pub write_otherwise : (number : ℕ) → write_call t n ≡ refused number → ((number ≡ 1) ⊎ (number ≡ 2)) ⊎ (number ≡ 10)
  unfolding write_call write_refusal
  write_otherwise number c =
      ⊎_elim (λ h. inl (one_or_two number h.0 h.1)) (λ e. inr (ten_only (written t) (sound t) number e).1) (refused_by write-tests inner number c)

-- ---- the reader's, of a file and the lengths of what is lent
module _ (file lent : List ℕ) where
  -- every slice is as long as the file's numbers say
  abbrev pub read-slices : Bool
  read-slices = same_all lent (cells_lent (stored_in file).rows (stored_in file).dim)

  -- the call by both tests
  by_tests : read_call file lent ≡ cond (is_result file) (cond read-slices (accepted (stored_in file)) (refused 2)) (refused 10)
  unfolding read_call reads lent_to
  by_tests = go (is_result file)
    where
      go : (b : Bool) → lent_to lent (cond b (accepted (stored_in file)) (refused 10)) ≡ cond b (cond read-slices (accepted (stored_in file)) (refused 2)) (refused 10)
      go true = refl
      go false = refl

  -- Refused by 10, ahead of everything, exactly when the file is no result file.
  pub read_ten : (read_call file lent ≡ refused 10) ↔ (is_result file ≡ false)
  read_ten = ((λ c. go (is_result file) refl read-slices refl (sym by_tests ∙ c)), (λ d. by_tests ∙ rw d))
    where
      go : (a : Bool) → is_result file ≡ a → (b : Bool) → read-slices ≡ b → cond a (cond b (accepted (stored_in file)) (refused 2)) (refused 10) ≡ refused 10 → is_result file ≡ false
      go true e true f c = absurd (not_both (stored_in file) 10 c)
      go true e false f c = let z : ◌≡◌ {A = ℕ} 2 10 = cc in absurd (omega arith)
      go false e b f c = e

  -- Refused by 2 exactly when it is one and a slice is not as long as its numbers say.
  pub read_two : (read_call file lent ≡ refused 2) ↔ ((is_result file ≡ true) × (read-slices ≡ false))
  read_two = ((λ c. go (is_result file) refl read-slices refl (sym by_tests ∙ c)), (λ d. by_tests ∙ rw (d.0, d.1)))
    where
      go : (a : Bool) → is_result file ≡ a → (b : Bool) → read-slices ≡ b → cond a (cond b (accepted (stored_in file)) (refused 2)) (refused 10) ≡ refused 2
          → (is_result file ≡ true) × (read-slices ≡ false)
      go true e true f c = absurd (not_both (stored_in file) 2 c)
      go true e false f c = (e, f)
      go false e b f c = let z : ◌≡◌ {A = ℕ} 10 2 = cc in absurd (omega arith)

  -- Accepted, with the grouping that stands in it, exactly when it is one and the slices fit.
  pub read_accepted : (g : Stored) → (read_call file lent ≡ accepted g) ↔ (((is_result file ≡ true) × (read-slices ≡ true)) × (g ≡ stored_in file))
  read_accepted g = ((λ c. go (is_result file) refl read-slices refl (sym by_tests ∙ c)), (λ d. by_tests ∙ rw (d.0.0, d.0.1, d.1)))
    where
      go : (a : Bool) → is_result file ≡ a → (b : Bool) → read-slices ≡ b → cond a (cond b (accepted (stored_in file)) (refused 2)) (refused 10) ≡ accepted g
          → ((is_result file ≡ true) × (read-slices ≡ true)) × (g ≡ stored_in file)
      go true e true f c = ((e, f), cc)
      go true e false f c = absurd (not_both g 2 (sym c))
      go false e b f c = absurd (not_both g 10 (sym c))

  -- No other number refuses it.
  pub read_otherwise : (number : ℕ) → read_call file lent ≡ refused number → (number ≡ 2) ⊎ (number ≡ 10)
  read_otherwise number c = go (is_result file) read-slices (sym by_tests ∙ c)
    where
      go : (a b : Bool) → cond a (cond b (accepted (stored_in file)) (refused 2)) (refused 10) ≡ refused number → (number ≡ 2) ⊎ (number ≡ 10)
      go true true c = absurd (not_both (stored_in file) number c)
      go true false c = inl cc
      go false b c = inr cc

-- ---- any two allowed results are the same
numbers_apart : (x y : Numbers) → numbers_of x ≡ numbers_of y → x ≡ y
numbers_apart x y e = ap (λ (f : ℕ × ℕ × ℕ). record { rows = f.0; dim = f.1; groups = f.2 }) e

pub writes_one : {a : Answer (List ℕ)} {n : ℕ} {r r' : Result (Unit {0}) Refusal} {out out' : List ℕ} → Writes a n r out → Writes a n r' out' → (r ≡ r') × (out ≡ out')
writes_one {r = r} {r' = r'} w w' = (told_same (λ (done : Unit {0}). tt {0}) (λ x y e. refl) r r' (w.result ∙ sym w'.result), w.bytes ∙ sym w'.bytes)

pub reads_one : {a : Answer Stored} {oc ec mc : ℕ} {r r' : Result Numbers Refusal} {o o' e e' m m' : List ℕ} → Reads a oc ec mc r o e m → Reads a oc ec mc r' o' e' m'
    → (r ≡ r') × ((o ≡ o') × ((e ≡ e') × (m ≡ m')))
reads_one {r = r} {r' = r'} w w' =
    (told_same numbers_of numbers_apart r r' (w.result ∙ sym w'.result), (w.ordered ∙ sym w'.ordered, (w.ended ∙ sym w'.ended, w.meant ∙ sym w'.meant)))

-- ---- after a refusal
pub write_zeros : (a : Answer (List ℕ)) (n : ℕ) (refusal : Refusal) (out : List ℕ) → Writes a n (Err refusal) out → (a ≡ refused (number_of refusal)) × (out ≡ replicate n 0)
unfolding on_accepted cells_of
write_zeros (accepted file) n refusal out w = let e = w.result in let z : ◌≡◌ {A = ℕ} 0 1 = cc in absurd (omega arith)
write_zeros (refused k) n refusal out w =
    let e : refused (number_of refusal) ≡ refused k = w.result in
    let z : k ≡ number_of refusal = cc in
    (ap refused z, w.bytes ∙ padded_none 0 n)

pub read_blanks : (a : Answer Stored) (oc ec mc : ℕ) (refusal : Refusal) (o e m : List ℕ) → Reads a oc ec mc (Err refusal) o e m
    → (a ≡ refused (number_of refusal)) × ((o ≡ replicate oc blank_cell) × ((e ≡ replicate ec blank_cell) × (m ≡ replicate mc 0)))
unfolding on_accepted cells_of
read_blanks (accepted t) oc ec mc refusal o e m w = let p = w.result in let z : ◌≡◌ {A = ℕ} 0 1 = cc in absurd (omega arith)
read_blanks (refused k) oc ec mc refusal o e m w =
    let p : refused (number_of refusal) ≡ refused k = w.result in
    let z : k ≡ number_of refusal = cc in
    (ap refused z, (w.ordered ∙ padded_none blank_cell oc, (w.ended ∙ padded_none blank_cell ec, w.meant ∙ padded_none 0 mc)))

-- ---- after an acceptance
-- a file that the call gives is as long as the output
written_long : (t : Stored) (n : ℕ) (file : List ℕ) → write_call t n ≡ accepted file → length file ≡ n
unfolding write_call unless
written_long t n file e = go (write_refusal t.rows t.dim t.groups (length t.order) (length t.ends) (length t.means) n) refl (sound t) refl e
  where
    go : (number : ℕ) → write_refusal t.rows t.dim t.groups (length t.order) (length t.ends) (length t.means) n ≡ number → (b : Bool) → sound t ≡ b
        → unless number (cond b (accepted (written t)) (refused 10)) ≡ accepted file → length file ≡ n
    go zero r true h p =
        let k : written t ≡ file = cc in
        let s = sound_is t h in
        let l = s.lengths in
        let ef : t.groups ≤ length t.ends = omega (arith, l.ends_long, s.content.fewer) in
        let mf : t.groups * t.dim ≤ length t.means = omega (arith, l.means_long, mul-le-mul_right t.dim s.content.fewer) in
        ap length (sym k) ∙ written_length t l.order_long ef mf ∙ sym (fitting t n r).out_long
    go zero r false h p = let z : ◌≡◌ {A = ℕ} 0 1 = cc in absurd (omega arith)
    go (suc number) r b h p = let z : ◌≡◌ {A = ℕ} 0 1 = cc in absurd (omega arith)

-- the output that a writer told `Ok` leaves is read as the grouping that it was handed
pub told_written : (t : Stored) (n : ℕ) (out : List ℕ) → Writes (write_call t n) n (Ok (tt {0})) out → (sound t ≡ true) × (reads out ≡ accepted t)
unfolding on_accepted cells_of
told_written t n out w = go (write_call t n) refl w.result w.bytes
  where
    go : (a : Answer (List ℕ)) → write_call t n ≡ a → accepted (tt {0}) ≡ on_accepted (λ (f : List ℕ). tt {0}) a → out ≡ cells_of 0 n (λ (file : List ℕ). file) a → (sound t ≡ true) × (reads out ≡ accepted t)
    go (accepted file) e r b =
        let s = written_sound t n file e in
        (s.0, ap reads (b ∙ padded_all 0 n file (written_long t n file e)) ∙ s.1)
    go (refused number) e r b = let z : ◌≡◌ {A = ℕ} 0 1 = cc in absurd (omega arith)

-- the cells that a reader told `Ok` leaves are those of a sound grouping, which written again gives the file's bytes
module _ (file order ends means : List ℕ) (oc ec mc rows dim groups : ℕ) where
  abbrev read : Stored
  read = record { rows = rows; dim = dim; groups = groups; order = order; ends = ends; means = means }

  lent_accepted : (t : Stored) (a : Answer Stored) → lent_to (oc ∷ ec ∷ mc ∷ []) a ≡ accepted t → (a ≡ accepted t) × (same_all (oc ∷ ec ∷ mc ∷ []) (cells_lent t.rows t.dim) ≡ true)
  unfolding lent_to
  lent_accepted t (accepted u) e = go (same_all (oc ∷ ec ∷ mc ∷ []) (cells_lent u.rows u.dim)) refl e
    where
      go : (b : Bool) → same_all (oc ∷ ec ∷ mc ∷ []) (cells_lent u.rows u.dim) ≡ b → cond b (accepted u) (refused 2) ≡ accepted t
          → (accepted u ≡ accepted t) × (same_all (oc ∷ ec ∷ mc ∷ []) (cells_lent t.rows t.dim) ≡ true)
      go true h p = let k : u ≡ t = cc in (p, rw k at h)
      go false h p = let z : ◌≡◌ {A = ℕ} 0 1 = cc in absurd (omega arith)
  lent_accepted t (refused number) e = let z : ◌≡◌ {A = ℕ} 0 1 = cc in absurd (omega arith)

  pub told_read : Reads (read_call file (oc ∷ ec ∷ mc ∷ [])) oc ec mc (Ok (record { rows = rows; dim = dim; groups = groups })) order ends means
      → (reads file ≡ accepted read) × ((sound read ≡ true) × (write_call read (length file) ≡ accepted file))
  unfolding read_call on_accepted cells_of
  told_read w = go (lent_to (oc ∷ ec ∷ mc ∷ []) (reads file)) refl w.result w.ordered w.ended w.meant
    where
      go : (a : Answer Stored) → lent_to (oc ∷ ec ∷ mc ∷ []) (reads file) ≡ a → accepted (rows, dim, groups) ≡ on_accepted figures a
          → order ≡ cells_of blank_cell oc (λ (t : Stored). t.order) a → ends ≡ cells_of blank_cell ec (λ (t : Stored). t.ends) a → means ≡ cells_of 0 mc (λ (t : Stored). t.means) a
          → (reads file ≡ accepted read) × ((sound read ≡ true) × (write_call read (length file) ≡ accepted file))
      go (accepted t) e r o d m =
          let p = lent_accepted t (reads file) e in
          let s = (sound_is t (read_sound file t p.0).0).lengths in
          let l = lengths_is t.rows t.dim oc ec mc p.1 in
          let o' : order ≡ t.order = o ∙ padded_all blank_cell oc t.order (s.order_long ∙ sym l.order_long) in
          let d' : ends ≡ t.ends = d ∙ padded_all blank_cell ec t.ends (s.ends_long ∙ sym l.ends_long) in
          let m' : means ≡ t.means = m ∙ padded_all 0 mc t.means (s.means_long ∙ sym l.means_long) in
          let same : ◌≡◌ {A = ℕ × ℕ × ℕ} (rows, dim, groups) (figures t) = cc in
          let r1 : rows ≡ t.rows = ap (λ (f : ℕ × ℕ × ℕ). f.0) same in
          let r2 : dim ≡ t.dim = ap (λ (f : ℕ × ℕ × ℕ). f.1) same in
          let r3 : groups ≡ t.groups = ap (λ (f : ℕ × ℕ × ℕ). f.2) same in
          let k : reads file ≡ accepted read = p.0 ∙ rw (r1, r2, r3, o', d', m') in
          (k, ((read_sound file read k).0, written_read file read k))
      go (refused number) e r o d m = let z : ◌≡◌ {A = ℕ} 0 1 = cc in absurd (omega arith)
