-- The turns of the update, on lists. Assumes nothing.
use Prim.Native.Nat.{ℕ, zero, suc, ◌+◌, ◌%◌, ◌≤◌, ◌<◌}
use mathlib.Core.Path.{◌≡◌, refl, sym, ap, ◌∙◌}
use mathlib.Core.Bool.{Bool, true, false, cond, ◌&&◌}
use mathlib.Core.List.{List, [], ◌∷◌, ◌++◌, append-nil}
use borrow.Author.Tests.{ltb-true, ltb-false, lt-ltb, le-ltb, ne_eqb}
use lib.Dec.{eqb, ltb}
use native.Mathlib.Nat.{not-suc-le-zero, suc-ne-zero}
use native.Mathlib.Numerals.{add-one}
use native.Mathlib.Omega.{arith}
use lib.ListN.{length, get_or, set, take, drop, drop_of_length-le}
use lib.Seq.{drop-cons, take-suc-set, append_snoc, take_all}
use Rattle.sums.specs.declared.cursor.Draws.{Draws}
use Rattle.sums.specs.Rows.{Row}
use Rattle.sums.specs.Draws.{drawn, cursor_at}
use Rattle.sums.specs.Draws.{Drawn}
use Rattle.kmeans.specs.Steps.{times_inverse, update_from, draws_after}

-- ---- one cluster: its row, the draws made, and how many pool rows are used then
abbrev pub Turned : Draws → Draws → List Row → List ℕ → ℕ → Row → ℕ → ℕ → Row → Type 0
Turned old new training pool c s used after row =
    Drawn old new (row ∷ []) (λ n. update_from old.list.now training n (drop used pool) (c ∷ []) (s ∷ [])) (λ n. draws_after n (drop used pool) (c ∷ []))
    × (after ≡ cond (eqb c 0 && ltb used (length pool)) (used + 1) used)

module _ (old new : Draws) (training : List Row) (pool : List ℕ) (s : Row) (used : ℕ) (row : Row) where
  pub turned_scaled : (count : ℕ) → 0 < count → row ≡ times_inverse count s → Turned old old training pool count s used used row
  unfolding update_from draws_after
  turned_scaled zero h e = absurd (not-suc-le-zero h)
  turned_scaled (suc c) h e = (record { kept = refl; steps = λ n p. (rw e, p) }, rw (ne_eqb (suc c) 0 (suc-ne-zero c)))

  pub turned_pool : used < length pool → row ≡ get_or training (get_or pool used 0) [] → Turned old old training pool 0 s used (used + 1) row
  unfolding update_from draws_after
  turned_pool h e = rw (drop-cons pool used 0 h, lt-ltb used (length pool) h) (record { kept = refl; steps = λ n p. (rw e, p) }, refl)

  pub turned_drawn : length pool ≤ used → (x : ℕ) → Drawn old new x (λ n. drawn old.list.now n) (λ n. suc n) → row ≡ get_or training (x % length training) []
      → Turned old new training pool 0 s used used row
  unfolding update_from draws_after
  turned_drawn h x t e =
      rw (drop_of_length-le pool {i = used} h, le-ltb used (length pool) h)
      (record { kept = t.kept; steps = λ n p. (rw (e, (t.steps n p).0), (t.steps n p).1) }, refl)

-- ---- and what is left to the others
rest : ℕ → List ℕ → List ℕ
rest (suc c) pool = pool
rest zero [] = []
rest zero (p ∷ pool) = pool

rest_drop : (c u : ℕ) (pool : List ℕ) → rest c (drop u pool) ≡ drop (cond (eqb c 0 && ltb u (length pool)) (u + 1) u) pool
unfolding rest
rest_drop (suc c) u pool = rw (ne_eqb (suc c) 0 (suc-ne-zero c))
rest_drop zero u pool = go (ltb u (length pool)) refl
  where
    go : (b : Bool) → ltb u (length pool) ≡ b → rest zero (drop u pool) ≡ drop (cond b (u + 1) u) pool
    go true e = rw (drop-cons pool u 0 (ltb-true u (length pool) e), add-one u)
    go false e = rw (drop_of_length-le pool {i = u} (ltb-false u (length pool) e))

module _ (draws : List ℕ) (training : List Row) (n : ℕ) where
  rows_turn : (pool : List ℕ) (c : ℕ) (s : Row) (counts : List ℕ) (sums : List Row)
      → update_from draws training n pool (c ∷ counts) (s ∷ sums)
      ≡ update_from draws training n pool (c ∷ []) (s ∷ []) ++ update_from draws training (draws_after n pool (c ∷ [])) (rest c pool) counts sums
  unfolding update_from draws_after rest
  rows_turn pool (suc c) s counts sums = refl
  rows_turn [] zero s counts sums = refl
  rows_turn (p ∷ pool) zero s counts sums = refl

  after_turn : (pool : List ℕ) (c : ℕ) (counts : List ℕ) → draws_after n pool (c ∷ counts) ≡ draws_after (draws_after n pool (c ∷ [])) (rest c pool) counts
  unfolding draws_after rest
  after_turn pool (suc c) counts = refl
  after_turn [] zero counts = refl
  after_turn (p ∷ pool) zero counts = refl

-- ---- the clusters in turn: those from j on are left
module _ (old : Draws) (training : List Row) (pool counts : List ℕ) (sums : List Row) where
  abbrev pub Updated : Draws → List Row → Type 0
  Updated new rows = Drawn old new rows (λ n. update_from old.list.now training n pool counts sums) (λ n. draws_after n pool counts)

  pub record Left (n : ℕ) (rows : List Row) (now : Draws) (used j : ℕ) : Type 0 where
    pub made : ℕ
    pub place : now.cursor ≡ cursor_at old.list.now made
    pub done : take j rows ++ update_from old.list.now training made (drop used pool) (drop j counts) (drop j sums) ≡ update_from old.list.now training n pool counts sums
    pub after : draws_after made (drop used pool) (drop j counts) ≡ draws_after n pool counts

  pub record Updating (rows : List Row) (now : Draws) (used j : ℕ) : Type 0 where
    pub kept : now.list.now ≡ old.list.now
    pub left : (n : ℕ) → old.cursor ≡ cursor_at old.list.now n → Left n rows now used j

  pub updating_start : (rows : List Row) → Updating rows old 0 0
  updating_start rows = record { kept = refl; left = λ n p. record { made = n; place = p; done = refl; after = refl } }

  module _ {rows : List Row} {now : Draws} {used j : ℕ} (sized : length sums ≡ length counts) (many : length rows ≡ length counts) (h : Updating rows now used j) where
    pub updating_step : (new : Draws) (after : ℕ) (row : Row) → j < length counts → Turned now new training pool (get_or counts j 0) (get_or sums j []) used after row
        → Updating (set rows j row) new after (j + 1)
    updating_step new after row l t = record {
      kept = t.0.kept ∙ h.kept;
      left = λ n p.
          let was = h.left n p in
          let d = rw h.kept at (t.0.steps was.made (rw h.kept was.place)) in
          let left = rest_drop (get_or counts j 0) used pool ∙ ap (λ (u : ℕ). drop u pool) (sym t.1) in
          let ls : j < length sums = omega arith in
          let lr : j < length rows = omega arith in
          let turn = rows_turn old.list.now training was.made (drop used pool) (get_or counts j 0) (get_or sums j []) (drop (suc j) counts) (drop (suc j) sums) in
          let on = after_turn old.list.now training was.made (drop used pool) (get_or counts j 0) (drop (suc j) counts) in
          record {
            made = draws_after was.made (drop used pool) (get_or counts j 0 ∷ []);
            place = d.1;
            done = rw (add-one j, take-suc-set rows j row lr, append_snoc (take j rows) row _)
                (rw (drop-cons counts j 0 l, drop-cons sums j [] ls, turn, ← d.0, left) at was.done);
            after = rw (add-one j) (rw (drop-cons counts j 0 l, on, left) at was.after);
          };
    }

    pub updating_end : length counts ≤ j → Updated now rows
    unfolding update_from draws_after
    updating_end l = record {
      kept = h.kept;
      steps = λ n p.
          let was = h.left n p in
          let z = drop_of_length-le counts {i = j} l in
          let t = take_all j rows (omega arith) in
          (sym (append-nil rows) ∙ rw (z, t) at was.done, was.place ∙ ap (λ (m : ℕ). cursor_at old.list.now m) (rw z at was.after));
    }
