-- The turns of `rows_with_label` and of `gather`, and that no row is lost or doubled. Assumes nothing.
use mathlib.Core.Path.{◌≡◌, refl, sym, ap, ◌∙◌}
use mathlib.Core.List.{List, [], ◌∷◌, ◌++◌, append-nil}
use mathlib.Core.Bool.{Bool, true, false, cond}
use Prim.Native.Nat.{ℕ, zero, suc, ◌+◌, ◌≤◌, ◌<◌}
use native.Mathlib.Numerals.{add-one}
use native.Mathlib.Omega.{arith}
use borrow.Author.Tests.{eq-eqb, ne_eqb, eqb-true, eqb-false}
use borrow.Rule.Slice.PartMut.{put_mid, post_of}
use lib.Dec.{eqb}
use lib.ListN.{length, take, drop, get_or, set, length-set, length-append, take-append-drop}
use lib.Seq.{drop-cons, take-suc-set, drop-set-lt, drop-length, get_or-set_same, length-take-le, append_snoc, take-length}
use Rattle.sums.specs.Cells.{Below}
use Rattle.sums.proofs.Belows.{below_tail}
use Rattle.sums.proofs.Tables.{length_tab, get_d_tab, tab_same}
use Rattle.sums.proofs.Weighs.{weigh, weigh_append, same_length}
use Rattle.grouping.specs.Parts.{having, gathered, sizes_of, flat}
use Rattle.grouping.proofs.Lists.{drop_more, take_two}
use Rattle.grouping.proofs.Layouts.{flat_append, flat_drop}

-- ---- the rows of one label
pub record Picking (c : ℕ) (rows labels dst₀ dst : List ℕ) (n i : ℕ) : Type 0 where
  pub within : i ≤ length rows
  pub fits : n ≤ length dst
  pub kept : length dst ≡ length dst₀
  pub done : take n dst ++ having c (drop i rows) (drop i labels) ≡ having c rows labels
  pub rest : drop n dst ≡ drop n dst₀

having_at : (c : ℕ) (rows labels : List ℕ) (i : ℕ) → i < length rows → i < length labels
    → having c (drop i rows) (drop i labels)
    ≡ cond (eqb (get_or labels i 0) c) (get_or rows i 0 ∷ having c (drop (suc i) rows) (drop (suc i) labels)) (having c (drop (suc i) rows) (drop (suc i) labels))
unfolding having
having_at c rows labels i p q = rw (drop-cons rows i 0, drop-cons labels i 0)

having_none : (c : ℕ) (labels : List ℕ) → having c [] labels ≡ []
unfolding having
having_none c labels = refl

module _ {c : ℕ} {rows labels dst₀ dst : List ℕ} {n i : ℕ} (same : length rows ≡ length labels) (h : Picking c rows labels dst₀ dst n i) where
  pub picking_end : length rows ≤ i → (n ≡ length (having c rows labels)) × (dst ≡ having c rows labels ++ drop n dst₀)
  picking_end p =
      let e : i ≡ length rows = omega (arith, h.within) in
      let d : take n dst ≡ having c rows labels = sym (append-nil (take n dst)) ∙ (rw (e, drop-length, having_none) at h.done) in
      (sym (length-take-le n dst h.fits) ∙ ap length d, sym (take-append-drop n dst) ∙ cc (d, h.rest))

  pub picking_skip : i < length rows → (get_or labels i 0 ≡ c → ⊥) → Picking c rows labels dst₀ dst n (i + 1)
  picking_skip p ne =
      let q : i < length labels = omega arith in
      record {
        within = omega arith;
        fits = h.fits;
        kept = h.kept;
        done = rw (add-one i) (rw (having_at c rows labels i p q, ne_eqb _ _ ne) at h.done);
        rest = h.rest;
      }

  module _ (room : length (having c rows labels) ≤ length dst₀) (p : i < length rows) (e : get_or labels i 0 ≡ c) where
    taken : take n dst ++ get_or rows i 0 ∷ having c (drop (suc i) rows) (drop (suc i) labels) ≡ having c rows labels
    taken =
        let q : i < length labels = omega arith in
        rw (having_at c rows labels i p q, eq-eqb _ _ e) at h.done

    pub picking_room : n < length dst
    picking_room = omega (arith, h.kept, simp (length-append, length-take-le n dst h.fits) at (ap length taken))

    pub picking_take : Picking c rows labels dst₀ (set dst n (get_or rows i 0)) (n + 1) (i + 1)
    picking_take =
        let r : n < length dst = picking_room in
        record {
          within = omega arith;
          fits = simp length-set (omega arith);
          kept = length-set dst n _ ∙ h.kept;
          done = rw (add-one n, add-one i, take-suc-set, append_snoc) taken;
          rest = rw (add-one n) (drop-set-lt (suc n) dst n (get_or rows i 0) (omega arith) ∙ drop_more n dst dst₀ h.rest);
        }

-- ---- no row is lost or doubled
abbrev parts : List ℕ → List ℕ → ℕ → List (List ℕ)
parts rows labels k = gathered k rows labels

-- one part more
weigh_more : (f : ℕ → ℕ) (a : List (List ℕ)) (p : List ℕ) → weigh f (flat (a ++ (p ∷ []))) ≡ weigh f (flat a) + weigh f p
unfolding flat
weigh_more f a p = rw flat_append (omega (arith, weigh_append f p (flat a)))

weigh_none : (f : ℕ → ℕ) → weigh f (flat []) ≡ 0
unfolding flat
weigh_none f = refl

-- a row whose label is no part's
outside : (k r l : ℕ) (rows labels : List ℕ) → k ≤ l → parts (r ∷ rows) (l ∷ labels) k ≡ parts rows labels k
unfolding having
outside k r l rows labels h = tab_same (λ c. having c (r ∷ rows) (l ∷ labels)) (λ c. having c rows labels) k (λ c p. rw (ne_eqb l c (λ e. omega arith)))

inside : (f : ℕ → ℕ) (k r l : ℕ) (rows labels : List ℕ) → l < k
    → weigh f (flat (parts (r ∷ rows) (l ∷ labels) k)) ≡ f r + weigh f (flat (parts rows labels k))
unfolding having
inside f zero r l rows labels h = absurd (omega arith)
inside f (suc k) r l rows labels h = go (eqb l k) refl (inside f k r l rows labels)
  where
    old : List (List ℕ)
    old = parts rows labels k

    new : List (List ℕ)
    new = parts (r ∷ rows) (l ∷ labels) k

    go : (b : Bool) → eqb l k ≡ b → (l < k → weigh f (flat new) ≡ f r + weigh f (flat old))
        → weigh f (flat (new ++ (cond (eqb l k) (r ∷ having k rows labels) (having k rows labels) ∷ []))) ≡ f r + weigh f (flat (old ++ (having k rows labels ∷ [])))
    go true e ih =
        rw (e, outside k r l rows labels (omega (arith, eqb-true l k e)))
        (omega (arith, weigh_more f old (r ∷ having k rows labels), weigh_more f old (having k rows labels)))
    go false e ih =
        let p : l < k = omega (arith, eqb-false l k e) in
        rw e (omega (arith, weigh_more f new (having k rows labels), weigh_more f old (having k rows labels), ih p))

no_rows : (f : ℕ → ℕ) (k : ℕ) (labels : List ℕ) → weigh f (flat (parts [] labels k)) ≡ 0
no_rows f zero labels = weigh_none f
no_rows f (suc k) labels = omega (arith, weigh_more f (parts [] labels k) (having k [] labels), no_rows f k labels, ap (weigh f) (having_none k labels))

pub gathered_weigh : (f : ℕ → ℕ) (k : ℕ) (rows labels : List ℕ) → length rows ≡ length labels → Below k labels → weigh f (flat (gathered k rows labels)) ≡ weigh f rows
gathered_weigh f k [] labels e h = no_rows f k labels
gathered_weigh f k (r ∷ rows) [] e h = absurd (omega arith)
gathered_weigh f k (r ∷ rows) (l ∷ labels) e h =
    omega (arith, inside f k r l rows labels (h 0 (omega arith)), gathered_weigh f k rows labels (omega arith) (below_tail k l labels h))

pub gathered_length : (k : ℕ) (rows labels : List ℕ) → length rows ≡ length labels → Below k labels → length (flat (gathered k rows labels)) ≡ length rows
gathered_length k rows labels e h = same_length (flat (gathered k rows labels)) rows (λ f. gathered_weigh f k rows labels e h)

-- ---- the parts from c on, laid out from the front
abbrev from : ℕ → ℕ → List ℕ → List ℕ → List (List ℕ)
from c k rows labels = drop c (gathered k rows labels)

from_at : (c k : ℕ) (rows labels : List ℕ) → c < k → from c k rows labels ≡ having c rows labels ∷ from (suc c) k rows labels
from_at c k rows labels h =
    let l : c < length (gathered k rows labels) = rw (length_tab (λ c. having c rows labels) k) h in
    drop-cons (gathered k rows labels) c [] l ∙ rw (get_d_tab (λ c. having c rows labels) k c [] h)

from_none : (k : ℕ) (rows labels : List ℕ) → from k k rows labels ≡ []
from_none k rows labels =
    let e : k ≡ length (gathered k rows labels) = sym (length_tab (λ c. having c rows labels) k) in
    ap (λ (n : ℕ). drop n (gathered k rows labels)) e ∙ drop-length (gathered k rows labels)

pub record Gathering (k : ℕ) (rows labels part sizes : List ℕ) (c at : ℕ) : Type 0 where
  pub few : c ≤ k
  pub kept : length part ≡ length rows
  pub sized : length sizes ≡ k
  pub fits : at ≤ length part
  pub so_far : at ≡ length (flat (from c k rows labels))
  pub done : take at part ≡ flat (from c k rows labels)
  pub counted : drop c sizes ≡ sizes_of (from c k rows labels)

pub gathering_start : (rows labels part sizes : List ℕ) → length part ≡ length rows → Gathering (length sizes) rows labels part sizes (length sizes) 0
unfolding flat
gathering_start rows labels part sizes p =
    let n = from_none (length sizes) rows labels in
    record {
      few = omega arith;
      kept = p;
      sized = refl;
      fits = omega arith;
      so_far = rw n;
      done = rw n;
      counted = rw (n, drop-length);
    }

module _ {k : ℕ} {rows labels part sizes : List ℕ} {c at : ℕ} (same : length rows ≡ length labels) (below : Below k labels) (h : Gathering k rows labels part sizes c at) where
  pub gathering_end : c ≤ 0 → (part ≡ flat (gathered k rows labels)) × (sizes ≡ sizes_of (gathered k rows labels))
  gathering_end z =
      let e : c ≡ 0 = omega arith in
      let l : at ≡ length part = h.so_far ∙ rw e (gathered_length k rows labels same below ∙ sym h.kept) in
      (sym (take-length part) ∙ rw (← l) (rw e at h.done), rw e at h.counted)

  module _ (c' : ℕ) (e : suc c' ≡ c) where
    next : flat (from c' k rows labels) ≡ flat (from c k rows labels) ++ having c' rows labels
    unfolding flat
    next = rw (← e, from_at c' k rows labels (omega (arith, h.few)))

    -- the next part has room
    pub gathering_room : at + length (having c' rows labels) ≤ length part
    gathering_room =
        omega (
          arith,
          ap length next,
          length-append (flat (from c k rows labels)) (having c' rows labels),
          flat_drop c' (gathered k rows labels),
          gathered_length k rows labels same below,
          h.kept,
          h.so_far,
        )

    pub gathering_step : (q n : ℕ) (last d : List ℕ) → n ≡ length (having c' rows labels) → last ≡ having c' rows labels ++ d
        → length (put_mid at q part last) ≡ length part → Gathering k rows labels (put_mid at q part last) (set sizes c' n) c' (at + n)
    gathering_step q n last d l g kp =
        record {
          few = omega (arith, h.few);
          kept = kp ∙ h.kept;
          sized = length-set sizes c' n ∙ h.sized;
          fits = rw kp (omega (arith, gathering_room));
          so_far = omega (arith, ap length next, length-append (flat (from c k rows labels)) (having c' rows labels), h.so_far);
          done =
              rw g
              (take_two (take at part) (having c' rows labels) d (post_of at q part) (at + n) (omega (arith, length-take-le at part h.fits))
              ∙ rw h.done (sym next));
          counted =
              let r : c' < length sizes = omega (arith, h.sized, h.few) in
              let r' : c' < length (set sizes c' n) = rw length-set r in
              drop-cons (set sizes c' n) c' 0 r'
              ∙ rw (get_or-set_same sizes c' n 0 r, drop-set-lt (suc c') sizes c' n (omega arith), from_at c' k rows labels (omega (arith, h.few)))
              (cc (l, rw (← e) at h.counted));
        }
