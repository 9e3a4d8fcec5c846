-- One iteration, why one that repeats the labels before it is the last that changes anything, and the iterations in turn. Assumes nothing.
use Prim.Native.Nat.{ℕ, zero, suc, ◌+◌, ◌-◌, ◌≤◌, ◌<◌, suc-le-suc}
use mathlib.Core.Path.{◌≡◌, refl, sym, ap, ◌∙◌}
use mathlib.Core.Bool.{Bool, true, false, false≢true}
use mathlib.Core.List.{List, [], ◌∷◌}
use native.Mathlib.Nat.{not-suc-le-zero, zero-lt-suc}
use native.Mathlib.Omega.{arith}
use borrow.Author.Tests.{ltb-true, eqb-true, eq-eqb}
use lib.Dec.{eqb, ltb}
use lib.Ieee.{Float}
use lib.ListN.{length, get_or, take, drop, replicate, drop_of_length-le}
use lib.Seq.{drop-cons}
use native.Mathlib.Numerals.{add-one}
use Rattle.sums.specs.declared.cursor.Draws.{Draws}
use Rattle.sums.specs.Rows.{Row}
use Rattle.sums.specs.Draws.{cursor_at}
use Rattle.sums.specs.Draws.{Drawn}
use Rattle.sums.specs.Cells.{Below}
use Rattle.sphere.specs.Unit.{sphered}
use Rattle.labels.specs.Label.{nearests}
use Rattle.labels.specs.Pool.{pool}
use Rattle.sums.specs.Sums.{zero_row}
use Rattle.sums.proofs.Refusing.{same_is, both}
use Rattle.labels.specs.declared.nearest.Tally.{Tally}
use Rattle.labels.specs.Inside.{Assigned}
use Rattle.kmeans.specs.declared.config.Plan.{Plan}
use Rattle.kmeans.specs.declared.lloyd.Iterated.{Iterated}
use Rattle.kmeans.specs.Steps.{Fit, refit, update, on_sphere, iterate, update_from, draws_after, counts_from, sums_from, times_inverse}
use Rattle.kmeans.specs.Inside.{Iteration, Fitted, repeats}
use Rattle.kmeans.proofs.Summing.{Summed}
use Rattle.kmeans.proofs.Updates.{Updated}

-- ---- a pool cut to as many as there are clusters
pub update_cut : (draws : List ℕ) (training : List Row) (n cap : ℕ) (pool counts : List ℕ) (sums : List Row) → length counts ≤ cap
    → update_from draws training n (take cap pool) counts sums ≡ update_from draws training n pool counts sums
unfolding update_from
update_cut draws training n cap pool [] sums h = refl
update_cut draws training n cap pool (c ∷ counts) [] h = refl
update_cut draws training n cap pool (suc c ∷ counts) (s ∷ sums) h = ap (λ (l : List Row). times_inverse (suc c) s ∷ l) (update_cut draws training n cap pool counts sums (omega arith))
update_cut draws training n zero pool (zero ∷ counts) (s ∷ sums) h = absurd (not-suc-le-zero h)
update_cut draws training n (suc cap) [] (zero ∷ counts) (s ∷ sums) h = refl
update_cut draws training n (suc cap) (p ∷ pool) (zero ∷ counts) (s ∷ sums) h = ap (λ (l : List Row). get_or training p [] ∷ l) (update_cut draws training n cap pool counts sums (omega arith))

pub after_cut : (n cap : ℕ) (pool counts : List ℕ) → length counts ≤ cap → draws_after n (take cap pool) counts ≡ draws_after n pool counts
unfolding draws_after
after_cut n cap pool [] h = refl
after_cut n cap pool (suc c ∷ counts) h = after_cut n cap pool counts (omega arith)
after_cut n zero pool (zero ∷ counts) h = absurd (not-suc-le-zero h)
after_cut n (suc cap) [] (zero ∷ counts) h = refl
after_cut n (suc cap) (p ∷ pool) (zero ∷ counts) h = after_cut n cap pool counts (omega arith)

-- no cluster is empty
abbrev pub Filled : List ℕ → Type 0
Filled counts = (i : ℕ) → i < length counts → 0 < get_or counts i 0

-- ---- where no cluster is empty, neither the pool nor the draws are looked at
pub filled_update : (draws : List ℕ) (training : List Row) (n m : ℕ) (pool pool' counts : List ℕ) (sums : List Row) → Filled counts
    → update_from draws training n pool counts sums ≡ update_from draws training m pool' counts sums
unfolding update_from
filled_update draws training n m pool pool' [] sums h = refl
filled_update draws training n m pool pool' (c ∷ counts) [] h = refl
filled_update draws training n m pool pool' (suc c ∷ counts) (s ∷ sums) h =
    ap (λ (l : List Row). times_inverse (suc c) s ∷ l) (filled_update draws training n m pool pool' counts sums (λ i l. h (suc i) (suc-le-suc l)))
filled_update draws training n m pool pool' (zero ∷ counts) (s ∷ sums) h = absurd (not-suc-le-zero (h 0 (zero-lt-suc (length counts))))

pub filled_after : (n : ℕ) (pool counts : List ℕ) → Filled counts → draws_after n pool counts ≡ n
unfolding draws_after
filled_after n pool [] h = refl
filled_after n pool (suc c ∷ counts) h = filled_after n pool counts (λ i l. h (suc i) (suc-le-suc l))
filled_after n pool (zero ∷ counts) h = absurd (not-suc-le-zero (h 0 (zero-lt-suc (length counts))))

-- ---- the turns of `refills_repeat`: a cluster more, filled or empty
head_filled : (c : ℕ) (counts new old : List ℕ) → 0 < c → repeats counts new old ≡ true → repeats (c ∷ counts) new old ≡ true
unfolding repeats
head_filled zero counts new old h r = absurd (not-suc-le-zero h)
head_filled (suc c) counts new old h r = r

head_empty : (p q : ℕ) (counts new old : List ℕ) → p ≡ q → repeats counts new old ≡ true → repeats (0 ∷ counts) (p ∷ new) (q ∷ old) ≡ true
unfolding repeats
head_empty p q counts new old e r = rw (eq-eqb p q e) r

module _ (counts new old : List ℕ) (i used : ℕ) (l : i < length counts) where
  pub repeats_filled : 0 < get_or counts i 0 → repeats (drop (i + 1) counts) (drop used new) (drop used old) ≡ true → repeats (drop i counts) (drop used new) (drop used old) ≡ true
  repeats_filled h r = rw (drop-cons counts i 0 l) (head_filled (get_or counts i 0) _ _ _ h (rw (add-one i) at r))

  pub repeats_empty : get_or counts i 0 ≡ 0 → used < length new → used < length old → get_or new used 0 ≡ get_or old used 0
      → repeats (drop (i + 1) counts) (drop (used + 1) new) (drop (used + 1) old) ≡ true → repeats (drop i counts) (drop used new) (drop used old) ≡ true
  repeats_empty z ln lo e r = rw (drop-cons counts i 0 l, z, drop-cons new used 0 ln, drop-cons old used 0 lo) (head_empty _ _ _ _ _ e (rw (add-one i, add-one used) at r))

pub repeats_end : (counts new old : List ℕ) (i : ℕ) → length counts ≤ i → repeats (drop i counts) new old ≡ true
unfolding repeats
repeats_end counts new old i l = rw (drop_of_length-le counts {i = i} l)

-- ---- where every empty cluster finds the same position in both pools, the refills are the same, and nothing is drawn
pub settles : (draws : List ℕ) (training : List Row) (n m : ℕ) (new old counts : List ℕ) (sums : List Row) → repeats counts new old ≡ true
    → update_from draws training n new counts sums ≡ update_from draws training m old counts sums
unfolding update_from repeats
settles draws training n m new old [] sums h = refl
settles draws training n m new old (c ∷ counts) [] h = refl
settles draws training n m new old (suc c ∷ counts) (s ∷ sums) h = ap (λ (l : List Row). times_inverse (suc c) s ∷ l) (settles draws training n m new old counts sums h)
settles draws training n m [] old (zero ∷ counts) (s ∷ sums) h = absurd (false≢true h)
settles draws training n m (p ∷ new) [] (zero ∷ counts) (s ∷ sums) h = absurd (false≢true h)
settles draws training n m (p ∷ new) (q ∷ old) (zero ∷ counts) (s ∷ sums) h =
    let b = both _ _ h in
    rw (eqb-true p q b.0) (ap (λ (l : List Row). get_or training q [] ∷ l) (settles draws training n m new old counts sums b.1))

settles_undrawn : (n : ℕ) (new old counts : List ℕ) → repeats counts new old ≡ true → draws_after n new counts ≡ n
unfolding draws_after repeats
settles_undrawn n new old [] h = refl
settles_undrawn n new old (suc c ∷ counts) h = settles_undrawn n new old counts h
settles_undrawn n [] old (zero ∷ counts) h = absurd (false≢true h)
settles_undrawn n (p ∷ new) [] (zero ∷ counts) h = absurd (false≢true h)
settles_undrawn n (p ∷ new) (q ∷ old) (zero ∷ counts) h = settles_undrawn n new old counts (both (eqb p q) (repeats counts new old) h).1

module _ (spherical : Bool) (draws : List ℕ) (k dim block : ℕ) (training : List Row) where
  -- an iteration that changes nothing: nor do all the iterations left
  pub fixed : (left : ℕ) (fit : Fit) → on_sphere spherical (update draws k dim block training fit.made (nearests fit.centroids training)) ≡ fit
      → iterate spherical draws k dim block training left fit ≡ fit
  unfolding iterate
  fixed zero fit e = refl
  fixed (suc left) fit e = rw e (fixed left fit e)

-- what an update gave, brought to length one where the setting is on: the draws made are the same
pub handed : {old new : Draws} {updated rows : List Row} {centroids : ℕ → List Row} {made : ℕ → ℕ} (spherical : Bool) → Drawn old new updated centroids made
    → rows ≡ sphered spherical updated → Drawn old new rows (λ n. sphered spherical (centroids n)) made
handed spherical d e = record { kept = d.kept; steps = λ n p. let w = d.steps n p in (e ∙ ap (sphered spherical) w.0, w.1) }

-- ---- one iteration: it stops, or it goes on to the update

-- the pool that an update looks at: only where some cluster is empty does it have to be the pool
abbrev pub PoolFor : Bool → List Float → ℕ → ℕ → ℕ → List ℕ → Type 0
PoolFor filled distances block cap r at = ((r ≤ length at) × Below (length distances) (take r at)) × (filled ≡ false → take r at ≡ take cap (pool block distances))

pub same_fit : (f : Fit) (c : List Row) (n : ℕ) → f.centroids ≡ c → f.made ≡ n → f ≡ record { centroids = c; made = n }
same_fit f c n p q = rw (← p, ← q)

module _ (old : Draws) (plan : Plan) (training centroids : List Row) (labels₀ labels : List ℕ) (distances : List Float) (tally : Tally) (counts : List ℕ) (totals : List Row)
    (a : Assigned (nearests centroids training) labels₀ labels distances tally) (s : Summed plan.dim plan.k labels training counts totals) (before : Iterated) (again : Bool) where
  -- the positions at hand serve as the whole pool does: they are its first, or no cluster is empty
  pool_serves : (filled : Bool) (cap r : ℕ) (at : List ℕ) → (filled ≡ true → Filled counts) → PoolFor filled distances plan.block cap r at → length counts ≤ cap → (n : ℕ)
      → (update_from old.list.now training n (take r at) counts totals ≡ update_from old.list.now training n (pool plan.block distances) counts totals)
      × (draws_after n (take r at) counts ≡ draws_after n (pool plan.block distances) counts)
  pool_serves true cap r at f p l n = (
    filled_update old.list.now training n n (take r at) (pool plan.block distances) counts totals (f refl),
    filled_after n (take r at) counts (f refl) ∙ sym (filled_after n (pool plan.block distances) counts (f refl)),
  )
  pool_serves false cap r at f p l n =
      rw (p.1 refl) (update_cut old.list.now training n cap (pool plan.block distances) counts totals l, after_cut n cap (pool plan.block distances) counts l)

  module _ (filled : Bool) (used : ℕ) (at₀ at : List ℕ) (f : filled ≡ true → Filled counts) (p : PoolFor filled distances plan.block plan.k used at) (l : length counts ≡ plan.k) where
    -- so the update is by them
    serves : (n : ℕ) → update old.list.now plan.k plan.dim plan.block training n (nearests centroids training) ≡ refit old.list.now plan.k plan.dim training n (take used at) labels
    unfolding update
    serves n =
        let v = pool_serves filled plan.k used at f p (omega arith) n in
        let u : Fit = update old.list.now plan.k plan.dim plan.block training n (nearests centroids training) in
        let x : update_from old.list.now training n (take used at) counts totals ≡ u.centroids = v.0 ∙ rw (s.0, s.1, a.labelled, a.measured) in
        let y : draws_after n (take used at) counts ≡ u.made = v.1 ∙ rw (s.0, a.labelled, a.measured) in
        same_fit _ _ _ (sym (rw (s.0, s.1) at x)) (sym (rw s.0 at y))

    pub iteration_stops : (again ≡ true) × ((tally.same ≡ true) × (repeats counts (take used at) (take before.held at₀) ≡ true))
        → Iteration old old plan training centroids centroids labels₀ labels at₀ at before (record { settled = true; held = used }) again
    iteration_stops h = record {
      labelled = a.labelled;
      held_fits = p.0.0;
      leads = serves;
      goes = λ e. absurd (false≢true (sym e));
      stops = λ e. (h.0, (sym (same_is labels₀ labels (sym a.same ∙ h.1.0)), rw s.0 at h.1.1));
      stays = λ e. (refl, (refl, refl));
    }

    pub iteration_goes : (updated centroids' : List Row) (new : Draws) → Updated old training (take used at) counts totals new updated
        → centroids' ≡ sphered plan.spherical updated → Iteration old new plan training centroids centroids' labels₀ labels at₀ at before (record { settled = false; held = used }) again
    iteration_goes updated centroids' new u h = record {
      labelled = a.labelled;
      held_fits = p.0.0;
      leads = serves;
      goes = λ e. handed plan.spherical (rw (s.0, s.1) at u) h;
      stops = λ e. absurd (false≢true e);
      stays = λ e. absurd (false≢true e);
    }

-- ---- the iterations in turn

-- every slice is as long as it was
pub record Lengths (centroids₀ : List Float) (labels₀ : List ℕ) (distances₀ totals₀ : List Float) (at₀ : List ℕ)
    (centroids : List Float) (labels : List ℕ) (distances totals : List Float) (at : List ℕ) : Type 0 where
  pub l_centroids : length centroids ≡ length centroids₀
  pub l_labels : length labels ≡ length labels₀
  pub l_distances : length distances ≡ length distances₀
  pub l_totals : length totals ≡ length totals₀
  pub l_at : length at ≡ length at₀

module _ (old : Draws) (plan : Plan) (training : List Row) where
  -- the iterations left, and one more, from where the fit stands
  abbrev leading : ℕ → Fit → Fit
  leading left fit = iterate plan.spherical old.list.now plan.k plan.dim plan.block training left fit

  abbrev next : List ℕ → ℕ → List Row → Fit
  next draws n centroids = on_sphere plan.spherical (update draws plan.k plan.dim plan.block training n (nearests centroids training))

  -- the centroids are what an iteration with these labels and positions gave
  pub record Prior (centroids : List Row) (labels at : List ℕ) (held : ℕ) : Type 0 where
    pub after : ℕ
    pub gave : centroids ≡ sphered plan.spherical (refit old.list.now plan.k plan.dim training after (take held at) labels).centroids

  module _ (centroids₀ : List Row) where
    -- i of the iterations are done: those left lead to where all of them lead
    pub record Onward (n : ℕ) (centroids : List Row) (now : Draws) (i : ℕ) : Type 0 where
      pub made : ℕ
      pub place : now.cursor ≡ cursor_at old.list.now made
      pub done : leading (plan.iterations - i) (record { centroids = centroids; made = made }) ≡ leading plan.iterations (record { centroids = centroids₀; made = n })

    pub onward_start : (n : ℕ) → old.cursor ≡ cursor_at old.list.now n → Onward n centroids₀ old 0
    onward_start n p = let z : plan.iterations - 0 ≡ plan.iterations = omega arith in record { made = n; place = p; done = rw z }

    module _ {n : ℕ} {centroids : List Row} {now : Draws} {i : ℕ} (o : Onward n centroids now i) where
      pub onward_step : {new : Draws} {rows : List Row} → i < plan.iterations → now.list.now ≡ old.list.now
          → Drawn now new rows (λ m. (next now.list.now m centroids).centroids) (λ m. (next now.list.now m centroids).made) → Onward n rows new (i + 1)
      unfolding iterate
      onward_step l k d =
          let u : Fit = next old.list.now o.made centroids in
          let w = rw k at (d.steps o.made (rw k o.place)) in
          let z : plan.iterations - i ≡ suc (plan.iterations - (i + 1)) = omega arith in
          record {
            made = u.made;
            place = w.1;
            done = ap (leading (plan.iterations - (i + 1))) (sym (same_fit u _ _ (sym w.0) refl)) ∙ rw z at o.done;
          }

      pub onward_end : plan.iterations ≤ i → let all : Fit = leading plan.iterations (record { centroids = centroids₀; made = n }) in
          (centroids ≡ all.centroids) × (now.cursor ≡ cursor_at old.list.now all.made)
      unfolding iterate
      onward_end l =
          let z : plan.iterations - i ≡ 0 = omega arith in
          let x = rw z at o.done in
          (ap (λ (y : Fit). y.centroids) x, o.place ∙ ap (λ (y : Fit). cursor_at old.list.now y.made) x)

    pub record Left (n : ℕ) (centroids : List Row) (labels at : List ℕ) (state : Iterated) (now : Draws) (i : ℕ) : Type 0 where
      pub onward : Onward n centroids now i
      pub prior : 0 < i → Prior centroids labels at state.held

    pub record Running (centroids : List Row) (labels at : List ℕ) (state : Iterated) (now : Draws) (i : ℕ) : Type 0 where
      pub kept : now.list.now ≡ old.list.now
      pub fits : state.held ≤ length at
      pub left : (n : ℕ) → old.cursor ≡ cursor_at old.list.now n → Left n centroids labels at state now i

    pub running_start : (labels at : List ℕ) → Running centroids₀ labels at (record { settled = false; held = 0 }) old 0
    running_start labels at = record {
      kept = refl;
      fits = omega arith;
      left = λ n p. record { onward = onward_start n p; prior = λ l. absurd (not-suc-le-zero l) };
    }

    module _ {centroids : List Row} {labels at : List ℕ} {state : Iterated} {now : Draws} {i : ℕ} (h : Running centroids labels at state now i) where
      module _ (centroids' : List Row) (labels' at' : List ℕ) (r : Iterated) (new : Draws) (l : i < plan.iterations)
          (t : Iteration now new plan training centroids centroids' labels labels' at at' state r (ltb 0 i)) where
        pub running_step : r.settled ≡ false → Running centroids' labels' at' r new (i + 1)
        running_step e =
            let d = t.goes e in
            record {
              kept = d.kept ∙ h.kept;
              fits = t.held_fits;
              left = λ n p.
                  let o = (h.left n p).onward in
                  record {
                    onward = onward_step o l h.kept (record { kept = d.kept; steps = λ m q. rw (t.leads m) (d.steps m q) });
                    prior = λ q. record { after = o.made; gave = (rw h.kept at (d.steps o.made (rw h.kept o.place))).0 };
                  };
            }

        pub running_stop : r.settled ≡ true → Fitted old new plan training centroids₀ centroids'
        running_stop e = record {
          kept = (t.stays e).1.0 ∙ h.kept;
          steps = λ n p.
              let o = (h.left n p).onward in
              let s = t.stops e in
              let q = (h.left n p).prior (ltb-true 0 i s.0) in
              let fresh : List ℕ = take r.held at' in
              let counts : List ℕ = counts_from (replicate plan.k 0) labels' in
              let g = settles old.list.now training o.made q.after fresh (take state.held at) counts (sums_from (replicate plan.k (zero_row plan.dim)) labels' training) s.1.1 in
              let f : next old.list.now o.made centroids ≡ record { centroids = centroids; made = o.made }
              = ap (on_sphere plan.spherical) (rw h.kept at (t.leads o.made)) ∙ same_fit _ _ _ (ap (sphered plan.spherical) g ∙ sym (rw (← s.1.0) at q.gave)) (settles_undrawn o.made fresh (take state.held at) counts s.1.1) in
              let x = sym (fixed plan.spherical old.list.now plan.k plan.dim plan.block training (plan.iterations - i) (record { centroids = centroids; made = o.made }) f) ∙ o.done in
              ((t.stays e).0 ∙ ap (λ (y : Fit). y.centroids) x, (t.stays e).1.1 ∙ (o.place ∙ ap (λ (y : Fit). cursor_at old.list.now y.made) x));
        }

      pub running_end : plan.iterations ≤ i → Fitted old now plan training centroids₀ centroids
      running_end l = record { kept = h.kept; steps = λ n p. onward_end (h.left n p).onward l }
