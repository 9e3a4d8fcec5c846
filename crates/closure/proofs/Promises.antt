-- What closure promises of the indices that it lists, and of its result. Assumes nothing.
use mathlib.Core.Path.{◌≡◌, refl, sym, ap, ◌∙◌}
use mathlib.Core.Bool.{Bool, true, false, ◌&&◌, cond}
use mathlib.Core.Logic.{◌↔◌, ◌⊎◌, ⊎_elim, inl, inr}
use mathlib.Core.List.{List, [], ◌∷◌}
use Prim.Native.Nat.{ℕ, ◌*◌, ◌≤◌, ◌<◌}
use native.Mathlib.Omega.{arith}
use borrow.Author.Tests.{eqb-true}
use lib.Dec.{eqb}
use lib.ListN.{length, get_or, take, length-map}
use lib.Ieee.{Float, nan, le, is_nan}
use Rattle.sums.specs.Rows.{Row, rows_from}
use Rattle.sums.specs.Sums.{zero32, apart_of}
use Rattle.sums.specs.Tables.{up_to}
use Rattle.sums.specs.Ordering.{order}
use Rattle.sums.specs.Cells.{Below}
use Rattle.sums.specs.Refusals.{Answer, accepted, refused, within, on_accepted, cells_of, padded, blank_cell}
use Rattle.sums.proofs.Tables.{up_length}
use Rattle.sums.proofs.Rows.{rows_length}
use Rattle.sums.proofs.Orders.{InOrder, order_length}
use Rattle.sums.proofs.Refusing.{both, padded_length, padded_at, padded_past}
use Rattle.sums.proofs.Whens.{not_both, fails_exactly, later_exactly, accepted_exactly as accepted_exactly_lem, refused_by, one_or_two}
use Rattle.std.specs.Prelude.{Result, Ok}
use Rattle.sums.specs.declared.refusals.Refusal.{Refusal}
use Rattle.sums.specs.Refused.{told}
use Rattle.sums.proofs.Told.{told_same}
use Rattle.closure.specs.Closure.{nearer, reach_of, distances, closure, unordered}
use Rattle.closure.specs.Call.{closure_refusal, answered, closure_call, Gives}
use Rattle.sums.proofs.Pairs.{Pairs, all_at, pairs_at, pairs_in_order}
use Rattle.closure.proofs.Laws.{answered_nan, answered_list}
use Rattle.closure.proofs.Nearer.{ordered, listed_all, listed_pairs, listed_le, listed_within, order_below, order_apart, order_behind, first_in, is_first}

module _ (epsilon : Float) (replicas : ℕ) (row : Row) (centroids : List Row) where
  abbrev ds : List Float
  ds = distances row centroids

  -- Each listed index is that of a centroid.
  pub listed_below : Below (length centroids) (closure epsilon replicas row centroids)
  unfolding closure
  listed_below i h =
      let below = listed_all epsilon replicas ds (λ p. p < length ds) (ordered ds) (order_below ds (length ds)) in
      omega (arith, length-map centroids (apart_of row), all_at (λ p. p < length ds) (closure epsilon replicas row centroids) 0 below i h)

  -- No index is listed twice.
  pub listed_distinct : (i j : ℕ) → i < j → j < length (closure epsilon replicas row centroids)
      → get_or (closure epsilon replicas row centroids) i 0 ≡ get_or (closure epsilon replicas row centroids) j 0 → ⊥
  unfolding closure
  listed_distinct =
      pairs_at (λ a b. a ≡ b → ⊥) (closure epsilon replicas row centroids) 0
      (listed_pairs epsilon replicas ds (λ a b. a ≡ b → ⊥) (ordered ds) (order_apart ds (length ds)))

  -- There are no more of them than replicas allowed.
  pub listed_few : length (closure epsilon replicas row centroids) ≤ replicas
  unfolding closure
  listed_few = listed_le epsilon replicas ds (ordered ds)

  -- Nor than centroids.
  pub listed_fit : length (closure epsilon replicas row centroids) ≤ length centroids
  unfolding closure
  listed_fit = omega (arith, listed_within epsilon replicas ds (ordered ds), order_length (nearer ds) [] (up_to (length ds)), up_length (length ds), length-map centroids (apart_of row))

  -- Where refusal 5 is not given, no later one is nearer than an earlier one.
  pub listed_behind : unordered ds ≡ false → Pairs (λ a b. nearer ds b a ≡ false) (closure epsilon replicas row centroids)
  unfolding closure
  listed_behind e = listed_pairs epsilon replicas ds (λ a b. nearer ds b a ≡ false) (ordered ds) (order_behind ds e)

  -- So they stand in order of distance, and of index where distances are alike.
  pub listed_in_order : unordered ds ≡ false → InOrder (nearer ds) (closure epsilon replicas row centroids)
  listed_in_order e = pairs_in_order (nearer ds) (closure epsilon replicas row centroids) (listed_behind e)

  -- Where a replica is allowed, epsilon is at least zero and the threshold no NaN, the first in order is listed, and first.
  pub first_listed : (closest : ℕ) (others : List ℕ) → order (nearer ds) (up_to (length ds)) ≡ closest ∷ others
      → 0 < replicas → le zero32 epsilon ≡ true → is_nan (reach_of epsilon (get_or ds closest nan)).threshold ≡ false
      → take 1 (closure epsilon replicas row centroids) ≡ closest ∷ []
  first_listed closest others e r h k = first_in epsilon replicas row centroids closest others e r h k

  -- So the index than which none is nearer is listed, and first.
  pub closest_listed : (i : ℕ) → i < length centroids → ((j : ℕ) → j < length centroids → nearer ds j i ≡ false)
      → unordered ds ≡ false → 0 < replicas → le zero32 epsilon ≡ true → is_nan (reach_of epsilon (get_or ds i nan)).threshold ≡ false
      → take 1 (closure epsilon replicas row centroids) ≡ i ∷ []
  closest_listed i l n u r h k =
      let size : length ds ≡ length centroids = length-map centroids (apart_of row) in
      let f = is_first ds i (rw size l) u (rw size n) in
      first_listed i f.others f.in_order r h k

front_one : (l : List ℕ) (c : ℕ) → take 1 l ≡ c ∷ [] → (0 < length l) × (get_or l 0 0 ≡ c)
front_one [] c e = let z : ◌≡◌ {A = ℕ} 0 1 = ap length e in absurd (omega arith)
front_one (x ∷ l) c e = (omega arith, cc)

-- Any two results that the contract allows of a call are equal: the answer, and every cell that was lent.
pub same_result : (answer : Answer (List ℕ)) (n : ℕ) (r r' : Result ℕ Refusal) (cells cells' : List ℕ)
    → Gives answer n r cells → Gives answer n r' cells' → (r ≡ r') × (cells ≡ cells')
same_result answer n r r' cells cells' g g' = (told_same (λ (count : ℕ). count) (λ x y e. e) r r' (g.result ∙ sym g'.result), g.listing ∙ sym g'.listing)

-- ---- one call, with its numbers, its row, its centroids one after the other, and how many cells are lent
module _ (epsilon : Float) (replicas dim count : ℕ) (row values : List Float) (n : ℕ) where
  abbrev pub call : Answer (List ℕ)
  call = closure_call epsilon replicas dim count row values n

  abbrev pub centres : List Row
  centres = rows_from dim count values

  abbrev pub indices : List ℕ
  indices = closure epsilon replicas row centres

  abbrev inner : Answer (List ℕ)
  inner = answered epsilon replicas row centres

  -- every number is in range
  abbrev pub ranges : Bool
  ranges = within 1 64 dim && within 0 64 count

  -- every lent slice is as long as the numbers say
  abbrev pub slices : Bool
  slices = eqb (length row) dim && eqb (length values) (count * dim) && eqb n count

  -- there are two or more centroids, and some distance is a NaN
  abbrev pub mixed : Bool
  mixed = unordered (distances row centres)

  abbrev tests : List Bool
  tests = ranges ∷ slices ∷ []

  only_five : (number : ℕ) → inner ≡ refused number → (mixed ≡ true) × (number ≡ 5)
  unfolding answered
  only_five number e = go mixed refl e
    where
      go : (b : Bool) → mixed ≡ b → ◌≡◌ {A = Answer (List ℕ)} (cond b (refused 5) (accepted indices)) (refused number) → (mixed ≡ true) × (number ≡ 5)
      go true m c = let z : 5 ≡ number = cc in (m, sym z)
      go false m c = absurd (not_both indices number c)

  only_indices : (l : List ℕ) → inner ≡ accepted l → (mixed ≡ false) × (l ≡ indices)
  unfolding answered
  only_indices l e = go mixed refl e
    where
      go : (b : Bool) → mixed ≡ b → ◌≡◌ {A = Answer (List ℕ)} (cond b (refused 5) (accepted indices)) (accepted l) → (mixed ≡ false) × (l ≡ indices)
      go true m c = absurd (not_both l 5 (sym c))
      go false m c = let z : indices ≡ l = cc in (m, sym z)

  -- ---- which number refuses the call, and exactly when

  -- Refused by 1 exactly when a number is out of range.
  pub refused_one : (call ≡ refused 1) ↔ (ranges ≡ false)
  unfolding closure_call closure_refusal
  refused_one = fails_exactly tests inner 0 (λ _ e. let z = (only_five 1 e).1 in omega (arith, z))

  -- Refused by 2 exactly when the numbers are in range and a slice is of another length.
  pub refused_two : (call ≡ refused 2) ↔ ((ranges ≡ true) × (slices ≡ false))
  unfolding closure_call closure_refusal
  refused_two = fails_exactly tests inner 1 (λ _ e. let z = (only_five 2 e).1 in omega (arith, z))

  -- Refused by 5 exactly when numbers and slices fit, and there are two or more centroids and some distance is a NaN.
  pub refused_five : (call ≡ refused 5) ↔ ((ranges ≡ true) × ((slices ≡ true) × (mixed ≡ true)))
  unfolding closure_call closure_refusal
  refused_five =
      let w = later_exactly tests inner 5 (omega arith) in
      ((λ c. let t = w.0 c in (t.0.0, (t.0.1.0, (only_five 5 t.1).0))), (λ t. w.1 ((t.0, (t.1.0, tt)), answered_nan epsilon replicas row centres t.1.1)))

  -- Accepted, with the indices, exactly when none of that is so.
  pub accepted_exactly : (call ≡ accepted indices) ↔ ((ranges ≡ true) × ((slices ≡ true) × (mixed ≡ false)))
  unfolding closure_call closure_refusal
  accepted_exactly =
      let w = accepted_exactly_lem tests inner indices in
      ((λ c. let t = w.0 c in (t.0.0, (t.0.1.0, (only_indices indices t.1).0))), (λ t. w.1 ((t.0, (t.1.0, tt)), answered_list epsilon replicas row centres t.1.1)))

  -- No other number refuses a call.
  pub refused_otherwise : (number : ℕ) → call ≡ refused number → (number ≡ 1) ⊎ ((number ≡ 2) ⊎ (number ≡ 5))
  unfolding closure_call closure_refusal
  refused_otherwise number c =
      ⊎_elim
      (λ h. ⊎_elim (λ e. inl e) (λ e. inr (inl e)) (one_or_two number h.0 h.1))
      (λ e. inr (inr (only_five number e).1))
      (refused_by tests inner number c)

  -- ---- what a caller reads in the cells of a call that is told `Ok`

  taken : (l : List ℕ) → call ≡ accepted l → (slices ≡ true) × (inner ≡ accepted l)
  unfolding closure_call closure_refusal
  taken l e = let t = (accepted_exactly_lem tests inner l).0 e in (t.0.1.0, t.1)

  -- what lies behind it
  behind : (listed : ℕ) (cells : List ℕ) → Gives call n (Ok listed) cells
      → ((slices ≡ true) × (mixed ≡ false)) × ((listed ≡ length indices) × (cells ≡ padded blank_cell n indices))
  unfolding on_accepted cells_of
  behind listed cells given = go call refl given.result given.listing
    where
      go : (a : Answer (List ℕ)) → call ≡ a → told (λ (count : ℕ). count) (Ok listed) ≡ on_accepted length a → cells ≡ cells_of blank_cell n (λ (l : List ℕ). l) a
          → ((slices ≡ true) × (mixed ≡ false)) × ((listed ≡ length indices) × (cells ≡ padded blank_cell n indices))
      go (accepted l) e t c =
          let w = taken l e in
          let z : listed ≡ length l = cc in
          let i = only_indices l w.1 in
          ((w.0, i.0), (z ∙ ap length i.1, c ∙ ap (padded blank_cell n) i.1))
      go (refused number) e t c = let z : ◌≡◌ {A = ℕ} 0 1 = cc in absurd (omega arith)

  pub record Cells (listed : ℕ) (cells : List ℕ) : Type 0 where
    -- there is a cell for each centroid; the indices stand in front, at most as many as replicas, and the cells behind them are blank
    pub sized : length cells ≡ count
    pub few : listed ≤ replicas
    pub fit : listed ≤ count
    pub blank : (i : ℕ) → listed ≤ i → i < count → get_or cells i 0 ≡ blank_cell
    -- each is a centroid's, and none stands twice
    pub below : (i : ℕ) → i < listed → get_or cells i 0 < count
    pub distinct : (i j : ℕ) → i < j → j < listed → get_or cells i 0 ≡ get_or cells j 0 → ⊥
    -- none is nearer than one in front of it, nor as near with a lower index
    pub in_order : (i j : ℕ) → i < j → j < listed → nearer (distances row centres) (get_or cells j 0) (get_or cells i 0) ≡ false
    -- where a replica is allowed, epsilon is at least zero and the threshold no NaN, the index than which none is nearer stands first
    pub closest : (c : ℕ) → c < count → ((j : ℕ) → j < count → nearer (distances row centres) j c ≡ false) → 0 < replicas → le zero32 epsilon ≡ true
        → is_nan (reach_of epsilon (get_or (distances row centres) c nan)).threshold ≡ false → (0 < listed) × (get_or cells 0 0 ≡ c)

  pub listed_cells : (listed : ℕ) (cells : List ℕ) → Gives call n (Ok listed) cells → Cells listed cells
  listed_cells listed cells given =
      let b = behind listed cells given in
      let long : listed ≡ length indices = b.1.0 in
      let is : cells ≡ padded blank_cell n indices = b.1.1 in
      let lent : n ≡ count = eqb-true n count (both (eqb (length row) dim && eqb (length values) (count * dim)) (eqb n count) b.0.0).1 in
      let sized : length centres ≡ count = rows_length dim count values in
      let fit : length indices ≤ count = omega (arith, listed_fit epsilon replicas row centres, sized) in
      let at : (i : ℕ) → i < listed → get_or cells i 0 ≡ get_or indices i 0
      = λ i h. ap (λ (l : List ℕ). get_or l i 0) is ∙ padded_at blank_cell n indices i 0 (omega (arith, fit, lent)) (omega (arith, h, long)) in
      record {
        sized = ap length is ∙ (padded_length blank_cell n indices ∙ lent);
        few = omega (arith, long, listed_few epsilon replicas row centres);
        fit = omega (arith, long, fit);
        blank = λ i h k. ap (λ (l : List ℕ). get_or l i 0) is ∙ padded_past blank_cell n indices i 0 (omega (arith, h, long)) (omega (arith, k, lent));
        below = λ i h. rw (at i h) (omega (arith, sized, listed_below epsilon replicas row centres i (omega (arith, h, long))));
        distinct = λ i j h k e. listed_distinct epsilon replicas row centres i j h (omega (arith, k, long)) (sym (at i (omega (arith, h, k))) ∙ (e ∙ at j k));
        in_order = λ i j h k. rw (at i (omega (arith, h, k)), at j k) (pairs_at (λ a b. nearer (distances row centres) b a ≡ false) indices 0 (listed_behind epsilon replicas row centres b.0.1) i j h (omega (arith, k, long)));
        closest = λ c h near r e k.
            let f = front_one indices c (closest_listed epsilon replicas row centres c (omega (arith, h, sized)) (λ j l. near j (omega (arith, l, sized))) b.0.1 r e k) in
            let some : 0 < listed = omega (arith, f.0, long) in
            (some, at 0 some ∙ f.1);
      }
