-- The turns of `Draws::pick`. Assumes nothing.
use Rattle.std.proofs.Common.{◌≡◌, ℕ, zero, suc, ◌+◌, ◌-◌, ◌%◌, ◌<◌, ◌≤◌, Bool, true, false, eqb, List, [], ◌∷◌, length, get_or, set, refl, ◌∙◌, add-zero, add-suc, mod-lt, add-one, arith, length-set, length-take-le, get_or-set_other, get_or-set_same, eqb-true}
use borrow.Author.Tests.{eqb-false}
use Rattle.std.specs.List.{swap}
use Rattle.std.proofs.lemmas.List.{get_or_default}
use Rattle.sums.specs.declared.cursor.Draws.{Draws}
use Rattle.sums.proofs.Tables.{get_d_tab, up_length}
use Rattle.sums.proofs.Belows.{below_take}
use Rattle.sums.specs.Tables.{up_to}
use Rattle.sums.specs.Cells.{Below}
use Rattle.sums.specs.Draws.{drawn, exchange, exchanges_from, pick, cursor_at, Drawn}

pub below_up : (m : ℕ) → Below m (up_to m)
below_up m i h = let l : i < m = rw (up_length m) at h in rw (get_d_tab (λ n. n) m i 0 l) l

pub below_set : (m : ℕ) (l : List ℕ) (i v : ℕ) → Below m l → v < m → Below m (set l i v)
below_set m l i v b h k p = go (eqb k i) refl
  where
    q : k < length l
    q = rw length-set at p

    go : (t : Bool) → eqb k i ≡ t → get_or (set l i v) k 0 < m
    go true e = let s : k ≡ i = eqb-true k i e in rw s (let r : i < length l = omega (arith, q) in rw (get_or-set_same l i v 0 r) h)
    go false e = rw (get_or-set_other l i k v 0 (eqb-false k i e)) (b k q)

-- the library's exchange is the definition's
swap_is : (i j : ℕ) (places : List ℕ) → i < length places → j < length places → swap places i j ≡ exchange i j places
unfolding exchange
swap_is i j [] h k = absurd (omega arith)
swap_is i j (d ∷ l) h k = rw (get_or_default (d ∷ l) i d 0 h, get_or_default (d ∷ l) j d 0 k) refl

-- i places are picked: those left make of the places what all were to make of them
pub record Picking (old : Draws) (count m : ℕ) (places : List ℕ) (now : Draws) (i : ℕ) : Type 0 where
  pub kept : now.list.now ≡ old.list.now
  pub sized : length places ≡ m
  pub below : Below m places
  pub steps : (n : ℕ) → old.cursor ≡ cursor_at old.list.now n → (exchanges_from old.list.now m (n + i) i (count - i) places ≡ exchanges_from old.list.now m n 0 count (up_to m)) × (now.cursor ≡ cursor_at old.list.now (n + i))

pub picking_begin : (old : Draws) (count l : ℕ) (places : List ℕ) → places ≡ up_to l → Picking old count (length places) places old 0
picking_begin old count l places e =
    let n : length (up_to l) ≡ l = up_length l in
    rw (e, n) (record {
      kept = refl;
      sized = n;
      below = below_up l;
      steps = λ n p. let z : count - 0 ≡ count = omega arith in rw (add-zero, z) (refl, p);
    })

module _ {old : Draws} {count m : ℕ} {places : List ℕ} {now : Draws} {i : ℕ} (h : Picking old count m places now i) where
  pub picking_end : i ≡ count → Below m places × Drawn old now places (λ n. exchanges_from old.list.now m n 0 count (up_to m)) (λ n. n + count)
  unfolding exchanges_from
  picking_end e =
      let z : count - count ≡ 0 = omega arith in
      (h.below, record { kept = h.kept; steps = λ n p. (rw (e, z) at (h.steps n p).0, rw e at (h.steps n p).1) })

  exchanged : (x j : ℕ) (after : Draws) → i < count → j < m → j ≡ i + x % (m - i) → Drawn now after x (λ n. drawn now.list.now n) (λ n. suc n) → Picking old count m (exchange i j places) after (i + 1)
  unfolding exchange exchanges_from
  exchanged x j after l k e d =
      record {
        kept = d.kept ∙ h.kept;
        sized = simp length-set h.sized;
        below = below_set m (set places i (get_or places j 0)) j (get_or places i 0) (below_set m places i (get_or places j 0) h.below (h.below j (omega (arith, h.sized, k)))) (h.below i (omega (arith, h.sized, k, e)));
        steps = λ n p.
            let w = rw h.kept at (d.steps (n + i) (rw h.kept (h.steps n p).1)) in
            let z : count - i ≡ suc (count - suc i) = omega arith in
            let g : j ≡ i + drawn old.list.now (n + i) % (m - i) = e ∙ rw w.0 refl in
            (rw (add-one i, add-suc n i, g) (rw z at (h.steps n p).0), rw (add-one i, add-suc n i) w.1);
      }

  pub picking_step : (x j : ℕ) (after : Draws) → i < count → count ≤ m → j ≡ i + x % (m - i) → Drawn now after x (λ n. drawn now.list.now n) (λ n. suc n) → Picking old count m (swap places i j) after (i + 1)
  picking_step x j after l fits e d =
      let k : j < m = omega (arith, mod-lt x {m = m - i} (omega arith)) in
      rw (swap_is i j places (omega (arith, h.sized)) (omega (arith, h.sized))) (exchanged x j after l k e d)

-- ---- picks: as many as asked for
module _ (draws : List ℕ) (m : ℕ) where
  exchanges_length : (n i c : ℕ) (places : List ℕ) → length (exchanges_from draws m n i c places) ≡ length places
  unfolding exchange exchanges_from
  exchanges_length n i zero places = refl
  exchanges_length n i (suc c) places = exchanges_length (suc n) (suc i) c (exchange i (i + drawn draws n % (m - i)) places) ∙ simp length-set

  pub pick_length : (n c : ℕ) → c ≤ m → length (pick draws n c m) ≡ c
  unfolding pick
  pick_length n c h = length-take-le c (exchanges_from draws m n 0 c (up_to m)) (omega (arith, exchanges_length n 0 c (up_to m), up_length m))

  -- ---- and each below the number that they are picked from
  exchanges_below : (n i c : ℕ) (places : List ℕ) → length places ≡ m → i + c ≤ m → Below m places → Below m (exchanges_from draws m n i c places)
  unfolding exchange exchanges_from
  exchanges_below n i zero places l h b = b
  exchanges_below n i (suc c) places l h b =
      let j = i + drawn draws n % (m - i) in
      let k : j < m = omega (arith, mod-lt (drawn draws n) {m = m - i} (omega (arith, h))) in
      exchanges_below (suc n) (suc i) c (exchange i j places) (simp length-set l) (omega (arith, h))
      (below_set m (set places i (get_or places j 0)) j (get_or places i 0) (below_set m places i (get_or places j 0) b (b j (omega (arith, k, l)))) (b i (omega (arith, h, l))))

  pub pick_below : (n c : ℕ) → c ≤ m → Below m (pick draws n c m)
  unfolding pick
  pick_below n c h = below_take m c (exchanges_from draws m n 0 c (up_to m)) (exchanges_below n 0 c (up_to m) (up_length m) (omega (arith, h)) (below_up m))
