-- Lists of numbers below a bound. Assumes nothing.
use Rattle.std.proofs.Common.{ℕ, zero, suc, ◌+◌, ◌<◌, ◌≤◌, Bool, true, false, cond, List, [], ◌∷◌, ◌++◌, map, length, get_or, take, drop, suc-le-suc, le_of_suc-le-suc, not-suc-le-zero, arith, length-drop, length-take-le, get_or-drop, get_or-take}
use Rattle.sums.specs.Cells.{inserted, Below}
use Rattle.sums.specs.Ordering.{place, order_from}
use Rattle.sums.proofs.Inserts.{inserted_among}

pub below_nil : (m : ℕ) → Below m []
below_nil m i h = absurd (not-suc-le-zero h)

pub below_cons : (m x : ℕ) (l : List ℕ) → x < m → Below m l → Below m (x ∷ l)
below_cons m x l h b zero p = h
below_cons m x l h b (suc i) p = b i (le_of_suc-le-suc p)

pub below_head : (m x : ℕ) (l : List ℕ) → Below m (x ∷ l) → x < m
below_head m x l b = b 0 (omega arith)

pub below_tail : (m x : ℕ) (l : List ℕ) → Below m (x ∷ l) → Below m l
below_tail m x l b i p = b (suc i) (suc-le-suc p)

pub below_at : (m count : ℕ) (l : List ℕ) → count ≤ length l → Below m (take count l) → (i : ℕ) → i < count → get_or l i 0 < m
below_at m count l k b i h = rw (get_or-take count l i 0 h) at (b i (rw (length-take-le count l k) h))

pub below_more : (m n : ℕ) (l : List ℕ) → m ≤ n → Below m l → Below n l
below_more m n l h b i p = omega (arith, b i p)

pub below_take : (m n : ℕ) (l : List ℕ) → Below m l → Below m (take n l)
below_take m zero l b = below_nil m
below_take m (suc n) [] b = below_nil m
below_take m (suc n) (x ∷ l) b = below_cons m x (take n l) (below_head m x l b) (below_take m n l (below_tail m x l b))

pub below_append : (m : ℕ) (a b : List ℕ) → Below m a → Below m b → Below m (a ++ b)
below_append m [] b p q = q
below_append m (x ∷ a) b p q = below_cons m x (a ++ b) (below_head m x a p) (below_append m a b (below_tail m x a p) q)

-- each number moved up by `start`
pub below_moved : (m start : ℕ) (l : List ℕ) → Below m l → Below (start + m) (map (λ p. start + p) l)
below_moved m start [] b = below_nil (start + m)
below_moved m start (x ∷ l) b = below_cons (start + m) (start + x) (map (λ p. start + p) l) (omega (arith, below_head m x l b)) (below_moved m start l (below_tail m x l b))

module _ (before : ℕ → ℕ → Bool) where
  pub below_place : (m x : ℕ) (l : List ℕ) → x < m → Below m l → Below m (place before x l)
  unfolding place
  below_place m x [] h b = below_cons m x [] h b
  below_place m x (y ∷ l) h b = go (before x y) (below_place m x l h (below_tail m y l b))
    where
      go : (t : Bool) → Below m (place before x l) → Below m (cond t (x ∷ y ∷ l) (y ∷ place before x l))
      go true r = below_cons m x (y ∷ l) h b
      go false r = below_cons m y (place before x l) (below_head m y l b) r

  pub below_order : (m : ℕ) (held l : List ℕ) → Below m held → Below m l → Below m (order_from before held l)
  unfolding order_from
  below_order m held [] h b = h
  below_order m held (x ∷ l) h b = below_order m (place before x held) l (below_place m x held (below_head m x l b) h) (below_tail m x l b)

pub below_drop : (m n : ℕ) (l : List ℕ) → Below m l → Below m (drop n l)
below_drop m n l b i h = rw (get_or-drop n l i 0) (b (n + i) (omega (arith, length-drop n l)))

pub below_inserted : (m : ℕ) (l : List ℕ) (to last v : ℕ) → to ≤ last → last < length l → Below m (take last l) → v < m
    → Below m (take (last + 1) (inserted l to last v))
below_inserted m l to last v w s b h =
    rw (inserted_among l to last v w s)
    (below_append m (take to (take last l)) (v ∷ drop to (take last l)) (below_take m to (take last l) b) (below_cons m v (drop to (take last l)) h (below_drop m to (take last l) b)))
