-- Lists by their index: the turns of a loop that fills a slice from the front, or goes over it in place. Assumes nothing.
use Rattle.std.proofs.Common.{◌≡◌, ℕ, zero, suc, ◌+◌, ◌<◌, ◌≤◌, List, [], ◌∷◌, ◌++◌, map, length, get_or, take, drop, set, replicate, sym, refl, ap, ◌∙◌, inl, inr, append_assoc, append-nil, le_of_suc-le-suc, not-suc-le-zero, add-zero, add-suc, eq-or-lt_of_le, add-one, arith, length-append, drop_of_length-le, take_all, drop-cons, take-suc, take-suc-set}
use mathlib.Core.List.{map-append}
use lib.ListN.{get_or-append, replicate-append-replicate}
use Rattle.sums.specs.Tables.{tabulate, up_to}
use lib.Seq.{get_or_at, set_at, append_snoc}

module _ {A : Type 0} where
  pub length_tab : (f : ℕ → A) (n : ℕ) → length (tabulate f n) ≡ n
  length_tab f zero = refl
  length_tab f (suc n) = length-append (tabulate f n) (f n ∷ []) ∙ rw (length_tab f n, add-one n)

  pub get_d_tab : (f : ℕ → A) (n i : ℕ) (d : A) → i < n → get_or (tabulate f n) i d ≡ f i
  get_d_tab f zero i d h = absurd (not-suc-le-zero h)
  get_d_tab f (suc n) i d h =
      elim (eq-or-lt_of_le (le_of_suc-le-suc h)) [
        | inl e ↦ rw e (get_or_at (tabulate f n) (f n) [] d n (length_tab f n))
        | inr l ↦ get_or-append (tabulate f n) (f n ∷ []) d i (rw (length_tab f n) l) ∙ get_d_tab f n i d l
      ]

  pub tab_same : (f g : ℕ → A) (n : ℕ) → ((i : ℕ) → i < n → f i ≡ g i) → tabulate f n ≡ tabulate g n
  tab_same f g zero h = refl
  tab_same f g (suc n) h = rw (tab_same f g n (λ i l. h i (omega arith)), h n (omega arith))

  -- a turn of a loop that fills l from the front, and its end
  pub fill_more : (f : ℕ → A) (l : List A) (i : ℕ) (v : A) → i < length l → take i l ≡ tabulate f i → v ≡ f i → take (i + 1) (set l i v) ≡ tabulate f (i + 1)
  fill_more f l i v h e p = rw (add-one i, take-suc-set l i v h, e, p)

  pub fill_done : (f : ℕ → A) (l : List A) (n : ℕ) → length l ≤ n → take n l ≡ tabulate f n → l ≡ tabulate f n
  fill_done f l n h e = sym (take_all n l h) ∙ e

  -- n and then m more
  pub tab_add : (f : ℕ → A) (n m : ℕ) → tabulate f (n + m) ≡ tabulate f n ++ tabulate (λ j. f (n + j)) m
  tab_add f n zero = rw (add-zero, append-nil)
  tab_add f n (suc m) = rw (add-suc n m, tab_add f n m, append_assoc)

  -- the first n of a list, by index
  pub take_tab : (l : List A) (n : ℕ) (d : A) → n ≤ length l → tabulate (λ i. get_or l i d) n ≡ take n l
  take_tab l zero d h = refl
  take_tab l (suc n) d h = rw (take_tab l n d (omega arith), take-suc l n d h)

  -- ---- a loop that goes over l₀ in place: done so far, then what l₀ still has
  pub over_read : (f : ℕ → A) (l₀ : List A) (i : ℕ) (d : A) → i < length l₀ → get_or (tabulate f i ++ drop i l₀) i d ≡ get_or l₀ i d
  over_read f l₀ i d h = rw (drop-cons l₀ i d h) (get_or_at (tabulate f i) (get_or l₀ i d) _ d i (length_tab f i))

  pub over_more : (f : ℕ → A) (l₀ : List A) (i : ℕ) (v : A) → i < length l₀ → v ≡ f i → set (tabulate f i ++ drop i l₀) i v ≡ tabulate f (i + 1) ++ drop (i + 1) l₀
  over_more f l₀ i v h e = rw (e, drop-cons l₀ i (f i) h, add-one i) (set_at (tabulate f i) (get_or l₀ i (f i)) (drop (suc i) l₀) (f i) i (length_tab f i) ∙ sym (append_snoc (tabulate f i) (f i) (drop (suc i) l₀)))

  pub over_done : (f : ℕ → A) (l₀ : List A) (n : ℕ) → length l₀ ≤ n → tabulate f n ++ drop n l₀ ≡ tabulate f n
  over_done f l₀ n h = rw (drop_of_length-le l₀ h, append-nil)

  pub tab_const : (v : A) (n : ℕ) → tabulate (λ i. v) n ≡ replicate n v
  tab_const v zero = refl
  tab_const v (suc n) = rw (tab_const v n) (replicate-append-replicate n 1 v ∙ ap (λ (k : ℕ). replicate k v) (add-one n))

  -- one at the front, and then the rest
  pub tab_front : (f : ℕ → A) (n : ℕ) → tabulate f (suc n) ≡ f 0 ∷ tabulate (λ i. f (suc i)) n
  tab_front f zero = refl
  tab_front f (suc n) = rw (tab_front f n)

module _ {A B : Type 0} where
  pub map_tab : (f : A → B) (g : ℕ → A) (n : ℕ) → map f (tabulate g n) ≡ tabulate (λ i. f (g i)) n
  map_tab f g zero = refl
  map_tab f g (suc n) = map-append f (tabulate g n) (g n ∷ []) ∙ rw (map_tab f g n)

  -- a map by its index
  pub map_index : (f : A → B) (l : List A) (d : A) → map f l ≡ tabulate (λ i. f (get_or l i d)) (length l)
  map_index f [] d = refl
  map_index f (x ∷ l) d = rw (map_index f l d) (sym (tab_front (λ i. f (get_or (x ∷ l) i d)) (length l)))

  pub map_at : (f : A → B) (l : List A) (i : ℕ) (d : A) (e : B) → i < length l → get_or (map f l) i e ≡ f (get_or l i d)
  map_at f l i d e h = rw (map_index f l d) (get_d_tab (λ j. f (get_or l j d)) (length l) i e h)

pub up_length : (n : ℕ) → length (up_to n) ≡ n
up_length n = length_tab (λ i. i) n
