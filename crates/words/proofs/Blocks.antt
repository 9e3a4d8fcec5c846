-- Numbers of one width in bytes, one after the other: read, written, and read back. Assumes nothing.
use Prim.Native.Nat.{ℕ, zero, suc, ◌+◌, ◌*◌, ◌/◌, ◌%◌, ◌≤◌, ◌<◌}
use mathlib.Core.Path.{◌≡◌, refl, sym, ap, ◌∙◌}
use mathlib.Core.List.{List, [], ◌∷◌, ◌++◌, map, flat_map, append-nil, append_assoc}
use native.Mathlib.Numerals.{add-one}
use native.Mathlib.Nat.{suc-mul, zero-mul}
use native.Mathlib.Omega.{arith}
use lib.ListN.{length, get_or, take, drop, length-append, length-drop}
use lib.Seq.{take-suc, take_at, drop_at, take-add, length-take-le}
use Rattle.sums.specs.Cells.{Below}
use Rattle.sums.specs.Rows.{rows_from}
use Rattle.sums.proofs.Tables.{length_tab}
use Rattle.sums.proofs.Rows.{rows_front}
use Rattle.sums.proofs.Fronts.{flat_append}
use Rattle.sums.proofs.Belows.{below_head, below_tail, below_take, below_drop}
use Rattle.words.specs.Bytes.{number_of, u16_at, halves_from, bytes16, bytes32}
use Rattle.words.specs.Laws.{halves_tab}
use Rattle.words.proofs.ByteLaws.{next}

-- ---- 16 bits by index
pub halves_length : (n : ℕ) (bytes : List ℕ) → length (halves_from n bytes) ≡ n
halves_length n bytes = ap length (halves_tab n bytes) ∙ length_tab _ n

pub two : (bytes : List ℕ) (at : ℕ) → at + 2 ≤ length bytes → u16_at bytes at ≡ get_or bytes at 0 + 256 * get_or bytes (at + 1) 0
unfolding number_of
two bytes at h =
    ap (λ (l : List ℕ). number_of (take 2 l))
    (next bytes at (at + 1) refl (omega arith)
    ∙ ap (λ (l : List ℕ). get_or bytes at 0 ∷ l) (next bytes (at + 1) (at + 2) (omega arith) (omega arith)))
    ∙ omega arith

-- ---- a block: each number as w bytes
front_bytes : (r mid rest : List ℕ) (at w : ℕ) → at ≤ length r → length mid ≡ w → take (at + w) (take at r ++ (mid ++ rest)) ≡ take at r ++ mid
front_bytes r mid rest at w h e =
    rw (← append_assoc (take at r) mid rest)
    (take_at (take at r ++ mid) rest (at + w) (length-append (take at r) mid ∙ rw (length-take-le at r h, e)))

module _ {A : Type 0} (f : A → List ℕ) (w : ℕ) (sized : (x : A) → length (f x) ≡ w) where
  -- a turn of a loop that writes a block
  pub block_more : (cells : List A) (r r' : List ℕ) (i : ℕ) (x : A) → take (i * w) r ≡ flat_map f (take i cells) → i * w + w ≤ length r → i < length cells → x ≡ get_or cells i x
      → r' ≡ take (i * w) r ++ (f x ++ drop (i * w + w) r) → take ((i + 1) * w) r' ≡ flat_map f (take (i + 1) cells)
  unfolding flat_map
  block_more cells r r' i x done room h is e =
      let n : (i + 1) * w ≡ i * w + w = rw (add-one i) (suc-mul i w) in
      let more : take (i + 1) cells ≡ take i cells ++ (x ∷ []) = rw (add-one i) (take-suc cells i x h ∙ ap (λ y. take i cells ++ (y ∷ [])) (sym is)) in
      rw (n, e, more, flat_append f (take i cells) (x ∷ []), append-nil (f x), ← done)
      (front_bytes r (f x) (drop (i * w + w) r) (i * w) w (omega arith) (sized x))

module _ (f : ℕ → List ℕ) (w : ℕ) (sized : (x : ℕ) → length (f x) ≡ w) where
  -- what was written is read
  pub block_read : ((x : ℕ) → number_of (f x) ≡ x) → (l rest : List ℕ) → map number_of (rows_from w (length l) (flat_map f l ++ rest)) ≡ l
  unfolding rows_from flat_map
  block_read back [] rest = refl
  block_read back (x ∷ l) rest =
      rw (append_assoc (f x) (flat_map f l) rest, take_at (f x) (flat_map f l ++ rest) w (sized x), drop_at (f x) (flat_map f l ++ rest) w (sized x), back x, block_read back l rest)

  -- and what is read is written again
  pub block_again : ((l : List ℕ) → length l ≡ w → Below 256 l → f (number_of l) ≡ l) → (n : ℕ) (bytes : List ℕ) → n * w ≤ length bytes → Below 256 bytes
      → flat_map f (map number_of (rows_from w n bytes)) ≡ take (n * w) bytes
  unfolding rows_from flat_map
  block_again again zero bytes h b = rw (zero-mul w)
  block_again again (suc n) bytes h b =
      let k : w + n * w ≤ length bytes = omega (arith, h, suc-mul n w) in
      let e : suc n * w ≡ w + n * w = omega (arith, suc-mul n w) in
      rw (
        again (take w bytes) (length-take-le w bytes (omega (arith, k))) (below_take 256 w bytes b),
        block_again again n (drop w bytes) (rw length-drop (omega (arith, k))) (below_drop 256 w bytes b),
        e,
        take-add w (n * w) bytes,
      )

-- ---- the two widths
pub back16 : (n : ℕ) → number_of (bytes16 n) ≡ n
unfolding number_of
back16 n = omega arith

pub back32 : (n : ℕ) → number_of (bytes32 n) ≡ n
unfolding number_of
back32 n = omega arith

pub again16 : (l : List ℕ) → length l ≡ 2 → Below 256 l → bytes16 (number_of l) ≡ l
unfolding number_of
again16 [] e b = absurd (omega arith)
again16 (x ∷ []) e b = absurd (omega arith)
again16 (x ∷ y ∷ []) e b =
    let h = below_head 256 x (y ∷ []) b in
    let p : (x + 256 * (y + 256 * 0)) % 256 ≡ x = omega arith in
    let q : (x + 256 * (y + 256 * 0)) / 256 ≡ y = omega arith in
    rw (p, q)
again16 (x ∷ y ∷ z ∷ l) e b = absurd (omega arith)

pub again32 : (l : List ℕ) → length l ≡ 4 → Below 256 l → bytes32 (number_of l) ≡ l
unfolding number_of
again32 [] e b = absurd (omega arith)
again32 (x ∷ []) e b = absurd (omega arith)
again32 (x ∷ y ∷ []) e b = absurd (omega arith)
again32 (x ∷ y ∷ z ∷ []) e b = absurd (omega arith)
again32 (x ∷ y ∷ z ∷ u ∷ []) e b =
    let h = below_head 256 x (y ∷ z ∷ u ∷ []) b in
    let i = below_head 256 y (z ∷ u ∷ []) (below_tail 256 x (y ∷ z ∷ u ∷ []) b) in
    let j = below_head 256 z (u ∷ []) (below_tail 256 y (z ∷ u ∷ []) (below_tail 256 x (y ∷ z ∷ u ∷ []) b)) in
    let p : (x + 256 * (y + 256 * (z + 256 * (u + 256 * 0)))) % 256 ≡ x = omega arith in
    let q₁ : (x + 256 * (y + 256 * (z + 256 * (u + 256 * 0)))) / 256 ≡ y + 256 * (z + 256 * u) = omega arith in
    let q : (y + 256 * (z + 256 * u)) % 256 ≡ y = omega (arith, i) in
    let r₁ : (x + 256 * (y + 256 * (z + 256 * (u + 256 * 0)))) / 65536 ≡ z + 256 * u = omega (arith, h, i) in
    let r : (z + 256 * u) % 256 ≡ z = omega (arith, j) in
    let s : (x + 256 * (y + 256 * (z + 256 * (u + 256 * 0)))) / 16777216 ≡ u = omega (arith, h, i, j) in
    rw (p, q₁, q, r₁, r, s)
again32 (x ∷ y ∷ z ∷ u ∷ v ∷ l) e b = absurd (omega arith)

-- halves of a front that has them all
pub halves_front : (n m : ℕ) (bytes : List ℕ) → n * 2 ≤ m → halves_from n (take m bytes) ≡ halves_from n bytes
halves_front n m bytes h = ap (map number_of) (rows_front 2 n m bytes h)

pub halves_read : (n m count : ℕ) (bytes l : List ℕ) → l ≡ halves_from n (take m bytes) → n ≡ count → count * 2 ≤ m → l ≡ halves_from count bytes
halves_read n m count bytes l e f h = e ∙ rw f (halves_front count m bytes h)
