-- Words and floats by index; four bytes read. Assumes nothing.
use Prim.Native.Nat.{ℕ, ◌+◌, ◌*◌, ◌≤◌, ◌<◌}
use mathlib.Core.Path.{◌≡◌, refl, ap, ◌∙◌}
use mathlib.Core.List.{List, ◌∷◌, map}
use native.Mathlib.Numerals.{add-one}
use native.Mathlib.Omega.{arith}
use lib.ListN.{length, take, drop, get_or}
use lib.Seq.{drop-cons}
use lib.Ieee.{Float, binary32, of_bits}
use Rattle.words.specs.Bytes.{number_of, u32_at, words_from, floats_from}
use Rattle.words.specs.Laws.{words_tab, floats_tab}
use Rattle.sums.proofs.Tables.{length_tab, get_d_tab}
use Rattle.sums.proofs.Rows.{rows_front}

pub words_length : (n : ℕ) (bytes : List ℕ) → length (words_from n bytes) ≡ n
words_length n bytes = ap length (words_tab n bytes) ∙ length_tab _ n

pub floats_length : (n : ℕ) (bytes : List ℕ) → length (floats_from n bytes) ≡ n
floats_length n bytes = ap length (floats_tab n bytes) ∙ length_tab _ n

pub word_at : (n : ℕ) (bytes : List ℕ) (i : ℕ) → i < n → get_or (words_from n bytes) i 0 ≡ u32_at bytes (i * 4)
word_at n bytes i h = rw (words_tab n bytes) (get_d_tab (λ i. u32_at bytes (i * 4)) n i 0 h)

-- ---- words and floats of a front that has them all
words_front : (n m : ℕ) (bytes : List ℕ) → n * 4 ≤ m → words_from n (take m bytes) ≡ words_from n bytes
words_front n m bytes h = ap (map number_of) (rows_front 4 n m bytes h)

floats_front : (n m : ℕ) (bytes : List ℕ) → n * 4 ≤ m → floats_from n (take m bytes) ≡ floats_from n bytes
floats_front n m bytes h = ap (map (of_bits binary32)) (words_front n m bytes h)

-- what was read into a slice out of so many bytes
pub words_read : (n m count : ℕ) (bytes l : List ℕ) → l ≡ words_from n (take m bytes) → n ≡ count → count * 4 ≤ m → l ≡ words_from count bytes
words_read n m count bytes l e f h = e ∙ rw f (words_front count m bytes h)

pub floats_read : (n m count : ℕ) (bytes : List ℕ) (l : List Float) → l ≡ floats_from n (take m bytes) → n ≡ count → count * 4 ≤ m → l ≡ floats_from count bytes
floats_read n m count bytes l e f h = e ∙ rw f (floats_front count m bytes h)

-- ---- four bytes
pub next : (l : List ℕ) (i j : ℕ) → j ≡ i + 1 → i < length l → drop i l ≡ get_or l i 0 ∷ drop j l
next l i j e h = rw (e, add-one i) (drop-cons l i 0 h)

pub four : (bytes : List ℕ) (at : ℕ) → at + 4 ≤ length bytes
    → u32_at bytes at ≡ get_or bytes at 0 + 256 * (get_or bytes (at + 1) 0 + 256 * (get_or bytes (at + 2) 0 + 256 * get_or bytes (at + 3) 0))
unfolding number_of
four bytes at h =
    ap (λ (l : List ℕ). number_of (take 4 l))
    (next bytes at (at + 1) refl (omega arith)
    ∙ ap (λ (l : List ℕ). get_or bytes at 0 ∷ l)
    (next bytes (at + 1) (at + 2) (omega arith) (omega arith)
    ∙ ap (λ (l : List ℕ). get_or bytes (at + 1) 0 ∷ l)
    (next bytes (at + 2) (at + 3) (omega arith) (omega arith)
    ∙ ap (λ (l : List ℕ). get_or bytes (at + 2) 0 ∷ l) (next bytes (at + 3) (at + 4) (omega arith) (omega arith)))))
    ∙ omega arith
