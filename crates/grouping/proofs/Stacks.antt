-- The turns of `push`: what is written on the stack, and what is left to write, is the whole. Assumes nothing.
use mathlib.Core.Path.{◌≡◌, refl, sym, ap, ◌∙◌}
use mathlib.Core.List.{List, [], ◌∷◌, ◌++◌, append-nil}
use Prim.Native.Nat.{ℕ, zero, suc, ◌+◌, ◌-◌, ◌≤◌, ◌<◌}
use native.Mathlib.Numerals.{add-one}
use native.Mathlib.Omega.{arith}
use lib.ListN.{length, take, drop, set, get_or, length-append, length-take, length-set, drop_of_length-le}
use lib.Seq.{drop-cons, take-suc-set, length-take-le, append_snoc}
use Rattle.grouping.specs.PartsInside.{total}
use Rattle.grouping.proofs.Layouts.{total_at}
use Rattle.grouping.specs.Inside.{pushes}

-- General: a list written from the front; `rest` is left to write.
pub record Writing (whole s₀ s : List ℕ) (i : ℕ) (rest : List ℕ) : Type 0 where
  pub fits : i ≤ length s
  pub kept : length s ≡ length s₀
  pub done : take i s ++ rest ≡ whole

module _ {whole s₀ s : List ℕ} {i v : ℕ} {rest : List ℕ} (room : length whole ≤ length s₀) (h : Writing whole s₀ s i (v ∷ rest)) where
  write_room : i < length s
  write_room = omega (arith, h.kept, simp (length-append, length-take-le i s h.fits) at (ap length h.done))

  write_on : Writing whole s₀ (set s i v) (i + 1) rest
  write_on =
      let r : i < length s = write_room in
      record {
        fits = simp length-set (omega arith);
        kept = length-set s i v ∙ h.kept;
        done = rw (add-one i, take-suc-set, append_snoc) h.done;
      }

module _ {whole s₀ s : List ℕ} {i : ℕ} (h : Writing whole s₀ s i []) where
  write_end : take i s ≡ whole
  write_end = sym (append-nil (take i s)) ∙ h.done

  write_count : i ≡ length whole
  write_count = sym (length-take-le i s h.fits) ∙ ap length write_end

write_as : {whole s₀ s : List ℕ} {i : ℕ} {rest rest' : List ℕ} → rest ≡ rest' → Writing whole s₀ s i rest → Writing whole s₀ s i rest'
write_as e h = rw e at h

pushes_some : (e x : ℕ) (ss : List ℕ) → 0 < x → pushes e (x ∷ ss) ≡ e ∷ pushes (e - x) ss
unfolding pushes
pushes_some e zero ss h = absurd (omega arith)
pushes_some e (suc n) ss h = refl

pushes_none : (e x : ℕ) (ss : List ℕ) → x ≤ 0 → pushes e (x ∷ ss) ≡ pushes e ss
unfolding pushes
pushes_none e zero ss h = refl
pushes_none e (suc n) ss h = absurd (omega arith)

-- The sizes from c on are left to push, the next part ending at e.
pub record Pushing (top end : ℕ) (sizes w₀ w : List ℕ) (t e c : ℕ) : Type 0 where
  pub written : Writing (take top w₀ ++ pushes end sizes) w₀ w t (pushes e (drop c sizes))
  pub covers : total (drop c sizes) ≤ e
  pub under : e ≤ end

pub pushing_start : (top end : ℕ) (sizes w : List ℕ) → top ≤ length w → total sizes ≤ end → Pushing top end sizes w w top end 0
pushing_start top end sizes w h k = record { written = record { fits = h; kept = refl; done = refl }; covers = k; under = omega arith }

module _ {top end : ℕ} {sizes w₀ w : List ℕ} {t e c : ℕ} (h : Pushing top end sizes w₀ w t e c) where
  pub pushing_end : length sizes ≤ c → top ≤ length w₀ → (t ≡ top + length (pushes end sizes)) × (take t w ≡ take top w₀ ++ pushes end sizes)
  unfolding pushes
  pushing_end p q =
      let k = write_as (ap (pushes e) (drop_of_length-le sizes {i = c} p)) h.written in
      (write_count k ∙ simp length-append (omega (arith, length-take-le top w₀ q)), write_end k)

  module _ (p : c < length sizes) where
    pub pushing_less : get_or sizes c 0 ≤ e
    pushing_less = omega (arith, total_at c sizes p, h.covers)

    pub pushing_none : get_or sizes c 0 ≤ 0 → Pushing top end sizes w₀ w t e (c + 1)
    pushing_none z = record {
      written = rw (add-one c) (write_as (ap (pushes e) (drop-cons sizes c 0 p) ∙ pushes_none e (get_or sizes c 0) (drop (suc c) sizes) z) h.written);
      covers = rw (add-one c) (omega (arith, total_at c sizes p, h.covers));
      under = h.under;
    }

    module _ (room : top + length (pushes end sizes) ≤ length w₀) (z : 0 < get_or sizes c 0) where
      next : Writing (take top w₀ ++ pushes end sizes) w₀ w t (e ∷ pushes (e - get_or sizes c 0) (drop (suc c) sizes))
      next = write_as (ap (pushes e) (drop-cons sizes c 0 p) ∙ pushes_some e (get_or sizes c 0) (drop (suc c) sizes) z) h.written

      fits : length (take top w₀ ++ pushes end sizes) ≤ length w₀
      fits = simp (length-append, length-take) (omega arith)

      pub pushing_room : t < length w
      pushing_room = write_room fits next

      pub pushing_some : Pushing top end sizes w₀ (set w t e) (t + 1) (e - get_or sizes c 0) (c + 1)
      pushing_some = record {
        written = rw (add-one c) (write_on fits next);
        covers = rw (add-one c) (omega (arith, total_at c sizes p, h.covers));
        under = omega (arith, h.under);
      }
