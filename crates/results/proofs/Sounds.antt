-- What a sound grouping is, part by part. Assumes nothing.
use Prim.Native.Nat.{ℕ, ◌*◌, ◌≤◌}
use mathlib.Core.Path.{◌≡◌}
use mathlib.Core.Bool.{true}
use mathlib.Core.List.{[], ◌∷◌}
use borrow.Author.Tests.{leb-true, le-leb, eq-eqb}
use lib.ListN.{length, take, drop}
use Rattle.sums.specs.Refusals.{within, same_all, blank_cell}
use Rattle.sums.proofs.Refusing.{both, within_is, same_cons}
use Rattle.results.specs.Grouping.{Stored, all_are, each_once, rising, numbers_fit, cells_lent, content_fits, sound}

-- what the tests of the numbers and of the lengths say
pub record Numbers (rows dim : ℕ) : Type 0 where
  pub few : rows ≤ 4096
  pub some : 1 ≤ dim
  pub narrow : dim ≤ 64

pub numbers_is : (rows dim : ℕ) → numbers_fit rows dim ≡ true → Numbers rows dim
unfolding numbers_fit
numbers_is rows dim e =
    let h = both (within 0 4096 rows) (within 1 64 dim) e in
    let r = within_is 0 4096 rows h.0 in
    let d = within_is 1 64 dim h.1 in
    record { few = r.1; some = d.0; narrow = d.1 }

pub record Lengths (rows dim order ends means : ℕ) : Type 0 where
  pub order_long : order ≡ rows
  pub ends_long : ends ≡ rows
  pub means_long : means ≡ rows * dim

pub lengths_is : (rows dim order ends means : ℕ) → same_all (order ∷ ends ∷ means ∷ []) (cells_lent rows dim) ≡ true → Lengths rows dim order ends means
lengths_is rows dim order ends means e =
    let a = same_cons order rows (ends ∷ means ∷ []) (rows ∷ rows * dim ∷ []) e in
    let b = same_cons ends rows (means ∷ []) (rows * dim ∷ []) a.1 in
    let c = same_cons means (rows * dim) [] [] b.1 in
    record { order_long = a.0; ends_long = b.0; means_long = c.0 }

pub is_lengths : (rows dim order ends means : ℕ) → Lengths rows dim order ends means → same_all (order ∷ ends ∷ means ∷ []) (cells_lent rows dim) ≡ true
unfolding same_all
is_lengths rows dim order ends means l =
    rw (eq-eqb order rows l.order_long, eq-eqb ends rows l.ends_long, eq-eqb means (rows * dim) l.means_long)

pub record Content (t : Stored) : Type 0 where
  pub fewer : t.groups ≤ t.rows
  pub once : each_once t.rows t.order ≡ true
  pub rise : rising 0 (take t.groups t.ends) t.rows ≡ true
  pub ends_blank : all_are blank_cell (drop t.groups t.ends) ≡ true
  pub means_blank : all_are 0 (drop (t.groups * t.dim) t.means) ≡ true

pub content_is : (t : Stored) → content_fits t ≡ true → Content t
unfolding content_fits
content_is t e =
    let a = both _ _ e in
    let b = both _ _ a.0 in
    let c = both _ _ b.0 in
    let d = both _ _ c.0 in
    record { fewer = leb-true t.groups t.rows d.0; once = d.1; rise = c.1; ends_blank = b.1; means_blank = a.1 }

pub is_content : (t : Stored) → Content t → content_fits t ≡ true
unfolding content_fits
is_content t c = rw (le-leb t.groups t.rows c.fewer, c.once, c.rise, c.ends_blank, c.means_blank)

pub record Sound (t : Stored) : Type 0 where
  pub numbers : Numbers t.rows t.dim
  pub lengths : Lengths t.rows t.dim (length t.order) (length t.ends) (length t.means)
  pub content : Content t

pub sound_is : (t : Stored) → sound t ≡ true → Sound t
unfolding sound
sound_is t e =
    let a = both _ _ e in
    let b = both (numbers_fit t.rows t.dim) _ a.0 in
    record { numbers = numbers_is t.rows t.dim b.0; lengths = lengths_is t.rows t.dim (length t.order) (length t.ends) (length t.means) b.1; content = content_is t a.1 }

-- where numbers and lengths fit, soundness is the content's
pub sound_content : (t : Stored) → numbers_fit t.rows t.dim ≡ true → Lengths t.rows t.dim (length t.order) (length t.ends) (length t.means) → sound t ≡ content_fits t
unfolding sound
sound_content t n l = rw (n, is_lengths t.rows t.dim (length t.order) (length t.ends) (length t.means) l)

pub sound_numbers : (t : Stored) → sound t ≡ true → numbers_fit t.rows t.dim ≡ true
unfolding sound
sound_numbers t e = (both (numbers_fit t.rows t.dim) _ (both _ _ e).0).0
