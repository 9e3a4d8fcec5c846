-- Every accepted grouping is one that the writer takes, whatever the bits of its NaN means. Assumes nothing.
use mathlib.Core.Path.{◌≡◌, refl, sym, ap, ◌∙◌}
use mathlib.Core.Bool.{true, not}
use mathlib.Core.List.{List, ◌∷◌}
use Prim.Native.Nat.{ℕ, ◌≤◌, ◌<◌}
use native.Mathlib.Omega.{arith}
use lib.Dec.{T}
use lib.Ieee.{Float, nan, binary32, of_bits, to_bits, is_nan}
use lib.Ieee.Bits.{to_bits-of_bits}
use lib.ListN.{length, get_or}
use Rattle.sums.specs.Refusals.{Answer, accepted, refused, on_accepted, within}
use Rattle.sums.specs.Sums.{zero32}
use Rattle.sums.proofs.Refusing.{both, within_is}
use Rattle.grouping.specs.declared.config.GroupingConfig.{GroupingConfig}
use Rattle.std.specs.Prelude.{Ok}
use Rattle.sums.specs.Refused.{told}
use Rattle.grouping.specs.declared.waiting.Counts.{Counts}
use Rattle.grouping.specs.Groups.{Groups}
use Rattle.grouping.specs.Answers.{counted, figures}
use Rattle.grouping.specs.Call.{ranges_fit}
use Rattle.grouping.proofs.CallPromises.{passed_exactly, accepted_passed}
use Rattle.grouping.proofs.CellPromises.{Result, called, call_cells, call_means}
use Rattle.results.specs.Grouping.{sound}
use Rattle.results.proofs.Accepteds.{left_sound}

-- the bits of floats as they stand in memory: a NaN has many patterns, every other float one
pub record BitsOf (bits : List ℕ) (floats : List Float) : Type 0 where
  pub as_many : length bits ≡ length floats
  pub each : (i : ℕ) → i < length floats → (get_or bits i 0 < 4294967296) × (of_bits binary32 (get_or bits i 0) ≡ get_or floats i nan)

bits-zero : to_bits binary32 zero32 ≡ 0
unfolding to_bits
bits-zero = refl

zero-finite : T (not (is_nan zero32))
unfolding is_nan
zero-finite = tt

-- +0.0 has one pattern
zero_bits : (n : ℕ) → n < 4294967296 → of_bits binary32 n ≡ zero32 → n ≡ 0
zero_bits n h e = sym (to_bits-of_bits binary32 n h (rw e zero-finite)) ∙ ap (to_bits binary32) e ∙ bits-zero

ranges_are : (rows dim : ℕ) (config : GroupingConfig) → ranges_fit rows dim config ≡ true → (rows ≤ 4096) × ((1 ≤ dim) × (dim ≤ 64))
unfolding ranges_fit
ranges_are rows dim config e =
    let a = both _ _ e in
    let b = both _ _ a.0 in
    let c = both _ _ b.0 in
    let d = both (within 0 4096 rows) (within 1 64 dim) c.0 in
    ((within_is 0 4096 rows d.0).1, within_is 1 64 dim d.1)

module _ (rows dim : ℕ) (config : GroupingConfig) (drawn : List ℕ) (values : List Float) (order_room end_room mean_room : ℕ) (work : List ℕ) where
  accepted_ranges : (counts : Counts) (order ends : List ℕ) (means : List Float)
      → Result rows dim config drawn values order_room end_room mean_room work (Ok counts) order ends means → (rows ≤ 4096) × ((1 ≤ dim) × (dim ≤ 64))
  unfolding on_accepted
  accepted_ranges counts order ends means given = go (called rows dim config drawn values order_room end_room mean_room work) refl given.result
    where
      go : (a : Answer Groups) → called rows dim config drawn values order_room end_room mean_room work ≡ a → told counted (Ok counts) ≡ on_accepted figures a
          → (rows ≤ 4096) × ((1 ≤ dim) × (dim ≤ 64))
      go (accepted g) e t =
          let lent = order_room ∷ end_room ∷ mean_room ∷ work in
          ranges_are rows dim config ((passed_exactly rows dim config drawn values lent).0 (accepted_passed rows dim config drawn values lent g e)).0
      go (refused number) e t = cc

  -- the cells of an accepted call, its means as any bits that stand for them, are sound
  pub grouping_sound : (counts : Counts) (order ends : List ℕ) (means : List Float) (bits : List ℕ)
      → Result rows dim config drawn values order_room end_room mean_room work (Ok counts) order ends means → BitsOf bits means
      → sound (record { rows = rows; dim = dim; groups = counts.groups; order = order; ends = ends; means = bits }) ≡ true
  grouping_sound counts order ends means bits given b =
      let r = accepted_ranges counts order ends means given in
      let c = call_cells rows dim config drawn values order_room end_room mean_room work counts order ends means given in
      let m = call_means rows dim config drawn values order_room end_room mean_room work counts order ends means given in
      left_sound (record { rows = rows; dim = dim; groups = counts.groups; order = order; ends = ends; means = bits })
      (record {
        rows_most = r.0;
        dim_least = r.1.0;
        dim_most = r.1.1;
        once = c.once;
        all = c.all;
        larger = λ i h. omega (arith, c.total i h, (c.sized i h).0);
        last = c.last;
        end_cells = c.cells;
        ends_blank = c.blank;
        most = c.most;
        mean_cells = b.as_many ∙ m.cells;
        means_blank = λ i h k. let n = b.each i (omega (arith, m.cells, k)) in zero_bits (get_or bits i 0) n.0 (n.1 ∙ m.blank i h k);
      })
