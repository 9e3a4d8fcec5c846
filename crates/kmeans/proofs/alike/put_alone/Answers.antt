use Rattle.sums.proofs.Rows.{rows_alike, part_put}
use Rattle.sums.specs.Sums.{zero32}
use native.Mathlib.Nat.{le_of_eq}
use mathlib.Core.Path.{◌≡◌, sym, ap, ◌∙◌}
use mathlib.Core.List.{List}
use lib.Ieee.{of_bits}
use lib.ListN.{length, set, replicate}
use Prim.Native.Nat.{ℕ, ◌*◌}
use Rattle.kmeans.proofs.alike.put_alone.Goals as goal

pub returns : goal.returns
unfolding of_bits
returns c =
    let k = length c.args.counts.now in
    let dim = length c.args.sum.now in
    let e : c.fill-2.new.self ≡ replicate (k * dim) zero32 = c.fill-2.ensures.after (λ y e. e) ∙ ap (λ (n : ℕ). replicate n zero32) c.requires.1.1.1 in record { counts_after = (ap (λ (l : List ℕ). set l c.args.c c.args.count) (c.fill.ensures.after (λ y e. e))); totals_after = (part_put dim k c.fill-2.new.self c.args.c c.copy_from_slice.new.self c.requires.0 (le_of_eq (sym (c.fill-2.auto.self ∙ c.requires.1.1.1))) (ap length c.copy_from_slice.ensures.after) ∙ rw (c.copy_from_slice.ensures.after, e, rows_alike dim k zero32)) }
