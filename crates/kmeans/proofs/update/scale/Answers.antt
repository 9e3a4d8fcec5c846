use mathlib.Core.Path.{◌≡◌, refl, sym, ◌∙◌}
use lib.ListN.{length}
use lib.Ieee.{nan, of_bits, binary32, mul, div}
use Rattle.sums.proofs.Tables.{map_index, fill_more, fill_done}
use Rattle.sums.specs.Sums.{one32, count32}
use Rattle.kmeans.specs.Steps.{times_inverse}
use native.Mathlib.Omega.{arith}
use Rattle.kmeans.proofs.update.scale.Goals as goal

pub loop-i-preserved : goal.loop-i-preserved
loop-i-preserved c = fill_more _ c.loop-i.dst c.loop-i.i _ (omega arith) c.loop-i.invariant refl

pub returns : goal.returns
unfolding times_inverse of_bits
returns c =
    let a = c.args in
    let e : length a.from.now ≡ c.loop-i.i = omega arith in
    fill_done _ c.loop-i.dst c.loop-i.i (omega arith) c.loop-i.invariant ∙ sym (map_index (λ s. mul binary32 s (div binary32 one32 (count32 a.count))) a.from.now nan ∙ rw e)
