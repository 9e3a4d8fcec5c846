use Rattle.kmeans.proofs.Alikes.{rows_one}
use lib.ListN.{length, take, drop, length-drop}
use lib.Seq.{take_all}
use mathlib.Core.Path.{◌≡◌, sym, ◌∙◌}
use Prim.Native.Nat.{◌-◌}
use native.Mathlib.Nat.{zero-mul}
use native.Mathlib.Omega.{arith}
use Rattle.kmeans.proofs.alike.rows_alike.Goals as goal

pub returns : goal.returns
returns c = λ e.
    let r = c.args.rows in
    let v = r.values.now in
    let rest : take (length v - r.dim) (drop r.dim v) ≡ drop r.dim v = take_all (length v - r.dim) (drop r.dim v) (omega (arith, length-drop r.dim v)) in
    rw zero-mul (rows_one r.dim r.count v r.whole (sym rest ∙ c.same_floats.ensures e))
