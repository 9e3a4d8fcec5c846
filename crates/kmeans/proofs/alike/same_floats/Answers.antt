use Rattle.kmeans.proofs.Alikes.{bits_same, same_more, same_end}
use lib.Ieee.{binary32}
use mathlib.Core.Path.{sym, ◌∙◌}
use Rattle.kmeans.proofs.alike.same_floats.Goals as goal

pub loop-j-preserved : goal.loop-j-preserved
loop-j-preserved c =
    let e = sym c.bits_of.ensures ∙ (c.if-bits_of.false ∙ c.bits_of-in-loop-j.ensures) in
    same_more c.args.a.now c.args.b.now c.loop-j.j c.requires c.loop-j-test.true c.loop-j.invariant (bits_same binary32 _ _ (c.type_inv.a c.loop-j.j) (c.type_inv.b c.loop-j.j) e)

pub returns : goal.returns
returns c = λ e. same_end c.args.a.now c.args.b.now _ c.requires c.loop-j-test.false c.loop-j.invariant
