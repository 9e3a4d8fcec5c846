use Prim.Native.Nat.{◌*◌}
use mathlib.Core.Path.{◌≡◌, sym}
use lib.Seq.{length-take-le}
use lib.ListN.{length, take}
use Rattle.exports.proofs.Exporting.{cells_last}
use native.Mathlib.Omega.{arith}
use Rattle.exports.proofs.bytes.put_cells.Goals as goal

pub slice_bounds-put_all-end-2 : goal.slice_bounds-put_all-end-2
slice_bounds-put_all-end-2 c = sym ((let it : (length (take (length c.args.cells.now * 2) c.args.res.now) ≡ length c.args.cells.now * 2) = (length-take-le (length c.args.cells.now * 2) c.args.res.now (omega (arith, c.requires))) in it))

pub put_all-requires : goal.put_all-requires
put_all-requires c = (let it : (length (take (length c.args.cells.now * 2) c.args.res.now) ≡ length c.args.cells.now * 2) = (length-take-le (length c.args.cells.now * 2) c.args.res.now (omega (arith, c.requires))) in it)

pub returns : goal.returns
returns c = cells_last c.args.cells.now c.args.res.now _ c.args.n c.requires (rw c.put_all.ensures at c.put_at.ensures)
