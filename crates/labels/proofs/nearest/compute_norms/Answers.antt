use Rattle.std.proofs.Common.{◌≡◌, sym, ◌∙◌, arith}
use Rattle.sums.proofs.Tables.{fill_done}
use Rattle.sums.proofs.Rows.{map_rows}
use Rattle.sums.specs.Sums.{norm_of}
use Rattle.labels.proofs.nearest.compute_norms.Goals as goal

pub returns : goal.returns
returns c =
    let r = c.args.rows in
    let e : r.count ≡ c.loop-i.i = omega arith in
    fill_done _ c.loop-i.norms c.loop-i.i (omega arith) c.loop-i.invariant ∙ rw (← e) (sym (map_rows norm_of r.dim r.count r.values.now))
