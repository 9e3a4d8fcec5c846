use Rattle.sums.specs.Sums.{add_row}
use lib.Ieee.{nan}
use Rattle.std.proofs.Common.{suc, ◌<◌, length, take, sym, ◌∙◌, append-nil, add-one, arith, drop_of_length-le, take_all, drop-cons, take-suc-set, drop-set-lt}
use lib.Seq.{append_snoc}
use Rattle.sums.proofs.math.add_row.Goals as goal

pub loop-i-preserved : goal.loop-i-preserved
unfolding add_row
loop-i-preserved c =
    let d = c.loop-i.sums in
    let i = c.loop-i.i in
    let row = c.args.row.now in
    let p : i < length d = omega arith in
    let q : i < length row = omega arith in
    rw (add-one i, take-suc-set d i _ p, drop-set-lt (suc i) d i _ (omega arith), append_snoc (take i d) _ _) (rw (drop-cons d i nan p, drop-cons row i nan q) at c.loop-i.invariant)

pub returns : goal.returns
unfolding add_row
returns c =
    let e = drop_of_length-le c.loop-i.sums {i = c.loop-i.i} (omega arith) in
    let t = take_all c.loop-i.i c.loop-i.sums (omega arith) in
    sym (append-nil c.loop-i.sums) ∙ rw (e, t) at c.loop-i.invariant
