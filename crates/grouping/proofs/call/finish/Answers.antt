use Rattle.grouping.proofs.Acceptances.{taken, cut}
use Rattle.grouping.proofs.Calls.{gives_listed, gives_blank}
use lib.ListN.{length}
use Rattle.grouping.proofs.call.finish.Goals as goal

pub fill_means-requires : goal.fill_means-requires
fill_means-requires c =
    let f = c.requires.means_value.0 in
    let t = taken f.0 (length c.args.order.now) c.in-Ok.counts c.args.order.now c.args.ends.now (rw c.in-Ok.is at f.1) in
    record { means_len = c.requires.means_len; below = (cut t); groups_in_bounds = ((rw c.requires.means_len.1.1.0 t.fits, c.requires.means_value.1)) }

pub returns-in-Ok : goal.returns-in-Ok
returns-in-Ok c =
    λ answer h.
    gives_listed answer c.args.rows c.args.order.now c.args.ends.now (length c.args.means.now) c.in-Ok.counts c.fill_means.new.means c.requires.means_len.1.1.0 (rw c.in-Ok.is at h) c.fill_means.ensures

pub returns-in-Err : goal.returns-in-Err
returns-in-Err c =
    λ answer h.
    gives_blank answer c.args.rows c.args.order.now c.args.ends.now (length c.args.means.now) c.in-Err.refusal _ _ _ (rw c.in-Err.is at h) (c.fill.ensures.after (λ y e. e)) (c.fill-in-Err.ensures.after (λ y e. e)) c.requires.means_value.1
