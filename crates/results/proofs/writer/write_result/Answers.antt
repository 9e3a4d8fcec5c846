use Rattle.std.proofs.Common.{◌≡◌, length, replicate, Err, sym, ◌∙◌, rules}
use Rattle.results.specs.Grouping.{Stored, stored}
use Rattle.results.specs.Calls.{write_refusal}
use Rattle.results.proofs.Sounds.{numbers_is, content_is}
use Rattle.results.proofs.Answers.{write_refused, write_bad, write_good, Fitting, fitting}
use Rattle.results.proofs.writer.write_result.Goals as goal
use Rattle.results.proofs.writer.write_result.Goals.{In_ok-check}

abbrev given : In_ok-check → Stored
given c = stored c.args.rows c.args.dim c.args.groups c.args.order.now c.args.ends.now c.args.means.now

none : (c : In_ok-check) → let t = given c in write_refusal t.rows t.dim t.groups (length t.order) (length t.ends) (length t.means) (length c.args.out.now) ≡ 0
none c = rw c.fill.ensures.len at (sym c.in_ok-check.ensures)

fits : (c : In_ok-check) → Fitting (given c) (length c.args.out.now)
fits c = fitting (given c) (length c.args.out.now) (none c)

pub returns-in_err-check : goal.returns-in_err-check
returns-in_err-check c =
    let e : c.from_residual.result ≡ Err c.in_err-check.field-0.0 = search rules in
    let zeros : c.fill.new.self ≡ replicate (length c.args.out.now) 0 = search rules in
    rw e (write_refused (stored c.args.rows c.args.dim c.args.groups c.args.order.now c.args.ends.now c.args.means.now) (length c.args.out.now) _ _ (rw c.fill.ensures.len at c.in_err-check.ensures) zeros)

pub content_fits-requires : goal.content_fits-requires
content_fits-requires c =
    let f = fits c in
    let n = numbers_is c.args.rows c.args.dim f.numbers in
    (n.few, (n.narrow, (f.lengths.order_long, (f.lengths.ends_long, f.lengths.means_long))))

pub returns-then-not-content_fits : goal.returns-then-not-content_fits
returns-then-not-content_fits c =
    let k = (goal.at.returns-then-not-content_fits c).In_ok-check in
    let zeros : c.fill.new.self ≡ replicate (length c.args.out.now) 0 = search rules in
    write_bad (given k) (length c.args.out.now) (none k) _ (sym c.content_fits.ensures ∙ c.if-not-content_fits.true) zeros

pub put_file-requires : goal.put_file-requires
put_file-requires c =
    let k = (goal.at.put_file-requires c).In_ok-check in
    let f = fits k in
    let n = numbers_is c.args.rows c.args.dim f.numbers in
    let t = content_is (given k) (sym c.content_fits.ensures ∙ c.if-not-content_fits.false) in
    record { rows_bound = (n.few, (n.narrow, (t.fewer, (f.lengths.order_long, (f.lengths.ends_long, f.lengths.means_long))))); out_len = c.fill.ensures.len ∙ f.out_long }

pub returns : goal.returns
returns c =
    let k = (goal.at.returns c).In_ok-check in
    write_good (given k) (length c.args.out.now) (none k) _ (sym c.content_fits.ensures ∙ c.if-not-content_fits.false) c.put_file.ensures
