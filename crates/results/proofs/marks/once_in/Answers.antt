use Rattle.std.proofs.Common.{length, sym, ◌∙◌}
use Rattle.results.proofs.Tests.{once_not, once_is}
use Rattle.results.proofs.marks.once_in.Goals as goal

pub returns-then-not-count_rows : goal.returns-then-not-count_rows
returns-then-not-count_rows c = once_not (length c.fill.new.self) c.args.order.now (c.fill.ensures.len ∙ c.requires.0) (sym c.count_rows.ensures.value ∙ c.if-not-count_rows.true)

pub returns : goal.returns
returns c =
    let t = c.if-not-count_rows.false in
    once_is (length c.fill.new.self) c.args.order.now c.count_rows.new.seen c.all_are.result (c.fill.ensures.len ∙ c.requires.0) (sym c.count_rows.ensures.value ∙ t) (c.count_rows.ensures.seen_after t) c.all_are.ensures
