use Rattle.std.proofs.Common.{◌≡◌, [], length, replicate, refl, sym, ◌∙◌}
use Rattle.std.proofs.lemmas.Result.{err_from_is_err_and}
use Rattle.sums.specs.Refusals.{blank_cell}
use Rattle.sums.proofs.Refusing.{padded_none}
use Rattle.closure.proofs.Laws.{call_refused, call_on, answered_none, gives_refused, gives_list}
use Rattle.closure.proofs.call.assign.Goals as goal
use Rattle.closure.proofs.call.assign.Goals.{After-fill}

-- the cells are blank after `fill`
blanks : (c : After-fill) → c.fill.new.self ≡ replicate (length c.args.cells.now) blank_cell
blanks c = c.fill.ensures.after (λ y e. e)

pub returns-in_err-check : goal.returns-in_err-check
returns-in_err-check c =
    let a = c.args in
    let p = err_from_is_err_and c.from_residual.result c.from_residual.ensures.1 in
    let e = rw c.fill.ensures.len at c.in_err-check.ensures.refused in
    rw (p.1, p.2, call_refused a.epsilon a.max_replicas a.dim a.count a.vector.now a.centroids.now (length a.cells.now) _ e)
    (gives_refused _ (length a.cells.now) _ (blanks (goal.at.returns-in_err-check c).After-fill))

pub returns-then-count-eq0 : goal.returns-then-count-eq0
returns-then-count-eq0 c =
    let a = c.args in
    let e = rw c.fill.ensures.len at c.in_ok-check.ensures.refused in
    rw (call_on a.epsilon a.max_replicas a.dim a.count a.vector.now a.centroids.now (length a.cells.now) (sym e), c.if-count-eq0.true, answered_none a.epsilon a.max_replicas a.dim a.vector.now a.centroids.now)
    (gives_list [] [] (length a.cells.now) 0 _ refl refl (blanks (goal.at.returns-then-count-eq0 c).After-fill ∙ sym (padded_none blank_cell (length a.cells.now))))

pub returns : goal.returns
returns c =
    let a = c.args in
    let e = rw c.fill.ensures.len at c.in_ok-check.ensures.refused in
    rw (call_on a.epsilon a.max_replicas a.dim a.count a.vector.now a.centroids.now (length a.cells.now) (sym e), ← c.new.ensures.1.0, ← c.new.ensures.1.1, ← c.new.ensures.0)
    (rw (c.from.ensures, c.fill.ensures.len) at c.list.ensures)
