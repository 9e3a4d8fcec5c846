use Rattle.std.proofs.Common.{◌*◌, length}
use Rattle.std.proofs.lemmas.Result.{err_from_is_err_and}
use Rattle.exports.proofs.Exporting.{listed, refusing}
use Rattle.closure.specs.Call.{closure_call, Gives}
use Rattle.words.specs.Bytes.{floats_from}
use Rattle.exports.proofs.bytes.closure_inside.Goals as goal
use Rattle.exports.proofs.bytes.closure_inside.Goals.{After-assign}

-- what `assign` ensures, of the bytes
assigns : (c : After-assign)
    → let a = c.args in
    Gives (closure_call a.epsilon a.max_replicas a.dim a.count (floats_from a.dim a.vector.now) (floats_from (a.count * a.dim) a.centroids.now) a.count) a.count c.assign.result c.assign.new.cells
assigns c = rw (c.read_all.ensures, c.read_all-2.ensures, c.requires.v_len.0, c.requires.v_len.1.0, c.requires.v_len.1.1) at c.assign.ensures

pub returns-in_err-n : goal.returns-in_err-n
returns-in_err-n c =
    let p = err_from_is_err_and c.from_residual.result c.from_residual.ensures.1 in
    rw (p.1, p.2) (refusing (length c.args.res.now) c.args.count c.assign.new.cells _ _ _ (rw c.in_err-n.was at (assigns (goal.at.returns-in_err-n c).After-assign)) c.requires.res_len.1)

pub returns : goal.returns
returns c = listed (length c.args.res.now) c.args.count c.assign.new.cells _ _ c.in_ok-n.n (rw c.in_ok-n.was at (assigns (goal.at.returns c).After-assign)) c.put_cells.ensures
