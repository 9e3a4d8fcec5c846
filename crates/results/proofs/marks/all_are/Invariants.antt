use Rattle.std.proofs.Common.{◌≡◌, drop}
use Rattle.results.specs.Grouping.{all_pass}
use Rattle.results.proofs.marks.all_are.Given as goal

abbrev pub invariant-loop-cell : goal.invariant-loop-cell
invariant-loop-cell g l =
    let test = λ (x : _). g.T.PartialEq.eq x l.v in
    all_pass test (drop l.cell-index l.cells) ≡ all_pass test l.cells
