use Rattle.std.proofs.Common.{◌≡◌, ℕ, Option, length, List, take, replicate, ap, ◌∙◌, arith, length-take-le}
use mathlib.Core.Path.{subst}
use lib.Ieee.{binary32, of_bits}
use Rattle.sums.specs.Refusals.{Answer}
use Rattle.labels.specs.declared.nearest.Nearest.{Nearest}
use Rattle.labels.specs.Call.{label_call, Gives}
use Rattle.labels.proofs.Calls.{room_enough}
use Rattle.labels.proofs.call.label_rows.Goals as goal

pub returns : goal.returns
returns c =
    let a = c.args in
    let n = length a.labels.now in
    let lent : length (take c.min-n.result (replicate 4096 (of_bits binary32 0))) ≡ c.min-n.result
    = length-take-le c.min-n.result (replicate 4096 (of_bits binary32 0)) (omega (arith, c.min-n.ensures)) in
    subst (λ (answer : Answer (List (Option Nearest))). Gives answer n c.place_rows.result c.place_rows.new.labels)
    (ap (λ (m : ℕ). label_call a.mode a.rows a.dim a.k a.values.now a.centroids.now n m) (lent ∙ c.min-n.ensures)
    ∙ room_enough a.mode a.rows a.dim a.k a.values.now a.centroids.now n)
    c.place_rows.ensures.fact
