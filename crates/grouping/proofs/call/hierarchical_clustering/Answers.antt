use Rattle.std.proofs.Common.{◌≡◌, ℕ, [], ◌∷◌, List, length, sym}
use lib.Ieee.{of_bits}
use Rattle.sums.specs.Refused.{number_in}
use Rattle.grouping.proofs.Calls.{gives_refused, gives_called}
use Rattle.grouping.specs.Call.{grouping_refusal}
use Rattle.grouping.proofs.call.hierarchical_clustering.Goals as goal
use Rattle.grouping.proofs.call.hierarchical_clustering.Goals.{After-check, in-Ok, in-Err}

-- the number by the lengths at the call
number_is : (r : After-check) → let a = r.args in
    number_in r.check.result ≡ grouping_refusal a.rows a.dim a.config (length a.draws.now) (length a.values.now) (length a.order.now ∷ length a.ends.now ∷ length a.means.now ∷ length a.gathered.now ∷ length a.training.now ∷ [])
number_is r = rw (r.fill.auto.self, r.fill-2.auto.self, r.fill-3.auto.self) at r.check.ensures.refused

pub returns-clause-fact : goal.returns-clause-fact
unfolding of_bits
returns-clause-fact c =
    let a = c.args in
    let lent : List ℕ = length a.order.now ∷ length a.ends.now ∷ length a.means.now ∷ length a.gathered.now ∷ length a.training.now ∷ [] in
    let n = number_is (goal.at.returns-clause-fact c).After-check in
    elim c.match-check.branch [
      | in-Ok w ↦
          let z : 0 ≡ grouping_refusal a.rows a.dim a.config (length a.draws.now) (length a.values.now) lent = rw w.in-Ok.is at n in
          rw (w.given-is, w.order-is, w.ends-is, w.means-is)
          (gives_called a.rows a.dim a.config a.draws.now a.values.now lent _ _ _ (sym z) (rw (c.fill.auto.self, c.fill-2.auto.self, c.fill-3.auto.self) at w.answer-given.ensures))
      | in-Err w ↦
          rw (w.given-is, w.order-is, w.ends-is, w.means-is)
          (gives_refused a.rows a.dim a.config a.draws.now a.values.now lent _ _ _ w.in-Err.refusal _ _ _ (rw w.in-Err.is at n) (c.fill.ensures.after (λ y e. e)) (c.fill-2.ensures.after (λ y e. e)) (c.fill-3.ensures.after (λ y e. e)))
    ]
