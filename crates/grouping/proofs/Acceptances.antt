-- What the answer of the loop tells of its cells: how its groups stand in the row order and the ends. Assumes nothing.
use mathlib.Core.Path.{◌≡◌, refl, sym, ap, ◌∙◌}
use mathlib.Core.List.{List, ◌∷◌, flatten}
use Prim.Native.Nat.{ℕ, ◌+◌, ◌-◌, ◌≤◌, ◌<◌}
use native.Mathlib.Omega.{arith}
use lib.ListN.{length, get_or, take, replicate}
use lib.Seq.{take_at, get_or-take}
use Rattle.sums.specs.Cells.{Below}
use Rattle.sums.specs.Refusals.{Answer, accepted, refused, on_accepted, padded, blank_cell}
use Rattle.std.specs.Prelude.{Ok}
use Rattle.grouping.specs.declared.waiting.Counts.{Counts}
use Rattle.grouping.specs.Groups.{Groups, ends_from}
use Rattle.grouping.specs.Inside.{Grouped}
use Rattle.grouping.specs.Answers.{counted, figures}
use Rattle.grouping.proofs.Averages.{heads}
use Rattle.sums.proofs.Refusing.{padded_is}
use Rattle.grouping.proofs.Stretches.{part_within, ends_length, start_is, end_is}

-- the acceptance that the code's answer tells of, and its groups as they stand in the row order and the ends
pub record Taken (answer : Answer Groups) (n groups : ℕ) (order ends : List ℕ) : Type 0 where
  pub g : Groups
  pub is : answer ≡ accepted g
  pub many : length g.groups ≡ groups
  pub laid : order ≡ flatten g.groups
  pub cells : ends ≡ padded blank_cell n (ends_from 0 g.groups)
  pub ended : take groups ends ≡ ends_from 0 g.groups
  pub below : Below n order
  pub fits : groups ≤ n

pub taken : (answer : Answer Groups) (n : ℕ) (counts : Counts) (order ends : List ℕ) → Grouped answer n (Ok counts) order ends
    → Taken answer n counts.groups order ends
unfolding on_accepted
taken (accepted g) n counts order ends h =
    let gs = g.groups in
    let l = h.listed g refl in
    let z : ◌≡◌ {A = ℕ × ℕ × ℕ} (counted counts) (figures g) = let r = h.result in cc in
    let m : counts.groups ≡ length gs = ap (λ (f : ℕ × ℕ × ℕ). f.0) z in
    let w : n ≡ length (ends_from 0 gs) + (n - length gs) = omega (arith, l.1.1.1, ends_length 0 gs) in
    record {
      g = g;
      is = refl;
      many = sym m;
      laid = l.0;
      cells = l.1.0;
      ended = rw (m, l.1.0, padded_is blank_cell n (n - length gs) (ends_from 0 gs) w) (take_at (ends_from 0 gs) (replicate (n - length gs) blank_cell) (length gs) (ends_length 0 gs));
      below = l.1.1.0;
      fits = omega (arith, m, l.1.1.1);
    }
taken (refused number) n counts order ends h =
    let r = h.result in
    let z : ◌≡◌ {A = ℕ} 0 1 = cc in
    absurd (omega arith)

pub cut : {answer : Answer Groups} {groups : ℕ} {order ends : List ℕ} → Taken answer (length order) groups order ends
    → Below (length order) order × ((i : ℕ) → i < groups → (get_or (0 ∷ ends) i 0 ≤ get_or ends i 0) × (get_or ends i 0 ≤ length order))
cut {groups = groups} {order = order} {ends = ends} t =
    let gs = t.g.groups in (
      t.below,
      λ i h.
          let s : get_or (0 ∷ ends) i 0 ≡ get_or (0 ∷ ends_from 0 gs) i 0 = sym (heads groups ends i h) ∙ ap (λ (l : List ℕ). get_or (0 ∷ l) i 0) t.ended in
          let e : get_or ends i 0 ≡ get_or (ends_from 0 gs) i 0 = sym (get_or-take groups ends i 0 h) ∙ ap (λ (l : List ℕ). get_or l i 0) t.ended in
          let k : i < length gs = omega (arith, t.many) in
          (omega (arith, s, e, start_is 0 gs i (omega (arith, k)), end_is 0 gs i k), omega (arith, e, end_is 0 gs i k, part_within gs i k, ap length t.laid)),
    )
