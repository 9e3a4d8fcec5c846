use native.Mathlib.Nat.{div-le_self}
use Rattle.grouping.proofs.Rounds.{reach_start, reach_on, reach_off, reach_end, moved_total, size_test, giver_has, giver_other}
use Rattle.grouping.proofs.Seeks.{seeking_start, seeking_on, seeking_found, seeking_none}
use Rattle.grouping.specs.PartsInside.{total}
use Rattle.grouping.proofs.Allowances.{allowance}
use borrow.Author.Tests.{lt-ltb, le-ltb}
use lib.Ieee.{of_bits, in_float}
use lib.ListN.{length, get_or}
use lib.Dec.{le→leb}
use mathlib.Core.Logic.{inl, inr}
use mathlib.Core.Path.{refl, sym, ◌∙◌}
use Prim.Native.Nat.{◌/◌, ◌<◌, ◌≤◌}
use native.Mathlib.Omega.{arith}
use Rattle.grouping.proofs.balance.run_rounds.Goals as goal

pub int_to_float-allowance : goal.int_to_float-allowance
unfolding in_float
int_to_float-allowance c =
    let a = c.args in
    let h : length a.part.now / length a.sizes.now ≤ 16777216 = omega (arith, div-le_self (length a.part.now) (length a.sizes.now)) in
    le→leb _ 16777216 h

pub rounds-init : goal.rounds-init
rounds-init c =
    record {
      few = omega arith;
      shared = record { some = c.requires.sizes_nonzero.0; enough = c.requires.sizes_nonzero.1; few = c.requires.parted.few; above = c.requires.weight_value };
      kept = refl;
      kept' = refl;
      whole = c.requires.parted.whole;
      below = c.requires.parted.below;
      so_far = λ ps laid. reach_start _ _ _ ps _ _ laid;
    }

pub loop-i-init : goal.loop-i-init
loop-i-init c = seeking_start _ _

pub loop-i-preserved : goal.loop-i-preserved
unfolding allowance of_bits
loop-i-preserved c = seeking_on c.loop-i.invariant (omega arith) (sym (size_test c.rounds.invariant.shared c.rounds.sizes (omega arith) c.loop-i.i (omega arith)) ∙ c.if-allowance-sizes.false)

pub loop-j-init : goal.loop-j-init
loop-j-init c = seeking_start _ _

pub loop-j-preserved : goal.loop-j-preserved
loop-j-preserved c =
    seeking_on c.loop-j.invariant (omega arith) (le-ltb _ _ (omega (arith, c.if-from-share.false)))

pub give_row-requires : goal.give_row-requires
unfolding allowance of_bits
give_row-requires c =
    let hg : c.loop-i.i < length c.rounds.sizes = omega arith in
    let under : get_or c.rounds.sizes c.loop-j.j 0 < length c.args.part.now / length c.args.sizes.now = omega (arith, c.if-from-share.true) in record { parted = record { below = c.rounds.invariant.below; centred = rw c.rounds.invariant.kept' c.requires.parted.centred; alike = c.requires.parted.alike; whole = c.rounds.invariant.whole; few = rw c.rounds.invariant.kept c.requires.parted.few }; g_in_bounds = ((hg, omega arith, giver_other c.rounds.invariant.shared c.rounds.sizes (omega arith) c.loop-i.i c.loop-j.j hg c.if-allowance-sizes.true under, giver_has c.rounds.invariant.shared c.rounds.sizes (omega arith) c.loop-i.i c.loop-j.j hg c.if-allowance-sizes.true under)) }

pub rounds-preserved : goal.rounds-preserved
unfolding allowance of_bits
rounds-preserved c =
    let hg : c.loop-i.i < length c.rounds.sizes = omega (arith, c.loop-i.invariant.within, c.if-i-sizes.false) in
    let hr : c.loop-j.j < length c.rounds.sizes = omega (arith, c.loop-j.invariant.within, c.if-j-sizes.false) in
    let t : total c.rounds.sizes ≤ length c.args.part.now = omega (arith, c.rounds.invariant.whole, c.rounds.invariant.kept) in
    let under : get_or c.rounds.sizes c.loop-j.j 0 < length c.args.part.now / length c.args.sizes.now = omega (arith, c.if-from-share.true) in
    let eg = seeking_found c.loop-i.invariant hg (sym (size_test c.rounds.invariant.shared c.rounds.sizes t c.loop-i.i hg) ∙ c.if-allowance-sizes.true) in
    let er = seeking_found c.loop-j.invariant hr (lt-ltb _ _ under) in
    record {
      few = omega arith;
      shared = c.rounds.invariant.shared;
      kept = c.give_row.auto.part ∙ c.rounds.invariant.kept;
      kept' = c.give_row.auto.sizes ∙ c.rounds.invariant.kept';
      whole = moved_total c.rounds.part c.rounds.sizes _ c.rounds.invariant.whole c.give_row.ensures.given;
      below = c.give_row.ensures.below;
      so_far = λ ps laid.
          reach_on (c.rounds.invariant.so_far ps laid) (omega (arith, c.rounds-test.true)) c.loop-i.i c.loop-j.j eg er hg hr _ _ c.give_row.ensures.given;
    }

pub returns-after-rounds : goal.returns-after-rounds
returns-after-rounds c = λ ps laid. reach_end (c.rounds.invariant.so_far ps laid) (omega arith)

pub returns-then-i-sizes : goal.returns-then-i-sizes
returns-then-i-sizes c = λ ps laid. reach_off (c.rounds.invariant.so_far ps laid) (omega arith) (inl (seeking_none c.loop-i.invariant (omega arith)))

pub returns-then-j-sizes : goal.returns-then-j-sizes
returns-then-j-sizes c = λ ps laid. reach_off (c.rounds.invariant.so_far ps laid) (omega arith) (inr (seeking_none c.loop-j.invariant (omega arith)))
