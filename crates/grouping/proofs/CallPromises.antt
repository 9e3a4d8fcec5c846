-- What a grouping call promises: which number refuses it and when, the rows it lists, how many it counts unplaced, and what a budget and the mode can
-- change. Assumes nothing.
use mathlib.Core.Path.{◌≡◌, refl, sym, ap, ◌∙◌}
use mathlib.Core.Logic.{◌↔◌, ◌⊎◌, inl, inr}
use mathlib.Core.Bool.{Bool, true, false, ◌&&◌, false≢true}
use mathlib.Core.List.{List, [], ◌∷◌}
use Prim.Native.Nat.{ℕ, zero, suc, ◌*◌, ◌≤◌, ◌<◌}
use native.Mathlib.Nat.{mul-le-mul}
use native.Mathlib.Omega.{arith}
use borrow.Author.Tests.{le-leb}
use lib.Ieee.{Float}
use lib.ListN.{length}
use Rattle.sums.specs.Tables.{up_to}
use Rattle.sums.specs.Rows.{rows_from}
use Rattle.sums.proofs.Rows.{rows_length}
use Rattle.sums.specs.Refusals.{Answer, accepted, refused, within, unless, on_accepted}
use Rattle.sums.proofs.Refusing.{both, passed, lowest_none, lowest_when, lowest_most, lowest_only}
use Rattle.labels.specs.declared.mode.Mode.{Mode}
use Rattle.labels.specs.declared.mode.Mode.TheVariants.{Strict, OldWay}
use Rattle.grouping.specs.declared.config.GroupingConfig.{GroupingConfig}
use Rattle.grouping.specs.Groups.{Rule, rule_of, Groups, parts_of, made_by, lost_by, waits, grouping, group_from}
use Rattle.grouping.specs.Call.{ranges_fit, lengths_fit, grouping_refusal, grouping_call}
use Rattle.grouping.proofs.GroupPromises.{Listing, Passes, Comes, Small, Spent, Barred, Done, six_when, six_only, seven_when, seven_only, nine_when, nine_only, accepted_when, accepted_only, Ends, splits_only, splits_when, only_six_seven_or_nine, budget_accepted, budget_six, budget_nine, one_long, accepted_listing, accepted_unplaced, lost_on, unplaced_summed}
use Rattle.grouping.proofs.Before.{group_before}
use Rattle.grouping.proofs.ModePromises.{strict_or_nine, strict_accepted, old_never_nine, old_before, listed_of, lost_aside}
use Rattle.grouping.proofs.Splits.{lost_few}
use Rattle.grouping.proofs.Calls.{Ranged, ranged}
use Rattle.grouping.proofs.SplitPromises.{start, parts_kept, Splits, SplitPromise, each_split}

-- The numbers that a grouping call can be refused by.
pub data Number : ℕ → Type 0 where
  range : Number 1
  slice : Number 2
  draw : Number 4
  small : Number 6
  spent : Number 7
  unplaced : Number 9

-- the budget alone may be another in range
abbrev pub with_budget : GroupingConfig → ℕ → GroupingConfig
with_budget config n = record { limit = config.limit; branching = config.branching; weight = config.weight; budget = n; spherical = config.spherical; mode = config.mode }

ranged_budget : (rows dim : ℕ) (config : GroupingConfig) (n : ℕ) → ranges_fit rows dim config ≡ true → n ≤ 8192 → ranges_fit rows dim (with_budget config n) ≡ true
unfolding ranges_fit
ranged_budget rows dim config n e h =
    let a : (within 0 4096 rows && within 1 64 dim && within 0 4096 config.limit && within 1 64 config.branching) ≡ true = (both _ _ e).0 in
    rw (a, le-leb 0 n (omega arith), le-leb n 8192 h)

-- the mode alone may be another
abbrev pub in_mode : Mode → GroupingConfig → GroupingConfig
in_mode mode config = record { limit = config.limit; branching = config.branching; weight = config.weight; budget = config.budget; spherical = config.spherical; mode = mode }

-- One call, with its settings, its draws, its readings one after the other, and the lengths of what is lent.
module _ (rows dim : ℕ) (config : GroupingConfig) (drawn : List ℕ) (values : List Float) (lent : List ℕ) where
  abbrev pub call : Answer Groups
  call = grouping_call rows dim config drawn values lent

  -- what its splits go by
  abbrev pub rule : Rule
  rule = rule_of drawn dim (rows_from dim rows values) config.branching config.weight config.spherical

  -- every number is in range
  abbrev pub ranges : Bool
  ranges = ranges_fit rows dim config

  -- every lent slice is as long as the numbers say
  abbrev pub slices : Bool
  slices = lengths_fit rows dim (length values) lent

  -- there are from 1 to 4,096 draws
  abbrev pub draws : Bool
  draws = within 1 4096 (length drawn)

  abbrev pub refusal : ℕ
  refusal = grouping_refusal rows dim config (length drawn) (length values) lent

  -- none of 1 to 4 refuses the call
  abbrev pub Passed : Type 0
  Passed = refusal ≡ 0

  -- the call comes to an oversize group that has fewer rows than branching
  abbrev pub MeetsSmall : Type 0
  MeetsSmall = Small config.mode (parts_of rule) (made_by rule) (lost_by rule) config.limit config.branching config.budget 0 (start rule)

  -- it comes to an oversize group that has no fewer, when the splits done equal the budget
  abbrev pub MeetsSpent : Type 0
  MeetsSpent = Spent config.mode (parts_of rule) (made_by rule) (lost_by rule) config.limit config.branching config.budget 0 (start rule)

  -- it comes to an oversize group that has no fewer, with a split left, in the strict mode, and the group's k-means leaves a row unplaced
  abbrev pub MeetsUnplaced : Type 0
  MeetsUnplaced = Barred config.mode (parts_of rule) (made_by rule) (lost_by rule) config.limit config.branching config.budget 0 (start rule)

  -- it comes to where no group waits
  abbrev pub MeetsEnd : Type 0
  MeetsEnd = Done config.mode (parts_of rule) (made_by rule) (lost_by rule) config.limit config.branching config.budget 0 (start rule)

  abbrev tests : List Bool
  tests = ranges ∷ slices ∷ true ∷ draws ∷ []

  -- ---- the call by its refusal
  call_passed : refusal ≡ 0 → call ≡ grouping config.mode rule config.limit config.budget
  unfolding grouping_call unless
  call_passed e = rw e

  call_refused : (n : ℕ) → refusal ≡ suc n → call ≡ refused (suc n)
  unfolding grouping_call unless
  call_refused n e = rw e

  refusal_most : refusal ≤ 4
  unfolding grouping_refusal
  refusal_most = lowest_most 0 tests

  -- a number below 6 comes from the tests, and one above 4 from the grouping
  early : (number : ℕ) → number < 6 → call ≡ refused number → refusal ≡ number
  early number h c = go refusal refl
    where
      go : (n : ℕ) → refusal ≡ n → refusal ≡ number
      go zero e = elim (only_six_seven_or_nine config.mode (parts_of rule) (made_by rule) (lost_by rule) config.limit config.branching config.budget 0 number (start rule) (sym (call_passed e) ∙ c)) [
        | inl z ↦ absurd (omega arith)
        | inr (inl z) ↦ absurd (omega arith)
        | inr (inr z) ↦ absurd (omega arith)
      ]
      go (suc n) e = let d : ◌≡◌ {A = Answer Groups} (refused (suc n)) (refused number) = sym (call_refused n e) ∙ c in e ∙ cc

  late : (number : ℕ) → 4 < number → call ≡ refused number → refusal ≡ 0
  late number h c = go refusal refl
    where
      go : (n : ℕ) → refusal ≡ n → refusal ≡ 0
      go zero e = e
      go (suc n) e =
          let d : ◌≡◌ {A = Answer Groups} (refused (suc n)) (refused number) = sym (call_refused n e) ∙ c in
          let z : suc n ≡ number = cc in
          absurd (omega (arith, refusal_most))

  -- ---- when each number is given

  -- None of 1 to 4 exactly when all three tests pass.
  pub passed_exactly : Passed ↔ ((ranges ≡ true) × (slices ≡ true) × (draws ≡ true))
  unfolding grouping_refusal
  passed_exactly = ((λ e. let t = passed 0 tests e in (t.0, t.1.0, t.1.1.1.0)), (λ t. lowest_none 1 tests (t.0, (t.1, (refl, (t.2, tt))))))

  -- Refused by 1 exactly when a number is out of range.
  pub refused_one : (call ≡ refused 1) ↔ (ranges ≡ false)
  unfolding grouping_refusal
  refused_one = ((λ c. lowest_only 0 0 tests (early 1 (omega arith) c)), (λ t. call_refused 0 (lowest_when 1 0 tests t)))

  -- Refused by 2 exactly when the numbers are in range and a slice is of another length.
  pub refused_two : (call ≡ refused 2) ↔ ((ranges ≡ true) × (slices ≡ false))
  unfolding grouping_refusal
  refused_two = ((λ c. lowest_only 0 1 tests (early 2 (omega arith) c)), (λ t. call_refused 1 (lowest_when 1 1 tests t)))

  -- Refused by 4 exactly when numbers and slices fit, and there are no draws or more than 4,096.
  pub refused_four : (call ≡ refused 4) ↔ ((ranges ≡ true) × (slices ≡ true) × (draws ≡ false))
  unfolding grouping_refusal
  refused_four = (
    (λ c. let t = lowest_only 0 3 tests (early 4 (omega arith) c) in (t.0, t.1.0, t.1.1.1)),
    (λ t. call_refused 3 (lowest_when 1 3 tests (t.0, (t.1, (refl, t.2))))),
  )

  -- Refused by 6 exactly when it comes to an oversize group that has fewer rows than branching.
  pub refused_six : (call ≡ refused 6) ↔ (Passed × MeetsSmall)
  refused_six = (
    (λ c. let e = late 6 (omega arith) c in (e, six_only config.mode (parts_of rule) (made_by rule) (lost_by rule) config.limit config.branching config.budget 0 (start rule) (sym (call_passed e) ∙ c))),
    (λ t. call_passed t.0 ∙ six_when config.mode (parts_of rule) (made_by rule) (lost_by rule) config.limit config.branching config.budget 0 (start rule) t.1),
  )

  -- Refused by 7 exactly when it comes to an oversize group that has no fewer, and the splits done equal the budget.
  pub refused_seven : (call ≡ refused 7) ↔ (Passed × MeetsSpent)
  refused_seven = (
    (λ c. let e = late 7 (omega arith) c in (e, seven_only config.mode (parts_of rule) (made_by rule) (lost_by rule) config.limit config.branching config.budget 0 (start rule) (sym (call_passed e) ∙ c))),
    (λ t. call_passed t.0 ∙ seven_when config.mode (parts_of rule) (made_by rule) (lost_by rule) config.limit config.branching config.budget 0 (start rule) t.1),
  )

  -- Refused by 9 exactly when, in the strict mode, it comes to an oversize group that has no fewer, with a split left, and the group's k-means leaves a row unplaced.
  pub refused_nine : (call ≡ refused 9) ↔ (Passed × MeetsUnplaced)
  refused_nine = (
    (λ c. let e = late 9 (omega arith) c in (e, nine_only config.mode (parts_of rule) (made_by rule) (lost_by rule) config.limit config.branching config.budget 0 (start rule) (sym (call_passed e) ∙ c))),
    (λ t. call_passed t.0 ∙ nine_when config.mode (parts_of rule) (made_by rule) (lost_by rule) config.limit config.branching config.budget 0 (start rule) t.1),
  )

  -- Accepted exactly when it comes to where no group waits.
  pub accepted_exactly : Passes call ↔ (Passed × MeetsEnd)
  accepted_exactly = (
    (λ p. to refusal refl p),
    (λ t. rw (call_passed t.0) (accepted_when config.mode (parts_of rule) (made_by rule) (lost_by rule) config.limit config.branching config.budget 0 (start rule) t.1)),
  )
    where
      done : (a : Answer Groups) → grouping config.mode rule config.limit config.budget ≡ a → Passes a → MeetsEnd
      done (accepted g) e p = accepted_only config.mode (parts_of rule) (made_by rule) (lost_by rule) config.limit config.branching config.budget 0 (start rule) g e
      done (refused number) e p = absurd p

      to : (n : ℕ) → refusal ≡ n → Passes call → Passed × MeetsEnd
      to zero e p = (e, done (grouping config.mode rule config.limit config.budget) refl (rw (call_passed e) at p))
      to (suc n) e p = absurd (rw (call_refused n e) at p)

  -- it comes there after s splits
  abbrev pub EndsAfter : ℕ → Type 0
  EndsAfter s = Ends config.mode (parts_of rule) (made_by rule) (lost_by rule) config.limit config.branching config.budget 0 (start rule) s

  -- Accepted with s splits exactly when it comes to where no group waits after s of them.
  pub accepted_splits : (s : ℕ) → ((g : Groups) × ((call ≡ accepted g) × (g.splits ≡ s))) ↔ (Passed × EndsAfter s)
  accepted_splits s = (
    (λ t.
        let e = (accepted_exactly.0 (rw t.1.0 tt)).0 in
        (e, rw t.1.1 at (splits_only config.mode (parts_of rule) (made_by rule) (lost_by rule) config.limit config.branching config.budget 0 (start rule) t.0 (sym (call_passed e) ∙ t.1.0)))),
    (λ t.
        let w = splits_when config.mode (parts_of rule) (made_by rule) (lost_by rule) config.limit config.branching config.budget 0 (start rule) s t.1 in
        (w.0, (call_passed t.0 ∙ w.1.0, w.1.1))),
  )

  -- No other number refuses a call.
  pub refused_otherwise : (number : ℕ) → call ≡ refused number → Number number
  unfolding grouping_refusal
  refused_otherwise number c = go refusal refl
    where
      late_number : refusal ≡ 0 → Number number
      late_number e = elim (only_six_seven_or_nine config.mode (parts_of rule) (made_by rule) (lost_by rule) config.limit config.branching config.budget 0 number (start rule) (sym (call_passed e) ∙ c)) [
        | inl z ↦ rw z small
        | inr (inl z) ↦ rw z spent
        | inr (inr z) ↦ rw z unplaced
      ]

      is : (n : ℕ) → refusal ≡ suc n → number ≡ suc n
      is n e = let d : ◌≡◌ {A = Answer Groups} (refused number) (refused (suc n)) = sym c ∙ call_refused n e in cc

      go : (n : ℕ) → refusal ≡ n → Number number
      go zero e = late_number e
      go (suc zero) e = rw (is 0 e) range
      go (suc (suc zero)) e = rw (is 1 e) slice
      go (suc (suc (suc zero))) e = absurd (false≢true (sym (lowest_only 0 2 tests e).1.1))
      go (suc (suc (suc (suc zero)))) e = rw (is 3 e) draw
      go (suc (suc (suc (suc (suc n))))) e = absurd (omega (arith, refusal_most))

  -- ---- the rows, the sizes and the ends

  -- An accepted call passed all tests.
  pub accepted_passed : (g : Groups) → call ≡ accepted g → Passed
  accepted_passed g c = (accepted_exactly.0 (rw c tt)).0

  passed_ranged : Passed → Ranged rows dim config
  passed_ranged e = ranged rows dim config (passed_exactly.0 e).0

  -- there are as many rows as the call says
  sized : length rule.rows ≡ rows
  sized = rows_length dim rows values

  -- An accepted call lists each row exactly once, in groups of one row to the limit; the ends are their running totals.
  pub call_listing : (g : Groups) → call ≡ accepted g → Listing config.limit rows g.groups
  call_listing g c =
      let e = accepted_passed g c in
      let r = passed_ranged e in
      let a : group_from config.mode (parts_of rule) (made_by rule) (lost_by rule) config.limit config.branching config.budget 0 (waits (up_to rows) []) ≡ accepted g = rw sized at (sym (call_passed e) ∙ c) in
      accepted_listing config.mode (parts_of rule) (made_by rule) (lost_by rule) config.limit config.branching 4096 (λ n g k l. (parts_kept rule n g r.some k l).0) config.budget rows g r.few_rows a

  -- The unplaced rows of an accepted call are those of the splits that it makes until no group waits, added up.
  pub call_summed : {left' n' : ℕ} (c : Comes config.mode (parts_of rule) (made_by rule) (lost_by rule) config.limit config.branching config.budget 0 (start rule) left' n' []) (g : Groups)
      → call ≡ accepted g → g.unplaced ≡ lost_on config.mode (parts_of rule) (made_by rule) (lost_by rule) config.limit config.branching c
  call_summed c g a =
      unplaced_summed config.mode (parts_of rule) (made_by rule) (lost_by rule) config.limit config.branching c g (sym (call_passed (accepted_passed g a)) ∙ a)

  -- The unplaced rows of an accepted call are at most its splits times its rows: with at most 8,192 splits of 4,096 rows their count never wraps at 32 bits.
  pub call_unplaced : (g : Groups) → call ≡ accepted g → (g.unplaced ≤ g.splits * rows) × (g.unplaced ≤ 33554432)
  call_unplaced g c =
      let e = accepted_passed g c in
      let r = passed_ranged e in
      let a = sym (call_passed e) ∙ c in
      let b = (budget_accepted config.mode (parts_of rule) (made_by rule) (lost_by rule) config.limit config.branching config.budget 0 (start rule) g a).0 in
      let s : g.splits ≤ 8192 = omega (arith, b, r.few_splits) in
      let most : g.unplaced ≤ g.splits * rows
      = accepted_unplaced config.mode (parts_of rule) (made_by rule) (lost_by rule) config.limit config.branching rows
      (λ n g k l. (parts_kept rule n g r.some k (omega (arith, l, r.few_rows))).0) (lost_few rule)
      config.budget 0 (start rule) g (omega (arith, one_long (length rule.rows), sized)) a in
      (most, omega (arith, most, mul-le-mul {n₂ = 8192} {m₂ = 4096} s r.few_rows))

  -- In the strict mode an accepted call leaves no row unplaced.
  pub call_placed : config.mode ≡ Strict → (g : Groups) → call ≡ accepted g → g.unplaced ≡ 0
  call_placed m g c =
      ((strict_accepted (parts_of rule) (made_by rule) (lost_by rule) config.limit config.branching config.budget 0 (start rule) g).0
      (rw m at (sym (call_passed (accepted_passed g c)) ∙ c))).1

  -- Every split of a call that none of 1 to 4 refuses keeps what is promised of a split, whether the call is accepted or not.
  pub call_splits : Passed → (n : ℕ) (g : List ℕ) → Splits config.mode rule config.limit config.budget n g → SplitPromise rule n g
  call_splits e n g s =
      let r = passed_ranged e in
      each_split config.mode rule config.limit config.budget n g r.some (rw sized r.few_rows) s

-- ---- the budget: calls alike in all else
module _ (rows dim : ℕ) (config : GroupingConfig) (drawn : List ℕ) (values : List Float) (lent : List ℕ) where
  -- the call with this budget
  abbrev pub under : ℕ → Answer Groups
  under budget = call rows dim (with_budget config budget) drawn values lent

  -- another budget in range is refused by none of 1 to 4 either
  budget_passed : (budget c : ℕ) → c ≤ 8192 → Passed rows dim (with_budget config budget) drawn values lent → Passed rows dim (with_budget config c) drawn values lent
  budget_passed budget c h e =
      let t = (passed_exactly rows dim (with_budget config budget) drawn values lent).0 e in
      (passed_exactly rows dim (with_budget config c) drawn values lent).1 (ranged_budget rows dim (with_budget config budget) c t.0 h, t.1, t.2)

  -- What other budgets give where this one is accepted.
  pub record Budgets (budget : ℕ) (g : Groups) : Type 0 where
    pub within : g.splits ≤ budget
    pub same : (c : ℕ) → g.splits ≤ c → c ≤ 8192 → under c ≡ accepted g
    pub less : (c : ℕ) → c < g.splits → under c ≡ refused 7

  -- Accepted with s splits: they are within the budget, every budget from s to 8,192 gives the same, and every one below s gives 7.
  pub call_budget : (budget : ℕ) (g : Groups) → under budget ≡ accepted g → Budgets budget g
  call_budget budget g a =
      let e = accepted_passed rows dim (with_budget config budget) drawn values lent g a in
      let r = passed_ranged rows dim (with_budget config budget) drawn values lent e in
      let rule = rule rows dim config drawn values lent in
      let s = budget_accepted config.mode (parts_of rule) (made_by rule) (lost_by rule) config.limit config.branching budget 0 (start rule) g (sym (call_passed rows dim (with_budget config budget) drawn values lent e) ∙ a) in
      record {
        within = s.0;
        same = λ c h k. call_passed rows dim (with_budget config c) drawn values lent (budget_passed budget c k e) ∙ s.1.0 c h;
        less = λ c h. call_passed rows dim (with_budget config c) drawn values lent (budget_passed budget c (omega (arith, s.0)) e) ∙ s.1.1 c h;
      }

  -- Refused by 6: by 6 under every larger budget up to 8,192.
  pub call_budget_six : (budget : ℕ) → under budget ≡ refused 6 → (c : ℕ) → budget ≤ c → c ≤ 8192 → under c ≡ refused 6
  call_budget_six budget a c h k =
      let e = ((refused_six rows dim (with_budget config budget) drawn values lent).0 a).0 in
      let rule = rule rows dim config drawn values lent in
      call_passed rows dim (with_budget config c) drawn values lent (budget_passed budget c k e)
      ∙ budget_six config.mode (parts_of rule) (made_by rule) (lost_by rule) config.limit config.branching budget 0 (start rule) (sym (call_passed rows dim (with_budget config budget) drawn values lent e) ∙ a) c h

  -- Refused by 9: by 9 under every larger budget up to 8,192.
  pub call_budget_nine : (budget : ℕ) → under budget ≡ refused 9 → (c : ℕ) → budget ≤ c → c ≤ 8192 → under c ≡ refused 9
  call_budget_nine budget a c h k =
      let e = ((refused_nine rows dim (with_budget config budget) drawn values lent).0 a).0 in
      let rule = rule rows dim config drawn values lent in
      call_passed rows dim (with_budget config c) drawn values lent (budget_passed budget c k e)
      ∙ budget_nine config.mode (parts_of rule) (made_by rule) (lost_by rule) config.limit config.branching budget 0 (start rule) (sym (call_passed rows dim (with_budget config budget) drawn values lent e) ∙ a) c h

-- ---- the mode: calls alike in all else
module _ (rows dim : ℕ) (config : GroupingConfig) (drawn : List ℕ) (values : List Float) (lent : List ℕ) where
  -- the call in this mode
  abbrev pub way : Mode → Answer Groups
  way mode = call rows dim (in_mode mode config) drawn values lent

  abbrev ruled : Rule
  ruled = rule rows dim config drawn values lent

  abbrev tested : ℕ
  tested = refusal rows dim config drawn values lent

  -- its mode changes nothing of the tests
  way_is : (mode : Mode) → way mode ≡ unless tested (grouping mode ruled config.limit config.budget)
  unfolding grouping_call grouping_refusal ranges_fit
  way_is mode = refl

  -- The new way is accepted exactly when the old way is and leaves no row unplaced, and gives the same.
  pub call_strict : (g : Groups) → (way Strict ≡ accepted g) ↔ ((way OldWay ≡ accepted g) × (g.unplaced ≡ 0))
  unfolding unless
  call_strict g = rw (way_is Strict, way_is OldWay) (go tested)
    where
      go : (number : ℕ) → (unless number (grouping Strict ruled config.limit config.budget) ≡ accepted g)
          ↔ ((unless number (grouping OldWay ruled config.limit config.budget) ≡ accepted g) × (g.unplaced ≡ 0))
      go zero = strict_accepted (parts_of ruled) (made_by ruled) (lost_by ruled) config.limit config.branching config.budget 0 (start ruled) g
      go (suc number) = ((λ e. let z : ◌≡◌ {A = ℕ} 0 1 = cc in absurd (omega arith)), (λ t. let e = t.0 in let z : ◌≡◌ {A = ℕ} 0 1 = cc in absurd (omega arith)))

  -- The new way gives what the old way gives, its refusals too, or is refused by 9.
  pub call_either : (way Strict ≡ way OldWay) ⊎ (way Strict ≡ refused 9)
  unfolding unless
  call_either = rw (way_is Strict, way_is OldWay) (go tested)
    where
      go : (number : ℕ) → (unless number (grouping Strict ruled config.limit config.budget) ≡ unless number (grouping OldWay ruled config.limit config.budget))
          ⊎ (unless number (grouping Strict ruled config.limit config.budget) ≡ refused 9)
      go zero = strict_or_nine (parts_of ruled) (made_by ruled) (lost_by ruled) config.limit config.branching config.budget 0 (start ruled)
      go (suc number) = inl refl

  -- The old way is the call of before, with its count.
  pub call_old : way OldWay ≡ unless tested (group_before (parts_of ruled) (made_by ruled) (lost_by ruled) config.limit config.branching config.budget 0 (start ruled))
  call_old = way_is OldWay ∙ ap (unless tested) (old_before (parts_of ruled) (made_by ruled) (lost_by ruled) config.limit config.branching config.budget 0 (start ruled))

  -- The old way is never refused by 9.
  pub call_old_nine : way OldWay ≡ refused 9 → ⊥
  call_old_nine e =
      let p = late rows dim (in_mode OldWay config) drawn values lent 9 (omega arith) e in
      old_never_nine (parts_of ruled) (made_by ruled) (lost_by ruled) config.limit config.branching config.budget 0 (start ruled) (sym (call_passed rows dim (in_mode OldWay config) drawn values lent p) ∙ e)

  -- the call of before with no row counted
  abbrev pub uncounted : Answer Groups
  uncounted = unless tested (group_before (parts_of ruled) (made_by ruled) (λ n g. 0) config.limit config.branching config.budget 0 (start ruled))

  -- In the old way counting changes no group, no number of splits and no refusal of any call.
  pub call_aside : on_accepted listed_of (way OldWay) ≡ on_accepted listed_of uncounted
  unfolding unless on_accepted
  call_aside = ap (on_accepted listed_of) (way_is OldWay) ∙ go tested
    where
      go : (number : ℕ) → on_accepted listed_of (unless number (grouping OldWay ruled config.limit config.budget))
          ≡ on_accepted listed_of (unless number (group_before (parts_of ruled) (made_by ruled) (λ n g. 0) config.limit config.branching config.budget 0 (start ruled)))
      go zero =
          lost_aside (parts_of ruled) (made_by ruled) (lost_by ruled) config.limit config.branching (λ n g. 0) config.budget 0 (start ruled)
          ∙ ap (on_accepted listed_of) (old_before (parts_of ruled) (made_by ruled) (λ n g. 0) config.limit config.branching config.budget 0 (start ruled))
      go (suc number) = refl
