-- What the exported functions promise of the number that they return: which refuses a call, and exactly when. Assumes nothing.
use Prim.Native.Nat.{ℕ, suc, ◌+◌, ◌*◌, ◌<◌}
use mathlib.Core.Path.{◌≡◌, refl, sym, ap, ◌∙◌}
use mathlib.Core.Bool.{Bool, true, false, ◌&&◌, false≢true}
use mathlib.Core.Logic.{◌↔◌, ◌⊎◌, ⊎_elim, inl, inr}
use mathlib.Core.List.{List, [], ◌∷◌}
use native.Mathlib.Nat.{suc-ne-zero}
use native.Mathlib.Omega.{arith}
use borrow.Author.Tests.{eq-eqb}
use lib.Dec.{eqb}
use lib.Ieee.{Float}
use lib.ListN.{length}
use Rattle.sums.specs.Refusals.{Answer, accepted, refused, within, unless}
use Rattle.sums.proofs.Whens.{not_both, fails_exactly, later_exactly, accepted_exactly, refused_by, one_or_two}
use Rattle.sums.specs.Rows.{rows_from}
use Rattle.words.specs.Bytes.{floats_from}
use Rattle.words.proofs.ByteLaws.{floats_length}
use Rattle.labels.specs.declared.mode.Mode.{Mode}
use Rattle.labels.specs.declared.mode.Mode.TheVariants.{Strict, OldWay}
use Rattle.std.specs.Prelude.{Option, Some, None}
use Rattle.labels.specs.declared.nearest.Nearest.{Nearest}
use Rattle.labels.specs.Mode.{unplaced_refusal}
use Rattle.labels.specs.Label.{search, label_in, unplaced_of}
use Rattle.labels.proofs.Modes.{allowed_nine, allowed_otherwise, allowed_accepted, called_old}
use Rattle.labels.proofs.Places.{nearest_label}
use Rattle.closure.specs.Call.{closure_call}
use Rattle.closure.proofs.Promises as closure
use Rattle.exports.specs.Exports.{code_of, Gave, label_refusal, placement_of, label_by, label_call, closure_refusal, closure_bytes_call}

-- ---- from an answer to its number: over typed slices too
module _ {A : Type 0} where
  -- A number above 0 is returned exactly when the call is refused by it.
  pub code_exactly : (answer : Answer A) (n : ℕ) → (code_of answer ≡ suc n) ↔ (answer ≡ refused (suc n))
  unfolding code_of
  code_exactly (accepted a) n = ((λ e. absurd (suc-ne-zero n (sym e))), (λ e. absurd (not_both a (suc n) e)))
  code_exactly (refused number) n = ((λ e. rw e), (λ e. cc))

  -- 0 is returned exactly when it is accepted, where no call is refused by 0.
  pub code_accepted : (answer : Answer A) → (answer ≡ refused 0 → ⊥) → (code_of answer ≡ 0) ↔ ((a : A) × (answer ≡ accepted a))
  unfolding code_of
  code_accepted (accepted a) never = ((λ e. (a, refl)), (λ t. refl))
  code_accepted (refused number) never = ((λ e. absurd (never (rw e))), (λ t. absurd (not_both t.0 number (sym t.1))))

  -- Any two results that a function on bytes may give are the same.
  pub one_result : (answer : Answer A) (n : ℕ) (written : A → List ℕ) (r r' : ℕ) (result result' : List ℕ)
      → Gave answer n written r result → Gave answer n written r' result' → (r ≡ r') × (result ≡ result')
  one_result answer n written r r' result result' g g' = (g.0 ∙ sym g'.0, g.1 ∙ sym g'.1)

-- ---- the label of one row, on bytes
module _ (dim k : ℕ) (row centroids : List ℕ) (result : ℕ) where
  abbrev pub labelled : Mode → Answer ℕ
  labelled mode = label_call mode dim k row centroids result

  -- both numbers are in range
  abbrev pub label-ranges : Bool
  label-ranges = within 1 64 dim && within 1 64 k

  -- there are as many bytes as the numbers say
  abbrev pub label-bytes : Bool
  label-bytes = eqb (length row) (dim * 4) && eqb (length centroids) (k * dim * 4) && eqb result 2

  abbrev pub label-tests : List Bool
  label-tests = label-ranges ∷ label-bytes ∷ []

  -- what the search answers for the row that the bytes hold
  abbrev pub found : Option Nearest
  found = placement_of dim k row centroids

  one_unplaced : (0 < unplaced_of (found ∷ [])) ↔ (found ≡ None)
  unfolding unplaced_of
  one_unplaced = go found
    where
      go : (p : Option Nearest) → (0 < unplaced_of (p ∷ [])) ↔ (p ≡ None)
      go (Some best) = ((λ h. absurd (omega (arith, h))), (λ e. let z : ◌≡◌ {A = ℕ} 0 1 = ap (λ (p : Option Nearest). unplaced_of (p ∷ [])) e in absurd (omega arith)))
      go None = ((λ h. refl), (λ e. omega arith))

  label_never : (mode : Mode) (number : ℕ) → number < 9 → label_by mode found ≡ refused number → ⊥
  unfolding label_by
  label_never mode number h c = absurd (omega (arith, h, allowed_otherwise mode (unplaced_of (found ∷ [])) (label_in found) number c))

  -- Refused by 1 exactly when a number is out of range.
  pub label_one : (mode : Mode) → (labelled mode ≡ refused 1) ↔ (label-ranges ≡ false)
  unfolding label_call label_refusal
  label_one mode = fails_exactly label-tests (label_by mode found) 0 (λ _. label_never mode 1 (omega arith))

  -- Refused by 2 exactly when the numbers are in range and some bytes are not as many as they say.
  pub label_two : (mode : Mode) → (labelled mode ≡ refused 2) ↔ ((label-ranges ≡ true) × (label-bytes ≡ false))
  unfolding label_call label_refusal
  label_two mode = fails_exactly label-tests (label_by mode found) 1 (λ _. label_never mode 2 (omega arith))

  -- Refused by 9 exactly when both tests pass, the mode is strict and the row is unplaced.
  pub label_nine : (mode : Mode) → (labelled mode ≡ refused 9) ↔ (((label-ranges ≡ true) × (label-bytes ≡ true)) × ((mode ≡ Strict) × (found ≡ None)))
  unfolding label_call label_refusal label_by
  label_nine mode =
      let w = later_exactly label-tests (label_by mode found) 9 (omega arith) in
      let nine = allowed_nine mode (unplaced_of (found ∷ [])) (label_in found) in (
        (λ c. let t = w.0 c in let n = nine.0 t.1 in ((t.0.0, t.0.1.0), (n.0, one_unplaced.0 n.1))),
        (λ t. w.1 ((t.0.0, (t.0.1, tt)), nine.1 (t.1.0, one_unplaced.1 t.1.1))),
      )

  -- Accepted, with the label, exactly when both tests pass and the mode allows an unplaced row or the row is placed.
  pub label_accepted : (mode : Mode) → (labelled mode ≡ accepted (label_in found))
      ↔ (((label-ranges ≡ true) × (label-bytes ≡ true)) × (unplaced_refusal mode (unplaced_of (found ∷ [])) ≡ 0))
  unfolding label_call label_refusal label_by
  label_accepted mode =
      let w = accepted_exactly label-tests (label_by mode found) (label_in found) in
      let in-mode = allowed_accepted mode (unplaced_of (found ∷ [])) (label_in found) (label_in found) in (
        (λ c. let t = w.0 c in ((t.0.0, t.0.1.0), (in-mode.0 t.1).0)),
        (λ t. w.1 ((t.0.0, (t.0.1, tt)), in-mode.1 (t.1, refl))),
      )

  -- The label is the one at which the row's search ends, placed or not, as before an answer said which.
  pub label_before : label_in found ≡ (search (rows_from dim k (floats_from (k * dim) centroids)) (floats_from dim row)).label
  unfolding placement_of
  label_before = nearest_label (rows_from dim k (floats_from (k * dim) centroids)) (floats_from dim row)

  -- The old way is the call of before 02 (iii).
  pub label_old : labelled OldWay ≡ unless (label_refusal dim k (length row) (length centroids) result) (accepted (label_in found))
  unfolding label_call label_by
  label_old = called_old (label_refusal dim k (length row) (length centroids) result) (λ (label : ℕ). unplaced_of (found ∷ [])) (label_in found)

  -- No other number refuses it.
  pub label_otherwise : (mode : Mode) (number : ℕ) → labelled mode ≡ refused number → ((number ≡ 1) ⊎ (number ≡ 2)) ⊎ (number ≡ 9)
  unfolding label_call label_refusal label_by
  label_otherwise mode number c =
      ⊎_elim (λ h. inl (one_or_two number h.0 h.1)) (λ e. inr (allowed_otherwise mode (unplaced_of (found ∷ [])) (label_in found) number e))
      (refused_by label-tests (label_by mode found) number c)

-- ---- closure, on bytes
module _ (epsilon : Float) (replicas dim count : ℕ) (vector centroids : List ℕ) (result : ℕ) where
  abbrev pub offered : Answer (List ℕ)
  offered = closure_bytes_call epsilon replicas dim count vector centroids result

  -- both numbers are in range
  abbrev pub closure-ranges : Bool
  closure-ranges = within 1 64 dim && within 0 64 count

  -- there are as many bytes as the numbers say
  abbrev pub closure-bytes : Bool
  closure-bytes = eqb (length vector) (dim * 4) && eqb (length centroids) (count * dim * 4) && eqb result (count * 2 + 2)

  -- the floats that the bytes hold
  abbrev row : List Float
  row = floats_from dim vector

  abbrev values : List Float
  values = floats_from (count * dim) centroids

  -- there are two or more centroids, and some distance is a NaN
  abbrev pub closure-mixed : Bool
  closure-mixed = closure.mixed epsilon replicas dim count row values count

  abbrev inner : Answer (List ℕ)
  inner = closure_call epsilon replicas dim count row values count

  abbrev tests : List Bool
  tests = closure-ranges ∷ closure-bytes ∷ []

  -- the floats are as many as the call inside asks for
  fits : closure.slices epsilon replicas dim count row values count ≡ true
  fits = rw (eq-eqb (length row) dim (floats_length dim vector), eq-eqb (length values) (count * dim) (floats_length (count * dim) centroids), eq-eqb count count refl)

  -- Refused by 1 exactly when a number is out of range.
  pub closure_one : (offered ≡ refused 1) ↔ (closure-ranges ≡ false)
  unfolding closure_bytes_call closure_refusal
  closure_one = fails_exactly tests inner 0 (λ t e. false≢true (sym ((closure.refused_one epsilon replicas dim count row values count).0 e) ∙ t.0))

  -- Refused by 2 exactly when the numbers are in range and some bytes are not as many as they say.
  pub closure_two : (offered ≡ refused 2) ↔ ((closure-ranges ≡ true) × (closure-bytes ≡ false))
  unfolding closure_bytes_call closure_refusal
  closure_two = fails_exactly tests inner 1 (λ t e. false≢true (sym ((closure.refused_two epsilon replicas dim count row values count).0 e).1 ∙ fits))

  -- Refused by 5 exactly when numbers and bytes fit, and there are two or more centroids and some distance is a NaN.
  pub closure_five : (offered ≡ refused 5) ↔ ((closure-ranges ≡ true) × ((closure-bytes ≡ true) × (closure-mixed ≡ true)))
  unfolding closure_bytes_call closure_refusal
  closure_five =
      let w = later_exactly tests inner 5 (omega arith) in
      let inside = closure.refused_five epsilon replicas dim count row values count in
      ((λ c. let t = w.0 c in (t.0.0, (t.0.1.0, (inside.0 t.1).1.1))), (λ t. w.1 ((t.0, (t.1.0, tt)), inside.1 (t.0, (fits, t.1.1)))))

  -- Accepted, with the indices, exactly when none of that is so.
  pub closure_accepted : (offered ≡ accepted (closure.indices epsilon replicas dim count row values count)) ↔ ((closure-ranges ≡ true) × ((closure-bytes ≡ true) × (closure-mixed ≡ false)))
  unfolding closure_bytes_call closure_refusal
  closure_accepted =
      let w = accepted_exactly tests inner (closure.indices epsilon replicas dim count row values count) in
      let inside = closure.accepted_exactly epsilon replicas dim count row values count in
      ((λ c. let t = w.0 c in (t.0.0, (t.0.1.0, (inside.0 t.1).1.1))), (λ t. w.1 ((t.0, (t.1.0, tt)), inside.1 (t.0, (fits, t.1.1)))))

  -- No other number refuses it.
  pub closure_otherwise : (number : ℕ) → offered ≡ refused number → (number ≡ 1) ⊎ ((number ≡ 2) ⊎ (number ≡ 5))
  unfolding closure_bytes_call closure_refusal
  closure_otherwise number c =
      ⊎_elim
      (λ h. ⊎_elim (λ e. inl e) (λ e. inr (inl e)) (one_or_two number h.0 h.1))
      (λ e. closure.refused_otherwise epsilon replicas dim count row values count number e)
      (refused_by tests inner number c)
