-- A call whose tests come first: by which number it is refused, and exactly when. Assumes nothing.
use Rattle.std.proofs.Common.{◌≡◌, ℕ, zero, suc, ◌<◌, ◌≤◌, Bool, ◌⊎◌, ◌↔◌, List, length, sym, refl, ◌∙◌, inl, inr, arith}
use Rattle.sums.specs.Refusals.{Answer, accepted, refused, lowest, unless}
use Rattle.sums.proofs.Refusing.{AllTrue, FirstFails, passed, lowest_none, lowest_when, lowest_most, lowest_only}

pub not_both : {A : Type 0} (a : A) (number : ℕ) → accepted a ≡ refused number → ⊥
not_both a number e = let z : ◌≡◌ {A = ℕ} 0 1 = cc in absurd (omega arith)

module _ {A : Type 0} (tests : List Bool) (answer : Answer A) where
  -- the answer, where no test refuses the call
  abbrev pub tested : Answer A
  tested = unless (lowest tests) answer

  all_pass : lowest tests ≡ 0 → tested ≡ answer
  unfolding unless
  all_pass e = rw e

  one_fails : (n : ℕ) → lowest tests ≡ suc n → tested ≡ refused (suc n)
  unfolding unless
  one_fails n e = rw e

  same_number : (n number : ℕ) → lowest tests ≡ suc n → tested ≡ refused number → suc n ≡ number
  same_number n number e c = let d : ◌≡◌ {A = Answer A} (refused (suc n)) (refused number) = sym (one_fails n e) ∙ c in cc

  -- Refused by the number of test j, from 0, exactly when that is the first to fail, where the answer itself is not refused by it if all pass.
  pub fails_exactly : (j : ℕ) → (AllTrue tests → answer ≡ refused (suc j) → ⊥) → (tested ≡ refused (suc j)) ↔ FirstFails j tests
  fails_exactly j never = ((λ c. to (lowest tests) refl c), (λ f. one_fails j (omega (arith, lowest_when 1 j tests f))))
    where
      to : (n : ℕ) → lowest tests ≡ n → tested ≡ refused (suc j) → FirstFails j tests
      to zero e c = absurd (never (passed 0 tests e) (sym (all_pass e) ∙ c))
      to (suc n) e c = lowest_only 0 j tests (omega (arith, e, same_number n (suc j) e c))

  -- Refused by a number that no test has exactly when all pass, and the answer is refused by it.
  pub later_exactly : (number : ℕ) → length tests < number → (tested ≡ refused number) ↔ (AllTrue tests × (answer ≡ refused number))
  later_exactly number h = ((λ c. to (lowest tests) refl c), (λ t. all_pass (lowest_none 1 tests t.0) ∙ t.1))
    where
      to : (n : ℕ) → lowest tests ≡ n → tested ≡ refused number → AllTrue tests × (answer ≡ refused number)
      to zero e c = (passed 0 tests e, sym (all_pass e) ∙ c)
      to (suc n) e c = absurd (omega (arith, h, e, same_number n number e c, lowest_most 0 tests))

  -- Accepted exactly when all pass, and the answer is accepted so.
  pub accepted_exactly : (a : A) → (tested ≡ accepted a) ↔ (AllTrue tests × (answer ≡ accepted a))
  accepted_exactly a = ((λ c. to (lowest tests) refl c), (λ t. all_pass (lowest_none 1 tests t.0) ∙ t.1))
    where
      to : (n : ℕ) → lowest tests ≡ n → tested ≡ accepted a → AllTrue tests × (answer ≡ accepted a)
      to zero e c = (passed 0 tests e, sym (all_pass e) ∙ c)
      to (suc n) e c = absurd (not_both a (suc n) (sym c ∙ one_fails n e))

  -- No other number refuses it.
  pub refused_by : (number : ℕ) → tested ≡ refused number → ((0 < number) × (number ≤ length tests)) ⊎ (answer ≡ refused number)
  refused_by number c = go (lowest tests) refl
    where
      go : (n : ℕ) → lowest tests ≡ n → ((0 < number) × (number ≤ length tests)) ⊎ (answer ≡ refused number)
      go zero e = inr (sym (all_pass e) ∙ c)
      go (suc n) e =
          let z = same_number n number e c in
          inl (omega (arith, z), omega (arith, z, e, lowest_most 0 tests))

-- the numbers up to two, one by one
pub one_or_two : (n : ℕ) → 0 < n → n ≤ 2 → (n ≡ 1) ⊎ (n ≡ 2)
one_or_two zero h k = absurd (omega arith)
one_or_two (suc zero) h k = inl refl
one_or_two (suc (suc zero)) h k = inr refl
one_or_two (suc (suc (suc n))) h k = absurd (omega arith)
