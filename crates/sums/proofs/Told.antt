-- The numbers of refusals: no two refusals have one number, none has 0, and a function's result tells the call's answer.
use Rattle.std.proofs.Common.{◌≡◌, ℕ, zero, suc, ◌<◌, [], ◌∷◌, get_or, arith, Result, Ok, Err, refl, sym, ap, ◌∙◌, lit<}
use Rattle.sums.specs.declared.refusals.Refusal.{Refusal}
use Rattle.sums.specs.declared.refusals.Refusal.TheVariants.{Range, Length, FewRows, Draws, Unordered, Indivisible, Budget, Misshapen, Unplaced, NoResult}
use Rattle.sums.specs.Refusals.{Answer, refused, unless}
use Rattle.sums.specs.Refused.{number_of, told, number_in}

abbrev of_number : ℕ → Refusal
of_number n =
    get_or (Range ∷ Range ∷ Length ∷ FewRows ∷ Draws ∷ Unordered ∷ Indivisible ∷ Budget ∷ Misshapen ∷ Unplaced ∷ NoResult ∷ []) n Range

back : (r : Refusal) → of_number (number_of r) ≡ r
back Range = refl
back Length = refl
back FewRows = refl
back Draws = refl
back Unordered = refl
back Indivisible = refl
back Budget = refl
back Misshapen = refl
back Unplaced = refl
back NoResult = refl

-- no two refusals have one number
pub number_same : (r s : Refusal) → number_of r ≡ number_of s → r ≡ s
number_same r s e = sym (back r) ∙ (ap of_number e ∙ back s)

-- a refusal has a number above 0
pub number_some : (r : Refusal) → 0 < number_of r
number_some Range = lit< tt
number_some Length = lit< tt
number_some FewRows = lit< tt
number_some Draws = lit< tt
number_some Unordered = lit< tt
number_some Indivisible = lit< tt
number_some Budget = lit< tt
number_some Misshapen = lit< tt
number_some Unplaced = lit< tt
number_some NoResult = lit< tt

above_none : {A : Type 0} (n : ℕ) (answer : Answer A) → 0 < n → unless n answer ≡ refused n
unfolding unless
above_none zero answer h = absurd (omega arith)
above_none (suc n) answer h = refl

-- a call that a test refuses gives that refusal
pub unless_number : {A : Type 0} (r : Refusal) (answer : Answer A) → unless (number_of r) answer ≡ refused (number_of r)
unless_number r answer = above_none (number_of r) answer (number_some r)

pub unless_refused : {A B : Type 0} (number : ℕ) (answer : Answer A) (tested : Result B Refusal) (r : Refusal) → tested ≡ Err r → number_in tested ≡ number
    → unless number answer ≡ refused (number_of r)
unless_refused number answer tested r e h = rw (sym (rw e at h)) (unless_number r answer)

-- and one that it lets through gives the rest
pub unless_passed : {A B : Type 0} (number : ℕ) (answer : Answer A) (tested : Result B Refusal) (x : B) → tested ≡ Ok x → number_in tested ≡ number
    → unless number answer ≡ answer
unfolding unless
unless_passed number answer tested x e h = rw (sym (rw e at h)) refl

-- two results that are told alike are the same, where the figure tells values apart
pub told_same : {A B : Type 0} (figure : A → B) → ((x y : A) → figure x ≡ figure y → x ≡ y) → (r s : Result A Refusal) → told figure r ≡ told figure s → r ≡ s
told_same figure apart (Ok x) (Ok y) e = let h : figure x ≡ figure y = cc in ap (λ z. Ok z) (apart x y h)
told_same figure apart (Ok x) (Err s) e = cc
told_same figure apart (Err r) (Ok y) e = cc
told_same figure apart (Err r) (Err s) e = let h : number_of r ≡ number_of s = cc in ap (λ z. Err z) (number_same r s h)
