-- 01, 'Ranges and refusal numbers': which number a call is refused by, and what blank cells hold.
use Rattle.std.specs.Prelude.{◌≡◌, ℕ, zero, suc, Bool, true, false, cond, ◌&&◌, List, [], ◌∷◌, length, replicate, ◌==◌, nat_le}

abbrev pub within : ℕ → ℕ → ℕ → Bool
within low high n = nat_le low n && nat_le n high

-- two lists of lengths are the same
unfoldable pub same_all : List ℕ → List ℕ → Bool
same_all [] [] = true
same_all [] (n ∷ ns) = false
same_all (m ∷ ms) [] = false
same_all (m ∷ ms) (n ∷ ns) = m == n && same_all ms ns

-- The conditions left, the first of them that of refusal i: the number of the first that fails, and 0 where none does. So the lowest is given.
unfoldable pub lowest_from : ℕ → List Bool → ℕ
lowest_from i [] = 0
lowest_from i (b ∷ conditions) = cond b (lowest_from (suc i) conditions) i

abbrev pub lowest : List Bool → ℕ
lowest conditions = lowest_from 1 conditions

-- what a 16-bit result cell holds where it has no result
abbrev pub blank_cell : ℕ
blank_cell = 65535

-- the values, and blanks up to n cells
unfoldable pub padded : {A : Type 0} → A → ℕ → List A → List A
padded blank zero xs = []
padded blank (suc n) [] = blank ∷ padded blank n []
padded blank (suc n) (x ∷ xs) = x ∷ padded blank n xs

-- what a call gives: its results, or the number of its refusal alone
pub data Answer (A : Type 0) : Type 0 where
  accepted : A → Answer A
  refused : ℕ → Answer A

-- the answer, where no number above 0 refuses the call
unfoldable pub unless : {A : Type 0} → ℕ → Answer A → Answer A
unless zero answer = answer
unless (suc n) answer = refused (suc n)

-- the part of an acceptance that is asked for
unfoldable pub on_accepted : {A B : Type 0} → (A → B) → Answer A → Answer B
on_accepted f (accepted a) = accepted (f a)
on_accepted f (refused number) = refused number

-- the n cells of a lent result slice: the values and then blanks, and after a refusal blanks alone
unfoldable pub cells_of : {A B : Type 0} → B → ℕ → (A → List B) → Answer A → List B
cells_of blank n values (accepted a) = padded blank n (values a)
cells_of blank n values (refused number) = padded blank n []

-- a work slice after every call
abbrev pub Cleared : {A : Type 0} → A → List A → Type 0
Cleared blank cells = cells ≡ replicate (length cells) blank
