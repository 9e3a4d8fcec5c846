-- Fronts and rests of lists, under a map too, and what is lent of an array or put back into it. Assumes nothing.
use Rattle.std.proofs.Common.{◌≡◌, ℕ, zero, suc, ◌+◌, ◌-◌, ◌*◌, ◌≤◌, min, Bool, true, false, leb, List, [], ◌∷◌, ◌++◌, length, take, drop, sym, refl, ap, ◌∙◌, append_assoc, suc-le-suc, zero-le, le_of_suc-le-suc, not-suc-le-zero, suc-mul, arith, length-append, length-drop, drop_of_length-le, length-take-le, take_all, take-take, take_at, drop_at, leb-false, leb-true}
use mathlib.Core.List.{flat_map}
use native.Mathlib.Nat.{add-sub_cancel_left}
use borrow.Rule.Slice.PartMut.{mid_of, put_mid}
use lib.Seq.{take-nil, take-append-le}
use Rattle.sums.specs.Tables.{tabulate}
use Rattle.sums.proofs.Tables.{tab_add, length_tab}

module _ {A : Type 0} where
  pub drop_take : (p c : ℕ) (l : List A) → p ≤ c → drop p (take c l) ≡ take (c - p) (drop p l)
  drop_take zero c l h = let e : c - 0 ≡ c = omega arith in rw e
  drop_take (suc p) zero l h = absurd (not-suc-le-zero h)
  drop_take (suc p) (suc c) [] h = sym (take-nil (suc c - suc p))
  drop_take (suc p) (suc c) (x ∷ l) h = let e : suc c - suc p ≡ c - p = omega arith in rw e (drop_take p c l (le_of_suc-le-suc h))

  pub take_few : (n : ℕ) (l : List A) → length (take n l) ≤ n
  take_few zero l = zero-le
  take_few (suc n) [] = zero-le
  take_few (suc n) (x ∷ l) = suc-le-suc (take_few n l)

  pub take_within : (n : ℕ) (l : List A) → length (take n l) ≤ length l
  take_within zero l = zero-le
  take_within (suc n) [] = zero-le
  take_within (suc n) (x ∷ l) = suc-le-suc (take_within n l)

  -- the lesser of a and the length
  pub take_least : (a : ℕ) (l : List A) → take (min a (length l)) l ≡ take a l
  take_least a l = go (leb a (length l)) refl
    where
      go : (b : Bool) → leb a (length l) ≡ b → take (min a (length l)) l ≡ take a l
      go true h = let e : min a (length l) ≡ a = omega (arith, leb-true a (length l) h) in rw e
      go false h =
          let k = leb-false a (length l) h in
          let e : min a (length l) ≡ length l = omega (arith, k) in
          rw e (take_all (length l) l (omega arith) ∙ sym (take_all a l (omega (arith, k))))

  pub drop_least : (a : ℕ) (l : List A) → drop (min (length l) a) l ≡ drop a l
  drop_least a l = go (leb a (length l)) refl
    where
      go : (b : Bool) → leb a (length l) ≡ b → drop (min (length l) a) l ≡ drop a l
      go true h = let e : min (length l) a ≡ a = omega (arith, leb-true a (length l) h) in rw e
      go false h =
          let k = leb-false a (length l) h in
          drop_of_length-le l {i = min (length l) a} (omega (arith, k)) ∙ sym (drop_of_length-le l {i = a} (omega (arith, k)))

  -- a part of a front is a part of the whole
  pub part_of_front : (m p c : ℕ) (l : List A) → p + m ≤ c → take m (drop p (take c l)) ≡ take m (drop p l)
  part_of_front m zero c l h = take-take m c l (omega arith)
  part_of_front m (suc p) zero l h = absurd (omega arith)
  part_of_front m (suc p) (suc c) [] h = refl
  part_of_front m (suc p) (suc c) (x ∷ l) h = part_of_front m p c l (omega arith)

  -- how long a front is: n, or the whole length if that is less
  pub length_cut : (n : ℕ) (l : List A) → length (take n l) ≡ min n (length l)
  length_cut zero l = omega arith
  length_cut (suc n) [] = omega arith
  length_cut (suc n) (x ∷ l) = omega (arith, length_cut n l)

  -- the part of a list after pre, lent and put back
  module _ (whole pre s post : List A) (from k : ℕ) (e : whole ≡ pre ++ (s ++ post)) (l : length pre ≡ from) (l' : length s ≡ k) where
    pub mid_at : mid_of from k whole ≡ s
    mid_at = rw (e, drop_at pre (s ++ post) from l) (take_at s post k l')

    pub put_at : (t : List A) → put_mid from k whole t ≡ pre ++ (t ++ post)
    put_at t = rw (e, take_at pre (s ++ post) from l, drop_at pre (s ++ post) from l, drop_at s post k l')

  -- what stands up to the end of a part that was put back
  pub put_front : (a w : ℕ) (l xs : List A) → a ≤ length l → length xs ≡ w → take (a + w) (put_mid a w l xs) ≡ take a l ++ xs
  put_front a w l xs h e =
      rw (← append_assoc (take a l) xs (drop w (drop a l)))
      (take_at (take a l ++ xs) (drop w (drop a l)) (a + w) (length-append (take a l) xs ∙ rw (length-take-le a l h, e)))

  -- a turn of a loop that fills l part after part
  pub fill_part : (f : ℕ → A) (a w : ℕ) (l xs : List A) → a ≤ length l → take a l ≡ tabulate f a → xs ≡ tabulate (λ j. f (a + j)) w
      → take (a + w) (put_mid a (a + w - a) l xs) ≡ tabulate f (a + w)
  fill_part f a w l xs h e p =
      rw (add-sub_cancel_left, put_front a w l xs h (ap length p ∙ length_tab _ w), e, p) (sym (tab_add f a w))

  -- the first n of a list are the given ones: what is lent of an array whose front part came back
  pub record Front (n : ℕ) (l xs : List A) : Type 0 where
    pub fits : n ≤ length l
    pub is : take n l ≡ xs
    pub long : length (take n l) ≡ n

  pub front : {n : ℕ} {l xs : List A} → l ≡ xs → length xs ≡ n → (rest : List A) → Front n (l ++ rest) xs
  front {n} {l} {xs} e h rest =
      let k : length l ≡ n = ap length e ∙ h in
      record { fits = omega (arith, length-append l rest); is = take_at l rest n k ∙ e; long = ap length (take_at l rest n k) ∙ k }

  -- the first n of what came back
  pub front_part : (n : ℕ) (l rest : List A) → n ≤ length l → Front n (l ++ rest) (take n l)
  front_part n l rest h =
      let e = take-append-le n l rest h in
      record { fits = omega (arith, length-append l rest); is = e; long = ap length e ∙ length-take-le n l h }

module _ {A : Type 0} where
  -- n of the m that a list has are lent
  pub lent_fits : (n m : ℕ) (l : List A) → m ≡ length l → n ≤ m → n ≤ length l
  lent_fits n m l e h = omega arith

  pub lent_front : (n m : ℕ) (l : List A) → m ≡ length l → n ≤ m → length (take n l) ≡ n
  lent_front n m l e h = length-take-le n l (lent_fits n m l e h)

  -- a front part that comes back as long as it was lent leaves the list as long as it was
  pub front_back : (n : ℕ) (l xs : List A) → n ≤ length l → length xs ≡ length (take n l) → length (xs ++ drop n l) ≡ length l
  front_back n l xs h e = length-append xs (drop n l) ∙ omega (arith, length-take-le n l h, length-drop n l, e)

pub flat_append : {A B : Type 0} (f : A → List B) (l m : List A) → flat_map f (l ++ m) ≡ flat_map f l ++ flat_map f m
unfolding flat_map
flat_append f [] m = refl
flat_append {B = B} f (x ∷ l) m = ap (λ (r : List B). f x ++ r) (flat_append f l m) ∙ sym (append_assoc (f x) (flat_map f l) (flat_map f m))

-- so many elements, and each gives as many
pub flat_length : {A B : Type 0} (f : A → List B) (dim : ℕ) → ((x : A) → length (f x) ≡ dim) → (l : List A) → length (flat_map f l) ≡ length l * dim
unfolding flat_map
flat_length f dim h [] = omega arith
flat_length f dim h (x ∷ l) = rw (length-append (f x) (flat_map f l), suc-mul (length l) dim) (omega (arith, h x, flat_length f dim h l))
