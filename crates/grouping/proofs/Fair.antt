-- What one round does to each part, to the rows and to the sizes, and so what balancing does. Assumes nothing.
use mathlib.Core.Path.{◌≡◌, refl, ◌∙◌}
use mathlib.Core.List.{List, [], ◌∷◌, ◌++◌}
use mathlib.Core.Bool.{Bool, true, false, cond}
use Prim.Native.Nat.{ℕ, zero, suc, ◌+◌, ◌-◌, ◌≤◌, ◌<◌, min}
use native.Mathlib.Omega.{arith}
use borrow.Author.Tests.{ltb-true, ltb-false, eqb-true, eqb-false}
use lib.Dec.{ltb, eqb}
use lib.ListN.{length, get_or, set, length-set, length-append}
use lib.Seq.{get_or-set_same, get_or-set_other}
use Rattle.sums.proofs.Weighs.{weigh, weigh_append, Same}
use Rattle.grouping.specs.Parts.{sizes_of, flat}
use Rattle.grouping.specs.Balance.{seek, moved, giver, taker, round, balanced, moves}
use Rattle.grouping.proofs.Lists.{without, weigh_set, weigh_without, length_without}
use Rattle.grouping.proofs.Layouts.{sizes_length, sizes_at, sizes_set, weigh_flat_set}
use Rattle.grouping.proofs.Seeks.{seek_hit, seek_miss}

-- the total over the allowance, and the total short of the share
abbrev pub over_by : ℕ → List ℕ → ℕ
over_by al s = weigh (λ n. n - al) s

abbrev pub short_by : ℕ → List ℕ → ℕ
short_by sh s = weigh (λ n. sh - n) s

none_over : (al : ℕ) (s : List ℕ) → length s ≤ seek (λ n. ltb al n) s → over_by al s ≡ 0
none_over al [] h = refl
none_over al (x ∷ xs) h =
    let m = seek_miss (λ n. ltb al n) x xs h in
    omega (arith, none_over al xs m.1, ltb-false al x m.0)

none_short : (sh : ℕ) (s : List ℕ) → length s ≤ seek (λ n. ltb n sh) s → short_by sh s ≡ 0
none_short sh [] h = refl
none_short sh (x ∷ xs) h =
    let m = seek_miss (λ n. ltb n sh) x xs h in
    omega (arith, none_short sh xs m.1, ltb-false x sh m.0)

-- what balancing may do to one part
pub record Fair (sh al : ℕ) (p q : List ℕ) : Type 0 where
  pub low : length p ≤ sh → (length p ≤ length q) × (length q ≤ sh) × ((f : ℕ → ℕ) → weigh f p ≤ weigh f q)
  pub high : al ≤ length p → (al ≤ length q) × (length q ≤ length p) × ((f : ℕ → ℕ) → weigh f q ≤ weigh f p)
  pub rest : sh ≤ length p → length p ≤ al → q ≡ p

fair_refl : (sh al : ℕ) (p : List ℕ) → Fair sh al p p
fair_refl sh al p = record { low = λ h. (omega arith, h, λ f. omega arith); high = λ h. (h, omega arith, λ f. omega arith); rest = λ h k. refl }

fair_trans : {sh al : ℕ} {p q r : List ℕ} → Fair sh al p q → Fair sh al q r → Fair sh al p r
fair_trans a b =
    record {
      low = λ h. let x = a.low h in let y = b.low x.1 in (omega arith, y.1, λ f. omega (arith, x.2 f, y.2 f));
      high = λ h. let x = a.high h in let y = b.high x.0 in (y.0, omega arith, λ f. omega (arith, x.2 f, y.2 f));
      rest = λ h k. let e = a.rest h k in b.rest (rw e h) (rw e k) ∙ e;
    }

fair_more : {sh al : ℕ} (p : List ℕ) (x : ℕ) → sh ≤ al → length p < sh → Fair sh al p (p ++ (x ∷ []))
fair_more p x sa h =
    let l = length-append p (x ∷ []) in
    record {
      low = λ _. (omega arith, omega arith, λ f. omega (arith, weigh_append f p (x ∷ [])));
      high = λ k. absurd (omega arith);
      rest = λ k _. absurd (omega arith);
    }

fair_less : {sh al : ℕ} (p : List ℕ) (j : ℕ) → sh ≤ al → al < length p → j < length p → Fair sh al p (without j p)
fair_less p j sa h k =
    let l = length_without p j k in
    record {
      low = λ m. absurd (omega arith);
      high = λ _. (omega arith, omega arith, λ f. omega (arith, weigh_without f p j k));
      rest = λ _ m. absurd (omega arith);
    }

-- one row moved
module _ (ps : List (List ℕ)) (g r j : ℕ) (hg : g < length ps) (hr : r < length ps) (ne : r ≡ g → ⊥) (hj : j < length (get_or ps g [])) where
  receiver_kept : get_or (set ps g (without j (get_or ps g []))) r [] ≡ get_or ps r []
  receiver_kept = get_or-set_other ps g r (without j (get_or ps g [])) [] ne

  pub moved_flat : Same (flat (moved g r j ps)) (flat ps)
  moved_flat f =
      let x = get_or (get_or ps g []) j 0 in
      let hr' : r < length (set ps g (without j (get_or ps g []))) = rw length-set hr in
      let a = weigh_flat_set f (set ps g (without j (get_or ps g []))) r (get_or ps r [] ++ (x ∷ [])) hr' in
      omega (
        arith,
        rw receiver_kept at a,
        weigh_flat_set f ps g (without j (get_or ps g [])) hg,
        weigh_without f (get_or ps g []) j hj,
        weigh_append f (get_or ps r []) (x ∷ []),
      )

  pub sizes_moved : sizes_of (moved g r j ps) ≡ set (set (sizes_of ps) g (length (get_or ps g []) - 1)) r (length (get_or ps r []) + 1)
  sizes_moved =
      let G = get_or ps g [] in
      let R = get_or ps r [] in
      let q : List ℕ = R ++ (get_or G j 0 ∷ []) in
      let e : length (without j G) ≡ length G - 1 = omega (arith, length_without G j hj) in
      let d : length q ≡ length R + 1 = length-append R (get_or G j 0 ∷ []) in
      sizes_set (set ps g (without j G)) r q ∙ rw (d, sizes_set ps g (without j G), e)

  pub moved_sizes :
      (f : ℕ → ℕ) →
      weigh f (sizes_of (moved g r j ps)) + f (length (get_or ps g [])) + f (length (get_or ps r []))
      ≡ weigh f (sizes_of ps) + f (length (get_or ps g []) - 1) + f (length (get_or ps r []) + 1)
  moved_sizes f =
      let G = get_or ps g [] in
      let R = get_or ps r [] in
      let hg' : g < length (sizes_of ps) = rw sizes_length hg in
      let hr' : r < length (set (sizes_of ps) g (length G - 1)) = rw (length-set, sizes_length) hr in
      let a = weigh_set f (sizes_of ps) g (length G - 1) hg' in
      let b = weigh_set f (set (sizes_of ps) g (length G - 1)) r (length R + 1) hr' in
      rw sizes_moved
      (omega (arith, rw (sizes_at ps g) at a, rw (get_or-set_other (sizes_of ps) g r (length G - 1) 0 ne, sizes_at ps r) at b))

  pub moved_fair : (sh al : ℕ) → sh ≤ al → al < length (get_or ps g []) → length (get_or ps r []) < sh → (i : ℕ) → Fair sh al (get_or ps i []) (get_or (moved g r j ps) i [])
  moved_fair sh al sa hb hs i = go (eqb i r) (eqb i g) refl refl
    where
      ps' : List (List ℕ)
      ps' = set ps g (without j (get_or ps g []))

      q : List ℕ
      q = get_or ps r [] ++ (get_or (get_or ps g []) j 0 ∷ [])

      hr' : r < length ps'
      hr' = rw length-set hr

      go : (b d : Bool) → eqb i r ≡ b → eqb i g ≡ d → Fair sh al (get_or ps i []) (get_or (set ps' r q) i [])
      go true d e e' = rw (eqb-true i r e, get_or-set_same ps' r q [] hr') (fair_more (get_or ps r []) _ sa hs)
      go false true e e' =
          rw (get_or-set_other ps' r i q [] (eqb-false i r e), eqb-true i g e', get_or-set_same ps g (without j (get_or ps g [])) [] hg)
          (fair_less (get_or ps g []) j sa hb hj)
      go false false e e' =
          rw (get_or-set_other ps' r i q [] (eqb-false i r e), get_or-set_other ps g i (without j (get_or ps g [])) [] (eqb-false i g e'))
          (fair_refl sh al (get_or ps i []))

module _ (which : ℕ → List ℕ → ℕ) (within : (r : ℕ) (l : List ℕ) → 0 < length l → which r l < length l) (sh al : ℕ) (sa : sh ≤ al) where
  module _ (ps : List (List ℕ)) (hg : giver al ps < length ps) (hr : taker sh ps < length ps) where
    pub gives : al < length (get_or ps (giver al ps) [])
    gives = rw (← sizes_at ps (giver al ps)) (ltb-true al _ (seek_hit (λ n. ltb al n) (sizes_of ps) (rw sizes_length hg)))

    pub takes : length (get_or ps (taker sh ps) []) < sh
    takes = rw (← sizes_at ps (taker sh ps)) (ltb-true _ sh (seek_hit (λ n. ltb n sh) (sizes_of ps) (rw sizes_length hr)))

    pub differ : taker sh ps ≡ giver al ps → ⊥
    differ e = let t = rw e at takes in omega (arith, gives)

    pub which_in : which (taker sh ps) (get_or ps (giver al ps) []) < length (get_or ps (giver al ps) [])
    which_in = within _ _ (omega (arith, gives))

    round_sizes :
        (f : ℕ → ℕ) →
        weigh f (sizes_of (round which sh al ps)) + f (length (get_or ps (giver al ps) [])) + f (length (get_or ps (taker sh ps) []))
        ≡ weigh f (sizes_of ps) + f (length (get_or ps (giver al ps) []) - 1) + f (length (get_or ps (taker sh ps) []) + 1)
    round_sizes = moved_sizes ps (giver al ps) (taker sh ps) (which (taker sh ps) (get_or ps (giver al ps) [])) hg hr differ which_in

    round_over : over_by al (sizes_of (round which sh al ps)) + 1 ≡ over_by al (sizes_of ps)
    round_over = omega (arith, round_sizes (λ n. n - al), gives, takes)

    round_short : short_by sh (sizes_of (round which sh al ps)) + 1 ≡ short_by sh (sizes_of ps)
    round_short = omega (arith, round_sizes (λ n. sh - n), gives, takes)

  -- the rows moved are the least of the rounds, the total over and the total short
  pub moves_exactly : (n : ℕ) (ps : List (List ℕ)) → moves which sh al n ps ≡ min n (min (over_by al (sizes_of ps)) (short_by sh (sizes_of ps)))
  unfolding moves
  moves_exactly zero ps = omega arith
  moves_exactly (suc n) ps = go (ltb (giver al ps) (length ps)) (ltb (taker sh ps) (length ps)) refl refl (moves_exactly n (round which sh al ps))
    where
      go :
          (a b : Bool) → ltb (giver al ps) (length ps) ≡ a → ltb (taker sh ps) (length ps) ≡ b →
          moves which sh al n (round which sh al ps) ≡ min n (min (over_by al (sizes_of (round which sh al ps))) (short_by sh (sizes_of (round which sh al ps)))) →
          cond a (cond b (suc (moves which sh al n (round which sh al ps))) 0) 0 ≡ min (suc n) (min (over_by al (sizes_of ps)) (short_by sh (sizes_of ps)))
      go true true e d ih =
          omega (arith, ih, round_over ps (ltb-true _ _ e) (ltb-true _ _ d), round_short ps (ltb-true _ _ e) (ltb-true _ _ d))
      go true false e d ih = omega (arith, none_short sh (sizes_of ps) (rw sizes_length (ltb-false _ _ d)))
      go false true e d ih = omega (arith, none_over al (sizes_of ps) (rw sizes_length (ltb-false _ _ e)))
      go false false e d ih = omega (arith, none_over al (sizes_of ps) (rw sizes_length (ltb-false _ _ e)))

  -- what is over the allowance, and what is short of the share, goes down by the rows moved
  left_after : (f : ℕ → ℕ) → ((ps : List (List ℕ)) → giver al ps < length ps → taker sh ps < length ps → weigh f (sizes_of (round which sh al ps)) + 1 ≡ weigh f (sizes_of ps))
      → (n : ℕ) (ps : List (List ℕ)) → weigh f (sizes_of (balanced which sh al n ps)) + moves which sh al n ps ≡ weigh f (sizes_of ps)
  unfolding balanced moves
  left_after f step zero ps = omega arith
  left_after f step (suc n) ps = go (ltb (giver al ps) (length ps)) (ltb (taker sh ps) (length ps)) refl refl (left_after f step n (round which sh al ps))
    where
      go :
          (a b : Bool) → ltb (giver al ps) (length ps) ≡ a → ltb (taker sh ps) (length ps) ≡ b →
          weigh f (sizes_of (balanced which sh al n (round which sh al ps))) + moves which sh al n (round which sh al ps) ≡ weigh f (sizes_of (round which sh al ps)) →
          weigh f (sizes_of (cond a (cond b (balanced which sh al n (round which sh al ps)) ps) ps)) + cond a (cond b (suc (moves which sh al n (round which sh al ps))) 0) 0 ≡ weigh f (sizes_of ps)
      go true true e d ih = omega (arith, ih, step ps (ltb-true _ _ e) (ltb-true _ _ d))
      go true false e d ih = omega arith
      go false true e d ih = omega arith
      go false false e d ih = omega arith

  pub balanced_over : (n : ℕ) (ps : List (List ℕ)) → over_by al (sizes_of (balanced which sh al n ps)) + moves which sh al n ps ≡ over_by al (sizes_of ps)
  balanced_over = left_after (λ n. n - al) round_over

  pub balanced_short : (n : ℕ) (ps : List (List ℕ)) → short_by sh (sizes_of (balanced which sh al n ps)) + moves which sh al n ps ≡ short_by sh (sizes_of ps)
  balanced_short = left_after (λ n. sh - n) round_short

  pub balanced_length : (n : ℕ) (ps : List (List ℕ)) → length (balanced which sh al n ps) ≡ length ps
  unfolding balanced
  balanced_length zero ps = refl
  balanced_length (suc n) ps = go (ltb (giver al ps) (length ps)) (ltb (taker sh ps) (length ps)) (balanced_length n (round which sh al ps))
    where
      go : (a b : Bool) → length (balanced which sh al n (round which sh al ps)) ≡ length (round which sh al ps) → length (cond a (cond b (balanced which sh al n (round which sh al ps)) ps) ps) ≡ length ps
      go true true ih = ih ∙ simp length-set
      go true false ih = refl
      go false true ih = refl
      go false false ih = refl

  -- no row is lost or doubled
  pub balanced_same : (n : ℕ) (ps : List (List ℕ)) → Same (flat (balanced which sh al n ps)) (flat ps)
  unfolding balanced
  balanced_same zero ps f = refl
  balanced_same (suc n) ps f = go (ltb (giver al ps) (length ps)) (ltb (taker sh ps) (length ps)) refl refl (balanced_same n (round which sh al ps) f)
    where
      go :
          (a b : Bool) → ltb (giver al ps) (length ps) ≡ a → ltb (taker sh ps) (length ps) ≡ b →
          weigh f (flat (balanced which sh al n (round which sh al ps))) ≡ weigh f (flat (round which sh al ps)) →
          weigh f (flat (cond a (cond b (balanced which sh al n (round which sh al ps)) ps) ps)) ≡ weigh f (flat ps)
      go true true e d ih =
          let hg = ltb-true (giver al ps) (length ps) e in
          let hr = ltb-true (taker sh ps) (length ps) d in
          ih ∙ moved_flat ps (giver al ps) (taker sh ps) _ hg hr (differ ps hg hr) (which_in ps hg hr) f
      go true false e d ih = refl
      go false true e d ih = refl
      go false false e d ih = refl

  pub balanced_fair : (n : ℕ) (ps : List (List ℕ)) (i : ℕ) → Fair sh al (get_or ps i []) (get_or (balanced which sh al n ps) i [])
  unfolding balanced
  balanced_fair zero ps i = fair_refl sh al (get_or ps i [])
  balanced_fair (suc n) ps i = go (ltb (giver al ps) (length ps)) (ltb (taker sh ps) (length ps)) refl refl (balanced_fair n (round which sh al ps) i)
    where
      go :
          (a b : Bool) → ltb (giver al ps) (length ps) ≡ a → ltb (taker sh ps) (length ps) ≡ b →
          Fair sh al (get_or (round which sh al ps) i []) (get_or (balanced which sh al n (round which sh al ps)) i []) →
          Fair sh al (get_or ps i []) (get_or (cond a (cond b (balanced which sh al n (round which sh al ps)) ps) ps) i [])
      go true true e d ih =
          let hg = ltb-true (giver al ps) (length ps) e in
          let hr = ltb-true (taker sh ps) (length ps) d in
          fair_trans (moved_fair ps (giver al ps) (taker sh ps) _ hg hr (differ ps hg hr) (which_in ps hg hr) sh al sa (gives ps hg hr) (takes ps hg hr) i) ih
      go true false e d ih = fair_refl sh al (get_or ps i [])
      go false true e d ih = fair_refl sh al (get_or ps i [])
      go false false e d ih = fair_refl sh al (get_or ps i [])
