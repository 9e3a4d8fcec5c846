-- What a mode does about unplaced rows: 9 or nothing, and when. Assumes nothing.
use mathlib.Core.Path.{◌≡◌, refl, sym, ap, ◌∙◌}
use mathlib.Core.Logic.{◌↔◌, ◌⊎◌, inl, inr}
use Prim.Native.Nat.{ℕ, zero, suc, ◌<◌}
use native.Mathlib.Omega.{arith}
use Rattle.sums.specs.Refusals.{Answer, accepted, refused, unless}
use Rattle.sums.proofs.Whens.{not_both}
use Rattle.labels.specs.declared.mode.Mode.{Mode}
use Rattle.labels.specs.declared.mode.Mode.TheVariants.{Strict, OldWay}
use Rattle.labels.specs.Mode.{unplaced_refusal}

-- The old way refuses nothing, whatever is unplaced.
pub old_way : (unplaced : ℕ) → unplaced_refusal OldWay unplaced ≡ 0
unfolding unplaced_refusal
old_way unplaced = refl

-- The new way refuses exactly where a row is unplaced, by 9.
pub strict_none : (unplaced : ℕ) → (unplaced_refusal Strict unplaced ≡ 0) ↔ (unplaced ≡ 0)
unfolding unplaced_refusal
strict_none zero = ((λ e. refl), (λ e. refl))
strict_none (suc n) = ((λ e. absurd (omega (arith, e))), (λ e. absurd (omega (arith, e))))

pub strict_nine : (unplaced : ℕ) → (unplaced_refusal Strict unplaced ≡ 9) ↔ (0 < unplaced)
unfolding unplaced_refusal
strict_nine zero = ((λ e. absurd (omega (arith, e))), (λ h. absurd (omega (arith, h))))
strict_nine (suc n) = ((λ e. omega arith), (λ h. refl))

-- Nothing refuses, or the mode is strict and a row is unplaced.
pub none_or_strict : (mode : Mode) (unplaced : ℕ) → (unplaced_refusal mode unplaced ≡ 0) ⊎ ((mode ≡ Strict) × (0 < unplaced))
unfolding unplaced_refusal
none_or_strict Strict zero = inl refl
none_or_strict Strict (suc n) = inr (refl, omega arith)
none_or_strict OldWay n = inl refl

-- 9 exactly where the mode is strict and a row is unplaced.
pub nine_exactly : (mode : Mode) (unplaced : ℕ) → (unplaced_refusal mode unplaced ≡ 9) ↔ ((mode ≡ Strict) × (0 < unplaced))
unfolding unplaced_refusal
nine_exactly Strict n = ((λ e. (refl, (strict_nine n).0 e)), (λ t. (strict_nine n).1 t.1))
nine_exactly OldWay n = ((λ e. absurd (omega (arith, e))), (λ t. let z : ◌≡◌ {A = ℕ} 0 9 = ap (λ (m : Mode). unplaced_refusal m 1) t.0 in absurd (omega arith)))

-- ---- an answer that unplaced rows may refuse
module _ {A : Type 0} (mode : Mode) (unplaced : ℕ) (a : A) where
  abbrev pub allowed : Answer A
  allowed = unless (unplaced_refusal mode unplaced) (accepted a)

  -- Refused by 9 exactly when the mode is strict and a row is unplaced.
  pub allowed_nine : (allowed ≡ refused 9) ↔ ((mode ≡ Strict) × (0 < unplaced))
  unfolding unless
  allowed_nine = (
    (λ c. go (unplaced_refusal mode unplaced) refl c),
    (λ t. ap (λ (n : ℕ). unless n (accepted a)) ((nine_exactly mode unplaced).1 t)),
  )
    where
      go : (n : ℕ) → unplaced_refusal mode unplaced ≡ n → unless n (accepted a) ≡ refused 9 → (mode ≡ Strict) × (0 < unplaced)
      go zero e c = absurd (not_both a 9 c)
      go (suc n) e c = let z : suc n ≡ 9 = cc in (nine_exactly mode unplaced).0 (e ∙ z)

  -- No other number refuses it.
  pub allowed_otherwise : (number : ℕ) → allowed ≡ refused number → number ≡ 9
  unfolding unless
  allowed_otherwise number c = go (none_or_strict mode unplaced)
    where
      go : (unplaced_refusal mode unplaced ≡ 0) ⊎ ((mode ≡ Strict) × (0 < unplaced)) → number ≡ 9
      go (inl e) = absurd (not_both a number (rw e at c))
      go (inr t) = let d : ◌≡◌ {A = Answer A} (refused 9) (refused number) = sym (allowed_nine.1 t) ∙ c in cc

  -- Accepted, as it is, exactly when nothing refuses.
  pub allowed_accepted : (b : A) → (allowed ≡ accepted b) ↔ ((unplaced_refusal mode unplaced ≡ 0) × (a ≡ b))
  unfolding unless
  allowed_accepted b = ((λ c. go (unplaced_refusal mode unplaced) refl c), (λ t. ap (λ (n : ℕ). unless n (accepted a)) t.0 ∙ ap accepted t.1))
    where
      go : (n : ℕ) → unplaced_refusal mode unplaced ≡ n → unless n (accepted a) ≡ accepted b → (unplaced_refusal mode unplaced ≡ 0) × (a ≡ b)
      go zero e c = (e, cc)
      go (suc n) e c = absurd (not_both b (suc n) (sym c))

-- ---- a call that a number may refuse before that, in both ways
module _ {A : Type 0} (number : ℕ) (count : A → ℕ) (a : A) where
  abbrev pub called : Mode → Answer A
  called mode = unless number (allowed mode (count a) a)

  -- The old way is the call with no such refusal.
  pub called_old : called OldWay ≡ unless number (accepted a)
  unfolding unless
  called_old = ap (λ (n : ℕ). unless number (unless n (accepted a))) (old_way (count a))

  -- The new way is accepted exactly when the old way is and nothing is unplaced, and gives the same.
  pub called_strict : (b : A) → (called Strict ≡ accepted b) ↔ ((called OldWay ≡ accepted b) × (count b ≡ 0))
  unfolding unless
  called_strict b = go number
    where
      go : (n : ℕ) → (unless n (allowed Strict (count a) a) ≡ accepted b) ↔ ((unless n (allowed OldWay (count a) a) ≡ accepted b) × (count b ≡ 0))
      go zero = (
        (λ c.
            let t = (allowed_accepted Strict (count a) a b).0 c in
            ((allowed_accepted OldWay (count a) a b).1 (old_way (count a), t.1), sym (ap count t.1) ∙ (strict_none (count a)).0 t.0)),
        (λ t.
            let s = (allowed_accepted OldWay (count a) a b).0 t.0 in
            (allowed_accepted Strict (count a) a b).1 ((strict_none (count a)).1 (ap count s.1 ∙ t.1), s.1)),
      )
      go (suc n) = ((λ c. absurd (not_both b (suc n) (sym c))), (λ t. absurd (not_both b (suc n) (sym t.0))))
