-- A row moved between parts is a turn by one of a stretch of the layout. Assumes nothing.
use mathlib.Core.Path.{◌≡◌, refl, sym, ap, subst, ◌∙◌}
use mathlib.Core.List.{List, [], ◌∷◌, ◌++◌, append_assoc}
use mathlib.Core.Bool.{Bool, true, false}
use Prim.Native.Nat.{ℕ, suc, ◌+◌, ◌-◌, ◌≤◌, ◌<◌}
use native.Mathlib.Numerals.{add-one}
use native.Mathlib.Omega.{arith}
use lib.Dec.{ltb}
use borrow.Author.Tests.{lt-ltb, le-ltb, ltb-true, ltb-false}
use lib.ListN.{length, take, drop, get_or, length-append, length-take, length-drop}
use lib.Seq.{length-take-le, take_at, drop_at, set_at, get_or_at, split_at}
use borrow.Rule.Slice.PartMut.{put_mid, mid_of}
use Rattle.grouping.specs.Parts.{sizes_of, flat}
use Rattle.grouping.specs.Balance.{moved}
use Rattle.grouping.specs.PartsInside.{total, carried}
use Rattle.sums.proofs.Fronts.{mid_at, put_at}
use Rattle.grouping.proofs.Lists.{without, drop_past, two_places}
use Rattle.grouping.proofs.Layouts.{sizes_length, sizes_at, sizes_after, flat_append, start_le, start_order}

module _ (pre mid post : List (List ℕ)) (P Q : List ℕ) (a b : ℕ) (la : length pre ≡ a) (lb : a + suc (length mid) ≡ b) where
  regroup : (Q : List ℕ) (P : List ℕ) → pre ++ P ∷ (mid ++ Q ∷ post) ≡ (pre ++ P ∷ mid) ++ Q ∷ post
  regroup Q P = sym (append_assoc pre (P ∷ mid) (Q ∷ post))

  lb' : (P : List ℕ) → length (pre ++ P ∷ mid) ≡ b
  lb' P = length-append pre (P ∷ mid) ∙ omega arith

  first : get_or (pre ++ P ∷ (mid ++ Q ∷ post)) a [] ≡ P
  first = get_or_at pre P _ [] a la

  second : get_or (pre ++ P ∷ (mid ++ Q ∷ post)) b [] ≡ Q
  second = rw (regroup Q P) (get_or_at (pre ++ P ∷ mid) Q post [] b (lb' P))

  pub after_first : drop (suc a) (pre ++ P ∷ (mid ++ Q ∷ post)) ≡ mid ++ Q ∷ post
  after_first = drop_past pre P (mid ++ Q ∷ post) a la

  pub after_second : drop (suc b) (pre ++ P ∷ (mid ++ Q ∷ post)) ≡ post
  after_second = rw (regroup Q P) (drop_past (pre ++ P ∷ mid) Q post b (lb' P))

  -- the giver lies later in the list, and first in the layout
  pub moved_down : (j : ℕ) → moved b a j (pre ++ P ∷ (mid ++ Q ∷ post)) ≡ pre ++ (P ++ (get_or Q j 0 ∷ [])) ∷ (mid ++ without j Q ∷ post)
  moved_down j =
      rw (second, first, regroup Q P, set_at (pre ++ P ∷ mid) Q post (without j Q) b (lb' P), ← regroup (without j Q) P)
      (set_at pre P _ _ a la)

  pub moved_up : (j : ℕ) → moved a b j (pre ++ P ∷ (mid ++ Q ∷ post)) ≡ pre ++ without j P ∷ (mid ++ (Q ++ (get_or P j 0 ∷ [])) ∷ post)
  moved_up j =
      rw (second, first, set_at pre P (mid ++ Q ∷ post) (without j P) a la, regroup Q (without j P), regroup (Q ++ (get_or P j 0 ∷ [])) (without j P))
      (set_at (pre ++ without j P ∷ mid) Q post _ b (lb' (without j P)))

  layout : (P Q : List ℕ) → flat (pre ++ P ∷ (mid ++ Q ∷ post)) ≡ flat post ++ (Q ++ (flat mid ++ (P ++ flat pre)))
  unfolding flat
  layout P Q = simp (flat_append, append_assoc)

  before_first : length (flat (mid ++ Q ∷ post)) ≡ length (flat post) + length Q + length (flat mid)
  unfolding flat
  before_first = simp (flat_append, length-append)

  -- the receiver a lies behind the giver b in the layout: rows move up
  pub rotate_down :
      (j from end : ℕ) → j < length Q →
      from ≡ length (flat (drop (suc b) (pre ++ P ∷ (mid ++ Q ∷ post)))) + j →
      end ≡ length (flat (drop (suc a) (pre ++ P ∷ (mid ++ Q ∷ post)))) + length P →
      (t : List ℕ) →
      t ≡ drop 1 (mid_of from (end - from) (flat (pre ++ P ∷ (mid ++ Q ∷ post)))) ++ take 1 (mid_of from (end - from) (flat (pre ++ P ∷ (mid ++ Q ∷ post)))) →
      put_mid from (end - from) (flat (pre ++ P ∷ (mid ++ Q ∷ post))) t ≡ flat (moved b a j (pre ++ P ∷ (mid ++ Q ∷ post)))
  rotate_down j from end p f e t h =
      let W = flat (pre ++ P ∷ (mid ++ Q ∷ post)) in
      let x = get_or Q j 0 in
      let B : List ℕ = flat post ++ take j Q in
      let T : List ℕ = drop (suc j) Q ++ (flat mid ++ P) in
      let w : W ≡ B ++ ((x ∷ T) ++ flat pre) =
      layout P Q ∙ ap (λ (z : List ℕ). flat post ++ (z ++ (flat mid ++ (P ++ flat pre)))) (split_at Q j 0 p) ∙ simp append_assoc
      in
      let lt : length (take j Q) ≡ j = length-take-le j Q (omega arith) in
      let l : length B ≡ from = omega (arith, length-append (flat post) (take j Q), rw after_second at f) in
      let ld : length (drop (suc j) Q) ≡ length Q - suc j = length-drop (suc j) Q in
      let l' : length (x ∷ T) ≡ end - from =
      omega (
        arith,
        length-append (drop (suc j) Q) (flat mid ++ P),
        length-append (flat mid) P,
        rw after_second at f,
        rw after_first at e,
        before_first,
      )
      in
      let t' : t ≡ T ++ (x ∷ []) = h ∙ rw (mid_at W B (x ∷ T) (flat pre) from (end - from) w l l') in
      put_at W B (x ∷ T) (flat pre) from (end - from) w l l' t
      ∙ rw (t', moved_down j, layout (P ++ (x ∷ [])) (without j Q)) (simp append_assoc)

  -- the receiver b lies before the giver a in the layout: rows move down
  pub rotate_up :
      (j end past : ℕ) → j < length P →
      past ≡ length (flat (drop (suc a) (pre ++ P ∷ (mid ++ Q ∷ post)))) + j + 1 →
      end ≡ length (flat (drop (suc b) (pre ++ P ∷ (mid ++ Q ∷ post)))) + length Q →
      (t : List ℕ) →
      t
      ≡ drop (length (mid_of end (past - end) (flat (pre ++ P ∷ (mid ++ Q ∷ post)))) - 1) (mid_of end (past - end) (flat (pre ++ P ∷ (mid ++ Q ∷ post))))
      ++ take (length (mid_of end (past - end) (flat (pre ++ P ∷ (mid ++ Q ∷ post)))) - 1) (mid_of end (past - end) (flat (pre ++ P ∷ (mid ++ Q ∷ post)))) →
      put_mid end (past - end) (flat (pre ++ P ∷ (mid ++ Q ∷ post))) t ≡ flat (moved a b j (pre ++ P ∷ (mid ++ Q ∷ post)))
  rotate_up j end past p f e t h =
      let W = flat (pre ++ P ∷ (mid ++ Q ∷ post)) in
      let x = get_or P j 0 in
      let B : List ℕ = flat post ++ Q in
      let T : List ℕ = flat mid ++ take j P in
      let Z : List ℕ = drop (suc j) P ++ flat pre in
      let w : W ≡ B ++ ((T ++ (x ∷ [])) ++ Z) =
      layout P Q ∙ ap (λ (z : List ℕ). flat post ++ (Q ++ (flat mid ++ (z ++ flat pre)))) (split_at P j 0 p) ∙ simp append_assoc
      in
      let lt : length (take j P) ≡ j = length-take-le j P (omega arith) in
      let l : length B ≡ end = omega (arith, length-append (flat post) Q, rw after_second at e) in
      let n : length (T ++ (x ∷ [])) ≡ length T + 1 = length-append T (x ∷ []) in
      let l' : length (T ++ (x ∷ [])) ≡ past - end =
      omega (arith, length-append (flat mid) (take j P), rw after_second at e, rw after_first at f, before_first)
      in
      let n' : length (T ++ (x ∷ [])) - 1 ≡ length T = omega arith in
      let t' : t ≡ x ∷ T =
      h ∙ rw (mid_at W B (T ++ (x ∷ [])) Z end (past - end) w l l', n', drop_at T (x ∷ []) (length T) refl, take_at T (x ∷ []) (length T) refl)
      in
      put_at W B (T ++ (x ∷ [])) Z end (past - end) w l l' t
      ∙ rw (t', moved_up j, layout (without j P) (Q ++ (x ∷ []))) (simp append_assoc)

module _ (part sizes : List ℕ) (ps : List (List ℕ)) (pe : part ≡ flat ps) (se : sizes ≡ sizes_of ps) (g r j : ℕ) where
  before : (c : ℕ) → total (drop (c + 1) sizes) ≡ length (flat (drop (suc c) ps))
  before c = rw (se, add-one c) (sizes_after ps (suc c))

  taken : (c : ℕ) → c < length ps → length (take c ps) ≡ c
  taken c h = length-take-le c ps (omega arith)

  between : (a b : ℕ) → a < b → b < length ps → a + suc (length (take (b - suc a) (drop (suc a) ps))) ≡ b
  between a b h k = simp (length-take, length-drop) (omega arith)

  of : (c : ℕ) → get_or sizes c 0 ≡ length (get_or ps c [])
  of c = rw se (sizes_at ps c)

  pub later :
      (from end : ℕ) → r < g → g < length sizes → j < get_or sizes g 0 →
      from ≡ total (drop (g + 1) sizes) + j → end ≡ total (drop (r + 1) sizes) + get_or sizes r 0 →
      (t : List ℕ) → t ≡ drop 1 (mid_of from (end - from) part) ++ take 1 (mid_of from (end - from) part) →
      put_mid from (end - from) part t ≡ flat (moved g r j ps)
  later from end rg gl jl f e t h =
      let gl' : g < length ps = omega (arith, ap length se, sizes_length ps) in
      let jl' : j < length (get_or ps g []) = omega (arith, of g) in
      let f' : from ≡ length (flat (drop (suc g) ps)) + j = omega (arith, before g) in
      let e' : end ≡ length (flat (drop (suc r) ps)) + length (get_or ps r []) = omega (arith, before r, of r) in
      rw pe
      (subst
      (λ (z : List (List ℕ)).
      from ≡ length (flat (drop (suc g) z)) + j →
      end ≡ length (flat (drop (suc r) z)) + length (get_or ps r []) →
      t ≡ drop 1 (mid_of from (end - from) (flat z)) ++ take 1 (mid_of from (end - from) (flat z)) →
      put_mid from (end - from) (flat z) t ≡ flat (moved g r j z))
      (sym (two_places ps [] r g rg gl'))
      (λ f e h. rotate_down (take r ps) (take (g - suc r) (drop (suc r) ps)) (drop (suc g) ps) (get_or ps r []) (get_or ps g []) r g (taken r (omega arith)) (between r g rg gl') j from end jl' f e t h)
      f' e' (rw pe at h))

  pub sooner :
      (end past : ℕ) → g < r → r < length sizes → j < get_or sizes g 0 →
      past ≡ total (drop (g + 1) sizes) + j + 1 → end ≡ total (drop (r + 1) sizes) + get_or sizes r 0 →
      (t : List ℕ) → t ≡ drop (length (mid_of end (past - end) part) - 1) (mid_of end (past - end) part) ++ take (length (mid_of end (past - end) part) - 1) (mid_of end (past - end) part) →
      put_mid end (past - end) part t ≡ flat (moved g r j ps)
  sooner end past gr rl jl f e t h =
      let rl' : r < length ps = omega (arith, ap length se, sizes_length ps) in
      let jl' : j < length (get_or ps g []) = omega (arith, of g) in
      let f' : past ≡ length (flat (drop (suc g) ps)) + j + 1 = omega (arith, before g) in
      let e' : end ≡ length (flat (drop (suc r) ps)) + length (get_or ps r []) = omega (arith, before r, of r) in
      rw pe
      (subst
      (λ (z : List (List ℕ)).
      past ≡ length (flat (drop (suc g) z)) + j + 1 →
      end ≡ length (flat (drop (suc r) z)) + length (get_or ps r []) →
      t ≡ drop (length (mid_of end (past - end) (flat z)) - 1) (mid_of end (past - end) (flat z)) ++ take (length (mid_of end (past - end) (flat z)) - 1) (mid_of end (past - end) (flat z)) →
      put_mid end (past - end) (flat z) t ≡ flat (moved g r j z))
      (sym (two_places ps [] g r gr rl'))
      (λ f e h. rotate_up (take g ps) (take (r - suc g) (drop (suc g) ps)) (drop (suc r) ps) (get_or ps g []) (get_or ps r []) g r (taken g (omega arith)) (between g r gr rl') j end past jl' f e t h)
      f' e' (rw pe at h))

pub two_sizes : (s : List ℕ) (a b : ℕ) → a < length s → b < length s → (a ≡ b → ⊥) → get_or s a 0 + get_or s b 0 ≤ total s
two_sizes s a b p q ne = go (ltb a b) refl
  where
    go : (t : Bool) → ltb a b ≡ t → get_or s a 0 + get_or s b 0 ≤ total s
    go true e = omega (arith, start_order s a b (ltb-true a b e) q, start_le s a p)
    go false e =
        let h : b < a = omega (arith, ltb-false a b e, ne) in
        omega (arith, start_order s b a h p, start_le s b q)

pub carried_moved :
    (part sizes : List ℕ) (ps : List (List ℕ)) → part ≡ flat ps → sizes ≡ sizes_of ps → (g r j from end : ℕ) →
    g < length sizes → r < length sizes → (r ≡ g → ⊥) → j < get_or sizes g 0 →
    from ≡ total (drop (g + 1) sizes) + j → end ≡ total (drop (r + 1) sizes) + get_or sizes r 0 →
    carried from end part ≡ flat (moved g r j ps)
carried_moved part sizes ps pe se g r j from end hg hr ne hj f e = go (ltb r g) refl
  where
    go : (t : Bool) → ltb r g ≡ t → carried from end part ≡ flat (moved g r j ps)
    go true t =
        let h : r < g = ltb-true r g t in
        let l : from < end = omega (arith, start_order sizes r g h hg) in
        rw (lt-ltb from end l) (later part sizes ps pe se g r j from end h hg hj f e _ refl)
    go false t =
        let h : g < r = omega (arith, ltb-false r g t, ne) in
        let l : end ≤ from = omega (arith, start_order sizes g r h hr) in
        rw (le-ltb from end l) (sooner part sizes ps pe se g r j end (from + 1) h hr hj (omega arith) e _ refl)
