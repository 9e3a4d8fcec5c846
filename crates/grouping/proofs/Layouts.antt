-- Parts, their sizes, and the parts laid out with the last first. Assumes nothing.
use mathlib.Core.Path.{◌≡◌, refl, sym, ap, ◌∙◌}
use mathlib.Core.List.{List, [], ◌∷◌, ◌++◌, append-nil, append_assoc}
use Prim.Native.Nat.{ℕ, zero, suc, ◌+◌, ◌-◌, ◌≤◌, ◌<◌}
use native.Mathlib.Numerals.{add-one}
use native.Mathlib.Omega.{arith}
use lib.ListN.{length, take, drop, get_or, set, length-append, length-drop, take-append-drop}
use lib.Seq.{length-take-le, split_at, drop-drop}
use Rattle.sums.proofs.Weighs.{weigh, weigh_append, weigh_drop, weigh_at}
use Rattle.grouping.specs.Parts.{sizes_of, flat}
use Rattle.grouping.specs.PartsInside.{total}
use Rattle.sums.proofs.Fronts.{mid_at}

pub sizes_length : (ps : List (List ℕ)) → length (sizes_of ps) ≡ length ps
sizes_length [] = refl
sizes_length (p ∷ ps) = ap suc (sizes_length ps)

pub sizes_at : (ps : List (List ℕ)) (i : ℕ) → get_or (sizes_of ps) i 0 ≡ length (get_or ps i [])
sizes_at [] i = refl
sizes_at (p ∷ ps) zero = refl
sizes_at (p ∷ ps) (suc i) = sizes_at ps i

pub sizes_set : (ps : List (List ℕ)) (i : ℕ) (p : List ℕ) → sizes_of (set ps i p) ≡ set (sizes_of ps) i (length p)
sizes_set [] i p = refl
sizes_set (q ∷ ps) zero p = refl
sizes_set (q ∷ ps) (suc i) p = ap (λ (l : List ℕ). length q ∷ l) (sizes_set ps i p)

pub flat_append : (a b : List (List ℕ)) → flat (a ++ b) ≡ flat b ++ flat a
unfolding flat
flat_append [] b = sym (append-nil (flat b))
flat_append (p ∷ ps) b = ap (λ (z : List ℕ). z ++ p) (flat_append ps b) ∙ append_assoc (flat b) (flat ps) p

pub weigh_flat_set : (f : ℕ → ℕ) (ps : List (List ℕ)) (i : ℕ) (p : List ℕ) → i < length ps
    → weigh f (flat (set ps i p)) + weigh f (get_or ps i []) ≡ weigh f (flat ps) + weigh f p
unfolding flat
weigh_flat_set f [] i p h = absurd (omega arith)
weigh_flat_set f (x ∷ xs) zero p h = omega (arith, weigh_append f (flat xs) p, weigh_append f (flat xs) x)
weigh_flat_set f (x ∷ xs) (suc i) p h =
    omega (arith, weigh_append f (flat (set xs i p)) x, weigh_append f (flat xs) x, weigh_flat_set f xs i p (omega arith))

-- the parts from n on are a front of the layout
pub flat_drop : (n : ℕ) (ps : List (List ℕ)) → length (flat (drop n ps)) ≤ length (flat ps)
unfolding flat
flat_drop zero ps = omega arith
flat_drop (suc n) [] = omega arith
flat_drop (suc n) (p ∷ ps) = omega (arith, length-append (flat ps) p, flat_drop n ps)

-- ---- totals are weights
pub total_weigh : (l : List ℕ) → total l ≡ weigh (λ x. x) l
unfolding total
total_weigh [] = refl
total_weigh (x ∷ l) = omega (arith, total_weigh l)

pub total-none : total [] ≡ 0
unfolding total
total-none = refl

pub total_drop : (n : ℕ) (l : List ℕ) → total (drop n l) ≤ total l
total_drop n l = rw (total_weigh (drop n l), total_weigh l) (weigh_drop (λ x. x) n l)

pub total_at : (i : ℕ) (l : List ℕ) → i < length l → total (drop i l) ≡ get_or l i 0 + total (drop (suc i) l)
total_at i l h = rw (total_weigh (drop i l), total_weigh (drop (suc i) l)) (weigh_at (λ x. x) i l h)

-- where a part begins and ends in the layout, from the sizes
pub start_le : (s : List ℕ) (c : ℕ) → c < length s → total (drop (c + 1) s) + get_or s c 0 ≤ total s
start_le s c h = rw (add-one c) (omega (arith, total_at c s h, total_drop c s))

pub start_order : (s : List ℕ) (a b : ℕ) → a < b → b < length s → total (drop (b + 1) s) + get_or s b 0 ≤ total (drop (a + 1) s)
start_order s a b h k =
    let e : suc a + (b - suc a) ≡ b = omega arith in
    let w : total (drop b s) ≤ total (drop (suc a) s) = rw (drop-drop (b - suc a) (suc a) s, e) at (total_drop (b - suc a) (drop (suc a) s)) in
    rw (add-one a, add-one b) (omega (arith, total_at b s k))

pub sizes_after : (ps : List (List ℕ)) (n : ℕ) → total (drop n (sizes_of ps)) ≡ length (flat (drop n ps))
unfolding total flat
sizes_after [] zero = refl
sizes_after [] (suc n) = refl
sizes_after (p ∷ ps) zero = omega (arith, length-append (flat ps) p, sizes_after ps zero)
sizes_after (p ∷ ps) (suc n) = sizes_after ps n

-- the sizes of parts make up the length of their layout
pub sizes_total : (ps : List (List ℕ)) (part sizes : List ℕ) → part ≡ flat ps → sizes ≡ sizes_of ps → total sizes ≡ length part
sizes_total ps part sizes p s = rw (p, s) (sizes_after ps 0)

-- part g where the sizes say that it lies
pub part_at : (part sizes : List ℕ) (ps : List (List ℕ)) → part ≡ flat ps → sizes ≡ sizes_of ps → (g from end : ℕ) → g < length sizes
    → from ≡ total (drop (g + 1) sizes) → end ≡ from + get_or sizes g 0 → take (end - from) (drop from part) ≡ get_or ps g []
unfolding flat
part_at part sizes ps pe se g from end h f e =
    let k : g < length ps = omega (arith, ap length se, sizes_length ps) in
    let P : List ℕ = get_or ps g [] in
    let post : List (List ℕ) = drop (suc g) ps in
    let n : end - from ≡ length P = omega (arith, ap (λ (z : List ℕ). get_or z g 0) se, sizes_at ps g) in
    let l : length (flat post) ≡ from = sym (sizes_after ps (suc g)) ∙ sym (f ∙ rw (se, add-one g)) in
    let w : part ≡ flat post ++ (P ++ flat (take g ps)) = pe ∙ ap flat (split_at ps g [] k) ∙ rw (flat_append (take g ps) (P ∷ post), append_assoc) in
    mid_at part (flat post) P (flat (take g ps)) from (end - from) w l (sym n)

-- every list is the layout of parts of any sizes that make up its length
pub cut : List ℕ → List ℕ → List (List ℕ)
cut [] part = []
cut (n ∷ ns) part = drop (total ns) part ∷ cut ns (take (total ns) part)

pub cut_flat : (sizes part : List ℕ) → total sizes ≡ length part → part ≡ flat (cut sizes part)
unfolding total flat cut
cut_flat [] [] h = refl
cut_flat [] (x ∷ part) h = absurd (omega arith)
cut_flat (n ∷ ns) part h =
    let l : length (take (total ns) part) ≡ total ns = length-take-le (total ns) part (omega arith) in
    rw (← cut_flat ns (take (total ns) part) (sym l)) (sym (take-append-drop (total ns) part))

pub cut_sizes : (sizes part : List ℕ) → total sizes ≡ length part → sizes ≡ sizes_of (cut sizes part)
unfolding total cut
cut_sizes [] part h = refl
cut_sizes (n ∷ ns) part h =
    let l : length (take (total ns) part) ≡ total ns = length-take-le (total ns) part (omega arith) in
    let e : n ≡ length (drop (total ns) part) = omega (arith, length-drop (total ns) part) in
    rw (← e, ← cut_sizes ns (take (total ns) part) (sym l))
