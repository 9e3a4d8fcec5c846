-- The ring of draws: the place and the pass of a draw, and what 02 (i) says of draws.
use Rattle.std.proofs.Common.{◌≡◌, ℕ, suc, ◌+◌, ◌*◌, ◌/◌, ◌%◌, ◌<◌, List, length, get_or, sym, ap, ◌∙◌, mod-eq_of_lt, div-add-mod', arith}
use native.Mathlib.Nat.{add-mul-mod_self_right, add-mul-div_right, mod_self, zero-mod, div_self, div-eq_of_lt}
use Rattle.sums.specs.declared.cursor.Cursor.{Cursor}
use Rattle.sums.specs.Cells.{Below}
use Rattle.sums.specs.Draws.{drawn, cursor_at}

-- ---- the next draw's place and pass
again : (n l : ℕ) → suc n ≡ suc (n % l) + n / l * l
again n l = omega (arith, div-add-mod' n l)

next_place : (n l : ℕ) → suc n % l ≡ suc (n % l) % l
next_place n l = ap (λ (x : ℕ). x % l) (again n l) ∙ add-mul-mod_self_right (suc (n % l)) (n / l) l

next_pass : (n l : ℕ) → 0 < l → suc n / l ≡ suc (n % l) / l + n / l
next_pass n l h = ap (λ (x : ℕ). x / l) (again n l) ∙ add-mul-div_right (suc (n % l)) (n / l) h

pub place_on : (n l : ℕ) → suc (n % l) < l → suc n % l ≡ suc (n % l)
place_on n l h = next_place n l ∙ mod-eq_of_lt h

pub pass_on : (n l : ℕ) → suc (n % l) < l → suc n / l ≡ n / l
pass_on n l h = let d : suc (n % l) / l ≡ 0 = div-eq_of_lt h in rw (next_pass n l (omega arith), d) (omega arith)

pub place_round : (n l : ℕ) → suc (n % l) ≡ l → suc n % l ≡ 0
place_round n l h = next_place n l ∙ (ap (λ (x : ℕ). x % l) h ∙ mod_self l)

pub pass_round : (n l : ℕ) → suc (n % l) ≡ l → suc n / l ≡ suc (n / l)
pass_round n l h =
    let p : 0 < l = omega (arith, h) in
    let d : suc (n % l) / l ≡ 1 = ap (λ (x : ℕ). x / l) h ∙ div_self p in
    rw (next_pass n l p, d) (omega arith)

-- ---- the cursor that a call starts with stands inside a list that has a number
pub start_inside : (draws : List ℕ) (cursor : Cursor) → cursor ≡ cursor_at draws 0 → 0 < length draws → cursor.at < length draws
start_inside draws cursor e h = rw (e, zero-mod (length draws)) h

-- ---- a cursor stands for its own place and pass
pub cursor_own : (draws : List ℕ) (cursor : Cursor) → cursor.at < length draws → cursor.pass < 4294967296
    → cursor ≡ cursor_at draws (cursor.at + cursor.pass * length draws)
cursor_own draws cursor h p =
    let l = length draws in
    let f : ℕ → ℕ → Cursor = λ x y. record { at = x; pass = y } in
    let a : (cursor.at + cursor.pass * l) % l ≡ cursor.at = add-mul-mod_self_right cursor.at cursor.pass l ∙ mod-eq_of_lt h in
    let some : 0 < l = omega arith in
    let z : cursor.at / l ≡ 0 = div-eq_of_lt h in
    let d : (cursor.at + cursor.pass * l) / l ≡ cursor.pass = rw (add-mul-div_right cursor.at cursor.pass some, z) (omega arith) in
    let q : cursor.pass ≡ (cursor.at + cursor.pass * l) / l % 4294967296 = sym (ap (λ (x : ℕ). x % 4294967296) d ∙ mod-eq_of_lt p) in
    ap (λ (x : ℕ). f x cursor.pass) (sym a) ∙ ap (λ (y : ℕ). f ((cursor.at + cursor.pass * l) % l) y) q

-- ---- what 02 (i) says

-- a draw has 32 bits
pub drawn_below : (draws : List ℕ) (n : ℕ) → drawn draws n < 4294967296
unfolding drawn
drawn_below draws n = omega arith

-- a pass later it is one more, wrapping
pub drawn_later : (draws : List ℕ) (n : ℕ) → 0 < length draws → drawn draws (n + length draws) ≡ (drawn draws n + 1) % 4294967296
unfolding drawn
drawn_later draws n h =
    let l = length draws in
    let s : n + l ≡ n + 1 * l = omega arith in
    let e : (n + l) % l ≡ n % l = ap (λ (x : ℕ). x % l) s ∙ add-mul-mod_self_right n 1 l in
    let d : (n + l) / l ≡ n / l + 1 = ap (λ (x : ℕ). x / l) s ∙ add-mul-div_right n 1 h in
    rw (e, d) (omega arith)

-- on the first pass it is the listed number
pub drawn_first : (draws : List ℕ) (n : ℕ) → Below 4294967296 draws → n < length draws → drawn draws n ≡ get_or draws n 0
unfolding drawn
drawn_first draws n b h =
    let e : n % length draws ≡ n = mod-eq_of_lt h in
    let d : n / length draws ≡ 0 = div-eq_of_lt h in
    rw (e, d) (let k : get_or draws n 0 < 4294967296 = b n h in omega arith)

-- the cursor's pass, which wraps, gives the same sum
pub drawn_wrapped : (draws : List ℕ) (n : ℕ) → (get_or draws (cursor_at draws n).at 0 + (cursor_at draws n).pass) % 4294967296 ≡ drawn draws n
unfolding drawn
drawn_wrapped draws n = omega arith
