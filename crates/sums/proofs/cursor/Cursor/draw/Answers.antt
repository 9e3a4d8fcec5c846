use Rattle.sums.proofs.Passes.{place_on, pass_on, place_round, pass_round, drawn_wrapped}
use Rattle.sums.specs.declared.cursor.Cursor.{Cursor}
use Rattle.std.proofs.Common.{◌≡◌, ℕ, suc, ◌+◌, ◌/◌, ◌%◌, ◌<◌, length, refl, ap, add-one, arith}
use Rattle.sums.proofs.cursor.Cursor.draw.Goals as goal

-- at the end of the list: the first place again, and the next pass
pub returns-then-next-draws-clause-steps : goal.returns-then-next-draws-clause-steps
returns-then-next-draws-clause-steps c = λ n e.
    let l = c.args.draws.now in
    let cursor = c.args.self in
    let a : cursor.at ≡ n % length l = ap (λ (x : Cursor). x.at) e in
    let p : cursor.pass ≡ n / length l % 4294967296 = ap (λ (x : Cursor). x.pass) e in
    let t : suc (n % length l) ≡ length l = omega (arith, c.if-next-draws.true, a) in
    let w : (cursor.pass + 1) % 4294967296 ≡ suc (n / length l) % 4294967296 = omega (arith, p) in
    (rw (a, p) (drawn_wrapped l n), rw (place_round n (length l) t, pass_round n (length l) t) (ap (λ (x : ℕ). record { at = 0; pass = x }) w))

-- inside it: the next place, on the same pass
pub returns-clause-steps : goal.returns-clause-steps
returns-clause-steps c = λ n e.
    let l = c.args.draws.now in
    let cursor = c.args.self in
    let a : cursor.at ≡ n % length l = ap (λ (x : Cursor). x.at) e in
    let p : cursor.pass ≡ n / length l % 4294967296 = ap (λ (x : Cursor). x.pass) e in
    let t : suc (n % length l) < length l = omega (arith, c.if-next-draws.false, a, c.requires) in
    (rw (a, p) (drawn_wrapped l n), rw (add-one, a, p, place_on n (length l) t, pass_on n (length l) t) refl)
