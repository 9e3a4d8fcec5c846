use Prim.Native.Nat.{ℕ, ◌+◌, ◌-◌}
use mathlib.Core.Path.{◌≡◌, sym, ◌∙◌}
use borrow.Author.Tests.{lt-leb, le-leb}
use lib.ListN.{replicate}
use lib.Seq.{length-take-le}
use Rattle.sums.proofs.Rows.{part_length}
use Rattle.replay.specs.Replay.{agrees_in}
use native.Mathlib.Omega.{arith}
use Rattle.replay.proofs.agrees_in.Goals as goal

pub returns-then-end-gt384 : goal.returns-then-end-gt384
unfolding agrees_in
returns-then-end-gt384 c =
    let a = c.args in
    rw (lt-leb (64 + a.a + a.b + a.c + a.d) 384 c.if-end-gt384.true)

pub slice_bounds-agrees_as-end : goal.slice_bounds-agrees_as-end
slice_bounds-agrees_as-end c = sym (length-take-le 64 c.args.stored.now (omega (arith, c.requires.0)))

pub slice_bounds-agrees_as-end-6 : goal.slice_bounds-agrees_as-end-6
slice_bounds-agrees_as-end-6 c = sym (length-take-le c.args.c (replicate 320 0) (omega (arith, c.if-end-gt384.false)))

pub invariant_of-agrees_as : goal.invariant_of-agrees_as
invariant_of-agrees_as c = record { whole = length-take-le 64 c.args.stored.now (omega (arith, c.requires.0)) }

pub agrees_as-requires : goal.agrees_as-requires
agrees_as-requires c =
    let a = c.args in
    let s = a.stored.now in
    let p = part_length 64 a.a s (omega (arith, c.if-end-gt384.false, c.requires.0)) in
    let q = part_length (64 + a.a) a.b s (omega (arith, c.if-end-gt384.false, c.requires.0)) in
    let t = part_length (64 + a.a + a.b) a.c s (omega (arith, c.if-end-gt384.false, c.requires.0)) in
    let u = part_length (64 + a.a + a.b + a.c) a.d s (omega (arith, c.if-end-gt384.false, c.requires.0)) in
    let room = length-take-le {A = ℕ} a.c (replicate 320 0) (omega (arith, c.if-end-gt384.false)) in record { res_len = room ∙ sym t; a_len_bound = ((omega (arith, p, c.if-end-gt384.false), (omega (arith, q, c.if-end-gt384.false), (omega (arith, t, c.if-end-gt384.false), omega (arith, u, c.if-end-gt384.false))))) }

pub returns : goal.returns
unfolding agrees_in
returns c =
    let a = c.args in
    let e : 64 + a.a - 64 ≡ a.a = omega arith in
    let f : 64 + a.a + a.b - (64 + a.a) ≡ a.b = omega arith in
    let g : 64 + a.a + a.b + a.c - (64 + a.a + a.b) ≡ a.c = omega arith in
    let h : 64 + a.a + a.b + a.c + a.d - (64 + a.a + a.b + a.c) ≡ a.d = omega arith in
    rw (le-leb (64 + a.a + a.b + a.c + a.d) 384 c.if-end-gt384.false) (rw (c.read_at.ensures, e, f, g, h) at c.agrees_as.ensures)
