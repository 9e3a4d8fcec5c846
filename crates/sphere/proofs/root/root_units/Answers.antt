use Rattle.sphere.proofs.Coded.{moved_ready, kept, halves, made}
use Rattle.sums.proofs.NanBits.{no_nan}
use lib.Count.{leading_le}
use native.Mathlib.Omega.{arith}
use Rattle.sphere.proofs.root.root_units.Goals as goal

pub overflow_sub-dropped : goal.overflow_sub-dropped
overflow_sub-dropped c = leading_le 32 c.args.digits

pub whole_root-requires : goal.whole_root-requires
whole_root-requires c =
    let r = moved_ready c.args.digits c.args.up c.requires.0 c.requires.1.0 in
    (r.low, omega (arith, r.high))

pub overflow_add-kept : goal.overflow_add-kept
overflow_add-kept c = omega (arith, kept c.args.digits c.args.up c.requires.0 c.requires.1.0 c.whole_root.result c.whole_root.ensures)

pub overflow_cast-result : goal.overflow_cast-result
overflow_cast-result c = omega (arith, kept c.args.digits c.args.up c.requires.0 c.requires.1.0 c.whole_root.result c.whole_root.ensures)

pub overflow_add-result-2 : goal.overflow_add-result-2
overflow_add-result-2 c = omega (arith, kept c.args.digits c.args.up c.requires.0 c.requires.1.0 c.whole_root.result c.whole_root.ensures, halves c.args.digits c.args.up c.requires.0 c.requires.1.0 c.requires.1.1)

pub float_from_bits-result : goal.float_from_bits-result
float_from_bits-result c = no_nan _ (omega (arith, kept c.args.digits c.args.up c.requires.0 c.requires.1.0 c.whole_root.result c.whole_root.ensures, halves c.args.digits c.args.up c.requires.0 c.requires.1.0 c.requires.1.1))

pub returns : goal.returns
returns c =
    let a = c.args in
    let p = c.requires in
    rw c.whole_root.ensures (made a.digits a.up p.0 p.1.0 p.1.1)
