use Rattle.std.proofs.Common.{ap}
use lib.Ieee.{binary32, to_bits}
use Rattle.sums.proofs.NanBits.{nan_known, no_nan_known}
use Rattle.sums.proofs.bits.bits_of.Goals as goal

pub returns-then-x : goal.returns-then-x
unfolding to_bits
returns-then-x c = ap (to_bits binary32) (nan_known c.args.x c.if-x.true)

pub float_to_bits-result : goal.float_to_bits-result
float_to_bits-result c = no_nan_known c.args.x c.if-x.false
