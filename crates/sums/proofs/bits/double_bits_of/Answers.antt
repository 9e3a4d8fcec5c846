use Rattle.std.proofs.Common.{ap}
use lib.Ieee.{binary64, to_bits}
use Rattle.sums.proofs.NanBits.{nan_known, no_nan_known}
use Rattle.sums.proofs.bits.double_bits_of.Goals as goal

pub returns-then-d : goal.returns-then-d
unfolding to_bits
returns-then-d c = ap (to_bits binary64) (nan_known c.args.d c.if-d.true)

pub float_to_bits-result : goal.float_to_bits-result
float_to_bits-result c = no_nan_known c.args.d c.if-d.false
