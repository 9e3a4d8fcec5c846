use Rattle.std.proofs.Common.{arith}
use Rattle.words.proofs.ByteLaws.{four}
use Rattle.words.proofs.U32FromBytes.read_at.Goals as goal

pub returns : goal.returns
returns c = omega (arith, four c.args.bytes.now c.args.at c.requires, c.from_le_bytes.ensures)
