use Rattle.std.proofs.Common.{arith}
use Rattle.words.proofs.Blocks.{two}
use Rattle.words.proofs.U16FromBytes.read_at.Goals as goal

pub returns : goal.returns
returns c = omega (arith, two c.args.bytes.now c.args.at c.requires, c.from_le_bytes.ensures)
