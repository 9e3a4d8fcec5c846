use mathlib.Core.Path.{refl}
use lib.ListN.{length}
use Rattle.exports.specs.Exports.{closure_written}
use Rattle.words.specs.Bytes.{u32_at}
use Rattle.replay.specs.Replay.{closure_agrees}
use Rattle.replay.proofs.Agreeing.{bytes_agreed}
use Rattle.replay.proofs.cases.closure_agrees.Goals as goal

pub returns : goal.returns
unfolding closure_agrees
returns c =
    bytes_agreed _ c.args.head.bytes.now c.args.stored.now (closure_written (u32_at c.args.head.bytes.now 28)) (length c.args.stored.now) c.families_closure-number.result _ _ c.bytes_agree.ensures refl
    (rw (c.float_of-epsilon.ensures, c.word-2.ensures, c.word.ensures, c.word-count.ensures, c.word-dim.ensures, c.requires) at c.families_closure-number.ensures)
