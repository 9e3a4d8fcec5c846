use mathlib.Core.Path.{refl}
use lib.ListN.{length}
use Rattle.words.specs.Bytes.{bytes16}
use Rattle.replay.specs.Replay.{label_agrees}
use Rattle.replay.proofs.Agreeing.{bytes_agreed}
use Rattle.replay.proofs.cases.label_agrees.Goals as goal

pub returns : goal.returns
unfolding label_agrees
returns c =
    bytes_agreed _ c.args.head.bytes.now c.args.stored.now bytes16 (length c.args.stored.now) c.families_label-number.result _ _ c.bytes_agree.ensures refl
    (rw (c.word-dim.ensures, c.word-k.ensures, c.requires) at c.families_label-number.ensures)
