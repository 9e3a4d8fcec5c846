use mathlib.Core.Path.{sym, ap, ◌∙◌}
use mathlib.Core.List.{List}
use Prim.Native.Nat.{ℕ}
use Rattle.sums.specs.Refusals.{same_all}
use Rattle.batch.specs.Batch.{listing_of}
use Rattle.sums.proofs.Sames.{same_short}
use Rattle.replay.proofs.Agreeing.{front_whole}
use Rattle.replay.proofs.cases.grouping_agrees.Goals as goal

pub returns-then-n-stored : goal.returns-then-n-stored
returns-then-n-stored c =
    let a = c.args in
    sym (same_short (listing_of a.file.now) a.stored.now (λ e. c.if-n-stored.true (c.list_batch-n.ensures.value.0 ∙ e)))

pub returns : goal.returns
returns c =
    let a = c.args in
    c.bytes.ensures
    ∙ ap (λ (l : List ℕ). same_all l a.stored.now) (c.list_batch-n.ensures.text_after ∙ front_whole (listing_of a.file.now) a.res.now (sym c.list_batch-n.ensures.value.0 ∙ c.if-n-stored.false ∙ sym c.requires))
