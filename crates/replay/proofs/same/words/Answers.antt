use Rattle.replay.proofs.Sames.{words_on, words_not, words_end}
use borrow.Author.Tests.{eqb-true, eqb-false}
use native.Mathlib.Omega.{arith}
use mathlib.Core.Path.{refl, sym, ◌∙◌}
use Rattle.replay.proofs.same.words.Goals as goal

pub returns-then-not-stored_as : goal.returns-then-not-stored_as
returns-then-not-stored_as g c = words_not g.T.Word.of c.args.values.now c.args.stored.now c.loop-i.i _ c.loop-i.invariant (omega arith) refl c.index-values-i.is c.read_at.ensures (eqb-false _ _ (sym c.stored_as.ensures ∙ c.if-not-stored_as.true))

pub loop-i-preserved : goal.loop-i-preserved
loop-i-preserved g c = words_on g.T.Word.of c.args.values.now c.args.stored.now c.loop-i.i _ c.loop-i.invariant (omega arith) refl c.index-values-i.is c.read_at.ensures (eqb-true _ _ (sym c.stored_as.ensures ∙ c.if-not-stored_as.false))

pub returns : goal.returns
returns g c = words_end g.T.Word.of c.args.values.now c.args.stored.now c.loop-i.i _ c.loop-i.invariant (omega arith)
