use Rattle.results.proofs.Answers.{found, not_true_false, laid_long, result_by}
use Rattle.results.proofs.Sounds.{numbers_is}
use Rattle.results.specs.Inside.{laid_out}
use Rattle.results.specs.Files.{is_result}
use Rattle.results.specs.Grouping.{numbers_fit}
use mathlib.Core.Bool.{true, false≢true}
use mathlib.Core.Path.{◌≡◌, sym, ◌∙◌}
use native.Mathlib.Omega.{arith}
use Rattle.results.proofs.reader.is_result.Goals as goal
use Rattle.results.proofs.reader.is_result.Goals.{Else-not-in_range, Else-not-laid_out}

fit : (c : Else-not-in_range) → numbers_fit c.args.numbers.rows c.args.numbers.dim ≡ true
fit c = sym c.in_range.ensures ∙ c.if-not-in_range.false

laid : (c : Else-not-laid_out) → laid_out c.args.file.now c.args.numbers.rows c.args.numbers.dim c.args.numbers.groups ≡ true
laid c = sym c.laid_out.ensures ∙ c.if-not-laid_out.false

pub returns-then-not-in_range : goal.returns-then-not-in_range
returns-then-not-in_range c = not_true_false (is_result c.args.file.now) (λ e. false≢true (sym (sym c.in_range.ensures ∙ c.if-not-in_range.true) ∙ (found c.args.file.now c.args.numbers.rows c.args.numbers.dim c.args.numbers.groups c.requires.fact.0 c.requires.fact.1.0 c.requires.fact.1.1 e).numbers))

pub returns-then-rows-groups : goal.returns-then-rows-groups
returns-then-rows-groups c = not_true_false (is_result c.args.file.now) (λ e. omega (arith, (found c.args.file.now c.args.numbers.rows c.args.numbers.dim c.args.numbers.groups c.requires.fact.0 c.requires.fact.1.0 c.requires.fact.1.1 e).fewer, c.if-rows-groups.true))

pub laid_out-requires : goal.laid_out-requires
laid_out-requires c =
    let n = numbers_is c.args.numbers.rows c.args.numbers.dim (fit (goal.at.laid_out-requires c).Else-not-in_range) in
    (c.requires.in_bounds, (n.few, (n.narrow, c.if-rows-groups.false)))

pub returns-then-not-laid_out : goal.returns-then-not-laid_out
returns-then-not-laid_out c = not_true_false (is_result c.args.file.now) (λ e. false≢true (sym (sym c.laid_out.ensures ∙ c.if-not-laid_out.true) ∙ (found c.args.file.now c.args.numbers.rows c.args.numbers.dim c.args.numbers.groups c.requires.fact.0 c.requires.fact.1.0 c.requires.fact.1.1 e).laid))

pub holds_rows-requires : goal.holds_rows-requires
holds_rows-requires c =
    let n = numbers_is c.args.numbers.rows c.args.numbers.dim (fit (goal.at.holds_rows-requires c).Else-not-in_range) in
    let l = laid_long c.args.file.now c.args.numbers.rows c.args.numbers.dim c.args.numbers.groups c.requires.fact.0 c.requires.fact.1.0 c.requires.fact.1.1 (laid (goal.at.holds_rows-requires c).Else-not-laid_out) in
    (n.few, (c.if-rows-groups.false, omega (arith, l)))

pub returns : goal.returns
returns c = c.holds_rows.ensures ∙ result_by c.args.file.now c.args.numbers.rows c.args.numbers.dim c.args.numbers.groups c.requires.fact.0 c.requires.fact.1.0 c.requires.fact.1.1 (λ i h. omega (arith, c.type_inv.file i)) (fit (goal.at.returns c).Else-not-in_range) c.if-rows-groups.false (laid (goal.at.returns c).Else-not-laid_out)
