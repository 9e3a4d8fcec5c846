use Prim.Native.Nat.{ℕ, ◌+◌, ◌*◌}
use mathlib.Core.Path.{◌≡◌, sym, ap, ◌∙◌}
use mathlib.Core.Bool.{true}
use mathlib.Core.List.{[], ◌∷◌}
use lib.ListN.{length, drop}
use Rattle.sums.specs.Refusals.{same_all, padded, blank_cell}
use Rattle.words.specs.Bytes.{halves_from, words_from}
use Rattle.results.specs.Grouping.{cells_lent}
use Rattle.results.proofs.Sounds.{Lengths, numbers_is, lengths_is}
use Rattle.results.proofs.Answers.{found, found_long, numbered, read_short, read_good}
use Rattle.results.proofs.reader.read_cells.Goals as goal
use Rattle.results.proofs.reader.read_cells.Goals.{Else-not-lent_fit}

all_lent : (c : Else-not-lent_fit) → same_all ((length c.args.order.now ∷ length c.args.ends.now ∷ length c.args.means.now ∷ [])) (cells_lent c.args.numbers.rows c.args.numbers.dim) ≡ true
all_lent c = sym c.lent_fit.ensures ∙ c.if-not-lent_fit.false

lengths : (c : Else-not-lent_fit) → Lengths c.args.numbers.rows c.args.numbers.dim (length c.args.order.now) (length c.args.ends.now) (length c.args.means.now)
lengths c = lengths_is c.args.numbers.rows c.args.numbers.dim (length c.args.order.now) (length c.args.ends.now) (length c.args.means.now) (all_lent c)

pub lent_fit-requires : goal.lent_fit-requires
lent_fit-requires c = (((numbers_is c.args.numbers.rows c.args.numbers.dim ((found c.args.file.now c.args.numbers.rows c.args.numbers.dim c.args.numbers.groups ((numbered c.args.file.now c.args.numbers.rows c.args.numbers.dim c.args.numbers.groups c.requires.groups_value)).e12 ((numbered c.args.file.now c.args.numbers.rows c.args.numbers.dim c.args.numbers.groups c.requires.groups_value)).e16 ((numbered c.args.file.now c.args.numbers.rows c.args.numbers.dim c.args.numbers.groups c.requires.groups_value)).e20 ((numbered c.args.file.now c.args.numbers.rows c.args.numbers.dim c.args.numbers.groups c.requires.groups_value)).is)).numbers)).few, ((numbers_is c.args.numbers.rows c.args.numbers.dim ((found c.args.file.now c.args.numbers.rows c.args.numbers.dim c.args.numbers.groups ((numbered c.args.file.now c.args.numbers.rows c.args.numbers.dim c.args.numbers.groups c.requires.groups_value)).e12 ((numbered c.args.file.now c.args.numbers.rows c.args.numbers.dim c.args.numbers.groups c.requires.groups_value)).e16 ((numbered c.args.file.now c.args.numbers.rows c.args.numbers.dim c.args.numbers.groups c.requires.groups_value)).e20 ((numbered c.args.file.now c.args.numbers.rows c.args.numbers.dim c.args.numbers.groups c.requires.groups_value)).is)).numbers)).narrow)

pub returns-then-not-lent_fit : goal.returns-then-not-lent_fit
returns-then-not-lent_fit c = read_short c.args.file.now c.args.numbers.rows c.args.numbers.dim c.args.numbers.groups ((numbered c.args.file.now c.args.numbers.rows c.args.numbers.dim c.args.numbers.groups c.requires.groups_value)).e12 ((numbered c.args.file.now c.args.numbers.rows c.args.numbers.dim c.args.numbers.groups c.requires.groups_value)).e16 ((numbered c.args.file.now c.args.numbers.rows c.args.numbers.dim c.args.numbers.groups c.requires.groups_value)).e20 ((length c.args.order.now ∷ length c.args.ends.now ∷ length c.args.means.now ∷ [])) _ _ _ (length c.args.order.now) (length c.args.ends.now) (length c.args.means.now) ((numbered c.args.file.now c.args.numbers.rows c.args.numbers.dim c.args.numbers.groups c.requires.groups_value)).is (sym c.lent_fit.ensures ∙ c.if-not-lent_fit.true) c.requires.order_value.0 c.requires.order_value.1.0 c.requires.order_value.1.1

pub fill_cells-requires : goal.fill_cells-requires
fill_cells-requires c =
    let l = lengths (goal.at.fill_cells-requires c).Else-not-lent_fit in
    let n = (numbers_is c.args.numbers.rows c.args.numbers.dim ((found c.args.file.now c.args.numbers.rows c.args.numbers.dim c.args.numbers.groups ((numbered c.args.file.now c.args.numbers.rows c.args.numbers.dim c.args.numbers.groups c.requires.groups_value)).e12 ((numbered c.args.file.now c.args.numbers.rows c.args.numbers.dim c.args.numbers.groups c.requires.groups_value)).e16 ((numbered c.args.file.now c.args.numbers.rows c.args.numbers.dim c.args.numbers.groups c.requires.groups_value)).e20 ((numbered c.args.file.now c.args.numbers.rows c.args.numbers.dim c.args.numbers.groups c.requires.groups_value)).is)).numbers) in
    let long = found_long c.args.file.now c.args.numbers.rows c.args.numbers.dim c.args.numbers.groups ((numbered c.args.file.now c.args.numbers.rows c.args.numbers.dim c.args.numbers.groups c.requires.groups_value)).e12 ((numbered c.args.file.now c.args.numbers.rows c.args.numbers.dim c.args.numbers.groups c.requires.groups_value)).e16 ((numbered c.args.file.now c.args.numbers.rows c.args.numbers.dim c.args.numbers.groups c.requires.groups_value)).e20 ((numbered c.args.file.now c.args.numbers.rows c.args.numbers.dim c.args.numbers.groups c.requires.groups_value)).is in
    let o = l.order_long in record { order_len_bound = ((rw o n.few, (n.narrow, (rw o ((found c.args.file.now c.args.numbers.rows c.args.numbers.dim c.args.numbers.groups ((numbered c.args.file.now c.args.numbers.rows c.args.numbers.dim c.args.numbers.groups c.requires.groups_value)).e12 ((numbered c.args.file.now c.args.numbers.rows c.args.numbers.dim c.args.numbers.groups c.requires.groups_value)).e16 ((numbered c.args.file.now c.args.numbers.rows c.args.numbers.dim c.args.numbers.groups c.requires.groups_value)).e20 ((numbered c.args.file.now c.args.numbers.rows c.args.numbers.dim c.args.numbers.groups c.requires.groups_value)).is)).fewer, rw o long)))); ends_len = ((l.ends_long ∙ sym o, l.means_long ∙ ap (λ (m : ℕ). m * c.args.numbers.dim) (sym o))); ends_value = ((c.requires.order_value.1.0, c.requires.order_value.1.1)) }

pub returns : goal.returns
returns c =
    let l = lengths (goal.at.returns c).Else-not-lent_fit in
    let file = c.args.file.now in
    let rows = c.args.numbers.rows in
    let dim = c.args.numbers.dim in
    let groups = c.args.numbers.groups in
    read_good file rows dim groups ((numbered c.args.file.now c.args.numbers.rows c.args.numbers.dim c.args.numbers.groups c.requires.groups_value)).e12 ((numbered c.args.file.now c.args.numbers.rows c.args.numbers.dim c.args.numbers.groups c.requires.groups_value)).e16 ((numbered c.args.file.now c.args.numbers.rows c.args.numbers.dim c.args.numbers.groups c.requires.groups_value)).e20 ((length c.args.order.now ∷ length c.args.ends.now ∷ length c.args.means.now ∷ [])) _ _ _ (length c.args.order.now) (length c.args.ends.now) (length c.args.means.now) ((numbered c.args.file.now c.args.numbers.rows c.args.numbers.dim c.args.numbers.groups c.requires.groups_value)).is (all_lent (goal.at.returns c).Else-not-lent_fit)
    l.order_long l.ends_long l.means_long
    (c.fill_cells.ensures.order_after ∙ ap (λ (n : ℕ). halves_from n file) l.order_long)
    (c.fill_cells.ensures.ends_after ∙ ap (λ (n : ℕ). padded blank_cell n (halves_from groups (drop (length c.args.order.now * 2) file))) l.ends_long ∙ ap (λ (n : ℕ). padded blank_cell rows (halves_from groups (drop (n * 2) file))) l.order_long)
    (c.fill_cells.ensures.means_after ∙ ap (λ (n : ℕ). padded 0 n (words_from (groups * dim) (drop (length c.args.order.now * 2 + groups * 2) file))) l.means_long ∙ ap (λ (n : ℕ). padded 0 (rows * dim) (words_from (groups * dim) (drop (n * 2 + groups * 2) file))) l.order_long)
