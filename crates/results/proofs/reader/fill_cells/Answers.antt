use Rattle.results.proofs.Pads.{over_blanks}
use Rattle.words.proofs.Blocks.{halves_read, halves_length}
use Rattle.words.proofs.ByteLaws.{words_read, words_length}
use Rattle.sums.specs.Refusals.{padded}
use Rattle.sums.proofs.Rows.{part_length}
use lib.Seq.{length-take-le}
use lib.ListN.{length, take, drop}
use native.Mathlib.Nat.{mul-le-mul, mul-le-mul_right}
use mathlib.Core.Path.{◌≡◌, refl, sym, ap, ◌∙◌}
use Prim.Native.Nat.{ℕ, ◌+◌, ◌-◌, ◌*◌, ◌≤◌}
use native.Mathlib.Omega.{arith}
use Rattle.results.proofs.reader.fill_cells.Goals as goal

pub slice_bounds-read_all-end : goal.slice_bounds-read_all-end
slice_bounds-read_all-end c = sym ((let it : (length (take (length c.args.order.now * 2) c.args.file.now) ≡ length c.args.order.now * 2) = (length-take-le (length c.args.order.now * 2) c.args.file.now (omega (arith, c.requires.order_len_bound.1.1.1))) in it))

pub read_all-requires : goal.read_all-requires
read_all-requires c = (let it : (length (take (length c.args.order.now * 2) c.args.file.now) ≡ length c.args.order.now * 2) = (length-take-le (length c.args.order.now * 2) c.args.file.now (omega (arith, c.requires.order_len_bound.1.1.1))) in it)

pub slice_bounds-read_all-end-4 : goal.slice_bounds-read_all-end-4
slice_bounds-read_all-end-4 c = sym ((let it : (length (take c.args.groups c.args.ends.now) ≡ c.args.groups) = (length-take-le c.args.groups c.args.ends.now (omega (arith, c.requires.order_len_bound.1.1.0, c.requires.ends_len.0))) in it))

pub read_all-requires-2 : goal.read_all-requires-2
read_all-requires-2 c = part_length (length c.args.order.now * 2) (c.args.groups * 2) c.args.file.now (omega (arith, c.requires.order_len_bound.1.1.1)) ∙ ap (λ (n : ℕ). n * 2) (sym ((let it : (length (take c.args.groups c.args.ends.now) ≡ c.args.groups) = (length-take-le c.args.groups c.args.ends.now (omega (arith, c.requires.order_len_bound.1.1.0, c.requires.ends_len.0))) in it)))

pub slice_bounds-read_all-end-6 : goal.slice_bounds-read_all-end-6
slice_bounds-read_all-end-6 c =
    ((let it : ((c.args.groups * c.args.dim ≤ 262144) × (c.args.groups * c.args.dim ≤ length c.args.means.now)) = (let p = mul-le-mul c.requires.order_len_bound.0 c.requires.order_len_bound.1.0 in
    let q = mul-le-mul_right c.args.dim c.requires.order_len_bound.1.1.0 in
    (omega (arith, p, q), omega (arith, q, c.requires.ends_len.1))) in it)).1

pub slice_bounds-read_all-end-7 : goal.slice_bounds-read_all-end-7
slice_bounds-read_all-end-7 c =
    sym ((let it : (length (take (c.args.groups * c.args.dim) c.args.means.now) ≡ c.args.groups * c.args.dim) = (length-take-le (c.args.groups * c.args.dim) c.args.means.now ((let it : ((c.args.groups * c.args.dim ≤ 262144) × (c.args.groups * c.args.dim ≤ length c.args.means.now)) = (let p = mul-le-mul c.requires.order_len_bound.0 c.requires.order_len_bound.1.0 in
    let q = mul-le-mul_right c.args.dim c.requires.order_len_bound.1.1.0 in
    (omega (arith, p, q), omega (arith, q, c.requires.ends_len.1))) in it)).1) in it))

pub read_all-requires-3 : goal.read_all-requires-3
read_all-requires-3 c =
    part_length (length c.args.order.now * 2 + c.args.groups * 2) (c.args.groups * c.args.dim * 4) c.args.file.now (omega (arith, c.requires.order_len_bound.1.1.1)) ∙ ap (λ (n : ℕ). n * 4) (sym ((let it : (length (take (c.args.groups * c.args.dim) c.args.means.now) ≡ c.args.groups * c.args.dim) = (length-take-le (c.args.groups * c.args.dim) c.args.means.now ((let it : ((c.args.groups * c.args.dim ≤ 262144) × (c.args.groups * c.args.dim ≤ length c.args.means.now)) = (let p = mul-le-mul c.requires.order_len_bound.0 c.requires.order_len_bound.1.0 in
    let q = mul-le-mul_right c.args.dim c.requires.order_len_bound.1.1.0 in
    (omega (arith, p, q), omega (arith, q, c.requires.ends_len.1))) in it)).1) in it)))

pub returns : goal.returns
returns c =
    let n = length c.args.order.now in
    let file = c.args.file.now in
    let d = halves_read (length (take c.args.groups c.args.ends.now)) (n * 2 + c.args.groups * 2 - n * 2) c.args.groups (drop (n * 2) file) c.read_all-2.new.out c.read_all-2.ensures ((let it : (length (take c.args.groups c.args.ends.now) ≡ c.args.groups) = (length-take-le c.args.groups c.args.ends.now (omega (arith, c.requires.order_len_bound.1.1.0, c.requires.ends_len.0))) in it)) (omega arith) in
    let m = words_read (length (take (c.args.groups * c.args.dim) c.args.means.now)) (n * 2 + c.args.groups * 2 + c.args.groups * c.args.dim * 4 - (n * 2 + c.args.groups * 2)) (c.args.groups * c.args.dim) (drop (n * 2 + c.args.groups * 2) file) c.read_all-3.new.out c.read_all-3.ensures ((let it : (length (take (c.args.groups * c.args.dim) c.args.means.now) ≡ c.args.groups * c.args.dim) = (length-take-le (c.args.groups * c.args.dim) c.args.means.now ((let it : ((c.args.groups * c.args.dim ≤ 262144) × (c.args.groups * c.args.dim ≤ length c.args.means.now)) = (let p = mul-le-mul c.requires.order_len_bound.0 c.requires.order_len_bound.1.0 in
    let q = mul-le-mul_right c.args.dim c.requires.order_len_bound.1.1.0 in
    (omega (arith, p, q), omega (arith, q, c.requires.ends_len.1))) in it)).1) in it)) (omega arith) in record {
      order_after = (halves_read n (n * 2) n file c.read_all.new.out c.read_all.ensures refl (omega arith));
      ends_after = (over_blanks 65535 (length c.args.ends.now) c.args.groups c.args.ends.now c.read_all-2.new.out c.requires.ends_value.0 (ap length d ∙ halves_length c.args.groups (drop (n * 2) file)) (omega (arith, c.requires.order_len_bound.1.1.0, c.requires.ends_len.0)) ∙ ap (padded 65535 (length c.args.ends.now)) d);
      means_after = (over_blanks 0 (length c.args.means.now) (c.args.groups * c.args.dim) c.args.means.now c.read_all-3.new.out c.requires.ends_value.1 (ap length m ∙ words_length (c.args.groups * c.args.dim) (drop (n * 2 + c.args.groups * 2) file)) ((let it : ((c.args.groups * c.args.dim ≤ 262144) × (c.args.groups * c.args.dim ≤ length c.args.means.now)) = (let p = mul-le-mul c.requires.order_len_bound.0 c.requires.order_len_bound.1.0 in
          let q = mul-le-mul_right c.args.dim c.requires.order_len_bound.1.1.0 in
          (omega (arith, p, q), omega (arith, q, c.requires.ends_len.1))) in it)).1 ∙ ap (padded 0 (length c.args.means.now)) m);
    }
