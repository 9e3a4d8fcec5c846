use Rattle.results.specs.Files.{trailer_of, written}
use Rattle.words.specs.Bytes.{bytes32, bytes16}
use borrow.Rule.Slice.PartMut.{put_mid}
use Rattle.results.proofs.Puts.{Begun, begun_first, begun_next, finished, joined}
use Rattle.sums.proofs.Fronts.{flat_length}
use Rattle.sums.proofs.Rows.{part_length}
use mathlib.Core.List.{◌++◌, List}
use lib.Seq.{length-take-le}
use lib.ListN.{length, take, drop}
use native.Mathlib.Nat.{mul-le-mul, mul-le-mul_right}
use mathlib.Core.Path.{◌≡◌, refl, sym, ap, ◌∙◌}
use Prim.Native.Nat.{ℕ, ◌+◌, ◌-◌, ◌*◌, ◌≤◌}
use native.Mathlib.Omega.{arith}
use Rattle.results.proofs.writer.put_file.Goals as goal
use Rattle.results.proofs.writer.put_file.Goals.{After-put_all, After-put_all-2, After-put_trailer, After-put_all-3}

-- the output after each block
abbrev out1 : After-put_all → List ℕ
out1 c = c.put_all.new.out ++ drop ((length c.args.order.now * 2)) c.args.out.now

first : (c : After-put_all) → Begun (length c.args.out.now) ((length c.args.order.now * 2)) (out1 c) c.put_all.new.out
first c =
    begun_first (length c.args.out.now) ((length c.args.order.now * 2)) c.args.out.now c.put_all.new.out refl
    (ap length c.put_all.ensures ∙ flat_length bytes16 2 (λ x. refl) c.args.order.now) (omega (arith, (let it : (length c.args.out.now ≡ (length c.args.order.now * 2 + c.args.groups * 2 + c.args.groups * c.args.dim * 4) + 24) = (omega (arith, c.requires.out_len, c.requires.rows_bound.1.1.1.0)) in it)))

abbrev out2 : After-put_all-2 → List ℕ
out2 c = put_mid ((length c.args.order.now * 2)) ((length c.args.order.now * 2 + c.args.groups * 2) - (length c.args.order.now * 2)) ((c.put_all.new.out ++ drop ((length c.args.order.now * 2)) c.args.out.now)) c.put_all-2.new.out

second : (c : After-put_all-2) → Begun (length c.args.out.now) ((length c.args.order.now * 2 + c.args.groups * 2)) (out2 c) (c.put_all.new.out ++ c.put_all-2.new.out)
second c =
    let l : length c.put_all-2.new.out ≡ c.args.groups * 2
    = ap length c.put_all-2.ensures ∙ flat_length bytes16 2 (λ x. refl) (take c.args.groups c.args.ends.now) ∙ ap (λ (n : ℕ). n * 2) ((let it : (length (take c.args.groups c.args.ends.now) ≡ c.args.groups) = (length-take-le c.args.groups c.args.ends.now (omega (arith, c.requires.rows_bound.1.1.0, c.requires.rows_bound.1.1.1.1.0))) in it)) in
    begun_next (length c.args.out.now) ((length c.args.order.now * 2)) ((length c.args.order.now * 2 + c.args.groups * 2)) ((c.put_all.new.out ++ drop ((length c.args.order.now * 2)) c.args.out.now)) c.put_all.new.out c.put_all-2.new.out ((let it : (Begun (length c.args.out.now) ((length c.args.order.now * 2)) ((c.put_all.new.out ++ drop ((length c.args.order.now * 2)) c.args.out.now)) c.put_all.new.out) = (begun_first (length c.args.out.now) ((length c.args.order.now * 2)) c.args.out.now c.put_all.new.out refl
    (ap length c.put_all.ensures ∙ flat_length bytes16 2 (λ x. refl) c.args.order.now) (omega (arith, (let it : (length c.args.out.now ≡ (length c.args.order.now * 2 + c.args.groups * 2 + c.args.groups * c.args.dim * 4) + 24) = (omega (arith, c.requires.out_len, c.requires.rows_bound.1.1.1.0)) in it)))) in it)) (omega arith) (omega (arith, (let it : (length c.args.out.now ≡ (length c.args.order.now * 2 + c.args.groups * 2 + c.args.groups * c.args.dim * 4) + 24) = (omega (arith, c.requires.out_len, c.requires.rows_bound.1.1.1.0)) in it))) (l ∙ omega arith)

abbrev out3 : After-put_all-3 → List ℕ
out3 c = put_mid ((length c.args.order.now * 2 + c.args.groups * 2)) ((length c.args.order.now * 2 + c.args.groups * 2 + c.args.groups * c.args.dim * 4) - (length c.args.order.now * 2 + c.args.groups * 2)) ((put_mid ((length c.args.order.now * 2)) ((length c.args.order.now * 2 + c.args.groups * 2) - (length c.args.order.now * 2)) ((c.put_all.new.out ++ drop ((length c.args.order.now * 2)) c.args.out.now)) c.put_all-2.new.out)) c.put_all-3.new.out

third : (c : After-put_all-3) → Begun (length c.args.out.now) ((length c.args.order.now * 2 + c.args.groups * 2 + c.args.groups * c.args.dim * 4)) (out3 c) ((c.put_all.new.out ++ c.put_all-2.new.out) ++ c.put_all-3.new.out)
third c =
    let l : length c.put_all-3.new.out ≡ c.args.groups * c.args.dim * 4
    = ap length c.put_all-3.ensures ∙ flat_length bytes32 4 (λ x. refl) (take (c.args.groups * c.args.dim) c.args.means.now) ∙ ap (λ (n : ℕ). n * 4) ((let it : (length (take (c.args.groups * c.args.dim) c.args.means.now) ≡ c.args.groups * c.args.dim) = (length-take-le (c.args.groups * c.args.dim) c.args.means.now ((let it : ((c.args.groups * c.args.dim ≤ 262144) × (c.args.groups * c.args.dim ≤ length c.args.means.now)) = (let p = mul-le-mul c.requires.rows_bound.0 c.requires.rows_bound.1.0 in
    let q = mul-le-mul_right c.args.dim c.requires.rows_bound.1.1.0 in
    (omega (arith, p, q), omega (arith, q, c.requires.rows_bound.1.1.1.1.1))) in it)).1) in it)) in
    begun_next (length c.args.out.now) ((length c.args.order.now * 2 + c.args.groups * 2)) ((length c.args.order.now * 2 + c.args.groups * 2 + c.args.groups * c.args.dim * 4)) ((put_mid ((length c.args.order.now * 2)) ((length c.args.order.now * 2 + c.args.groups * 2) - (length c.args.order.now * 2)) ((c.put_all.new.out ++ drop ((length c.args.order.now * 2)) c.args.out.now)) c.put_all-2.new.out)) (c.put_all.new.out ++ c.put_all-2.new.out) c.put_all-3.new.out ((let it : (Begun (length c.args.out.now) ((length c.args.order.now * 2 + c.args.groups * 2)) ((put_mid ((length c.args.order.now * 2)) ((length c.args.order.now * 2 + c.args.groups * 2) - (length c.args.order.now * 2)) ((c.put_all.new.out ++ drop ((length c.args.order.now * 2)) c.args.out.now)) c.put_all-2.new.out)) (c.put_all.new.out ++ c.put_all-2.new.out)) = (let l : length c.put_all-2.new.out ≡ c.args.groups * 2
    = ap length c.put_all-2.ensures ∙ flat_length bytes16 2 (λ x. refl) (take c.args.groups c.args.ends.now) ∙ ap (λ (n : ℕ). n * 2) ((let it : (length (take c.args.groups c.args.ends.now) ≡ c.args.groups) = (length-take-le c.args.groups c.args.ends.now (omega (arith, c.requires.rows_bound.1.1.0, c.requires.rows_bound.1.1.1.1.0))) in it)) in
    begun_next (length c.args.out.now) ((length c.args.order.now * 2)) ((length c.args.order.now * 2 + c.args.groups * 2)) ((c.put_all.new.out ++ drop ((length c.args.order.now * 2)) c.args.out.now)) c.put_all.new.out c.put_all-2.new.out ((let it : (Begun (length c.args.out.now) ((length c.args.order.now * 2)) ((c.put_all.new.out ++ drop ((length c.args.order.now * 2)) c.args.out.now)) c.put_all.new.out) = (begun_first (length c.args.out.now) ((length c.args.order.now * 2)) c.args.out.now c.put_all.new.out refl
    (ap length c.put_all.ensures ∙ flat_length bytes16 2 (λ x. refl) c.args.order.now) (omega (arith, (let it : (length c.args.out.now ≡ (length c.args.order.now * 2 + c.args.groups * 2 + c.args.groups * c.args.dim * 4) + 24) = (omega (arith, c.requires.out_len, c.requires.rows_bound.1.1.1.0)) in it)))) in it)) (omega arith) (omega (arith, (let it : (length c.args.out.now ≡ (length c.args.order.now * 2 + c.args.groups * 2 + c.args.groups * c.args.dim * 4) + 24) = (omega (arith, c.requires.out_len, c.requires.rows_bound.1.1.1.0)) in it))) (l ∙ omega arith)) in it)) (omega arith) (omega (arith, (let it : (length c.args.out.now ≡ (length c.args.order.now * 2 + c.args.groups * 2 + c.args.groups * c.args.dim * 4) + 24) = (omega (arith, c.requires.out_len, c.requires.rows_bound.1.1.1.0)) in it))) (l ∙ omega arith)

abbrev out4 : After-put_trailer → List ℕ
out4 c = put_mid ((length c.args.order.now * 2 + c.args.groups * 2 + c.args.groups * c.args.dim * 4)) (length ((put_mid ((length c.args.order.now * 2 + c.args.groups * 2)) ((length c.args.order.now * 2 + c.args.groups * 2 + c.args.groups * c.args.dim * 4) - (length c.args.order.now * 2 + c.args.groups * 2)) ((put_mid ((length c.args.order.now * 2)) ((length c.args.order.now * 2 + c.args.groups * 2) - (length c.args.order.now * 2)) ((c.put_all.new.out ++ drop ((length c.args.order.now * 2)) c.args.out.now)) c.put_all-2.new.out)) c.put_all-3.new.out)) - (length c.args.order.now * 2 + c.args.groups * 2 + c.args.groups * c.args.dim * 4)) ((put_mid ((length c.args.order.now * 2 + c.args.groups * 2)) ((length c.args.order.now * 2 + c.args.groups * 2 + c.args.groups * c.args.dim * 4) - (length c.args.order.now * 2 + c.args.groups * 2)) ((put_mid ((length c.args.order.now * 2)) ((length c.args.order.now * 2 + c.args.groups * 2) - (length c.args.order.now * 2)) ((c.put_all.new.out ++ drop ((length c.args.order.now * 2)) c.args.out.now)) c.put_all-2.new.out)) c.put_all-3.new.out)) c.put_trailer.new.out

fourth : (c : After-put_trailer)
    → Begun (length c.args.out.now) (length ((put_mid ((length c.args.order.now * 2 + c.args.groups * 2)) ((length c.args.order.now * 2 + c.args.groups * 2 + c.args.groups * c.args.dim * 4) - (length c.args.order.now * 2 + c.args.groups * 2)) ((put_mid ((length c.args.order.now * 2)) ((length c.args.order.now * 2 + c.args.groups * 2) - (length c.args.order.now * 2)) ((c.put_all.new.out ++ drop ((length c.args.order.now * 2)) c.args.out.now)) c.put_all-2.new.out)) c.put_all-3.new.out))) (out4 c) (((c.put_all.new.out ++ c.put_all-2.new.out) ++ c.put_all-3.new.out) ++ c.put_trailer.new.out)
fourth c =
    let t = (let it : (Begun (length c.args.out.now) ((length c.args.order.now * 2 + c.args.groups * 2 + c.args.groups * c.args.dim * 4)) ((put_mid ((length c.args.order.now * 2 + c.args.groups * 2)) ((length c.args.order.now * 2 + c.args.groups * 2 + c.args.groups * c.args.dim * 4) - (length c.args.order.now * 2 + c.args.groups * 2)) ((put_mid ((length c.args.order.now * 2)) ((length c.args.order.now * 2 + c.args.groups * 2) - (length c.args.order.now * 2)) ((c.put_all.new.out ++ drop ((length c.args.order.now * 2)) c.args.out.now)) c.put_all-2.new.out)) c.put_all-3.new.out)) ((c.put_all.new.out ++ c.put_all-2.new.out) ++ c.put_all-3.new.out)) = (let l : length c.put_all-3.new.out ≡ c.args.groups * c.args.dim * 4
    = ap length c.put_all-3.ensures ∙ flat_length bytes32 4 (λ x. refl) (take (c.args.groups * c.args.dim) c.args.means.now) ∙ ap (λ (n : ℕ). n * 4) ((let it : (length (take (c.args.groups * c.args.dim) c.args.means.now) ≡ c.args.groups * c.args.dim) = (length-take-le (c.args.groups * c.args.dim) c.args.means.now ((let it : ((c.args.groups * c.args.dim ≤ 262144) × (c.args.groups * c.args.dim ≤ length c.args.means.now)) = (let p = mul-le-mul c.requires.rows_bound.0 c.requires.rows_bound.1.0 in
    let q = mul-le-mul_right c.args.dim c.requires.rows_bound.1.1.0 in
    (omega (arith, p, q), omega (arith, q, c.requires.rows_bound.1.1.1.1.1))) in it)).1) in it)) in
    begun_next (length c.args.out.now) ((length c.args.order.now * 2 + c.args.groups * 2)) ((length c.args.order.now * 2 + c.args.groups * 2 + c.args.groups * c.args.dim * 4)) ((put_mid ((length c.args.order.now * 2)) ((length c.args.order.now * 2 + c.args.groups * 2) - (length c.args.order.now * 2)) ((c.put_all.new.out ++ drop ((length c.args.order.now * 2)) c.args.out.now)) c.put_all-2.new.out)) (c.put_all.new.out ++ c.put_all-2.new.out) c.put_all-3.new.out ((let it : (Begun (length c.args.out.now) ((length c.args.order.now * 2 + c.args.groups * 2)) ((put_mid ((length c.args.order.now * 2)) ((length c.args.order.now * 2 + c.args.groups * 2) - (length c.args.order.now * 2)) ((c.put_all.new.out ++ drop ((length c.args.order.now * 2)) c.args.out.now)) c.put_all-2.new.out)) (c.put_all.new.out ++ c.put_all-2.new.out)) = (let l : length c.put_all-2.new.out ≡ c.args.groups * 2
    = ap length c.put_all-2.ensures ∙ flat_length bytes16 2 (λ x. refl) (take c.args.groups c.args.ends.now) ∙ ap (λ (n : ℕ). n * 2) ((let it : (length (take c.args.groups c.args.ends.now) ≡ c.args.groups) = (length-take-le c.args.groups c.args.ends.now (omega (arith, c.requires.rows_bound.1.1.0, c.requires.rows_bound.1.1.1.1.0))) in it)) in
    begun_next (length c.args.out.now) ((length c.args.order.now * 2)) ((length c.args.order.now * 2 + c.args.groups * 2)) ((c.put_all.new.out ++ drop ((length c.args.order.now * 2)) c.args.out.now)) c.put_all.new.out c.put_all-2.new.out ((let it : (Begun (length c.args.out.now) ((length c.args.order.now * 2)) ((c.put_all.new.out ++ drop ((length c.args.order.now * 2)) c.args.out.now)) c.put_all.new.out) = (begun_first (length c.args.out.now) ((length c.args.order.now * 2)) c.args.out.now c.put_all.new.out refl
    (ap length c.put_all.ensures ∙ flat_length bytes16 2 (λ x. refl) c.args.order.now) (omega (arith, (let it : (length c.args.out.now ≡ (length c.args.order.now * 2 + c.args.groups * 2 + c.args.groups * c.args.dim * 4) + 24) = (omega (arith, c.requires.out_len, c.requires.rows_bound.1.1.1.0)) in it)))) in it)) (omega arith) (omega (arith, (let it : (length c.args.out.now ≡ (length c.args.order.now * 2 + c.args.groups * 2 + c.args.groups * c.args.dim * 4) + 24) = (omega (arith, c.requires.out_len, c.requires.rows_bound.1.1.1.0)) in it))) (l ∙ omega arith)) in it)) (omega arith) (omega (arith, (let it : (length c.args.out.now ≡ (length c.args.order.now * 2 + c.args.groups * 2 + c.args.groups * c.args.dim * 4) + 24) = (omega (arith, c.requires.out_len, c.requires.rows_bound.1.1.1.0)) in it))) (l ∙ omega arith)) in it) in
    let l : length c.put_trailer.new.out ≡ 24
    = ap length c.put_trailer.ensures ∙ flat_length bytes32 4 (λ x. refl) (trailer_of c.args.rows c.args.dim c.args.groups) in
    begun_next (length c.args.out.now) ((length c.args.order.now * 2 + c.args.groups * 2 + c.args.groups * c.args.dim * 4)) (length ((put_mid ((length c.args.order.now * 2 + c.args.groups * 2)) ((length c.args.order.now * 2 + c.args.groups * 2 + c.args.groups * c.args.dim * 4) - (length c.args.order.now * 2 + c.args.groups * 2)) ((put_mid ((length c.args.order.now * 2)) ((length c.args.order.now * 2 + c.args.groups * 2) - (length c.args.order.now * 2)) ((c.put_all.new.out ++ drop ((length c.args.order.now * 2)) c.args.out.now)) c.put_all-2.new.out)) c.put_all-3.new.out))) ((put_mid ((length c.args.order.now * 2 + c.args.groups * 2)) ((length c.args.order.now * 2 + c.args.groups * 2 + c.args.groups * c.args.dim * 4) - (length c.args.order.now * 2 + c.args.groups * 2)) ((put_mid ((length c.args.order.now * 2)) ((length c.args.order.now * 2 + c.args.groups * 2) - (length c.args.order.now * 2)) ((c.put_all.new.out ++ drop ((length c.args.order.now * 2)) c.args.out.now)) c.put_all-2.new.out)) c.put_all-3.new.out)) ((c.put_all.new.out ++ c.put_all-2.new.out) ++ c.put_all-3.new.out) c.put_trailer.new.out t (omega (arith, (let it : (length c.args.out.now ≡ (length c.args.order.now * 2 + c.args.groups * 2 + c.args.groups * c.args.dim * 4) + 24) = (omega (arith, c.requires.out_len, c.requires.rows_bound.1.1.1.0)) in it), t.long)) (omega (arith, t.long)) (l ∙ omega (arith, (let it : (length c.args.out.now ≡ (length c.args.order.now * 2 + c.args.groups * 2 + c.args.groups * c.args.dim * 4) + 24) = (omega (arith, c.requires.out_len, c.requires.rows_bound.1.1.1.0)) in it), t.long))

pub slice_bounds-put_all-end-2 : goal.slice_bounds-put_all-end-2
slice_bounds-put_all-end-2 c = sym (length-take-le (length c.args.order.now * 2) c.args.out.now (omega (arith, c.requires.out_len, c.requires.rows_bound.1.1.1.0)))

pub put_all-requires : goal.put_all-requires
put_all-requires c = length-take-le (length c.args.order.now * 2) c.args.out.now (omega (arith, c.requires.out_len, c.requires.rows_bound.1.1.1.0))

pub slice_bounds-put_all-end-3 : goal.slice_bounds-put_all-end-3
slice_bounds-put_all-end-3 c = sym ((let it : (length (take c.args.groups c.args.ends.now) ≡ c.args.groups) = (length-take-le c.args.groups c.args.ends.now (omega (arith, c.requires.rows_bound.1.1.0, c.requires.rows_bound.1.1.1.1.0))) in it))

pub put_all-requires-2 : goal.put_all-requires-2
put_all-requires-2 c = part_length ((length c.args.order.now * 2)) (c.args.groups * 2) (out1 (goal.at.put_all-requires-2 c).After-put_all) (omega (arith, (first (goal.at.put_all-requires-2 c).After-put_all).long, (let it : (length c.args.out.now ≡ (length c.args.order.now * 2 + c.args.groups * 2 + c.args.groups * c.args.dim * 4) + 24) = (omega (arith, c.requires.out_len, c.requires.rows_bound.1.1.1.0)) in it))) ∙ ap (λ (n : ℕ). n * 2) (sym ((let it : (length (take c.args.groups c.args.ends.now) ≡ c.args.groups) = (length-take-le c.args.groups c.args.ends.now (omega (arith, c.requires.rows_bound.1.1.0, c.requires.rows_bound.1.1.1.1.0))) in it)))

pub slice_bounds-put_all-end-5 : goal.slice_bounds-put_all-end-5
slice_bounds-put_all-end-5 c =
    sym ((let it : (length (take (c.args.groups * c.args.dim) c.args.means.now) ≡ c.args.groups * c.args.dim) = (length-take-le (c.args.groups * c.args.dim) c.args.means.now ((let it : ((c.args.groups * c.args.dim ≤ 262144) × (c.args.groups * c.args.dim ≤ length c.args.means.now)) = (let p = mul-le-mul c.requires.rows_bound.0 c.requires.rows_bound.1.0 in
    let q = mul-le-mul_right c.args.dim c.requires.rows_bound.1.1.0 in
    (omega (arith, p, q), omega (arith, q, c.requires.rows_bound.1.1.1.1.1))) in it)).1) in it))

pub put_all-requires-3 : goal.put_all-requires-3
put_all-requires-3 c =
    part_length ((length c.args.order.now * 2 + c.args.groups * 2)) (c.args.groups * c.args.dim * 4) (out2 (goal.at.put_all-requires-3 c).After-put_all-2) (omega (arith, (second (goal.at.put_all-requires-3 c).After-put_all-2).long, (let it : (length c.args.out.now ≡ (length c.args.order.now * 2 + c.args.groups * 2 + c.args.groups * c.args.dim * 4) + 24) = (omega (arith, c.requires.out_len, c.requires.rows_bound.1.1.1.0)) in it))) ∙ ap (λ (n : ℕ). n * 4) (sym ((let it : (length (take (c.args.groups * c.args.dim) c.args.means.now) ≡ c.args.groups * c.args.dim) = (length-take-le (c.args.groups * c.args.dim) c.args.means.now ((let it : ((c.args.groups * c.args.dim ≤ 262144) × (c.args.groups * c.args.dim ≤ length c.args.means.now)) = (let p = mul-le-mul c.requires.rows_bound.0 c.requires.rows_bound.1.0 in
    let q = mul-le-mul_right c.args.dim c.requires.rows_bound.1.1.0 in
    (omega (arith, p, q), omega (arith, q, c.requires.rows_bound.1.1.1.1.1))) in it)).1) in it)))

pub shape_of-out : goal.shape_of-out
shape_of-out c = (fourth (goal.at.shape_of-out c).After-put_trailer).long

pub returns : goal.returns
unfolding written
returns c = finished _ _ (out4 (goal.at.returns c).After-put_trailer) _ (fourth (goal.at.returns c).After-put_trailer) (third (goal.at.returns c).After-put_all-3).long ∙ joined c.put_all.ensures c.put_all-2.ensures c.put_all-3.ensures c.put_trailer.ensures
