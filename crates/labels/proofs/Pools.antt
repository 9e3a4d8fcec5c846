-- The pool as the code holds it: what one insertion leaves, insertions one after the other, a block's pool, the blocks in turn. Assumes nothing.
use Prim.Native.Nat.{ℕ, zero, suc, ◌+◌, ◌-◌, ◌≤◌, ◌<◌, min}
use mathlib.Core.Path.{◌≡◌, refl, sym, ◌∙◌}
use mathlib.Core.Logic.{◌⊎◌, inl, inr}
use mathlib.Core.List.{List, [], ◌∷◌, ◌++◌, map, map-append, append_assoc, append-nil}
use native.Mathlib.Decide.{dec_le}
use native.Mathlib.Numerals.{add-one}
use native.Mathlib.Omega.{arith}
use lib.Ieee.{Float}
use lib.ListN.{length, get_or, take, drop, length-drop, drop_of_length-le}
use lib.Seq.{take_all, take-suc, drop-drop, length-take-le}
use Rattle.sums.specs.Tables.{up_to}
use Rattle.sums.specs.Cells.{inserted, Below}
use Rattle.sums.specs.Ordering.{place, place_of, order_from}
use Rattle.sums.proofs.Orders.{order_append, order_take}
use Rattle.labels.specs.Pool.{farther, block_pool, block_pools, pool}
use Rattle.labels.specs.Inside.{Holds}
use Rattle.labels.proofs.Blocks.{below_block, blocks_none}
use Rattle.sums.proofs.Inserts.{place_within, place_past, place_in, inserted_rest}
use Rattle.sums.proofs.Belows.{below_nil, below_take, below_place}

-- the pool after the positions listed were put to it, cut to cap: in the first r cells, and the rest as it was
pub record Pooled (distances : List Float) (at : List ℕ) (count cap : ℕ) (listed : List ℕ) (r : ℕ) (at' : List ℕ) : Type 0 where
  pub front : take r at' ≡ take cap (order_from (farther distances) (take count at) listed)
  pub rest : drop cap at' ≡ drop cap at
  pub held : Holds distances at' r cap

-- to and from what a contract says
module _ {ds : List Float} {at : List ℕ} {count cap : ℕ} {listed : List ℕ} {r : ℕ} {at' : List ℕ} where
  pub pooled_in : (take r at' ≡ take cap (order_from (farther ds) (take count at) listed)) × ((drop cap at' ≡ drop cap at) × Holds ds at' r cap) → Pooled ds at count cap listed r at'
  pooled_in p = record { front = p.0; rest = p.1.0; held = p.1.1 }

  pub pooled_out : Pooled ds at count cap listed r at' → (take r at' ≡ take cap (order_from (farther ds) (take count at) listed)) × ((drop cap at' ≡ drop cap at) × Holds ds at' r cap)
  pooled_out p = (p.front, (p.rest, p.held))

-- ---- one insertion
module _ (ds : List Float) (at : List ℕ) (count cap p : ℕ) (h : Holds ds at count cap) (l : p < length ds) where
  below_in : Below (length ds) (take cap (place (farther ds) p (take count at)))
  below_in = below_take (length ds) cap (place (farther ds) p (take count at)) (below_place (farther ds) (length ds) p (take count at) l h.1.1.1)

  -- at the end of a full pool nothing changes
  pub stays : cap ≤ place_of (farther ds) p (take count at) → Pooled ds at count cap (p ∷ []) count at
  unfolding order_from
  stays e =
      let w = place_within (farther ds) at count cap p h.1.0 h.1.1.0 in
      record { front = place_past (farther ds) at count cap p h.1.0 h.1.1.0 (omega (arith, h.1.0, w)) (omega (arith, h.1.0, w)); rest = refl; held = h }

  -- one shift, up to the first free cell or to the last of a full pool, whose row falls out
  pub goes_in : (to last : ℕ) (at' : List ℕ) → to ≡ place_of (farther ds) p (take count at) → to ≤ last → last ≡ min count (cap - 1) → at' ≡ inserted at to last p → length at' ≡ length at
      → Pooled ds at count cap (p ∷ []) (last + 1) at'
  unfolding order_from
  goes_in to last at' e a m i k =
      let c : last < cap = omega (arith, h.0) in
      let w : (last + 1 ≡ cap) ⊎ (last ≡ count) = elim (dec_le cap count) [ yes q ↦ inl (omega (arith, h.0)) | no q ↦ inr (omega arith) ] in
      let g : take (last + 1) at' ≡ take cap (place (farther ds) p (take count at)) = rw i (place_in (farther ds) at count cap p h.1.0 h.1.1.0 to last e a (omega arith) c w) in
      record {
        front = g;
        rest = rw i (inserted_rest at to last p a (omega (arith, h.1.1.0)) cap c);
        held = (h.0, (omega arith, (omega (arith, h.1.1.0), rw g below_in)));
      }

-- ---- insertions one after the other
pub pooled_none : (ds : List Float) (at : List ℕ) (count cap : ℕ) → Holds ds at count cap → Pooled ds at count cap [] count at
unfolding order_from
pooled_none ds at count cap h = record { front = sym (take_all cap (take count at) (omega (arith, h.1.0, length-take-le count at (omega (arith, h.1.0, h.1.1.0))))); rest = refl; held = h }

pub pooled_then : (ds : List Float) (at at' at'' : List ℕ) (count r r' cap : ℕ) (l m : List ℕ) → Pooled ds at count cap l r at' → Pooled ds at' r cap m r' at'' → Pooled ds at count cap (l ++ m) r' at''
pooled_then ds at at' at'' count r r' cap l m a b = record {
  front = b.front ∙ rw (a.front, order_take (farther ds) cap (order_from (farther ds) (take count at) l) m, order_append (farther ds) (take count at) l m);
  rest = b.rest ∙ a.rest;
  held = b.held;
}

pub empty : (ds : List Float) (at : List ℕ) (cap : ℕ) → 0 < cap → cap ≤ length at → Pooled ds at 0 cap [] 0 at
empty ds at cap p h = pooled_none ds at 0 cap (p, (omega arith, (h, below_nil (length ds))))

-- ---- a block's own pool: the positions below i are in
pub block_step : (ds : List Float) (at₀ at at' : List ℕ) (count r i : ℕ) → Pooled ds at₀ 0 8 (up_to i) count at → Pooled ds at count 8 (i ∷ []) r at' → Pooled ds at₀ 0 8 (up_to (i + 1)) r at'
block_step ds at₀ at at' count r i a b = rw (add-one i) (pooled_then ds at₀ at at' 0 count r 8 (up_to i) (i ∷ []) a b)

pub block_end : (ds : List Float) (at₀ at : List ℕ) (count i : ℕ) → i ≡ length ds → Pooled ds at₀ 0 8 (up_to i) count at → (take count at ≡ block_pool ds) × (count ≤ 8)
unfolding block_pool
block_end ds at₀ at count i e a = (a.front ∙ rw e, a.held.1.0)

-- ---- a block's pool put to the joined pool: i of its positions are in
module _ (ds : List Float) (start end : ℕ) (places : List ℕ) (l : end ≤ length ds) (e : places ≡ block_pool (take (end - start) (drop start ds))) where
  pub join_position : start ≤ end → (i : ℕ) → i < length places → start + get_or places i 0 < end
  join_position h i k =
      let rows = take (end - start) (drop start ds) in
      let long : length rows ≡ end - start = length-take-le (end - start) (drop start ds) (omega (arith, length-drop start ds)) in
      let below : Below (length rows) places = rw e (below_block rows) in
      omega (arith, long, below i k)

  module _ {at₀ at : List ℕ} {count cap held i : ℕ} (a : Pooled ds at₀ count cap (map (λ p. start + p) (take i places)) held at) where
    pub join_step : {at' : List ℕ} {r q : ℕ} → i < length places → q ≡ start + get_or places i 0 → Pooled ds at held cap (q ∷ []) r at' → Pooled ds at₀ count cap (map (λ p. start + p) (take (i + 1) places)) r at'
    join_step {at'} {r} {q} h f b =
        rw (add-one i, take-suc places i 0 h, map-append (λ p. start + p) (take i places) (get_or places i 0 ∷ []), ← f)
        (pooled_then ds at₀ at at' count held r cap (map (λ p. start + p) (take i places)) (q ∷ []) a b)

    pub join_end : i ≡ length places → Pooled ds at₀ count cap (map (λ p. start + p) (block_pool (take (end - start) (drop start ds)))) held at
    join_end f = rw (← e) (rw (f, take_all (length places) places (omega arith)) at a)

-- ---- the blocks in turn: the pools of those before `start` are in
pub record Gathering (ds : List Float) (block cap : ℕ) (at₀ : List ℕ) (held : ℕ) (at : List ℕ) (start : ℕ) : Type 0 where
  pub fuel : ℕ
  pub seen : List ℕ
  pub enough : length ds - start ≤ fuel
  pub whole : seen ++ block_pools fuel block start (drop start ds) ≡ block_pools (length ds) block 0 ds
  pub pooled : Pooled ds at₀ 0 cap seen held at

pub gathering_start : (ds : List Float) (block cap : ℕ) (at : List ℕ) → Holds ds at 0 cap → Gathering ds block cap at 0 at 0
gathering_start ds block cap at h = record { fuel = length ds; seen = []; enough = omega arith; whole = refl; pooled = pooled_none ds at 0 cap h }

-- the rows of a block, by a size that stops at the end
same_rows : (block start size : ℕ) (ds : List Float) → size ≡ min (length ds - start) block → take block (drop start ds) ≡ take (start + size - start) (drop start ds)
same_rows block start size ds e = elim (dec_le block (length ds - start)) [
  | yes q ↦ let s : start + size - start ≡ block = omega arith in rw s
  | no q ↦ take_all block (drop start ds) (omega (arith, length-drop start ds)) ∙ sym (take_all (start + size - start) (drop start ds) (omega (arith, length-drop start ds)))
]

pub gathering_step : {ds : List Float} {block cap : ℕ} {at₀ : List ℕ} {held r : ℕ} {at at' : List ℕ} {start : ℕ} (size : ℕ) → Gathering ds block cap at₀ held at start → start < length ds → 0 < block
    → size ≡ min (length ds - start) block
    → Pooled ds at held cap (map (λ p. start + p) (block_pool (take (start + size - start) (drop start ds)))) r at'
    → Gathering ds block cap at₀ r at' (start + block)
unfolding block_pools
gathering_step {ds} {block} {cap} {at₀} {held} {r} {at} {at'} {start} size g l p e b = go g.fuel g.enough g.whole
  where
    go : (fuel : ℕ) → length ds - start ≤ fuel → g.seen ++ block_pools fuel block start (drop start ds) ≡ block_pools (length ds) block 0 ds → Gathering ds block cap at₀ r at' (start + block)
    go zero n w = absurd (omega arith)
    go (suc fuel) n w =
        let next = map (λ p. start + p) (block_pool (take (start + size - start) (drop start ds))) in
        record {
          fuel = fuel;
          seen = g.seen ++ next;
          enough = omega arith;
          whole = append_assoc g.seen next _ ∙ (rw (same_rows block start size ds e, drop-drop block start ds) at w);
          pooled = pooled_then ds at₀ at at' 0 held r cap g.seen next g.pooled b;
        }

pub gathering_end : {ds : List Float} {block cap : ℕ} {at₀ : List ℕ} {held : ℕ} {at : List ℕ} {start : ℕ} → Gathering ds block cap at₀ held at start → length ds ≤ start → (take held at ≡ take cap (pool block ds)) × Holds ds at held cap
unfolding pool
gathering_end {ds} {block} {cap} {at₀} {held} {at} {start} g l =
    let e : g.seen ≡ block_pools (length ds) block 0 ds
    = sym (append-nil g.seen) ∙ (rw (drop_of_length-le ds {i = start} l, blocks_none g.fuel block start) at g.whole) in
    (g.pooled.front ∙ rw e, g.pooled.held)
