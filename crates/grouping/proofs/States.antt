-- The turns of `group_rows`: how a grouping under way stands in the row order, the stack and the group ends. Assumes nothing.
use mathlib.Core.Path.{◌≡◌, refl, sym, ap, subst, ◌∙◌}
use mathlib.Core.Logic.{inl, inr}
use mathlib.Core.Bool.{Bool, true, false}
use mathlib.Core.List.{List, [], ◌∷◌, ◌++◌, flatten, append_assoc, append-nil}
use Prim.Native.Nat.{ℕ, zero, suc, ◌+◌, ◌-◌, ◌*◌, ◌≤◌, ◌<◌, min}
use native.Mathlib.Omega.{arith}
use borrow.Rule.Slice.PartMut.{put_mid, mid_of, same_len_mid}
use borrow.Author.Tests.{eqb-true, eqb-false, ltb-true, ltb-false}
use lib.Dec.{eqb, ltb}
use lib.Ieee.{Float}
use lib.ListN.{length, take, drop, set, get_or, replicate, length-append}
use lib.Seq.{take_at, get_or_at, take-take, get_or-take, take-suc-set}
use Rattle.sums.specs.Tables.{up_to}
use Rattle.sums.specs.Rows.{Row}
use Rattle.sums.specs.Table.{rows_of}
use Rattle.sums.specs.declared.readings.Rows.{Rows}
use Rattle.sums.specs.Cells.{Below}
use Rattle.sums.specs.Draws.{cursor_at}
use Rattle.sums.specs.Refusals.{Answer, accepted, refused, on_accepted, padded, blank_cell}
use Rattle.std.specs.Prelude.{Result, Ok, Err}
use Rattle.sums.specs.declared.cursor.Draws.{Draws}
use Rattle.sums.specs.declared.refusals.Refusal.{Refusal}
use Rattle.sums.specs.Refused.{number_of, told, number_in}
use Rattle.sums.proofs.Told.{number_some}
use Rattle.sums.proofs.Fronts.{mid_at, put_at}
use Rattle.sums.proofs.Rows.{rows_length}
use Rattle.sums.proofs.Picks.{below_up}
use Rattle.sums.proofs.Belows.{below_take, below_drop, below_append}
use Rattle.sums.proofs.Refusing.{padded_none, padded_more}
use Rattle.sums.proofs.Pairs.{All, all_append}
use Rattle.labels.specs.declared.mode.Mode.{Mode}
use Rattle.labels.specs.declared.mode.Mode.TheVariants.{Strict}
use Rattle.labels.specs.Mode.{unplaced_refusal}
use Rattle.labels.proofs.Modes.{strict_nine, none_or_strict}
use Rattle.grouping.specs.Parts.{flat, sizes_of}
use Rattle.grouping.specs.Groups.{Rule, rule_of, Groups, parts_of, made_by, lost_by, waits, pushed, after, group_from, grouping, ends_from}
use Rattle.grouping.specs.PartsInside.{Laid, total}
use Rattle.grouping.specs.Inside.{Tried, Taken, pushes, Grouped}
use Rattle.grouping.proofs.Lists.{below_same}
use Rattle.grouping.proofs.Layouts.{sizes_total}
use Rattle.grouping.proofs.SplitPromises.{parts_kept}
use Rattle.grouping.specs.declared.waiting.Counts.{Counts}
use Rattle.grouping.specs.Answers.{counted, figures}
use Rattle.grouping.proofs.Stretches.{flatten_snoc, ends_length, ends_snoc}
use Rattle.grouping.proofs.Steps.{Full, full_pushed, full_count, flatten_pushed, group_end, group_list, group_six, group_seven, group_nine, group_split, sofar_none, sofar_list, sofar_more, sofar_end}

-- ---- the stack

-- the ends of waiting groups that follow one another from s on, the top of the stack last
unfoldable pub tops : ℕ → List (List ℕ) → List ℕ
tops s [] = []
tops s (g ∷ waiting) = tops (s + length g) waiting ++ ((s + length g) ∷ [])

tops_length : (s : ℕ) (w : List (List ℕ)) → length (tops s w) ≡ length w
unfolding tops
tops_length s [] = refl
tops_length s (g ∷ gs) = length-append (tops (s + length g) gs) _ ∙ omega (arith, tops_length (s + length g) gs)

tops_pushed : (s e : ℕ) (ps w : List (List ℕ)) → s + length (flat ps) ≡ e → tops s (pushed ps w) ≡ tops e w ++ pushes e (sizes_of ps)
unfolding tops pushed waits flat pushes
tops_pushed s e [] w h = let z : s ≡ e = omega arith in rw z (sym (append-nil (tops e w)))
tops_pushed s e ([] ∷ ps) w h = tops_pushed s e ps w (ap (λ (z : List ℕ). s + length z) (sym (append-nil (flat ps))) ∙ h)
tops_pushed s e ((x ∷ xs) ∷ ps) w h =
    let q : s + length (flat ps) ≡ e - suc (length xs) = omega (arith, length-append (flat ps) (x ∷ xs)) in
    let f : e - suc (length xs) + suc (length xs) ≡ e = omega (arith, length-append (flat ps) (x ∷ xs)) in
    tops_pushed s (e - suc (length xs)) ps ((x ∷ xs) ∷ w) q
    ∙ rw f (append_assoc (tops e w) (e ∷ []) (pushes (e - suc (length xs)) (sizes_of ps)))

pushes_few : (e : ℕ) (s : List ℕ) → length (pushes e s) ≤ total s
unfolding pushes total
pushes_few e [] = omega arith
pushes_few e (zero ∷ ss) = omega (arith, pushes_few e ss)
pushes_few e (suc n ∷ ss) = omega (arith, pushes_few (e - suc n) ss)

-- `listed` are finished and `w` wait, after so many splits and n draws, with so many unplaced rows
pub record State (mode : Mode) (parts : ℕ → List ℕ → List (List ℕ)) (made lost : ℕ → List ℕ → ℕ) (limit k budget : ℕ) (whole : Answer Groups) (rows : ℕ)
    (listed w : List (List ℕ)) (order waiting ends : List ℕ) (top groups splits unplaced start n : ℕ) : Type 0 where
  pub layout : order ≡ flatten listed ++ flatten w
  pub begin : start ≡ length (flatten listed)
  pub stack : take top waiting ≡ tops start w
  pub tall : top ≡ length w
  pub ended : ends ≡ padded blank_cell rows (ends_from 0 listed)
  pub many : groups ≡ length listed
  pub waiting_full : All Full w
  pub listed_full : All Full listed
  pub result : after listed splits unplaced (group_from mode parts made lost limit k (budget - splits) n w) ≡ whole

module _
    {mode : Mode} {parts : ℕ → List ℕ → List (List ℕ)} {made lost : ℕ → List ℕ → ℕ} {limit k budget : ℕ} {whole : Answer Groups} {rows : ℕ} {listed : List (List ℕ)} {g : List ℕ}
    {gs : List (List ℕ)} {order waiting ends : List ℕ} {top groups splits unplaced start n : ℕ}
    (st : State mode parts made lost limit k budget whole rows listed (g ∷ gs) order waiting ends top groups splits unplaced start n) where
  one_less : top - 1 ≡ length gs
  one_less = omega (arith, st.tall)

  stack_is : take (suc (length gs)) waiting ≡ tops (start + length g) gs ++ ((start + length g) ∷ [])
  unfolding tops
  stack_is = rw st.tall at st.stack

  pub top_is : get_or waiting (top - 1) 0 ≡ start + length g
  top_is =
      rw one_less
      (sym (get_or-take (suc (length gs)) waiting (length gs) 0 (omega arith))
      ∙ rw stack_is (get_or_at (tops (start + length g) gs) (start + length g) [] 0 (length gs) (tops_length (start + length g) gs)))

  below_is : take (top - 1) waiting ≡ tops (start + length g) gs
  below_is =
      rw one_less
      (sym (take-take (length gs) (suc (length gs)) waiting (omega arith))
      ∙ rw stack_is (take_at (tops (start + length g) gs) ((start + length g) ∷ []) (length gs) (tops_length (start + length g) gs)))

  laid : order ≡ flatten listed ++ (g ++ flatten gs)
  unfolding flatten
  laid = st.layout

  pub top_in : length order ≡ start + length g + length (flatten gs)
  top_in = ap length laid ∙ length-append (flatten listed) (g ++ flatten gs) ∙ omega (arith, length-append g (flatten gs), st.begin)

  pub top_full : 0 < length g
  top_full = st.waiting_full.0

  module _ (end : ℕ) (e : end ≡ start + length g) where
    pub mid_is : mid_of start (end - start) order ≡ g
    mid_is = mid_at order (flatten listed) g (flatten gs) start (end - start) laid (sym st.begin) (omega arith)

    -- a group that is small enough is listed
    pub finish : length g ≤ limit → groups < rows
        → State mode parts made lost limit k budget whole rows (listed ++ (g ∷ [])) gs order waiting (set ends groups end) (top - 1) (groups + 1) splits unplaced end n
    finish h r = record {
      layout = laid ∙ sym (ap (λ (z : List ℕ). z ++ flatten gs) (flatten_snoc listed g) ∙ append_assoc (flatten listed) g (flatten gs));
      begin = e ∙ sym (ap length (flatten_snoc listed g) ∙ length-append (flatten listed) g ∙ omega (arith, st.begin));
      stack = rw e below_is;
      tall = one_less;
      ended =
          let m : groups ≡ length (ends_from 0 listed) = st.many ∙ sym (ends_length 0 listed) in
          let f : end ≡ 0 + length (flatten listed) + length g = omega (arith, st.begin) in
          rw (st.ended, m, padded_more blank_cell rows (ends_from 0 listed) end (omega arith), ends_snoc 0 listed g, f);
      many = sym (length-append listed (g ∷ []) ∙ omega (arith, st.many));
      waiting_full = st.waiting_full.1;
      listed_full = all_append Full listed (g ∷ []) st.listed_full (st.waiting_full.0, tt);
      result =
          sym (ap (λ z. after listed splits unplaced z) (group_list mode parts made lost limit k n g gs (budget - splits) h) ∙ sofar_list listed splits unplaced g (group_from mode parts made lost limit k (budget - splits) n gs))
          ∙ st.result;
    }

    -- the ends that the parts put on the stack have room
    pub push_room : (sizes : List ℕ) → total sizes ≡ length g → top - 1 + length (pushes end sizes) ≤ length order
    push_room sizes t = omega (arith, one_less, pushes_few end sizes, top_in, full_count gs st.waiting_full.1)

    -- one that is not is split
    pub cut_up : limit < length g → k ≤ length g → splits < budget → unplaced_refusal mode (lost n g) ≡ 0 → (last sizes waiting' : List ℕ) (r u : ℕ) → length last ≡ length g → last ≡ flat (parts n g)
        → sizes ≡ sizes_of (parts n g) → u ≡ lost n g → r ≡ top - 1 + length (pushes end sizes) → take r waiting' ≡ take (top - 1) waiting ++ pushes end sizes
        → State mode parts made lost limit k budget whole rows listed (pushed (parts n g) gs) (put_mid start (end - start) order last) waiting' ends r groups (splits + 1) (unplaced + u) start (made n g)
    cut_up big enough left placed last sizes waiting' r u long l s m q t =
        let z : budget - splits ≡ suc (budget - (splits + 1)) = omega arith in
        let v = pushed (parts n g) gs in
        let tp : tops start v ≡ tops end gs ++ pushes end (sizes_of (parts n g)) = tops_pushed start end (parts n g) gs (omega (arith, ap length l)) in
        record {
          layout =
              put_at order (flatten listed) g (flatten gs) start (end - start) laid (sym st.begin) (omega arith) last
              ∙ rw (l, flatten_pushed (parts n g) gs);
          begin = st.begin;
          stack = t ∙ rw (below_is, s, ← e) (sym tp);
          tall =
              omega (
                arith,
                one_less,
                ap (λ z. length (pushes end z)) s,
                tops_length start v,
                tops_length end gs,
                ap length tp,
                length-append (tops end gs) (pushes end (sizes_of (parts n g))),
              );
          ended = st.ended;
          many = st.many;
          waiting_full = full_pushed (parts n g) gs st.waiting_full.1;
          listed_full = st.listed_full;
          result =
              sym
              (ap (λ o. after listed splits unplaced o) (group_split mode parts made lost limit k n g gs (budget - (splits + 1)) big enough placed)
              ∙ rw m (sofar_more listed splits unplaced (lost n g) (group_from mode parts made lost limit k (budget - (splits + 1)) (made n g) v)))
              ∙ (rw z at st.result);
        }

  -- what is refused
  pub refuse_six : limit < length g → length g < k → whole ≡ refused 6
  unfolding after on_accepted
  refuse_six p q = sym st.result ∙ rw (group_six mode parts made lost limit k n g gs (budget - splits) p q)

  pub refuse_seven : splits ≡ budget → limit < length g → k ≤ length g → whole ≡ refused 7
  unfolding after on_accepted
  refuse_seven e p q =
      let z : budget - splits ≡ 0 = omega arith in
      sym st.result ∙ rw (z, group_seven mode parts made lost limit k n g gs p q)

  pub refuse_nine : splits < budget → limit < length g → k ≤ length g → mode ≡ Strict → 0 < lost n g → whole ≡ refused 9
  unfolding after on_accepted
  refuse_nine left p q s u =
      let z : budget - splits ≡ suc (budget - (splits + 1)) = omega arith in
      sym st.result ∙ rw (z, group_nine mode parts made lost limit k n g gs (budget - (splits + 1)) p q s u)

module _
    {mode : Mode} {parts : ℕ → List ℕ → List (List ℕ)} {made lost : ℕ → List ℕ → ℕ} {limit k budget : ℕ} {whole : Answer Groups} {rows : ℕ} {listed w : List (List ℕ)}
    {order waiting ends : List ℕ} {top groups splits unplaced start n : ℕ}
    (st : State mode parts made lost limit k budget whole rows listed w order waiting ends top groups splits unplaced start n) where
  -- the groups listed and waiting are no more than the rows
  pub state_room : groups + top ≤ length order
  state_room =
      omega (arith, st.many, st.tall, full_count listed st.listed_full, full_count w st.waiting_full, ap length st.layout, length-append (flatten listed) (flatten w))

  -- nothing waits any more
  all_listed : top ≤ 0
      → (whole ≡ accepted (record { groups = listed; splits = splits; unplaced = unplaced })) × ((order ≡ flatten listed) × ((ends ≡ padded blank_cell rows (ends_from 0 listed)) × (groups ≡ length listed)))
  unfolding flatten
  all_listed p = go w st
    where
      go : (v : List (List ℕ)) → State mode parts made lost limit k budget whole rows listed v order waiting ends top groups splits unplaced start n
          → (whole ≡ accepted (record { groups = listed; splits = splits; unplaced = unplaced })) × ((order ≡ flatten listed) × ((ends ≡ padded blank_cell rows (ends_from 0 listed)) × (groups ≡ length listed)))
      go [] s = (
        sym s.result ∙ rw (group_end mode parts made lost limit k (budget - splits) n) (sofar_end listed splits unplaced),
        (s.layout ∙ append-nil (flatten listed), (s.ended, s.many)),
      )
      go (g ∷ gs) s = absurd (omega (arith, s.tall))

-- the same split, its draws and parts counted otherwise
pub taken_by : {mode : Mode} {dim : ℕ} {rows : List Row} {weight : Float} {spherical : Bool} {budget splits : ℕ} {group : List ℕ} {old new : Draws} {r : Result ℕ Refusal} {part sizes : List ℕ} {list : List ℕ} {k : ℕ} (list' : List ℕ) (k' : ℕ)
    → list ≡ list' → k ≡ k' → Taken mode (rule_of list dim rows k weight spherical) budget splits group old new r part sizes → Taken mode (rule_of list' dim rows k' weight spherical) budget splits group old new r part sizes
taken_by list' k' e f t = rw (e, f) at t

-- ---- what is told and left, where the answer is known
abbrev Leaves : ℕ → List ℕ → List ℕ → Groups → Type 0
Leaves n order ends g = (order ≡ flatten g.groups) × ((ends ≡ padded blank_cell n (ends_from 0 g.groups)) × (Below n order × (length g.groups ≤ n)))

module _ {answer : Answer Groups} {n : ℕ} {r : Result Counts Refusal} {order ends : List ℕ} where
  grouped_accepted : (g : Groups) → answer ≡ accepted g → told counted r ≡ on_accepted figures (accepted g) → Leaves n order ends g → Grouped answer n r order ends
  grouped_accepted g e t l = record {
    result = t ∙ ap (on_accepted figures) (sym e);
    listed = λ h f. let z : g ≡ h = cc in subst (λ (x : Groups). Leaves n order ends x) z l;
  }

  grouped_refused : (number : ℕ) → answer ≡ refused number → told counted r ≡ refused number → Grouped answer n r order ends
  unfolding on_accepted
  grouped_refused number e t = record { result = t ∙ rw e; listed = λ g f. let z : ◌≡◌ {A = ℕ} 0 1 = cc in absurd (omega arith) }

not_spent : (splits budget : ℕ) → splits ≤ budget → (splits ≡ budget → ⊥) → splits < budget
not_spent splits budget h k = omega arith

-- ---- what the loop keeps
pub record Clustering (mode : Mode) (rule : Rule) (limit budget rows : ℕ) (order waiting ends : List ℕ) (top groups splits unplaced start : ℕ) (draws : Draws) : Type 0 where
  pub room : groups + top ≤ rows
  pub spent : splits ≤ budget
  pub count : unplaced ≤ splits * 4096
  pub below : Below rows order
  pub made : ℕ
  pub lent : draws.list.now ≡ rule.draws
  pub drawn : draws.cursor ≡ cursor_at rule.draws made
  pub listed : List (List ℕ)
  pub w : List (List ℕ)
  pub state : State mode (parts_of rule) (made_by rule) (lost_by rule) limit rule.branching budget (grouping mode rule limit budget) rows listed w order waiting ends top groups splits unplaced start made

-- the top of the stack
pub record Open (mode : Mode) (rule : Rule) (limit budget rows : ℕ) (order waiting ends : List ℕ) (top groups splits unplaced start made : ℕ) : Type 0 where
  pub listed : List (List ℕ)
  pub g : List ℕ
  pub gs : List (List ℕ)
  pub st : State mode (parts_of rule) (made_by rule) (lost_by rule) limit rule.branching budget (grouping mode rule limit budget) rows listed (g ∷ gs) order waiting ends top groups splits unplaced start made

module _
    {mode : Mode} {rule : Rule} {limit budget rows : ℕ} {order waiting ends : List ℕ} {top groups splits unplaced start : ℕ} {draws : Draws}
    (h : Clustering mode rule limit budget rows order waiting ends top groups splits unplaced start draws) where
  pub open_up : 0 < top → Open mode rule limit budget rows order waiting ends top groups splits unplaced start h.made
  open_up p = go h.w h.state
    where
      go : (w : List (List ℕ)) → State mode (parts_of rule) (made_by rule) (lost_by rule) limit rule.branching budget (grouping mode rule limit budget) rows h.listed w order waiting ends top groups splits unplaced start h.made
          → Open mode rule limit budget rows order waiting ends top groups splits unplaced start h.made
      go [] s = absurd (omega (arith, s.tall))
      go (g ∷ gs) s = record { listed = h.listed; g = g; gs = gs; st = s }

  -- all groups are listed
  pub clustering_end : top ≤ 0 → Grouped (grouping mode rule limit budget) rows (Ok (record { groups = groups; splits = splits; unplaced = unplaced })) order ends
  unfolding on_accepted
  clustering_end p =
      let a = all_listed h.state p in
      grouped_accepted _ a.0 (rw a.1.1.1) (a.1.0, (a.1.1.0, (h.below, omega (arith, a.1.1.1, h.room))))

  module _ (p : 0 < top) (long : length order ≡ rows) (end : ℕ) (q : end ≡ get_or waiting (top - 1) 0) where
    end_top : end ≡ start + length (open_up p).g
    end_top = q ∙ top_is (open_up p).st

    pub end_room : (start < end) × (end ≤ rows)
    end_room = let o = open_up p in (omega (arith, end_top, top_full o.st), omega (arith, end_top, top_in o.st))

    pub clustering_list : end - start ≤ limit → Clustering mode rule limit budget rows order waiting (set ends groups end) (top - 1) (groups + 1) splits unplaced end draws
    clustering_list f =
        let o = open_up p in
        let e = end_top in
        record {
          room = omega (arith, h.room);
          spent = h.spent;
          count = h.count;
          below = h.below;
          made = h.made;
          lent = h.lent;
          drawn = h.drawn;
          listed = o.listed ++ (o.g ∷ []);
          w = o.gs;
          state = finish o.st end e (omega arith) (omega (arith, h.room));
        }

    -- the stretch of the row order that is taken
    abbrev group : List ℕ
    group = mid_of start (end - start) order

    group_is : group ≡ (open_up p).g
    group_is = mid_is (open_up p).st end end_top

    group_end_is : end ≡ start + length group
    group_end_is = end_top ∙ ap (λ (l : List ℕ). start + length l) (sym group_is)

    -- the group taken stands there
    top_group : State mode (parts_of rule) (made_by rule) (lost_by rule) limit rule.branching budget (grouping mode rule limit budget) rows (open_up p).listed (group ∷ (open_up p).gs) order waiting ends top groups splits unplaced start h.made
    top_group = rw group_is (open_up p).st

    module _ {new : Draws} {cut : Result ℕ Refusal} {last sizes : List ℕ} (t : Taken mode rule budget splits group draws new cut last sizes) where
      -- a group that was taken is refused by its number
      pub clustering_refused : limit < end - start → (refusal : Refusal) → cut ≡ Err refusal → (order' : List ℕ) → Grouped (grouping mode rule limit budget) rows (Err refusal) order' ends
      clustering_refused f refusal is order' = grouped_refused (number_of refusal) (by_size (ltb (length group) rule.branching) refl) refl
        where
          numbered : number_of refusal ≡ number_in cut
          numbered = rw is

          by_rows : rule.branching ≤ length group → (splits ≡ budget → ⊥) → grouping mode rule limit budget ≡ refused (number_of refusal)
          by_rows k b =
              let d : number_of refusal ≡ unplaced_refusal mode (lost_by rule h.made group) = numbered ∙ ((t.tried k b).steps h.made h.drawn).0.0 in
              elim (none_or_strict mode (lost_by rule h.made group)) [
                | inl z ↦ absurd (omega (arith, d ∙ z, number_some refusal))
                | inr z ↦ refuse_nine top_group (not_spent splits budget h.spent b) (omega (arith, group_end_is)) k z.0 z.1 ∙ ap (λ (n : ℕ). refused n) (sym (d ∙ rw z.0 ((strict_nine (lost_by rule h.made group)).1 z.1)))
              ]

          by_budget : rule.branching ≤ length group → (b : Bool) → eqb splits budget ≡ b → grouping mode rule limit budget ≡ refused (number_of refusal)
          by_budget k true e =
              let b = eqb-true splits budget e in
              refuse_seven top_group b (omega (arith, group_end_is)) k ∙ ap (λ (n : ℕ). refused n) (sym (numbered ∙ t.spent k b))
          by_budget k false e = by_rows k (eqb-false splits budget e)

          by_size : (b : Bool) → ltb (length group) rule.branching ≡ b → grouping mode rule limit budget ≡ refused (number_of refusal)
          by_size true e =
              let k = ltb-true (length group) rule.branching e in
              refuse_six top_group (omega (arith, group_end_is)) k ∙ ap (λ (n : ℕ). refused n) (sym (numbered ∙ t.small k))
          by_size false e = by_budget (ltb-false (length group) rule.branching e) (eqb splits budget) refl

      module _ (lost : ℕ) (is : cut ≡ Ok lost) (same : length last ≡ length group) where
        none : number_in cut ≡ 0
        none = rw is

        enough : rule.branching ≤ length group
        enough = go (ltb (length group) rule.branching) refl
          where
            go : (b : Bool) → ltb (length group) rule.branching ≡ b → rule.branching ≤ length group
            go true e = absurd (omega (arith, none, t.small (ltb-true (length group) rule.branching e)))
            go false e = ltb-false (length group) rule.branching e

        some_left : splits ≡ budget → ⊥
        some_left e = omega (arith, none, t.spent enough e)

        pub unspent : splits < budget
        unspent = not_spent splits budget h.spent some_left

        -- one that no number refuses is split
        pub divided : Tried mode rule group draws new cut last sizes
        divided = t.tried enough some_left

        -- the parts that the split made
        abbrev made-parts : List (List ℕ)
        made-parts = parts_of rule h.made group

        made_laid : Laid made-parts last sizes
        made_laid = ((divided.steps h.made h.drawn).1 lost is).1

        sized : total sizes ≡ length last
        sized = sizes_total made-parts last sizes made_laid.0 made_laid.1

        pub split_room : (top - 1 + length (pushes end sizes) ≤ rows) × (total sizes ≤ end)
        split_room =
            let r = push_room top_group end group_end_is sizes (sized ∙ same) in
            (omega (arith, r), omega (arith, sized, same, group_end_is))

        pub clustering_split : 0 < rule.branching → rows ≤ 4096 → limit < end - start → (waiting' : List ℕ) (r : ℕ)
            → r ≡ top - 1 + length (pushes end sizes) → take r waiting' ≡ take (top - 1) waiting ++ pushes end sizes
            → Clustering mode rule limit budget rows (put_mid start (end - start) order last) waiting' ends r groups (splits + 1) (unplaced + lost) start new
        clustering_split some few f waiting' r u v =
            let d = divided.steps h.made h.drawn in
            let placed = sym d.0.0 ∙ none in
            let t = cut_up top_group end group_end_is (omega (arith, group_end_is)) enough unspent placed last sizes waiting' r lost same made_laid.0 made_laid.1 (d.1 lost is).0 u v in
            let z = same_len_mid {X = ℕ} start (end - start) order last same in
            let inside : Below rows group = below_take rows (end - start) (drop start order) (below_drop rows start order h.below) in
            let kept = (parts_kept rule h.made group some enough (omega (arith, group_end_is, top_in top_group))).0 in
            record {
              room = omega (arith, state_room t);
              spent = omega (arith, unspent);
              count = omega (arith, h.count, divided.few lost is);
              below =
                  below_append rows (take start order) (last ++ drop (end - start) (drop start order)) (below_take rows start order h.below)
                  (below_append rows last (drop (end - start) (drop start order)) (rw made_laid.0 (below_same rows (flat made-parts) group kept inside))
                  (below_drop rows (end - start) (drop start order) (below_drop rows start order h.below)));
              made = made_by rule h.made group;
              lent = divided.kept ∙ h.lent;
              drawn = d.0.1;
              listed = (open_up p).listed;
              w = pushed made-parts (open_up p).gs;
              state = t;
            }

-- ---- before the first turn one group waits, or none where there is no row
record First (l waiting : List ℕ) : Type 0 where
  flat_is : l ≡ flatten (waits l [])
  stack_is : take (min (length l) 1) (set waiting 0 (length l)) ≡ tops 0 (waits l [])
  tall_is : min (length l) 1 ≡ length (waits l [])
  full : All Full (waits l [])

first : (l waiting : List ℕ) → 0 < length waiting → First l waiting
unfolding waits tops flatten
first [] waiting room = record { flat_is = refl; stack_is = refl; tall_is = refl; full = tt }
first (x ∷ l) waiting room =
    let e : min (suc (length l)) 1 ≡ 1 = omega arith in
    let n : 0 + suc (length l) ≡ suc (length l) = omega arith in
    record {
      flat_is = sym (append-nil (x ∷ l));
      stack_is = rw (e, n) (take-suc-set waiting 0 (suc (length l)) room);
      tall_is = e;
      full = (omega arith, tt);
    }

module _ (mode : Mode) (draws : List ℕ) (rows : Rows) (k : ℕ) (weight : Float) (spherical : Bool) (limit budget : ℕ) (order : List ℕ) (many : rows.count ≡ length order) (up : order ≡ up_to (length order)) where
  abbrev ruled : Rule
  ruled = rule_of draws rows.dim (rows_of rows) k weight spherical

  whole_is : group_from mode (parts_of ruled) (made_by ruled) (lost_by ruled) limit k budget 0 (waits order []) ≡ grouping mode ruled limit budget
  whole_is = ap (λ (l : List ℕ). group_from mode (parts_of ruled) (made_by ruled) (lost_by ruled) limit k budget 0 (waits l [])) (up ∙ ap up_to (sym (rows_length rows.dim rows.count rows.values.now ∙ many)))

  pub clustering_start : (waiting ends : List ℕ) (top : ℕ) (drawn : Draws) → 0 < length waiting → length ends ≡ length order → ends ≡ replicate (length ends) blank_cell
      → top ≡ min (length order) 1 → drawn.list.now ≡ draws → drawn.cursor ≡ cursor_at draws 0
      → Clustering mode ruled limit budget (length order) order (set waiting 0 (length order)) ends top 0 0 0 0 drawn
  unfolding flatten ends_from
  clustering_start waiting ends top drawn room l blank t list c =
      let b : budget - 0 ≡ budget = omega arith in
      let f = first order waiting room in
      record {
        room = omega (arith, t);
        spent = omega arith;
        count = omega arith;
        below = subst (λ (m : List ℕ). Below (length order) m) (sym up) (below_up (length order));
        made = 0;
        lent = list;
        drawn = c;
        listed = [];
        w = waits order [];
        state = record {
          layout = f.flat_is;
          begin = refl;
          stack = rw t f.stack_is;
          tall = t ∙ f.tall_is;
          ended = blank ∙ rw l (sym (padded_none blank_cell (length order)));
          many = refl;
          waiting_full = f.full;
          listed_full = tt;
          result = rw b (sofar_none _ ∙ whole_is);
        };
      }

-- ---- the measure of a turn
pub falls : (budget splits top r x rows : ℕ) → splits < budget → r ≡ x → x ≤ rows → rows ≤ 4096 → (budget - (splits + 1)) * 65536 + r < (budget - splits) * 65536 + top
falls budget splits top r x rows h e k f = omega arith
