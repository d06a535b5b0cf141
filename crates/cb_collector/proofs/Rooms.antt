-- What the rules say of a store that makes room.
use Rattle.std.proofs.Common.{◌≡◌, ◌∙◌, ◌↔◌, ℕ, zero, suc, ◌+◌, ◌-◌, ◌^◌, ◌<◌, ◌≤◌, Bool, false, List, [], ◌∷◌, Option, None, Some, Result, Ok, Err, IsErr, length, min, replicate, refl, sym, ap, arith, subst, inl, inr}
use Rattle.std.specs.List.{range_with_len, sum_by}
use Rattle.std.proofs.lemmas.Bool.{cases_lt}
use Rattle.std.proofs.lemmas.List.Sums.{sum_by-cons}
use Rattle.cb_plain.specs.State.{Object, Roots}
use Rattle.cb_plain.specs.declared.want.Want.{Want}
use Rattle.cb_dag.specs.Parts.{AreWithin}
use Rattle.cb_heap.specs.Grants.{words_granted}
use Rattle.cb_heap.specs.Closed.{Collects, IsClosed}
use Rattle.cb_heap.specs.Kept.{keep, residents}
use Rattle.cb_heap.specs.Occupancy.{HasRoom, blocks, blocks_of, wanted}
use Rattle.cb_heap.specs.Reading.{seen}
use Rattle.cb_heap.specs.Rules.{Meaning}
use Rattle.cb_heap.specs.declared.no_room.NoRoom.{NoRoom}
use Rattle.cb_heap.specs.declared.no_room.NoRoom.TheVariants as rooms
use Rattle.cb_partheap.specs.Heaps.{Heap, index_in, objects_in, part_of, with_granted}
use Rattle.cb_slide.specs.Collected.{view_of}
use Rattle.cb_collector.specs.Collecting.{Standing, used_in}
use Rattle.cb_collector.specs.Held.{Held, IsReady, asked_behind, counted_for, full_by, granted_to, known_in, standing_in, used_by}
use Rattle.cb_collector.specs.Known.{Known}
use Rattle.cb_collector.specs.Policy.{ByBest, FitsThen, IsRoomy, Leaves, LeavesOut, Makes, MakesFor, MakesRoom, NotDue, Refuses, RefusesThen, Roomy, TakesAll, TakesBest, none_chosen}
use Rattle.cb_collector.proofs.Best.{none_best, none_marked}

-- where no block is taken, nothing is used, and else something is
none_used : (f : ℕ → ℕ) (a n p : ℕ) → sum_by (λ part. blocks_of (f part)) (range_with_len a n) ≡ 0 → a ≤ p → p < a + n → f p ≡ 0
none_used f a zero p none low high = absurd (omega (arith, low, high))
none_used f a (suc n) p none low high =
    let first = sum_by-cons (λ part. blocks_of (f part)) a (range_with_len (a + 1) n) in
    elim (cases_lt a p) [
      | inl past ↦ none_used f (a + 1) n p (omega (arith, first, none)) (omega (arith, past)) (omega (arith, high))
      | inr here ↦
          let same : p ≡ a = omega (arith, here, low) in
          let least : blocks_of (f a) ≡ 0 = omega (arith, first, none) in
          ap f same ∙ (let e : f a ≡ 0 = omega (arith, least) in e)
    ]

pub record IsUsed (f : ℕ → ℕ) (a n : ℕ) : Type 0 where
  pub part : ℕ
  pub low : a ≤ part
  pub high : part < a + n
  pub some : 0 < f part

some_used : (f : ℕ → ℕ) (a n : ℕ) → 0 < sum_by (λ part. blocks_of (f part)) (range_with_len a n) → IsUsed f a n
some_used f a zero some = absurd (omega (arith, some))
some_used f a (suc n) some =
    let first = sum_by-cons (λ part. blocks_of (f part)) a (range_with_len (a + 1) n) in
    elim (cases_lt 0 (f a)) [
      | inl here ↦ record { part = a; low = omega arith; high = omega arith; some = here }
      | inr none ↦
          let least : blocks_of (f a) ≡ 0 = omega (arith, none) in
          let rest = some_used f (a + 1) n (omega (arith, first, some, least)) in
          record { part = rest.part; low = omega (arith, rest.low); high = omega (arith, rest.high); some = rest.some }
    ]

pub leaves_out : (standing : Standing) (n : ℕ) → 0 < blocks standing.known.config.parts (used_in standing) → LeavesOut standing (replicate n false)
leaves_out standing n some =
    let u = some_used (used_in standing) 0 standing.known.config.parts some in
    (u.part, omega (arith, u.high), none_marked n u.part, u.some)

pub leaves_none : (standing : Standing) (set : List Bool) → blocks standing.known.config.parts (used_in standing) ≡ 0 → LeavesOut standing set → ⊥
leaves_none standing set none left =
    absurd (omega (arith, left.3, none_used (used_in standing) 0 standing.known.config.parts left.0 none (omega arith) (omega (arith, left.1))))

-- the start isn't counted
abbrev asked_of : List (Option Object) → Standing → Standing
asked_of objects before = record before { known = record before.known { asked = asked_behind objects before.known.asked } }

makes_for : (before : Standing) (objects : List (Option Object)) (wants : List Want) (result : Result (Unit {0}) NoRoom) (after : Standing) → before.known.config.every ≡ None → Makes (asked_of objects before) wants result after → MakesFor before objects wants result after
makes_for before [] wants result after every makes = makes
makes_for before (first ∷ objects) wants result after every makes = NotDue result after (λ due. due.1 every) makes

-- what a store means
abbrev pub meaning : {Output : Type 0} → (Output → Option (List ℕ)) → Held Output → Meaning Known
meaning told held = record { facts = known_in told held; residents = residents (objects_in held.heap) }

module _ {Output : Type 0} (told : Output → Option (List ℕ)) (held : Held Output) (roots : Roots) (wants : List Want) where
  abbrev pub counted_held : Held Output
  counted_held = counted_for (objects_in held.heap) held

  abbrev pub first : Standing
  first = standing_in told counted_held roots

  best : IsReady held → TakesBest first (none_chosen first.known) (Ok tt) first
  best ready = Leaves (none_best first.known refl (subst (λ n. AreWithin n held.graph.edges) (sym ready.each) ready.within)) (none_marked (length held.facts))

  -- there is room
  pub roomy : IsRoomy first wants → words_granted wants ≤ 2 ^ 28 → objects_in (with_granted held.heap wants) ≡ objects_in held.heap →
      MakesRoom (known_in told held) (view_of held.heap roots) wants (Ok tt) (meaning told (granted_to wants counted_held))
  roomy room few kept =
      record {
        few = λ is. few;
        behind = first;
        makes = makes_for (standing_in told held roots) (objects_in held.heap) wants (Ok tt) first refl (Roomy room);
        known_is = refl;
        residents_are = ap residents kept;
      }

  -- there is none, and nothing is used
  pub unused : (IsRoomy first wants → ⊥) → blocks (length held.heap.memory.words) (used_by held.heap) ≡ 0 → IsReady held →
      MakesRoom (known_in told held) (view_of held.heap roots) wants (Err (full_by held.heap wants)) (meaning told counted_held)
  unused past none ready =
      record {
        few = λ is. absurd (cc is);
        behind = first;
        makes = makes_for (standing_in told held roots) (objects_in held.heap) wants (Err (full_by held.heap wants)) first refl
            (ByBest (none_chosen first.known) first first (Err (full_by held.heap wants)) past (best ready) (Refuses past (leaves_none first (replicate (length held.facts) false) none)));
        known_is = refl;
        residents_are = refl;
      }

  module _ (after : Held Output) (roots' : Roots) (past : IsRoomy first wants → ⊥) (some : 0 < blocks (length held.heap.memory.words) (used_by held.heap)) (ready : IsReady held)
      (takes : TakesAll first (Ok tt) (standing_in told after roots')) where
    -- there is room when all parts are collected
    pub roomy_then : IsRoomy (standing_in told after roots') wants → words_granted wants ≤ 2 ^ 28 → objects_in (with_granted after.heap wants) ≡ objects_in after.heap →
        MakesRoom (known_in told held) (view_of held.heap roots) wants (Ok tt) (meaning told (granted_to wants after))
    roomy_then room few kept =
        record {
          few = λ is. few;
          behind = standing_in told after roots';
          makes = makes_for (standing_in told held roots) (objects_in held.heap) wants (Ok tt) (standing_in told after roots') refl
              (ByBest (none_chosen first.known) first (standing_in told after roots') (Ok tt) past (best ready) (FitsThen (standing_in told after roots') past (leaves_out first (length held.facts) some) takes room));
          known_is = refl;
          residents_are = ap residents kept;
        }

    -- there is none then either
    pub refused_then : (IsRoomy (standing_in told after roots') wants → ⊥) →
        MakesRoom (known_in told held) (view_of held.heap roots) wants (Err (full_by after.heap wants)) (meaning told after)
    refused_then still =
        record {
          few = λ is. absurd (cc is);
          behind = standing_in told after roots';
          makes = makes_for (standing_in told held roots) (objects_in held.heap) wants (Err (full_by after.heap wants)) (standing_in told after roots') refl
              (ByBest (none_chosen first.known) first (standing_in told after roots') (Err (full_by after.heap wants)) past (best ready) (RefusesThen (standing_in told after roots') past (leaves_out first (length held.facts) some) takes still));
          known_is = refl;
          residents_are = refl;
        }

-- room, by the heap alone
abbrev pub HasRoomIn : Heap → List Want → Type 0
HasRoomIn heap wants = HasRoom (length heap.memory.words) (part_of heap.site_parts) (objects_in heap) wants heap.memory.blocks

pub full_is : (heap : Heap) (wants : List Want) (live more asked limit : ℕ) → live ≡ blocks (length heap.memory.words) (used_by heap) →
    blocks (length heap.memory.words) (used_by heap) + more ≡ blocks (length heap.memory.words) (λ part. used_by heap part + wanted (part_of heap.site_parts) wants part) → asked ≡ min more (2 ^ 64 - 1) → limit ≡ heap.memory.blocks →
    rooms.Full live asked limit ≡ full_by heap wants
full_is heap wants live more asked limit live_is needed asked_is limit_is =
    let kept : ℕ = blocks (length heap.memory.words) (used_by heap) in
    let all : ℕ = blocks (length heap.memory.words) (λ part. used_by heap part + wanted (part_of heap.site_parts) wants part) in
    let more_is : more ≡ all - kept = omega (arith, needed) in
    ap (λ n. rooms.Full n asked limit) live_is ∙ ap (λ n. rooms.Full kept n limit) (asked_is ∙ ap (λ n. min n (2 ^ 64 - 1)) more_is) ∙ ap (λ n. rooms.Full kept (min (all - kept) (2 ^ 64 - 1)) n) limit_is

-- room that was granted is there
pub is_roomy : (needed limit : ℕ) {E : Type 0} (r : Result (Unit {0}) E) → (IsErr r ↔ ¬ (needed ≤ limit)) → r ≡ Ok tt → needed ≤ limit
is_roomy needed limit r tells is =
    elim (cases_lt limit needed) [
      | inl past ↦ absurd (let err = tells.1 (λ fits. omega (arith, past, fits)) in cc (err, is))
      | inr fits ↦ fits
    ]

-- a collection that lets nothing go, and one before which and after which all that is seen is the same
keep_all : (objects : List (Option Object)) → objects ≡ keep (residents objects) objects
keep_all [] = refl
keep_all (None ∷ entries) = ap (λ rest. None ∷ rest) (keep_all entries)
keep_all (Some object ∷ entries) = ap (λ rest. Some object ∷ rest) (keep_all entries)

pub collects_via : (old new before after : Heap) (roots roots' : Roots) → old ≡ before → objects_in after ≡ objects_in new → index_in after ≡ index_in new → Collects (view_of old roots) (view_of new roots') → Collects (view_of before roots) (view_of after roots')
collects_via old new before after roots roots' same kept places is =
    let behind : view_of new roots' ≡ view_of after roots' = ap (λ index. seen index (objects_in new) roots') (sym places) ∙ ap (λ objects. seen (index_in after) objects roots') (sym kept) in
    subst (λ v. Collects (view_of before roots) v) behind (subst (λ (h : Heap). Collects (view_of h roots) (view_of new roots')) same is)

pub rests : (old after : Heap) (roots : Roots) → objects_in after ≡ objects_in old → index_in after ≡ index_in old → IsClosed (view_of old roots) → Collects (view_of old roots) (view_of after roots)
rests old after roots kept places closed = collects_via old old old after roots roots refl kept places (record { roots = refl; objects = keep_all (objects_in old); count = refl; closed = closed })

-- what is ruled at each end
module _ {Output : Type 0} (told : Output → Option (List ℕ)) (held asked left : Held Output) (roots : Roots) (wants : List Want) (counted_is : asked ≡ counted_for (objects_in held.heap) held) where
  pub roomy_by : left ≡ granted_to wants asked → HasRoomIn asked.heap wants → words_granted wants ≤ 2 ^ 28 → objects_in left.heap ≡ objects_in asked.heap →
      MakesRoom (known_in told held) (view_of held.heap roots) wants (Ok tt) (meaning told left)
  roomy_by granted room few kept =
      let is : left ≡ granted_to wants (counted_for (objects_in held.heap) held) = granted ∙ ap (λ (h : Held Output). granted_to wants h) counted_is in
      let here : asked.heap ≡ held.heap = ap (λ (h : Held Output). h.heap) counted_is in
      let there : left.heap ≡ with_granted held.heap wants = ap (λ (h : Held Output). h.heap) is in
      subst (λ (h : Held Output). MakesRoom (known_in told held) (view_of held.heap roots) wants (Ok tt) (meaning told h)) (sym is)
      (roomy told held roots wants (subst (λ (h : Heap). HasRoomIn h wants) here room) few (ap objects_in (sym there) ∙ kept ∙ ap objects_in here))

  pub unused_by : (reason : NoRoom) → left ≡ asked → (HasRoomIn asked.heap wants → ⊥) → blocks (length left.heap.memory.words) (used_by left.heap) ≡ 0 → IsReady left → reason ≡ full_by left.heap wants →
      MakesRoom (known_in told held) (view_of held.heap roots) wants (Err reason) (meaning told left)
  unused_by reason refused past none ready full =
      let is : left ≡ counted_for (objects_in held.heap) held = refused ∙ counted_is in
      let here : asked.heap ≡ held.heap = ap (λ (h : Held Output). h.heap) counted_is in
      let there : left.heap ≡ held.heap = ap (λ (h : Held Output). h.heap) is in
      let ready' : IsReady held = (let r = subst (λ (h : Held Output). IsReady h) is ready in record { each = r.each; within = r.within }) in
      subst (λ (h : Held Output). MakesRoom (known_in told held) (view_of held.heap roots) wants (Err reason) (meaning told h)) (sym is)
      (subst (λ r. MakesRoom (known_in told held) (view_of held.heap roots) wants (Err r) (meaning told (counted_for (objects_in held.heap) held))) (sym (full ∙ ap (λ (h : Heap). full_by h wants) there))
      (unused told held roots wants (λ room. past (subst (λ (h : Heap). HasRoomIn h wants) (sym here) room)) (ap (λ (h : Heap). blocks (length h.memory.words) (used_by h)) (sym there) ∙ none) ready'))

  module _ (after ending : Held Output) (roots' : Roots) (refused : left ≡ asked) (past : HasRoomIn asked.heap wants → ⊥) (some : 0 < blocks (length left.heap.memory.words) (used_by left.heap)) (ready : IsReady left)
      (takes : TakesAll (standing_in told left roots) (Ok tt) (standing_in told after roots')) where
    is_first : left ≡ counted_for (objects_in held.heap) held
    is_first = refused ∙ counted_is

    past_first : IsRoomy (first told held roots wants) wants → ⊥
    past_first room = past (subst (λ (h : Heap). HasRoomIn h wants) (sym (ap (λ (h : Held Output). h.heap) counted_is)) room)

    some_first : 0 < blocks (length held.heap.memory.words) (used_by held.heap)
    some_first = subst (λ n. 0 < n) (ap (λ (h : Held Output). blocks (length h.heap.memory.words) (used_by h.heap)) is_first) some

    ready_first : IsReady held
    ready_first = let r = subst (λ (h : Held Output). IsReady h) is_first ready in record { each = r.each; within = r.within }

    takes_first : TakesAll (first told held roots wants) (Ok tt) (standing_in told after roots')
    takes_first = subst (λ (h : Held Output). TakesAll (standing_in told h roots) (Ok tt) (standing_in told after roots')) is_first takes

    pub then_by : ending ≡ granted_to wants after → HasRoomIn after.heap wants → words_granted wants ≤ 2 ^ 28 → objects_in ending.heap ≡ objects_in after.heap →
        MakesRoom (known_in told held) (view_of held.heap roots) wants (Ok tt) (meaning told ending)
    then_by granted room few kept =
        subst (λ (h : Held Output). MakesRoom (known_in told held) (view_of held.heap roots) wants (Ok tt) (meaning told h)) (sym granted)
        (roomy_then told held roots wants after roots' past_first some_first ready_first takes_first room few (ap objects_in (sym (ap (λ (h : Held Output). h.heap) granted)) ∙ kept))

    pub refused_by : (reason : NoRoom) → ending ≡ after → (HasRoomIn after.heap wants → ⊥) → reason ≡ full_by ending.heap wants →
        MakesRoom (known_in told held) (view_of held.heap roots) wants (Err reason) (meaning told ending)
    refused_by reason still none full =
        subst (λ (h : Held Output). MakesRoom (known_in told held) (view_of held.heap roots) wants (Err reason) (meaning told h)) (sym still)
        (subst (λ r. MakesRoom (known_in told held) (view_of held.heap roots) wants (Err r) (meaning told after)) (sym (full ∙ ap (λ (h : Held Output). full_by h.heap wants) still))
        (refused_then told held roots wants after roots' past_first some_first ready_first takes_first none))
