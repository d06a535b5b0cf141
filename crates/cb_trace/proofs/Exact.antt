-- What is reached is marked when nothing waits.
use Rattle.std.proofs.Common.{◌≡◌, ◌∙◌, ℕ, zero, suc, ◌+◌, ◌-◌, ◌<◌, ◌==◌, Bool, true, false, Option, Some, None, option_map, List, [], length, get_or, slice_get, refl, sym, ap, arith, inl, inr}
use Rattle.std.specs.List.{Contains}
use Rattle.std.proofs.lemmas.Bool.{cases_lt, eqb-true, or_cases}
use Rattle.std.proofs.lemmas.List.FromFn.{get_or-map-range_with_len}
use Rattle.std.proofs.lemmas.List.{length-map}
use Rattle.std.proofs.lemmas.Option.{get_or_from_slice_get, none-some, same_Some, slice_get-get_or, slice_get_past}
use Rattle.cb_plain.specs.Reach.{AtRoot, Behind, IsReached, Points, root_references}
use Rattle.cb_plain.specs.State.{Object, Reference}
use Rattle.cb_plain.specs.Updates.{kept, object_in}
use Rattle.cb_frames.specs.Entries.{entries}
use Rattle.cb_frames.proofs.Laws.{entries_are_roots}
use Rattle.cb_heap.specs.Reading.{serial_of}
use Rattle.cb_heap.proofs.Laws.{entries_read}
use Rattle.cb_dag.specs.Graphs.{has_edge}
use Rattle.cb_dag.specs.Marks.{marked}
use Rattle.cb_blocks.specs.Parted.{Parted}
use Rattle.cb_partheap.specs.Heaps.{Heap, content_of, index_in, marks_at, may_refer, object_by, objects_in}
use Rattle.cb_partheap.specs.Spots.{IsSpot, Spot, place_of, serial_by, spot_where, words_by}
use Rattle.cb_partheap.specs.Words.{size_at}
use Rattle.cb_partheap.proofs.Laws.{content_by, entry_at, entry_read, length_objects, object_length, root_leads, serial_found, spot_sound}
use Rattle.cb_partheap.specs.Marks.{IsMarked}
use Rattle.cb_trace.specs.Marking.{AllLooked, Given, IsGiven, IsMarking, view_of}

-- an object that is kept stands somewhere, by its serial
record Kept (heap : Heap) (serial : ℕ) (object : Object) : Type 0 where
  pub spot : Spot
  pub here : IsSpot heap.memory spot
  pub serial_is : serial_by heap.memory spot ≡ serial
  pub same : object ≡ object_by heap spot

kept_if : (heap : Heap) (n : ℕ) (object : Object) (found : Option Spot) → spot_where heap.memory (λ other. serial_by heap.memory other == n + 1) ≡ found → option_map (object_by heap) found ≡ Some object → Kept heap (suc n) object
kept_if heap n object None is entry = absurd (none-some object entry)
kept_if heap n object (Some spot) is entry =
    let sound = spot_sound heap.memory (λ other. serial_by heap.memory other == n + 1) spot is in
    record { spot = spot; here = sound.0; serial_is = (let e : serial_by heap.memory spot ≡ suc n = omega (arith, eqb-true (serial_by heap.memory spot) (n + 1) sound.1) in e); same = sym (same_Some (object_by heap spot) object entry) }

kept_at : (heap : Heap) (serial : ℕ) (object : Object) → object_in (objects_in heap) serial ≡ Some object → Kept heap serial object
kept_at heap zero object there = absurd (none-some object there)
kept_at heap (suc n) object there =
    elim (cases_lt n (heap.next - 1)) [
      | inl below ↦ kept_if heap n object (spot_where heap.memory (λ other. serial_by heap.memory other == n + 1)) refl (sym (ap kept (entry_at heap n below)) ∙ there)
      | inr past ↦ absurd (none-some object (sym (ap kept (slice_get_past (objects_in heap) n (omega (arith, past, length_objects heap)))) ∙ there))
    ]

-- a word that is read as a reference
reference_word : (index : ℕ → ℕ) (mark : Bool) (word other : ℕ) → content_of index mark word ≡ Reference other → (mark ≡ true) × (serial_of index word ≡ other)
reference_word index true word other is = (refl, cc is)
reference_word index false word other is = absurd (cc is)

-- a reference from an object to another
record Refers (given : Given) (one : ℕ) (spot : Spot) : Type 0 where
  pub from : Spot
  pub here : IsSpot given.heap.memory from
  pub serial : serial_by given.heap.memory from ≡ one
  pub i : ℕ
  pub below : i < size_at (words_by given.heap.memory from) from.start
  pub holds : marks_at given.heap.shapes (words_by given.heap.memory from) from.start i ≡ true
  pub place : place_of given.heap.memory spot ≡ get_or (words_by given.heap.memory from) (from.start + (3 + i)) 0
  pub may : may_refer given.heap.edges from.part spot.part ≡ true

refers_to : (given : Given) (one other : ℕ) (spot : Spot) → IsGiven given → Points (objects_in given.heap) one other → IsSpot given.heap.memory spot → serial_by given.heap.memory spot ≡ other → Refers given one spot
refers_to given one other spot is points there serial =
    let at = kept_at given.heap one points.object points.there in
    let words : List ℕ = words_by given.heap.memory at.spot in
    let i : ℕ = points.holds.0 in
    let long : length points.object.contents ≡ size_at words at.spot.start = ap (λ (o : Object). length o.contents) at.same ∙ object_length given.heap at.spot in
    let below : i < size_at words at.spot.start = omega (arith, points.holds.1, long) in
    let held : content_by given.heap at.spot i ≡ Reference other =
    sym (get_or-map-range_with_len (content_by given.heap at.spot) 0 (size_at words at.spot.start) i i (Reference other) below (omega arith)) ∙ ap (λ (o : Object). get_or o.contents i (Reference other)) (sym at.same) ∙ points.holds.2 in
    let read = reference_word (index_in given.heap) (marks_at given.heap.shapes words at.spot.start i) (get_or words (at.spot.start + (3 + i)) 0) other held in
    elim (is.heap.refers at.spot i at.here below read.0) [
      | inl none ↦ absurd (omega (arith, points.is_some, sym read.1 ∙ ap (serial_of (index_in given.heap)) none))
      | inr to ↦
          let same : to.0 ≡ spot = is.heap.once to.0 spot to.1 there (sym (serial_found given.heap to.0 is.heap to.1) ∙ ap (serial_of (index_in given.heap)) to.2 ∙ read.1 ∙ sym serial) in
          record {
            from = at.spot;
            here = at.here;
            serial = at.serial_is;
            i = i;
            below = below;
            holds = read.0;
            place = ap (place_of given.heap.memory) (sym same) ∙ to.2;
            may = ap (λ (s : Spot). may_refer given.heap.edges at.spot.part s.part) (sym same) ∙ to.3;
          }
    ]

-- the part from which it leads is in the set with the one to which it leads
member_before : (given : Given) (part other : ℕ) → IsGiven given → may_refer given.heap.edges part other ≡ true → marked given.set other ≡ true → marked given.set part ≡ true
member_before given part other is may member =
    elim (or_cases (part == other) (has_edge given.heap.edges part other) may) [
      | inl same ↦ ap (marked given.set) (eqb-true part other same) ∙ member
      | inr edge ↦ is.set.closed part other edge member
    ]

module _ (given : Given) (memory : Parted) (looked : ℕ) (m : IsMarking given memory [] looked) (roots : AllLooked given memory (entries given.roots)) where
  root_marked : (serial : ℕ) → Contains (root_references (view_of given).roots) serial → (spot : Spot) → IsSpot given.heap.memory spot → serial_by given.heap.memory spot ≡ serial → marked given.set spot.part ≡ true → IsMarked memory spot
  root_marked serial root spot there serial_is member =
      let entry = (entries_are_roots (view_of given).roots serial).0 root in
      let i : ℕ = entry.1.0 in
      let below : i < length (entries given.roots) = omega (arith, entry.1.1, ap length (entries_read (index_in given.heap) given.roots), length-map (entries given.roots) (serial_of (index_in given.heap))) in
      let to : ℕ = get_or (entries given.roots) i 0 in
      let is : slice_get (entries given.roots) i ≡ Some to = slice_get-get_or (entries given.roots) i 0 below in
      let read : serial_of (index_in given.heap) to ≡ serial = sym (get_or_from_slice_get (entries (view_of given).roots) i (serial_of (index_in given.heap) to) serial (entry_read given.heap given.roots i to is)) ∙ entry.1.2 in
      elim (root_leads given.heap given.roots i to m.given_is.heap m.given_is.view is) [
        | inl none ↦ absurd (omega (arith, entry.0, sym read ∙ ap (serial_of (index_in given.heap)) none))
        | inr found ↦
            let leads = found.1 in
            let same : found.0 ≡ spot = m.given_is.heap.once found.0 spot leads.here there (sym (serial_found given.heap found.0 m.given_is.heap leads.here) ∙ ap (serial_of (index_in given.heap)) leads.place ∙ read ∙ sym serial_is) in
            (roots i to is).each spot there (ap (place_of given.heap.memory) (sym same) ∙ leads.place) member
      ]

  behind_marked : (one other : ℕ) → Points (objects_in given.heap) one other →
      ((from : Spot) → IsSpot given.heap.memory from → serial_by given.heap.memory from ≡ one → marked given.set from.part ≡ true → IsMarked memory from) → (spot : Spot) → IsSpot given.heap.memory spot →
      serial_by given.heap.memory spot ≡ other → marked given.set spot.part ≡ true → IsMarked memory spot
  behind_marked one other points before spot there serial_is member =
      let r = refers_to given one other spot m.given_is points there serial_is in
      let from_marked = before r.from r.here r.serial (member_before given r.from.part spot.part m.given_is r.may member) in
      elim (m.done r.from r.here from_marked) [
        | inl among ↦ absurd among
        | inr done ↦ (done.each r.i r.below r.holds).each spot there r.place member
      ]

  pub reached_marked : (serial : ℕ) → IsReached (view_of given).roots (view_of given).objects serial → (spot : Spot) → IsSpot given.heap.memory spot → serial_by given.heap.memory spot ≡ serial → marked given.set spot.part ≡ true →
      IsMarked memory spot
  reached_marked serial (AtRoot root there) = root_marked root there
  reached_marked serial (Behind one other reached points) = behind_marked one other points (reached_marked one reached)
