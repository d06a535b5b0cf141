-- The heap when objects were slid.
use Rattle.std.proofs.Common.{◌≡◌, ◌∙◌, ℕ, ◌+◌, ◌-◌, ◌*◌, ◌/◌, ◌%◌, ◌^◌, ◌<◌, ◌≤◌, ◌==◌, ◌||◌, Bool, true, false, IsTrue, Option, Some, None, List, [], length, get_or, not, nat_lt, option_map, slice_get, refl, sym, ap, arith, subst, inl, inr, ◌⊎◌}
use Rattle.std.specs.List.{range_with_len, sum_by}
use Rattle.std.proofs.lemmas.Bool.{cases_lt, eqb-true, false≢true, le-ltb, lt-ltb}
use Rattle.std.proofs.lemmas.Option.{none-some}
use Rattle.std.proofs.lemmas.List.{get_or_past, take_all}
use Rattle.std.proofs.lemmas.List.Sums.{sum_by-le-sum_by}
use Rattle.cb_plain.specs.State.{Reference}
use Rattle.cb_heap.specs.Kept.{keep}
use Rattle.cb_heap.specs.Occupancy.{blocks_of, wanted}
use Rattle.cb_heap.specs.Reading.{serial_of}
use Rattle.cb_heap.specs.Shaped.{has_size}
use Rattle.cb_dag.specs.Marks.{marked}
use Rattle.cb_blocks.specs.Parted.{Parted}
use Rattle.cb_blocks.specs.Rows.{row, tabulated}
use Rattle.cb_partheap.specs.Heaps.{Heap, content_of, holds, index_in, marks_at, object_by, objects_in, part_of, with_memory}
use Rattle.cb_partheap.specs.Marks.{IsUnmarked, stays_if, staying}
use Rattle.cb_partheap.specs.Spots.{IsSpot, Spot, place_of, serial_by, spot_where, words_by}
use Rattle.cb_partheap.specs.Whole.{IsHeap, IsPlaced, MayHold, blocks_of_all}
use Rattle.cb_partheap.specs.Words.{kind_at, mark_at, missing, site_at, size_at}
use Rattle.cb_partheap.proofs.Laws.{by_serial, content_by, found_of, index_found, kept_of, left_at, left_is, object_is, same_tabulated, serial_found, spot_sound}
use Rattle.cb_slide.specs.Slid.{Stays, slid, slid_to, word_after, word_before}
use Rattle.cb_slide.specs.Sliding.{Given, IsGiven, IsIn, IsLeft, IsSlid}
use Rattle.cb_slide.proofs.Carried.{Leads, Refers, carried, from, front, number_kept, place_there, refers_after, serial_there, set_cases, slid_out, spot_there, stays_or}
use Rattle.cb_slide.proofs.Parts.{all_after}
use Rattle.cb_slide.proofs.Walk.{slid_low}

module _ (given : Given) (new : Parted) (g : IsGiven given) (s : IsSlid given new) where
  abbrev old : Parted
  old = given.heap.memory

  abbrev heap' : Heap
  heap' = with_memory given.heap new

  abbrev to : Spot → Spot
  to spot = slid given.set given.heap.memory spot

  -- ---- it is a heap

  kind_after : (spot : Spot) → IsSpot given.heap.memory spot → Stays given.set given.heap.memory spot → (i : ℕ) → marks_at given.heap.shapes (words_by new (to spot)) (to spot).start i ≡ marks_at given.heap.shapes (words_by old spot) spot.start i
  kind_after spot here stays i = ap (λ w. holds (slice_get given.heap.shapes (w % 2 ^ 32)) i) (carried given new g s spot here stays).first

  site_after : (spot : Spot) → IsSpot given.heap.memory spot → Stays given.set given.heap.memory spot → site_at (words_by new (to spot)) (to spot).start ≡ site_at (words_by old spot) spot.start
  site_after spot here stays =
      let third = (carried given new g s spot here stays).third in
      omega (arith, third)

  placed_after : (spot : Spot) → IsSpot given.heap.memory spot → Stays given.set given.heap.memory spot → IsPlaced heap' (to spot)
  placed_after spot here stays =
      let c = carried given new g s spot here stays in
      let was = g.heap.placed spot here in
      let site = site_after spot here stays in
      record {
        site = subst (λ n. n < length given.heap.site_parts) (sym site) was.site;
        here = ap (part_of given.heap.site_parts) site ∙ was.here;
        shaped = subst (λ w. IsTrue (has_size given.heap.shapes (w % 2 ^ 32) (w / 2 ^ 32))) (sym c.first) was.shaped;
        low = subst (λ w. 0 < w) (sym c.second) was.low;
        high = subst (λ w. w < given.heap.next) (sym c.second) was.high;
      }

  refers_now : (spot : Spot) → (i : ℕ) → IsSpot given.heap.memory spot → Stays given.set given.heap.memory spot → i < size_at (words_by new (to spot)) (to spot).start → marks_at given.heap.shapes (words_by new (to spot)) (to spot).start i ≡ true →
      MayHold heap' spot.part (get_or (words_by new (to spot)) ((to spot).start + (3 + i)) 0)
  refers_now spot i here stays below holds' =
      let c = carried given new g s spot here stays in
      let below' : i < size_at (words_by old spot) spot.start = subst (λ w. i < w / 2 ^ 32) c.first below in
      let word = c.contents i below' in
      subst (MayHold heap' spot.part) (sym word) (elim (refers_after given new g s spot i here stays below' (sym (kind_after spot here stays i) ∙ holds')) [
        | inl none ↦ inl none.1
        | inr leads ↦
            let f = leads.1.leads.follows in
            inr (slid given.set given.heap.memory leads.0, spot_there given new g s leads.0 f.here f.stays, leads.1.leads.now, leads.1.may)
      ])

  slid_most : (part : ℕ) → part < length given.heap.memory.words → slid_to (row given.heap.memory.words part) (length (row given.heap.memory.words part)) ≤ length (row given.heap.memory.words part)
  slid_most part below =
      let words : List ℕ = row given.heap.memory.words part in
      slid_low words (length words) (omega arith) (ap (missing 0) (take_all (length words) words (omega arith)) ∙ g.heap.whole part below)

  row_less : (part : ℕ) → length (row new.words part) ≤ length (row given.heap.memory.words part)
  row_less part =
      elim (set_cases given.set part) [
        | inr out ↦ omega (arith, ap length (s.outside part out))
        | inl member ↦ elim (cases_lt part (length given.heap.memory.words)) [
          | inl below ↦
              let is : IsIn given part = record { below = below; member = member } in
              omega (arith, s.long part is, slid_most part below)
          | inr past ↦ omega (arith, ap length (get_or_past new.words part [] (omega (arith, past, s.count))))
        ]
      ]

  room_after : blocks_of_all new given.heap.site_parts given.heap.granted ≤ new.blocks
  room_after =
      let Words : ℕ → ℕ → Type 0 = λ count most. sum_by (λ part. blocks_of (length (row given.heap.memory.words part) + wanted (part_of given.heap.site_parts) given.heap.granted part)) (range_with_len 0 count) ≤ most in
      let before : Words (length new.words) new.blocks =
      subst (λ n. Words n new.blocks) (sym s.count) (subst (λ n. Words (length given.heap.memory.words) n) (sym s.blocks) g.heap.room) in
      let less = sum_by-le-sum_by (λ part. blocks_of (length (row new.words part) + wanted (part_of given.heap.site_parts) given.heap.granted part))
      (λ part. blocks_of (length (row given.heap.memory.words part) + wanted (part_of given.heap.site_parts) given.heap.granted part)) (range_with_len 0 (length new.words)) (λ part. omega (arith, row_less part)) in
      omega (arith, less, before)

  pub new_heap : IsHeap heap'
  new_heap =
      record {
        parted = s.sound;
        whole = λ part below. elim (set_cases given.set part) [
          | inr out ↦ ap (missing 0) (s.outside part out) ∙ g.heap.whole part (omega (arith, below, s.count))
          | inl member ↦ all_after (front given new g s part (record { below = omega (arith, below, s.count); member = member }))
        ];
        placed = λ spot' here'.
            let f = from given new g s spot' here' in
            subst (IsPlaced heap') f.there (placed_after f.spot f.here f.stays);
        once = λ one other here there same.
            let a = from given new g s one here in
            let b = from given new g s other there in
            let first = ap (serial_by new) (sym a.there) in
            let serial : serial_by given.heap.memory a.spot ≡ serial_by given.heap.memory b.spot =
            sym (serial_there given new g s a.spot a.here a.stays) ∙ ap (serial_by new) a.there ∙ same ∙ sym (ap (serial_by new) b.there) ∙ serial_there given new g s b.spot b.here b.stays in
            sym a.there ∙ ap (slid given.set given.heap.memory) (g.heap.once a.spot b.spot a.here b.here serial) ∙ b.there;
        refers = λ spot' i here' below holds'.
            let f = from given new g s spot' here' in
            let Good : Spot → Type 0 = λ t. i < size_at (words_by new t) t.start → marks_at given.heap.shapes (words_by new t) t.start i ≡ true → MayHold heap' t.part (get_or (words_by new t) (t.start + (3 + i)) 0) in
            subst Good f.there (λ below'' holds''. refers_now f.spot i f.here f.stays below'' holds'') below holds';
        some = g.heap.some;
        sites = g.heap.sites;
        site_within = λ site below. omega (arith, g.heap.site_within site below, s.count);
        few_parts = omega (arith, g.heap.few_parts, s.count);
        grid = g.heap.grid ∙ sym s.count;
        room = room_after;
        known = g.heap.known;
        idle = g.heap.idle;
        ready = subst (λ n. n * 256 / 3 ≤ given.heap.grey.room) (sym s.blocks) g.heap.ready;
      }

  -- ---- objects and places are read as they were

  pub read_after : (before after : ℕ) → ((before ≡ 0) × (after ≡ 0)) ⊎ ((target : Spot) × Leads given new g s before after target) → serial_of (index_in heap') after ≡ serial_of (index_in given.heap) before
  read_after before after leads =
      elim leads [
        | inl none ↦ ap (serial_of (index_in heap')) none.1 ∙ sym (ap (serial_of (index_in given.heap)) none.0)
        | inr target ↦
            let f = target.1.follows in
            ap (serial_of (index_in heap')) (sym target.1.now) ∙ serial_found heap' (to target.0) new_heap (spot_there given new g s target.0 f.here f.stays)
            ∙ serial_there given new g s target.0 f.here f.stays ∙ sym (serial_found given.heap target.0 g.heap f.here) ∙ ap (serial_of (index_in given.heap)) f.place
      ]

  only_leads : (spot : Spot) (before after : ℕ) → ((before ≡ 0) × (after ≡ 0)) ⊎ ((target : Spot) × Refers given new g s spot before after target) → ((before ≡ 0) × (after ≡ 0)) ⊎ ((target : Spot) × Leads given new g s before after target)
  only_leads spot before after refers = elim refers [ inl none ↦ inl none | inr target ↦ inr (target.0, target.1.leads) ]

  mark_cases : (b : Bool) → (b ≡ true) ⊎ (b ≡ false)
  mark_cases true = inl refl
  mark_cases false = inr refl

  content_after : (spot : Spot) (i : ℕ) → IsSpot given.heap.memory spot → Stays given.set given.heap.memory spot → i < size_at (words_by old spot) spot.start → content_by heap' (to spot) i ≡ content_by given.heap spot i
  content_after spot i here stays below =
      let word = (carried given new g s spot here stays).contents i below in
      let kind = kind_after spot here stays i in
      let mark : Bool = marks_at given.heap.shapes (words_by old spot) spot.start i in
      ap (λ b. content_of (index_in heap') b (get_or (words_by new (to spot)) ((to spot).start + (3 + i)) 0)) kind
      ∙ ap (content_of (index_in heap') mark) word
      ∙ elim (mark_cases mark) [
        | inl reference ↦ ap (λ b. content_of (index_in heap') b (word_after given.set given.heap spot i)) reference
            ∙ ap Reference (read_after (word_before given.heap.memory spot i) (word_after given.set given.heap spot i) (only_leads spot (word_before given.heap.memory spot i) (word_after given.set given.heap spot i) (refers_after given new g s spot i here stays below reference)))
            ∙ sym (ap (λ b. content_of (index_in given.heap) b (word_before given.heap.memory spot i)) reference)
        | inr number ↦ ap (λ b. content_of (index_in heap') b (word_after given.set given.heap spot i)) number
            ∙ ap (content_of (index_in given.heap) false) (number_kept given spot i number)
            ∙ sym (ap (λ b. content_of (index_in given.heap) b (word_before given.heap.memory spot i)) number)
      ]

  object_after : (spot : Spot) → IsSpot given.heap.memory spot → Stays given.set given.heap.memory spot → object_by heap' (to spot) ≡ object_by given.heap spot
  object_after spot here stays =
      let c = carried given new g s spot here stays in
      object_is heap' (to spot) (site_at (words_by old spot) spot.start) (kind_at (words_by old spot) spot.start) (object_by given.heap spot).contents (site_after spot here stays) (ap (λ w. w % 2 ^ 32) c.first)
      (ap (λ w. tabulated (w / 2 ^ 32) (content_by heap' (to spot))) c.first
      ∙ same_tabulated (size_at (words_by old spot) spot.start) (content_by heap' (to spot)) (content_by given.heap spot) (λ i below. content_after spot i here stays below))

  -- what went isn't found
  gone_after : (n : ℕ) (found : Option Spot) → spot_where new (λ spot. serial_by new spot == n + 1) ≡ found → ((spot : Spot) → IsSpot given.heap.memory spot → serial_by given.heap.memory spot ≡ n + 1 → Stays given.set given.heap.memory spot → ⊥) →
      option_map (object_by heap') found ≡ None
  gone_after n None is none = refl
  gone_after n (Some spot') is none =
      let sound = spot_sound new (λ spot. serial_by new spot == n + 1) spot' is in
      let f = from given new g s spot' sound.0 in
      let serial : serial_by given.heap.memory f.spot ≡ n + 1 = sym (serial_there given new g s f.spot f.here f.stays) ∙ ap (serial_by new) f.there ∙ eqb-true (serial_by new spot') (n + 1) sound.1 in
      absurd (none f.spot f.here serial f.stays)

  true_or : (member some : Bool) → (member ≡ false) ⊎ (some ≡ true) → not member || some ≡ true
  true_or false some why = refl
  true_or true some why = elim why [ inl out ↦ absurd (false≢true (sym out)) | inr is ↦ is ]

  stays_true : (spot : Spot) → Stays given.set given.heap.memory spot → stays_if given.set given.heap.memory (Some spot) ≡ true
  stays_true spot stays =
      true_or (marked given.set spot.part) (nat_lt 0 (mark_at (words_by old spot) spot.start)) (elim stays [
        | inl out ↦ inl out
        | inr some ↦ inr (lt-ltb 0 (mark_at (words_by old spot) spot.start) some)
      ])

  gone_false : (spot : Spot) → (marked given.set spot.part ≡ true) × (mark_at (words_by old spot) spot.start ≡ 0) → stays_if given.set given.heap.memory (Some spot) ≡ false
  gone_false spot gone =
      ap (λ b. not b || nat_lt 0 (mark_at (words_by old spot) spot.start)) gone.0 ∙ le-ltb 0 (mark_at (words_by old spot) spot.start) (omega (arith, gone.1))

  entry_after : (n : ℕ) (found : Option Spot) → found_of given.heap n ≡ found → option_map (object_by heap') (found_of heap' n) ≡ kept_of (stays_if given.set given.heap.memory found) (option_map (object_by given.heap) found)
  entry_after n None is = gone_after n (found_of heap' n) refl (λ spot here serial stays. absurd (none-some spot (sym is ∙ by_serial given.heap spot (n + 1) g.heap here serial)))
  entry_after n (Some spot) is =
      let sound = spot_sound given.heap.memory (λ other. serial_by given.heap.memory other == n + 1) spot is in
      let serial : serial_by given.heap.memory spot ≡ n + 1 = eqb-true (serial_by given.heap.memory spot) (n + 1) sound.1 in
      elim (stays_or given spot) [
        | inl stays ↦
            ap (option_map (object_by heap')) (by_serial heap' (to spot) (n + 1) new_heap (spot_there given new g s spot sound.0 stays) (serial_there given new g s spot sound.0 stays ∙ serial))
            ∙ ap Some (object_after spot sound.0 stays) ∙ sym (ap (λ b. kept_of b (Some (object_by given.heap spot))) (stays_true spot stays))
        | inr gone ↦
            gone_after n (found_of heap' n) refl (λ other here' serial' stays'.
            let same : other ≡ spot = g.heap.once other spot here' sound.0 (serial' ∙ sym serial) in
            let stays : Stays given.set given.heap.memory spot = subst (Stays given.set given.heap.memory) same stays' in
            absurd (false≢true (sym (gone_false spot gone) ∙ stays_true spot stays)))
            ∙ sym (ap (λ b. kept_of b (Some (object_by given.heap spot))) (gone_false spot gone))
      ]

  pub objects_after : objects_in heap' ≡ keep (staying given.set given.heap) (objects_in given.heap)
  unfolding objects_in
  objects_after =
      same_tabulated (given.heap.next - 1) (λ n. option_map (object_by heap') (found_of heap' n)) (left_at given.heap given.set) (λ n below. entry_after n (found_of given.heap n) refl)
      ∙ sym (left_is given.heap given.set)

  -- no object is marked
  pub unmarked_after : IsUnmarked heap'
  unmarked_after = record {
    each = λ spot' here'.
        let f = from given new g s spot' here' in
        let third = (carried given new g s f.spot f.here f.stays).third in
        let none : mark_at (words_by new (to f.spot)) (to f.spot).start ≡ 0 = omega (arith, third) in
        subst (λ (t : Spot). mark_at (words_by new t) t.start ≡ 0) f.there none;
  }

  -- what lies outside is where it was
  pub left_after : (spot : Spot) → IsSpot given.heap.memory spot → marked given.set spot.part ≡ false → IsLeft given.heap heap' spot
  left_after spot here out =
      let stays : Stays given.set given.heap.memory spot = inl out in
      let there = subst (IsSpot new) (slid_out given.set given.heap.memory spot out) (spot_there given new g s spot here stays) in
      let place : place_of new spot ≡ place_of given.heap.memory spot =
      sym (ap (place_of given.heap.memory) (sym (slid_out given.set given.heap.memory spot out)) ∙ place_there given new g s spot here stays ∙ ap (place_of new) (slid_out given.set given.heap.memory spot out)) in
      let serial : serial_by new spot ≡ serial_by given.heap.memory spot = ap (serial_by new) (sym (slid_out given.set given.heap.memory spot out)) ∙ serial_there given new g s spot here stays in
      record {
        here = there;
        place = place;
        same = ap (index_in heap') (sym place) ∙ index_found heap' spot new_heap there ∙ ap (λ n. n - 1) serial ∙ sym (index_found given.heap spot g.heap here);
      }
