-- Frames in slots: what writing at places of one leaves of the others.
use Rattle.std.proofs.Common.{◌≡◌, ◌∙◌, sym, refl, ap, subst, arith, ℕ, suc, ◌+◌, ◌-◌, ◌*◌, ◌^◌, ◌<◌, ◌≤◌, ◌&&◌, Bool, IsTrue, false, true, nat_le, nat_lt, Some, List, [], ◌∷◌, length, drop, take, map, reverse, slice_range, slice_set, length-drop}
use Rattle.std.specs.List.{fold}
use Rattle.std.proofs.lemmas.List.{length-map, map-set}
use Rattle.std.proofs.lemmas.Bool.{false≢true, le-ltb, leb-true, lt-ltb, ltb-true}
use Rattle.cb_plain.specs.declared.value.Value.{Value}
use Rattle.cb_plain.specs.Depth.{has_room, slots_each, slots_in, slots_taken}
use Rattle.cb_plain.specs.State.{Frame, OfMethod}
use Rattle.cb_frames.specs.declared.standing.Standing.{Standing}
use Rattle.cb_frames.specs.declared.standing.What.{What}
use Rattle.cb_frames.specs.declared.standing.What.TheVariants as whats
use Rattle.cb_frames.specs.Held.{Held, with_change}
use Rattle.cb_frames.specs.declared.slot.Slot.{Slot}
use Rattle.cb_frames.specs.Inner.{AreLaid, AreStacked, IsPlaced, frame_as, frames_in}
use Rattle.cb_frames.specs.Slots.{value_of}
use Rattle.cb_frames.specs.Tops.{changed_in, shown_frame, topmost}
use Rattle.cb_frames.proofs.Parts.{same_front, same_part}

-- what is known of the frames that contracts see
pub seen : (P : List Frame → Type 0) {all held : Held} → all ≡ held → P held.frames → P all.frames
seen P is holds = subst (λ known. P known.frames) (sym is) holds

pub shown : (P : List Frame → Type 0) {all held : Held} → all ≡ held → P all.frames → P held.frames
shown P is holds = subst (λ known. P known.frames) is holds

-- the frames are as many as stand on the lowest one's place
pub frames_counted : (slots : List Value) (top : Standing) (list : List Standing) → length (frames_in slots top list) ≡ length list
frames_counted slots top [] = refl
frames_counted slots top (below ∷ rest) = ap suc (frames_counted slots below rest)

-- a frame depends on the slots up to its end
pub same_frame : (what : What) (xs ys : List Value) (at : Standing) → at.floor ≤ at.next → at.next ≤ at.end → take at.end xs ≡ take at.end ys → frame_as what ys at ≡ frame_as what xs at
same_frame whats.Method xs ys at order within same =
    let locals : slice_range ys at.base at.floor ≡ slice_range xs at.base at.floor = same_part ys xs at.end at.base at.floor (sym same) (omega arith) in
    let stack : slice_range ys at.floor at.next ≡ slice_range xs at.floor at.next = same_part ys xs at.end at.floor at.next (sym same) (omega arith) in
    ap (λ part. OfMethod (record { method = at.number; pc = at.place; slots = at.end - at.base; locals = part; stack = reverse (slice_range ys at.floor at.next) })) locals
    ∙ ap (λ part. OfMethod (record { method = at.number; pc = at.place; slots = at.end - at.base; locals = slice_range xs at.base at.floor; stack = reverse part })) stack
same_frame whats.Class xs ys at order within same = refl

below_ends : (top below : Standing) → IsPlaced below.end top → below.end ≤ top.end
below_ends top below is = omega (arith, is.begins, is.locals, is.stack, is.room)

-- and so do all that stand
pub same_frames : (xs ys : List Value) (top : Standing) (list : List Standing) → AreStacked top list → take top.end xs ≡ take top.end ys → frames_in ys top list ≡ frames_in xs top list
same_frames xs ys top [] are same = refl
same_frames xs ys top (below ∷ rest) are same =
    ap (λ first. first ∷ frames_in ys below rest) (same_frame top.what xs ys top are.0.stack are.0.room same)
    ∙ ap (λ others. frame_as top.what xs top ∷ others) (same_frames xs ys below rest are.1 (same_front xs ys top.end below.end same (below_ends top below are.0)))

-- the slots of all of them
slots_as : (what : What) (xs : List Value) (at : Standing) → (what ≡ whats.Class → at.end ≡ at.base) → slots_in (frame_as what xs at) ≡ at.end - at.base
slots_as whats.Method xs at empty = refl
slots_as whats.Class xs at empty = omega (arith, empty refl)

pub slots_counted : (xs : List Value) (top : Standing) (list : List Standing) (n : ℕ) → AreStacked top list → fold (λ sum frame. sum + slots_in frame) n (frames_in xs top list) ≡ n + top.end
slots_counted xs top [] n are = omega (arith, are.1)
slots_counted xs top (below ∷ rest) n are =
    slots_counted xs below rest (n + slots_in (frame_as top.what xs top)) are.1
    ∙ omega (arith, slots_as top.what xs top are.0.empty, are.0.begins, are.0.locals, are.0.stack, are.0.room)

-- slots of which one is written
pub values_within : (slots : List Slot) (n : ℕ) → n ≤ length slots → n ≤ length (map value_of slots)
values_within slots n inside = omega (arith, inside, length-map slots value_of)

-- where the topmost frame is changed in its slots
pub record Kept (xs ys : List Value) (top now : Standing) (list : List Standing) (change : Frame → Frame) : Type 0 where
  pub end : now.end ≡ top.end
  pub stacked : AreStacked now list
  pub view : frames_in ys now list ≡ changed_in change (frames_in xs top list)

pub kept_placed : (xs ys : List Value) (top now below : Standing) (rest : List Standing) (change : Frame → Frame)
    → IsPlaced below.end top → AreStacked below rest → now.end ≡ top.end → take top.base ys ≡ take top.base xs
    → IsPlaced below.end now → frame_as now.what ys now ≡ change (frame_as top.what xs top)
    → Kept xs ys top now (below ∷ rest) change
kept_placed xs ys top now below rest change was are end front is frame =
    let same : take below.end xs ≡ take below.end ys = sym (subst (λ n. take n ys ≡ take n xs) was.begins front) in
    record {
      end = end;
      stacked = (is, are);
      view = ap (λ first. first ∷ frames_in ys below rest) frame ∙ ap (λ others. change (frame_as top.what xs top) ∷ others) (same_frames xs ys below rest are same);
    }

pub kept_written : (slots : List Slot) (i : ℕ) (slot : Slot) (item : Value) (top now : Standing) (list : List Standing) (change : Frame → Frame) → value_of slot ≡ item
    → Kept (map value_of slots) (slice_set (map value_of slots) i item) top now list change → Kept (map value_of slots) (map value_of (slice_set slots i slot)) top now list change
kept_written slots i slot item top now list change is kept =
    subst (λ ys. Kept (map value_of slots) ys top now list change) (sym (map-set value_of slots i slot ∙ ap (slice_set (map value_of slots) i) is)) kept

pub kept_laid : (limit size left : ℕ) (xs ys : List Value) (top now : Standing) (below : List Standing) (free : ℕ) (change : Frame → Frame)
    → AreLaid limit size top below free → left ≡ size → Kept xs ys top now (drop free below) change → AreLaid limit left now below free
kept_laid limit size left xs ys top now below free change laid same kept = record {
  few = laid.few;
  count = laid.count;
  size = same ∙ laid.size;
  within = laid.within;
  inside = omega (arith, laid.inside, same, kept.end);
  stacked = kept.stacked;
}

pub sized_laid : (limit size left : ℕ) (top : Standing) (below : List Standing) (free : ℕ) → AreLaid limit size top below free → left ≡ size → AreLaid limit left top below free
sized_laid limit size left top below free laid same = subst (λ n. AreLaid limit n top below free) (sym same) laid

pub kept_value : (limit : ℕ) (xs ys : List Value) (top now : Standing) (list : List Standing) (change : Frame → Frame) (held : Held)
    → ◌≡◌ {A = Held} (record { limit = limit; frames = frames_in xs top list }) held → Kept xs ys top now list change
    → ◌≡◌ {A = Held} (record { limit = limit; frames = frames_in ys now list }) (with_change held change)
kept_value limit xs ys top now list change held is kept =
    ap (λ frames. let all : Held = record { limit = limit; frames = frames } in all) kept.view ∙ ap (λ all. with_change all change) is

-- where slots are others that are kept
pub kept_put : (slots others : List Slot) (xs : List Value) (top now : Standing) (list : List Standing) (change : Frame → Frame) → slots ≡ others
    → Kept xs (map value_of others) top now list change → Kept xs (map value_of slots) top now list change
kept_put slots others xs top now list change same kept = subst (λ slots. Kept xs (map value_of slots) top now list change) (sym same) kept

-- whether there is room for another frame
pub room_decided : (limit : ℕ) (xs : List Value) (top : Standing) (below : List Standing) (free slots size : ℕ) (held : Held)
    → ◌≡◌ {A = Held} (record { limit = limit; frames = frames_in xs top (drop free below) }) held
    → AreLaid limit size top below free → 0 < free → nat_le (top.end + slots) size ≡ has_room held.limit held.frames slots
room_decided limit xs top below free slots size held is laid some =
    let few : length (frames_in xs top (drop free below)) < limit = omega (arith, frames_counted xs top (drop free below), length-drop free below, laid.count, laid.within) in
    let taken : slots_taken (frames_in xs top (drop free below)) ≡ top.end = slots_counted xs top (drop free below) 0 laid.stacked ∙ omega arith in
    ap (λ n. nat_le (top.end + slots) n) laid.size
    ∙ ap (λ n. nat_le (n + slots) (slots_each * limit)) (sym taken)
    ∙ ap (λ test. test && nat_le (slots_taken (frames_in xs top (drop free below)) + slots) (slots_each * limit)) (sym (lt-ltb _ _ few))
    ∙ ap (λ all. has_room all.limit all.frames slots) is

pub room_denied : (limit : ℕ) (xs : List Value) (top : Standing) (below : List Standing) (free slots size : ℕ) (held : Held)
    → ◌≡◌ {A = Held} (record { limit = limit; frames = frames_in xs top (drop free below) }) held
    → AreLaid limit size top below free → free ≤ 0 → false ≡ has_room held.limit held.frames slots
room_denied limit xs top below free slots size held is laid none =
    let many : limit ≤ length (frames_in xs top (drop free below)) = omega (arith, frames_counted xs top (drop free below), length-drop free below, laid.count, laid.within) in
    ap (λ test. test && nat_le (slots_taken (frames_in xs top (drop free below)) + slots) (slots_each * limit)) (sym (le-ltb _ _ many))
    ∙ ap (λ all. has_room all.limit all.frames slots) is

-- the topmost one, as it is told
pub topmost_is : (xs : List Value) (top : Standing) (list : List Standing) (what : What) → 0 < length list → top.what ≡ what
    → Some (shown_frame (frame_as what xs top)) ≡ topmost (frames_in xs top list)
topmost_is xs top [] what some is = absurd (omega (arith, some))
topmost_is xs top (below ∷ rest) what some is = ap (λ kind. Some (shown_frame (frame_as kind xs top))) (sym is)

-- how far slots reach at most
pub few_slots : (limit size : ℕ) (top : Standing) (below : List Standing) (free : ℕ) → AreLaid limit size top below free → size < 2 ^ 39
few_slots limit size top below free laid = omega (arith, laid.few, laid.size)

both : (one other : Bool) → IsTrue (one && other) → (one ≡ true) × (other ≡ true)
both true other is = (refl, is)
both false other is = absurd (false≢true is)

pub room_known : (limit : ℕ) (xs : List Value) (top : Standing) (below : List Standing) (free slots size : ℕ) (held : Held)
    → ◌≡◌ {A = Held} (record { limit = limit; frames = frames_in xs top (drop free below) }) held
    → AreLaid limit size top below free → IsTrue (has_room held.limit held.frames slots) → (0 < free) × (top.end + slots ≤ size)
room_known limit xs top below free slots size held is laid room =
    let known : IsTrue (has_room limit (frames_in xs top (drop free below)) slots) = subst (λ all. IsTrue (has_room all.limit all.frames slots)) (sym is) room in
    let tests = both (nat_lt (length (frames_in xs top (drop free below))) limit) (nat_le (slots_taken (frames_in xs top (drop free below)) + slots) (slots_each * limit)) known in
    let few : length (frames_in xs top (drop free below)) < limit = ltb-true _ _ tests.0 in
    let enough : slots_taken (frames_in xs top (drop free below)) + slots ≤ slots_each * limit = leb-true _ _ tests.1 in
    let taken : slots_taken (frames_in xs top (drop free below)) ≡ top.end = slots_counted xs top (drop free below) 0 laid.stacked ∙ omega arith in
    (omega (arith, few, frames_counted xs top (drop free below), length-drop free below, laid.count, laid.within), omega (arith, enough, taken, laid.size))
