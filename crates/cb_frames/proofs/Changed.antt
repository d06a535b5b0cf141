-- The topmost frame changed in its slots, and what is read there.
use Rattle.std.proofs.Common.{◌≡◌, ◌∙◌, sym, refl, ap, subst, arith, ℕ, ◌+◌, ◌-◌, ◌<◌, ◌≤◌, Some, List, [], ◌∷◌, ◌++◌, length, drop, take, get_or, reverse, slice_get, slice_range, slice_set, length-drop, length-set}
use Rattle.std.proofs.lemmas.List.{drop_at, get_or-reverse, get_or-set_same, length-reverse, reverse-append, reverse-reverse, take-set-le, take_at}
use Rattle.std.proofs.lemmas.List.Edits.{between_more, between_none, get_or-between, length-between}
use Rattle.std.proofs.lemmas.Option.{slice_get-get_or}
use Rattle.cb_plain.specs.declared.value.Value.{Value}
use Rattle.cb_plain.specs.State.{Frame, Initialising, OfMethod}
use Rattle.cb_frames.specs.declared.standing.Standing.{Standing}
use Rattle.cb_frames.specs.declared.standing.What.{What}
use Rattle.cb_frames.specs.declared.standing.What.TheVariants as whats
use Rattle.cb_frames.specs.Inner.{AreStacked, IsPlaced, frame_as, frames_in}
use Rattle.cb_frames.specs.Tops.{at_place, changed_in, locals_in, on_top, room_in, stack_in, with_locals, with_stack}
use Rattle.cb_frames.proofs.Parts.{joined_parts, part_set_above, part_set_below, part_set_within, taken_of_none}
use Rattle.cb_frames.proofs.Stacked.{Kept, kept_placed}

-- a frame as it is known: where its parts lie, and that they lie inside
record Lies (xs : List Value) (at : Standing) : Type 0 where
  pub locals : at.base ≤ at.floor
  pub stack : at.floor ≤ at.next
  pub room : at.next ≤ at.end
  pub inside : at.end ≤ length xs

lies : (xs : List Value) (from : ℕ) (at : Standing) → IsPlaced from at → at.end ≤ length xs → Lies xs at
lies xs from at is inside = record { locals = is.locals; stack = is.stack; room = is.room; inside = inside }

-- at another place
moved_as : (what : What) (xs : List Value) (top : Standing) (place : ℕ) → frame_as what xs (record top { place = place }) ≡ at_place place (frame_as what xs top)
moved_as whats.Method xs top place = refl
moved_as whats.Class xs top place = refl

pub moved : (xs : List Value) (top : Standing) (list : List Standing) (place : ℕ) → AreStacked top list → Kept xs xs top (record top { place = place }) list (at_place place)
moved xs top [] place are = record { end = refl; stacked = are; view = refl }
moved xs top (below ∷ rest) place are =
    kept_placed xs xs top (record top { place = place }) below rest (at_place place) are.0 are.1 refl refl
    (record { begins = are.0.begins; locals = are.0.locals; stack = are.0.stack; room = are.0.room; empty = are.0.empty })
    (moved_as top.what xs top place)

-- local variables
local_as : (what : What) (xs : List Value) (top : Standing) (i : ℕ) → Lies xs top → i < length (locals_in (frame_as what xs top)) → top.base + i < top.floor
local_as whats.Method xs top i lie there =
    let size : length (slice_range xs top.base top.floor) ≡ top.floor - top.base = length-between xs top.base top.floor (omega (arith, lie.stack, lie.room, lie.inside)) in
    omega (arith, size, there, lie.locals)
local_as whats.Class xs top i lie there = absurd (omega (arith, there))

pub local_within : (xs : List Value) (top : Standing) (list : List Standing) (i : ℕ) → AreStacked top list → top.end ≤ length xs
    → i < length (on_top [] locals_in (frames_in xs top list)) → (top.base + i < top.floor) × (top.floor ≤ top.end)
local_within xs top [] i are inside there = absurd (omega (arith, there))
local_within xs top (below ∷ rest) i are inside there =
    (local_as top.what xs top i (lies xs below.end top are.0 inside) there, omega (arith, are.0.stack, are.0.room))

local_read_as : (what : What) (xs : List Value) (top : Standing) (i : ℕ) (item : Value) → Lies xs top → i < length (locals_in (frame_as what xs top))
    → item ≡ get_or xs (top.base + i) item → slice_get (locals_in (frame_as what xs top)) i ≡ Some item
local_read_as whats.Method xs top i item lie there read =
    let within : top.base + i < top.floor = local_as whats.Method xs top i lie there in
    slice_get-get_or (slice_range xs top.base top.floor) i item there ∙ ap Some (get_or-between xs top.base top.floor i item within ∙ sym read)
local_read_as whats.Class xs top i item lie there read = absurd (omega (arith, there))

pub local_read : (xs : List Value) (top : Standing) (list : List Standing) (i : ℕ) (item : Value) → AreStacked top list → top.end ≤ length xs
    → i < length (on_top [] locals_in (frames_in xs top list)) → item ≡ get_or xs (top.base + i) item
    → slice_get (on_top [] locals_in (frames_in xs top list)) i ≡ Some item
local_read xs top [] i item are inside there read = absurd (omega (arith, there))
local_read xs top (below ∷ rest) i item are inside there read = local_read_as top.what xs top i item (lies xs below.end top are.0 inside) there read

local_set_as : (what : What) (xs : List Value) (top : Standing) (i : ℕ) (item : Value) → Lies xs top → top.base + i < top.floor
    → frame_as what (slice_set xs (top.base + i) item) top ≡ with_locals (λ locals. slice_set locals i item) (frame_as what xs top)
local_set_as whats.Method xs top i item lie within =
    ap (λ part. OfMethod (record { method = top.number; pc = top.place; slots = top.end - top.base; locals = part; stack = reverse (slice_range (slice_set xs (top.base + i) item) top.floor top.next) }))
    (part_set_within xs top.base top.floor i item within)
    ∙ ap (λ part. OfMethod (record { method = top.number; pc = top.place; slots = top.end - top.base; locals = slice_set (slice_range xs top.base top.floor) i item; stack = reverse part }))
    (part_set_below xs top.floor top.next (top.base + i) item within)
local_set_as whats.Class xs top i item lie within = refl

pub local_set : (xs : List Value) (top : Standing) (list : List Standing) (i : ℕ) (item : Value) → AreStacked top list → top.end ≤ length xs
    → i < length (on_top [] locals_in (frames_in xs top list))
    → Kept xs (slice_set xs (top.base + i) item) top top list (with_locals (λ locals. slice_set locals i item))
local_set xs top [] i item are inside there = absurd (omega (arith, there))
local_set xs top (below ∷ rest) i item are inside there =
    let within : top.base + i < top.floor = local_as top.what xs top i (lies xs below.end top are.0 inside) there in
    kept_placed xs (slice_set xs (top.base + i) item) top top below rest (with_locals (λ locals. slice_set locals i item)) are.0 are.1
    refl
    (take-set-le top.base xs (top.base + i) item (omega arith))
    are.0
    (local_set_as top.what xs top i item (lies xs below.end top are.0 inside) within)

-- another value on the stack
room_as : (what : What) (xs : List Value) (top : Standing) → Lies xs top → 0 < room_in (frame_as what xs top) → top.next < top.end
room_as whats.Method xs top lie some =
    let locals : length (slice_range xs top.base top.floor) ≡ top.floor - top.base = length-between xs top.base top.floor (omega (arith, lie.stack, lie.room, lie.inside)) in
    let stack : length (slice_range xs top.floor top.next) ≡ top.next - top.floor = length-between xs top.floor top.next (omega (arith, lie.room, lie.inside)) in
    omega (arith, some, locals, stack, length-reverse (slice_range xs top.floor top.next), lie.locals, lie.stack, lie.room)
room_as whats.Class xs top lie some = absurd (omega (arith, some))

pub room_within : (xs : List Value) (top : Standing) (list : List Standing) → AreStacked top list → top.end ≤ length xs → 0 < on_top 0 room_in (frames_in xs top list) → top.next < top.end
room_within xs top [] are inside some = absurd (omega (arith, some))
room_within xs top (below ∷ rest) are inside some = room_as top.what xs top (lies xs below.end top are.0 inside) some

-- without its topmost value the stack has room for one more
popped_room_as : (what : What) (xs : List Value) (top : Standing) → Lies xs top → 0 < length (stack_in (frame_as what xs top))
    → room_in (with_stack (λ stack. drop 1 stack) (frame_as what xs top)) ≡ room_in (frame_as what xs top) + 1
popped_room_as whats.Method xs top lie some =
    let locals : length (slice_range xs top.base top.floor) ≡ top.floor - top.base = length-between xs top.base top.floor (omega (arith, lie.stack, lie.room, lie.inside)) in
    let stack : length (slice_range xs top.floor top.next) ≡ top.next - top.floor = length-between xs top.floor top.next (omega (arith, lie.room, lie.inside)) in
    let turned : length (reverse (slice_range xs top.floor top.next)) ≡ length (slice_range xs top.floor top.next) = length-reverse (slice_range xs top.floor top.next) in
    omega (arith, some, locals, stack, turned, length-drop 1 (reverse (slice_range xs top.floor top.next)), lie.locals, lie.stack, lie.room)
popped_room_as whats.Class xs top lie some = absurd (omega (arith, some))

pub popped_room : (xs : List Value) (top : Standing) (list : List Standing) → AreStacked top list → top.end ≤ length xs → 0 < length (on_top [] stack_in (frames_in xs top list))
    → on_top 0 room_in (changed_in (with_stack (λ stack. drop 1 stack)) (frames_in xs top list)) ≡ on_top 0 room_in (frames_in xs top list) + 1
popped_room xs top [] are inside some = absurd (omega (arith, some))
popped_room xs top (below ∷ rest) are inside some = popped_room_as top.what xs top (lies xs below.end top are.0 inside) some

stack_with_more : (xs : List Value) (from next : ℕ) (item : Value) → from ≤ next → next < length xs
    → reverse (slice_range (slice_set xs next item) from (next + 1)) ≡ item ∷ reverse (slice_range xs from next)
stack_with_more xs from next item order inside =
    ap reverse (between_more (slice_set xs next item) from next item order (omega (arith, length-set xs next item)))
    ∙ reverse-append (slice_range (slice_set xs next item) from next) (get_or (slice_set xs next item) next item ∷ [])
    ∙ ap (λ first. first ∷ reverse (slice_range (slice_set xs next item) from next)) (get_or-set_same xs next item item inside)
    ∙ ap (λ part. item ∷ reverse part) (part_set_above xs from next next item (omega arith))

pushed_as : (what : What) (xs : List Value) (top : Standing) (item : Value) → Lies xs top → top.next < top.end
    → frame_as what (slice_set xs top.next item) (record top { next = top.next + 1 }) ≡ with_stack (λ stack. item ∷ stack) (frame_as what xs top)
pushed_as whats.Method xs top item lie within =
    ap (λ part. OfMethod (record { method = top.number; pc = top.place; slots = top.end - top.base; locals = part; stack = reverse (slice_range (slice_set xs top.next item) top.floor (top.next + 1)) }))
    (part_set_above xs top.base top.floor top.next item lie.stack)
    ∙ ap (λ part. OfMethod (record { method = top.number; pc = top.place; slots = top.end - top.base; locals = slice_range xs top.base top.floor; stack = part }))
    (stack_with_more xs top.floor top.next item lie.stack (omega (arith, within, lie.inside)))
pushed_as whats.Class xs top item lie within = refl

pub pushed : (xs : List Value) (top : Standing) (list : List Standing) (item : Value) → AreStacked top list → top.end ≤ length xs
    → 0 < on_top 0 room_in (frames_in xs top list)
    → Kept xs (slice_set xs top.next item) top (record top { next = top.next + 1 }) list (with_stack (λ stack. item ∷ stack))
pushed xs top [] item are inside some = absurd (omega (arith, some))
pushed xs top (below ∷ rest) item are inside some =
    let within : top.next < top.end = room_as top.what xs top (lies xs below.end top are.0 inside) some in
    kept_placed xs (slice_set xs top.next item) top (record top { next = top.next + 1 }) below rest (with_stack (λ stack. item ∷ stack)) are.0 are.1
    refl
    (take-set-le top.base xs top.next item (omega (arith, are.0.locals, are.0.stack)))
    (record { begins = are.0.begins; locals = are.0.locals; stack = omega (arith, are.0.stack); room = omega (arith, within); empty = are.0.empty })
    (pushed_as top.what xs top item (lies xs below.end top are.0 inside) within)

-- so many values less on the stack
stack_as : (what : What) (xs : List Value) (top : Standing) → Lies xs top → (what ≡ whats.Class → top.end ≡ top.base) → length (stack_in (frame_as what xs top)) ≡ top.next - top.floor
stack_as whats.Method xs top lie empty = length-reverse (slice_range xs top.floor top.next) ∙ length-between xs top.floor top.next (omega (arith, lie.room, lie.inside))
stack_as whats.Class xs top lie empty = omega (arith, empty refl, lie.locals, lie.stack, lie.room)

-- how deep the stack is, also where no frame stands
pub stack_counted : (xs : List Value) (top : Standing) (list : List Standing) → AreStacked top list → top.end ≤ length xs
    → (length (on_top [] stack_in (frames_in xs top list)) ≤ top.next) × (top.next ≤ top.end)
stack_counted xs top [] are inside = (omega arith, omega (arith, are.0, are.1))
stack_counted xs top (below ∷ rest) are inside =
    (omega (arith, stack_as top.what xs top (lies xs below.end top are.0 inside) are.0.empty), are.0.room)

peek_as : (what : What) (xs : List Value) (top : Standing) (i : ℕ) (item : Value) → Lies xs top → i < length (stack_in (frame_as what xs top))
    → item ≡ get_or xs (top.next - 1 - i) item → slice_get (stack_in (frame_as what xs top)) i ≡ Some item
peek_as whats.Method xs top i item lie there read =
    let size : length (slice_range xs top.floor top.next) ≡ top.next - top.floor = length-between xs top.floor top.next (omega (arith, lie.room, lie.inside)) in
    let same : length (reverse (slice_range xs top.floor top.next)) ≡ length (slice_range xs top.floor top.next) = length-reverse (slice_range xs top.floor top.next) in
    let few : i < top.next - top.floor = omega (arith, size, same, there) in
    let at : length (slice_range xs top.floor top.next) - 1 - i ≡ top.next - top.floor - 1 - i = omega (arith, size) in
    let place : top.floor + (top.next - top.floor - 1 - i) ≡ top.next - 1 - i = omega (arith, few, lie.stack) in
    slice_get-get_or (reverse (slice_range xs top.floor top.next)) i item there
    ∙ ap Some
    (get_or-reverse (slice_range xs top.floor top.next) i item (omega (arith, same, there))
    ∙ ap (λ k. get_or (slice_range xs top.floor top.next) k item) at
    ∙ get_or-between xs top.floor top.next (top.next - top.floor - 1 - i) item (omega (arith, few, lie.stack))
    ∙ ap (λ k. get_or xs k item) place
    ∙ sym read)
peek_as whats.Class xs top i item lie there read = absurd (omega (arith, there))

pub peeked : (xs : List Value) (top : Standing) (list : List Standing) (i : ℕ) (item : Value) → AreStacked top list → top.end ≤ length xs
    → i < length (on_top [] stack_in (frames_in xs top list)) → item ≡ get_or xs (top.next - 1 - i) item
    → slice_get (on_top [] stack_in (frames_in xs top list)) i ≡ Some item
peeked xs top [] i item are inside there read = absurd (omega (arith, there))
peeked xs top (below ∷ rest) i item are inside there read = peek_as top.what xs top i item (lies xs below.end top are.0 inside) there read

stack_with_less : (xs : List Value) (from next n : ℕ) → n ≤ next - from → from ≤ next → next ≤ length xs
    → reverse (slice_range xs from (next - n)) ≡ drop n (reverse (slice_range xs from next))
stack_with_less xs from next n few order inside =
    let split : slice_range xs from (next - n) ++ slice_range xs (next - n) next ≡ slice_range xs from next = joined_parts xs from (next - n) next (omega arith) (omega arith) in
    let size : length (reverse (slice_range xs (next - n) next)) ≡ n = length-reverse (slice_range xs (next - n) next) ∙ length-between xs (next - n) next inside ∙ omega arith in
    sym (drop_at (reverse (slice_range xs (next - n) next)) (reverse (slice_range xs from (next - n))) n size)
    ∙ ap (drop n) (sym (reverse-append (slice_range xs from (next - n)) (slice_range xs (next - n) next)))
    ∙ ap (λ part. drop n (reverse part)) split

dropped_as : (what : What) (xs : List Value) (top : Standing) (n : ℕ) → Lies xs top → n ≤ top.next - top.floor
    → frame_as what xs (record top { next = top.next - n }) ≡ with_stack (λ stack. drop n stack) (frame_as what xs top)
dropped_as whats.Method xs top n lie few =
    ap (λ part. OfMethod (record { method = top.number; pc = top.place; slots = top.end - top.base; locals = slice_range xs top.base top.floor; stack = part }))
    (stack_with_less xs top.floor top.next n few lie.stack (omega (arith, lie.room, lie.inside)))
dropped_as whats.Class xs top n lie few = refl

pub dropped : (xs : List Value) (top : Standing) (list : List Standing) (n : ℕ) → AreStacked top list → top.end ≤ length xs
    → n ≤ length (on_top [] stack_in (frames_in xs top list))
    → Kept xs xs top (record top { next = top.next - n }) list (with_stack (λ stack. drop n stack))
dropped xs top [] n are inside few = record { end = refl; stacked = (omega (arith, are.0), are.1); view = refl }
dropped xs top (below ∷ rest) n are inside few =
    let count : n ≤ top.next - top.floor = omega (arith, few, stack_as top.what xs top (lies xs below.end top are.0 inside) are.0.empty) in
    kept_placed xs xs top (record top { next = top.next - n }) below rest (with_stack (λ stack. drop n stack)) are.0 are.1 refl refl
    (record { begins = are.0.begins; locals = are.0.locals; stack = omega (arith, count, are.0.stack); room = omega (arith, are.0.room); empty = are.0.empty })
    (dropped_as top.what xs top n (lies xs below.end top are.0 inside) count)

-- no value left
emptied_as : (what : What) (xs : List Value) (top : Standing) → frame_as what xs (record top { next = top.floor }) ≡ with_stack (λ stack. []) (frame_as what xs top)
emptied_as whats.Method xs top =
    ap (λ part. OfMethod (record { method = top.number; pc = top.place; slots = top.end - top.base; locals = slice_range xs top.base top.floor; stack = reverse part }))
    (between_none xs top.floor)
emptied_as whats.Class xs top = refl

pub emptied : (xs : List Value) (top : Standing) (list : List Standing) → AreStacked top list → 0 < length (frames_in xs top list)
    → Kept xs xs top (record top { next = top.floor }) list (with_stack (λ stack. []))
emptied xs top [] are some = absurd (omega (arith, some))
emptied xs top (below ∷ rest) are some =
    kept_placed xs xs top (record top { next = top.floor }) below rest (with_stack (λ stack. [])) are.0 are.1 refl refl
    (record { begins = are.0.begins; locals = are.0.locals; stack = omega arith; room = omega (arith, are.0.stack, are.0.room); empty = are.0.empty })
    (emptied_as top.what xs top)

-- a value that goes from the stack into a local variable
same_locals : (frames : List Frame) (change : List Value → List Value) → on_top [] locals_in (changed_in (with_stack change) frames) ≡ on_top [] locals_in frames
same_locals [] change = refl
same_locals (OfMethod frame ∷ below) change = refl
same_locals (Initialising class place ∷ below) change = refl

pub same_room : (frames : List Frame) (i : ℕ) (item : Value) → on_top 0 room_in (changed_in (with_locals (λ locals. slice_set locals i item)) frames) ≡ on_top 0 room_in frames
same_room [] i item = refl
same_room (OfMethod frame ∷ below) i item = ap (λ n. frame.slots - (n + length frame.stack)) (length-set frame.locals i item)
same_room (Initialising class place ∷ below) i item = refl

pub still_there : (xs : List Value) (top : Standing) (list : List Standing) (i : ℕ) → AreStacked top list → top.end ≤ length xs
    → 0 < length (on_top [] stack_in (frames_in xs top list)) → i < length (on_top [] locals_in (frames_in xs top list))
    → i < length (on_top [] locals_in (frames_in xs (record top { next = top.next - 1 }) list))
still_there xs top list i are inside some there =
    subst (λ locals. i < length locals)
    (sym (ap (on_top [] locals_in) (dropped xs top list 1 are inside (omega (arith, some))).view ∙ same_locals (frames_in xs top list) (λ stack. drop 1 stack))) there

-- the topmost values, the lowest of them first
arguments_as : (what : What) (xs : List Value) (top : Standing) (n : ℕ) → Lies xs top → (what ≡ whats.Class → top.end ≡ top.base) → n ≤ length (stack_in (frame_as what xs top))
    → reverse (take n (stack_in (frame_as what xs top))) ≡ slice_range xs (top.next - n) top.next
arguments_as whats.Method xs top n lie empty few =
    let count : n ≤ top.next - top.floor = omega (arith, few, stack_as whats.Method xs top lie empty) in
    let split : slice_range xs top.floor (top.next - n) ++ slice_range xs (top.next - n) top.next ≡ slice_range xs top.floor top.next =
    joined_parts xs top.floor (top.next - n) top.next (omega (arith, count, lie.stack)) (omega arith) in
    let size : length (reverse (slice_range xs (top.next - n) top.next)) ≡ n =
    length-reverse (slice_range xs (top.next - n) top.next) ∙ length-between xs (top.next - n) top.next (omega (arith, lie.room, lie.inside)) ∙ omega (arith, count) in
    ap (λ part. reverse (take n (reverse part))) (sym split)
    ∙ ap (λ part. reverse (take n part)) (reverse-append (slice_range xs top.floor (top.next - n)) (slice_range xs (top.next - n) top.next))
    ∙ ap reverse (take_at (reverse (slice_range xs (top.next - n) top.next)) (reverse (slice_range xs top.floor (top.next - n))) n size)
    ∙ reverse-reverse (slice_range xs (top.next - n) top.next)
arguments_as whats.Class xs top n lie empty few =
    let at : top.next - n ≡ top.next = omega (arith, few) in
    ap reverse (taken_of_none n) ∙ sym (ap (λ from. slice_range xs from top.next) at ∙ between_none xs top.next)

pub arguments_are : (xs : List Value) (top : Standing) (list : List Standing) (n : ℕ) → AreStacked top list → top.end ≤ length xs
    → n ≤ length (on_top [] stack_in (frames_in xs top list))
    → reverse (take n (on_top [] stack_in (frames_in xs top list))) ≡ slice_range xs (top.next - n) top.next
arguments_are xs top [] n are inside few =
    let at : top.next - n ≡ top.next = omega (arith, few) in
    ap reverse (taken_of_none n) ∙ sym (ap (λ from. slice_range xs from top.next) at ∙ between_none xs top.next)
arguments_are xs top (below ∷ rest) n are inside few = arguments_as top.what xs top n (lies xs below.end top are.0 inside) are.0.empty few
