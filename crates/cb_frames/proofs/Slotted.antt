-- The topmost frame by its slots, as they are read and written.
use Rattle.std.proofs.Common.{◌≡◌, ◌∙◌, ap, arith, ℕ, ℤ, ◌+◌, ◌-◌, ◌<◌, ◌≤◌, ◌%◌, ◌^◌, Option, Some, List, [], ◌∷◌, length, drop, get_or, map, slice_get, slice_set, w32, w64}
use Rattle.std.specs.Int.{cast_signed}
use Rattle.cb_plain.specs.declared.value.Value.{Value}
use Rattle.cb_plain.specs.declared.value.Value.TheVariants as values
use Rattle.cb_frames.specs.declared.slot.Kind.{Kind}
use Rattle.cb_frames.specs.declared.slot.Kind.TheVariants as kinds
use Rattle.cb_frames.specs.declared.slot.Slot.{Slot}
use Rattle.cb_frames.specs.declared.standing.Standing.{Standing}
use Rattle.cb_frames.specs.Inner.{AreStacked, frames_in}
use Rattle.cb_frames.specs.Slots.{value_in, value_of}
use Rattle.cb_frames.specs.Tops.{locals_in, on_top, room_in, stack_in, with_locals, with_stack}
use Rattle.cb_frames.proofs.Changed.{dropped, local_read, local_set, local_within, peeked, pushed, room_within, stack_counted, still_there}
use Rattle.cb_frames.proofs.Moved.{slot_read}
use Rattle.cb_frames.proofs.Stacked.{Kept, kept_written, values_within}

-- what is known of a slot's word by the value that was read
same_item : (read : Option Value) (one other : Value) → read ≡ Some one → read ≡ Some other → one ≡ other
same_item read one other is was = cc

int_word : (kind : Kind) (word : ℕ) (number : ℤ) → value_in kind word ≡ values.Int number → cast_signed w32 (word % 2 ^ 32) ≡ number
int_word kinds.Int word number is = cc
int_word kinds.Long word number is = cc
int_word kinds.Ref word number is = cc

long_word : (kind : Kind) (word : ℕ) (number : ℤ) → value_in kind word ≡ values.Long number → cast_signed w64 word ≡ number
long_word kinds.Int word number is = cc
long_word kinds.Long word number is = cc
long_word kinds.Ref word number is = cc

place_word : (kind : Kind) (word to : ℕ) → value_in kind word ≡ values.Ref to → word ≡ to
place_word kinds.Int word to is = cc
place_word kinds.Long word to is = cc
place_word kinds.Ref word to is = cc

pub int_known : (slot : Slot) (read : Option Value) (number : ℤ) → read ≡ Some (value_of slot) → read ≡ Some (values.Int number) → cast_signed w32 (slot.word % 2 ^ 32) ≡ number
int_known slot read number is was = int_word slot.kind slot.word number (same_item read (value_of slot) (values.Int number) is was)

pub long_known : (slot : Slot) (read : Option Value) (number : ℤ) → read ≡ Some (value_of slot) → read ≡ Some (values.Long number) → cast_signed w64 slot.word ≡ number
long_known slot read number is was = long_word slot.kind slot.word number (same_item read (value_of slot) (values.Long number) is was)

pub place_known : (slot : Slot) (read : Option Value) (to : ℕ) → read ≡ Some (value_of slot) → read ≡ Some (values.Ref to) → slot.word ≡ to
place_known slot read to is was = place_word slot.kind slot.word to (same_item read (value_of slot) (values.Ref to) is was)

pub value_known : (slot : Slot) (read : Option Value) (value : Value) → read ≡ Some (value_of slot) → read ≡ Some value → value_of slot ≡ value
value_known slot read value is was = same_item read (value_of slot) value is was

module _ (slots : List Slot) (top : Standing) (list : List Standing) (are : AreStacked top list) (inside : top.end ≤ length slots) where
  all_inside : top.end ≤ length (map value_of slots)
  all_inside = values_within slots top.end inside

  -- local variables
  pub local_inside : (i : ℕ) → i < length (on_top [] locals_in (frames_in (map value_of slots) top list)) → top.base + i < length slots
  local_inside i there =
      let within = local_within (map value_of slots) top list i are all_inside there in
      omega (arith, within.0, within.1, inside)

  pub local_of : (i : ℕ) (slot : Slot) → i < length (on_top [] locals_in (frames_in (map value_of slots) top list)) → slot ≡ get_or slots (top.base + i) slot
      → slice_get (on_top [] locals_in (frames_in (map value_of slots) top list)) i ≡ Some (value_of slot)
  local_of i slot there read =
      local_read (map value_of slots) top list i (value_of slot) are all_inside there (slot_read slots (top.base + i) slot (value_of slot) (local_inside i there) read)

  pub set_of : (i : ℕ) (slot : Slot) (item : Value) → i < length (on_top [] locals_in (frames_in (map value_of slots) top list)) → value_of slot ≡ item
      → Kept (map value_of slots) (map value_of (slice_set slots (top.base + i) slot)) top top list (with_locals (λ locals. slice_set locals i item))
  set_of i slot item there is =
      kept_written slots (top.base + i) slot item top top list (with_locals (λ locals. slice_set locals i item)) is
      (local_set (map value_of slots) top list i item are all_inside there)

  -- the stack
  pub room_inside : 0 < on_top 0 room_in (frames_in (map value_of slots) top list) → top.next < length slots
  room_inside some = omega (arith, room_within (map value_of slots) top list are all_inside some, inside)

  pub push_of : (slot : Slot) (item : Value) → 0 < on_top 0 room_in (frames_in (map value_of slots) top list) → value_of slot ≡ item
      → Kept (map value_of slots) (map value_of (slice_set slots top.next slot)) top (record top { next = top.next + 1 }) list (with_stack (λ stack. item ∷ stack))
  push_of slot item some is =
      kept_written slots top.next slot item top (record top { next = top.next + 1 }) list (with_stack (λ stack. item ∷ stack)) is
      (pushed (map value_of slots) top list item are all_inside some)

  pub stack_inside : (i : ℕ) → i < length (on_top [] stack_in (frames_in (map value_of slots) top list)) → (i < top.next) × (top.next ≤ length slots)
  stack_inside i there =
      let count = stack_counted (map value_of slots) top list are all_inside in
      (omega (arith, count.0, there), omega (arith, count.1, inside))

  pub stack_of : (i : ℕ) (slot : Slot) → i < length (on_top [] stack_in (frames_in (map value_of slots) top list)) → slot ≡ get_or slots (top.next - 1 - i) slot
      → slice_get (on_top [] stack_in (frames_in (map value_of slots) top list)) i ≡ Some (value_of slot)
  stack_of i slot there read =
      let within = stack_inside i there in
      peeked (map value_of slots) top list i (value_of slot) are all_inside there
      (slot_read slots (top.next - 1 - i) slot (value_of slot) (omega (arith, within.0, within.1)) read)

  pub top_of : (slot : Slot) → 0 < length (on_top [] stack_in (frames_in (map value_of slots) top list)) → slot ≡ get_or slots (top.next - 1) slot
      → slice_get (on_top [] stack_in (frames_in (map value_of slots) top list)) 0 ≡ Some (value_of slot)
  top_of slot some read = stack_of 0 slot some (read ∙ ap (λ k. get_or slots k slot) (let e : top.next - 1 ≡ top.next - 1 - 0 = omega arith in e))

  pub pop_of : 0 < length (on_top [] stack_in (frames_in (map value_of slots) top list))
      → Kept (map value_of slots) (map value_of slots) top (record top { next = top.next - 1 }) list (with_stack (λ stack. drop 1 stack))
  pop_of some = dropped (map value_of slots) top list 1 are all_inside (omega (arith, some))

  pub moved_of : (i : ℕ) (slot : Slot) (item : Value) → 0 < length (on_top [] stack_in (frames_in (map value_of slots) top list))
      → i < length (on_top [] locals_in (frames_in (map value_of slots) top list)) → value_of slot ≡ item
      → Kept (map value_of slots) (map value_of (slice_set slots (top.base + i) slot)) (record top { next = top.next - 1 }) (record top { next = top.next - 1 }) list
      (with_locals (λ locals. slice_set locals i item))
  moved_of i slot item some there is =
      kept_written slots (top.base + i) slot item (record top { next = top.next - 1 }) (record top { next = top.next - 1 }) list (with_locals (λ locals. slice_set locals i item)) is
      (local_set (map value_of slots) (record top { next = top.next - 1 }) list i item (pop_of some).stacked all_inside
      (still_there (map value_of slots) top list i are all_inside some there))
