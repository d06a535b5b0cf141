-- A method that is entered, by what is known of the frames.
use Rattle.std.proofs.Common.{◌≡◌, ◌∙◌, sym, ap, subst, arith, ℕ, ◌+◌, ◌-◌, ◌<◌, ◌≤◌, List, [], ◌∷◌, IsTrue, length, drop, map, reverse, slice_range, slice_set, take}
use Rattle.std.specs.List.{flat_map}
use Rattle.std.proofs.lemmas.List.{length-map}
use Rattle.cb_plain.specs.declared.value.Value.{Value}
use Rattle.cb_plain.specs.Depth.{frame_of, has_room, slots_of}
use Rattle.cb_frames.specs.declared.slot.Slot.{Slot}
use Rattle.cb_frames.specs.declared.standing.Standing.{Standing}
use Rattle.cb_frames.specs.Held.{Held, held_of, holding}
use Rattle.cb_frames.specs.Inner.{AreLaid, frames_in, pasted, wiped}
use Rattle.cb_frames.specs.Slots.{value_of}
use Rattle.cb_frames.specs.Tops.{changed_in, on_top, stack_in, with_stack}
use Rattle.cb_frames.proofs.Entered.{begun, entered_frames, entered_laid, given, method_at, stack_within, words_fit, words_of}
use Rattle.cb_frames.proofs.Stacked.{room_known, seen}

module _ (limit : ℕ) (slots : List Slot) (top : Standing) (below : List Standing) (free n locals stack : ℕ) (held : Held)
    (is : ◌≡◌ {A = Held} (record { limit = limit; frames = frames_in (map value_of slots) top (drop free below) }) held)
    (laid : AreLaid limit (length slots) top below free)
    (room : IsTrue (has_room held.limit held.frames (locals + stack)))
    (deep : n ≤ length (on_top [] stack_in held.frames))
    (few : length (flat_map slots_of (reverse (take n (on_top [] stack_in held.frames)))) ≤ locals) where
  known : (0 < free) × (top.end + (locals + stack) ≤ length slots)
  known = room_known limit (map value_of slots) top below free (locals + stack) (length slots) held is laid room

  laid_values : AreLaid limit (length (map value_of slots)) top below free
  laid_values = subst (λ size. AreLaid limit size top below free) (sym (length-map slots value_of)) laid

  room_values : top.end + (locals + stack) ≤ length (map value_of slots)
  room_values = omega (arith, known.1, length-map slots value_of)

  there : n ≤ length (on_top [] stack_in (frames_in (map value_of slots) top (drop free below)))
  there = seen (λ frames. n ≤ length (on_top [] stack_in frames)) is deep

  fits : length (flat_map slots_of (reverse (take n (on_top [] stack_in (frames_in (map value_of slots) top (drop free below)))))) ≤ locals
  fits = seen (λ frames. length (flat_map slots_of (reverse (take n (on_top [] stack_in frames)))) ≤ locals) is few

  pub some_free : 0 < free
  some_free = known.0

  pub within_stack : (n ≤ top.next) × (top.next ≤ top.end)
  within_stack = stack_within limit (map value_of slots) top below free n locals stack laid_values known.0 room_values there fits

  pub locals_inside : top.end + locals ≤ length slots
  locals_inside = omega (arith, known.1)

  words_are : flat_map slots_of (slice_range (map value_of slots) (top.next - n) (top.next - n + n)) ≡ words_of (map value_of slots) top n
  words_are =
      let all : top.next - n + n ≡ top.next = omega (arith, within_stack.0) in
      ap (λ to. flat_map slots_of (slice_range (map value_of slots) (top.next - n) to)) all

  pub words_inside : length (flat_map slots_of (slice_range (map value_of slots) (top.next - n) (top.next - n + n))) ≤ locals
  words_inside =
      omega (arith, ap length words_are, words_fit limit (map value_of slots) top below free n locals stack laid_values known.0 room_values there fits)

  pub begun_slots : (one two : List Value) (place : ℕ)
      → one ≡ pasted (map value_of slots) top.end (flat_map slots_of (slice_range (map value_of slots) (top.next - n) (top.next - n + n)))
      → place ≡ top.end + length (flat_map slots_of (slice_range (map value_of slots) (top.next - n) (top.next - n + n)))
      → two ≡ wiped one place (top.end + locals) → two ≡ begun (map value_of slots) top n locals
  begun_slots one two place first behind second =
      second
      ∙ ap (λ slots. wiped slots place (top.end + locals)) (first ∙ ap (pasted (map value_of slots) top.end) words_are)
      ∙ ap (λ from. wiped (given (map value_of slots) top n) from (top.end + locals)) (behind ∙ ap (λ words. top.end + length words) words_are)

  pub enter_laid : (left method : ℕ) → left ≡ length slots
      → AreLaid limit left (method_at top method locals stack) (slice_set below (free - 1) (record top { next = top.next - n })) (free - 1)
  enter_laid left method same =
      entered_laid limit (map value_of slots) top below free n locals stack laid_values known.0 room_values there fits left method (same ∙ sym (length-map slots value_of))

  pub enter_view : (now : List Value) (method : ℕ) → now ≡ begun (map value_of slots) top n locals
      → held_of limit (frames_in now (method_at top method locals stack) (drop (free - 1) (slice_set below (free - 1) (record top { next = top.next - n }))))
      ≡ holding held (frame_of method locals stack (reverse (take n (on_top [] stack_in held.frames))) ∷ changed_in (with_stack (λ stack. drop n stack)) held.frames)
  enter_view now method same =
      ap (λ ys. held_of limit (frames_in ys (method_at top method locals stack) (drop (free - 1) (slice_set below (free - 1) (record top { next = top.next - n }))))) same
      ∙ ap (held_of limit) (entered_frames limit (map value_of slots) top below free n locals stack laid_values known.0 room_values there fits method)
      ∙ ap (λ all. holding all (frame_of method locals stack (reverse (take n (on_top [] stack_in all.frames))) ∷ changed_in (with_stack (λ stack. drop n stack)) all.frames)) is
