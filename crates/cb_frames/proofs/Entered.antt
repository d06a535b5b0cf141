-- Frames that are entered and left.
use Rattle.std.proofs.Common.{◌≡◌, ◌∙◌, sym, refl, ap, subst, arith, ℕ, ◌+◌, ◌-◌, ◌<◌, ◌≤◌, List, [], ◌∷◌, ◌++◌, length, drop, take, get_or, reverse, slice_range, slice_set, length-drop, length-set}
use Rattle.std.specs.List.{flat_map}
use Rattle.std.proofs.lemmas.List.{drop-set, drop_more, length-replicate, take_at}
use Rattle.std.proofs.lemmas.List.Edits.{between_none}
use Rattle.cb_plain.specs.declared.value.Value.{Value}
use Rattle.cb_plain.specs.Depth.{frame_of, locals_of, slots_of}
use Rattle.cb_plain.specs.State.{OfMethod}
use Rattle.cb_frames.specs.declared.standing.Standing.{Standing}
use Rattle.cb_frames.specs.declared.standing.What.TheVariants as whats
use Rattle.cb_frames.specs.Inner.{AreLaid, AreStacked, IsPlaced, blank, blanks, frame_as, frames_in, pasted, wiped}
use Rattle.cb_frames.specs.Tops.{changed_in, on_top, stack_in, with_stack}
use Rattle.cb_frames.proofs.Changed.{arguments_are, dropped, stack_counted}
use Rattle.cb_frames.proofs.Moved.{pasted_front, pasted_length, pasted_rest}
use Rattle.cb_frames.proofs.Parts.{filled_front, filled_rest, joined_parts, same_front, same_part}
use Rattle.cb_frames.proofs.Stacked.{Kept, frames_counted, same_frames}

-- a frame that stands on the one that was the topmost
stands_on : (below : List Standing) (free : ℕ) (now : Standing) → 0 < free → free ≤ length below → drop (free - 1) (slice_set below (free - 1) now) ≡ now ∷ drop free below
stands_on below free now some within =
    drop-set below (free - 1) now (omega arith) ∙ ap (λ n. now ∷ drop n below) (let e : free - 1 + 1 ≡ free = omega arith in e)

pub stood_laid : (limit size left : ℕ) (top now new : Standing) (below : List Standing) (free : ℕ) → AreLaid limit size top below free → 0 < free
    → left ≡ size → AreStacked now (drop free below) → IsPlaced now.end new → new.end ≤ left
    → AreLaid limit left new (slice_set below (free - 1) now) (free - 1)
stood_laid limit size left top now new below free laid some same stacked placed inside = record {
  few = laid.few;
  count = length-set below (free - 1) now ∙ laid.count;
  size = same ∙ laid.size;
  within = omega (arith, laid.within, length-set below (free - 1) now);
  inside = inside;
  stacked = subst (AreStacked new) (sym (stands_on below free now some laid.within)) (placed, stacked);
}

pub stood_frames : (ys : List Value) (now new : Standing) (below : List Standing) (free : ℕ) → 0 < free → free ≤ length below
    → frames_in ys new (drop (free - 1) (slice_set below (free - 1) now)) ≡ frame_as new.what ys new ∷ frames_in ys now (drop free below)
stood_frames ys now new below free some within = ap (frames_in ys new) (stands_on below free now some within)

-- a class that begins to be initialised
abbrev pub class_at : Standing → ℕ → Standing
class_at top class = record { what = whats.Class; number = class; place = 0; base = top.end; floor = top.end; next = top.end; end = top.end }

pub begun_laid : (limit size : ℕ) (top : Standing) (below : List Standing) (free class : ℕ) → AreLaid limit size top below free → 0 < free
    → AreLaid limit size (class_at top class) (slice_set below (free - 1) top) (free - 1)
begun_laid limit size top below free class laid some =
    stood_laid limit size size top top (class_at top class) below free laid some refl laid.stacked
    (record { begins = refl; locals = omega arith; stack = omega arith; room = omega arith; empty = λ _. refl })
    laid.inside

-- a method that is entered
abbrev pub method_at : Standing → (method locals stack : ℕ) → Standing
method_at top method locals stack =
    record { what = whats.Method; number = method; place = 0; base = top.end; floor = top.end + locals; next = top.end + locals; end = top.end + locals + stack }

abbrev pub words_of : List Value → Standing → ℕ → List Value
words_of xs top n = flat_map slots_of (slice_range xs (top.next - n) top.next)

abbrev pub given : List Value → Standing → ℕ → List Value
given xs top n = pasted xs top.end (words_of xs top n)

-- behind the arguments the local variables hold the int 0
abbrev pub begun : List Value → Standing → ℕ → ℕ → List Value
begun xs top n locals = wiped (given xs top n) (top.end + length (words_of xs top n)) (top.end + locals)

module _ (limit : ℕ) (xs : List Value) (top : Standing) (below : List Standing) (free n locals stack : ℕ) (laid : AreLaid limit (length xs) top below free)
    (some : 0 < free) (room : top.end + (locals + stack) ≤ length xs)
    (there : n ≤ length (on_top [] stack_in (frames_in xs top (drop free below))))
    (fits : length (flat_map slots_of (reverse (take n (on_top [] stack_in (frames_in xs top (drop free below)))))) ≤ locals) where
  arguments : reverse (take n (on_top [] stack_in (frames_in xs top (drop free below)))) ≡ slice_range xs (top.next - n) top.next
  arguments = arguments_are xs top (drop free below) n laid.stacked laid.inside there

  pub words_fit : length (words_of xs top n) ≤ locals
  words_fit = subst (λ part. length (flat_map slots_of part) ≤ locals) arguments fits

  pub stack_within : (n ≤ top.next) × (top.next ≤ top.end)
  stack_within =
      let count = stack_counted xs top (drop free below) laid.stacked laid.inside in
      (omega (arith, count.0, there), count.1)

  pub given_length : length (given xs top n) ≡ length xs
  given_length = pasted_length xs top.end (words_of xs top n) (omega (arith, words_fit, room))

  order : top.end + length (words_of xs top n) ≤ top.end + locals
  order = omega (arith, words_fit)

  pub inside_given : top.end + locals ≤ length (given xs top n)
  inside_given = omega (arith, given_length, room)

  -- the slots of the other frames stay
  same_begun : take top.end xs ≡ take top.end (begun xs top n locals)
  same_begun =
      sym (same_front (begun xs top n locals) (given xs top n) (top.end + length (words_of xs top n)) top.end
      (filled_front (given xs top n) (top.end + length (words_of xs top n)) (top.end + locals) blank order inside_given) (omega arith)
      ∙ pasted_front xs top.end (words_of xs top n) laid.inside)

  taken_kept : Kept xs xs top (record top { next = top.next - n }) (drop free below) (with_stack (λ stack. drop n stack))
  taken_kept = dropped xs top (drop free below) n laid.stacked laid.inside there

  taken_frames : frames_in (begun xs top n locals) (record top { next = top.next - n }) (drop free below) ≡ changed_in (with_stack (λ stack. drop n stack)) (frames_in xs top (drop free below))
  taken_frames = same_frames xs (begun xs top n locals) (record top { next = top.next - n }) (drop free below) taken_kept.stacked same_begun ∙ taken_kept.view

  new_locals : slice_range (begun xs top n locals) top.end (top.end + locals) ≡ words_of xs top n ++ blanks (locals - length (words_of xs top n))
  new_locals =
      let middle : top.end + length (words_of xs top n) - top.end ≡ length (words_of xs top n) = omega arith in
      let left : top.end + locals - (top.end + length (words_of xs top n)) ≡ locals - length (words_of xs top n) = omega arith in
      sym (joined_parts (begun xs top n locals) top.end (top.end + length (words_of xs top n)) (top.end + locals) (omega arith) order)
      ∙ ap (λ part. part ++ slice_range (begun xs top n locals) (top.end + length (words_of xs top n)) (top.end + locals))
      (same_part (begun xs top n locals) (given xs top n) (top.end + length (words_of xs top n)) top.end (top.end + length (words_of xs top n))
      (filled_front (given xs top n) (top.end + length (words_of xs top n)) (top.end + locals) blank order inside_given) (omega arith)
      ∙ ap (λ k. take k (drop top.end (given xs top n))) middle
      ∙ ap (take (length (words_of xs top n))) (pasted_rest xs top.end (words_of xs top n) laid.inside)
      ∙ take_at (words_of xs top n) (drop (top.end + length (words_of xs top n)) xs) (length (words_of xs top n)) refl)
      ∙ ap (λ part. words_of xs top n ++ part)
      (ap (take (top.end + locals - (top.end + length (words_of xs top n)))) (filled_rest (given xs top n) (top.end + length (words_of xs top n)) (top.end + locals) blank order inside_given)
      ∙ take_at (blanks (top.end + locals - (top.end + length (words_of xs top n)))) (drop (top.end + locals) (given xs top n)) (top.end + locals - (top.end + length (words_of xs top n))) (length-replicate (top.end + locals - (top.end + length (words_of xs top n))) blank)
      ∙ ap blanks left)

  new_frame : (method : ℕ) → frame_as whats.Method (begun xs top n locals) (method_at top method locals stack)
      ≡ frame_of method locals stack (reverse (take n (on_top [] stack_in (frames_in xs top (drop free below)))))
  new_frame method =
      let size : top.end + locals + stack - top.end ≡ locals + stack = omega arith in
      ap (λ slots. OfMethod (record { method = method; pc = 0; slots = slots; locals = slice_range (begun xs top n locals) top.end (top.end + locals); stack = reverse (slice_range (begun xs top n locals) (top.end + locals) (top.end + locals)) })) size
      ∙ ap (λ part. OfMethod (record { method = method; pc = 0; slots = locals + stack; locals = part; stack = reverse (slice_range (begun xs top n locals) (top.end + locals) (top.end + locals)) })) new_locals
      ∙ ap (λ part. OfMethod (record { method = method; pc = 0; slots = locals + stack; locals = locals_of locals (slice_range xs (top.next - n) top.next); stack = reverse part }))
      (between_none (begun xs top n locals) (top.end + locals))
      ∙ ap (frame_of method locals stack) (sym arguments)

  pub entered_laid : (left method : ℕ) → left ≡ length xs → AreLaid limit left (method_at top method locals stack) (slice_set below (free - 1) (record top { next = top.next - n })) (free - 1)
  entered_laid left method same =
      stood_laid limit (length xs) left top (record top { next = top.next - n }) (method_at top method locals stack) below free laid some same taken_kept.stacked
      (record { begins = refl; locals = omega arith; stack = omega arith; room = omega arith; empty = λ other. cc })
      (omega (arith, room, same))

  pub entered_frames : (method : ℕ) → frames_in (begun xs top n locals) (method_at top method locals stack) (drop (free - 1) (slice_set below (free - 1) (record top { next = top.next - n })))
      ≡ frame_of method locals stack (reverse (take n (on_top [] stack_in (frames_in xs top (drop free below)))))
      ∷ changed_in (with_stack (λ stack. drop n stack)) (frames_in xs top (drop free below))
  entered_frames method =
      stood_frames (begun xs top n locals) (record top { next = top.next - n }) (method_at top method locals stack) below free some laid.within
      ∙ ap (λ first. first ∷ frames_in (begun xs top n locals) (record top { next = top.next - n }) (drop free below)) (new_frame method)
      ∙ ap (λ others. frame_of method locals stack (reverse (take n (on_top [] stack_in (frames_in xs top (drop free below))))) ∷ others) taken_frames

-- a frame that is left
pub some_below : (xs : List Value) (top : Standing) (below : List Standing) (free : ℕ) → 0 < length (frames_in xs top (drop free below)) → free < length below
some_below xs top below free some = omega (arith, frames_counted xs top (drop free below), length-drop free below)

left_list : (below : List Standing) (free : ℕ) (now : Standing) → free < length below → now ≡ get_or below free now → drop free below ≡ now ∷ drop (free + 1) below
left_list below free now some read = drop_more below free now some ∙ ap (λ first. first ∷ drop (free + 1) below) (sym read)

pub left_laid : (limit size : ℕ) (top now : Standing) (below : List Standing) (free : ℕ) → AreLaid limit size top below free → free < length below
    → now ≡ get_or below free now → AreLaid limit size now below (free + 1)
left_laid limit size top now below free laid some read =
    let are = subst (AreStacked top) (left_list below free now some read) laid.stacked in
    record {
      few = laid.few;
      count = laid.count;
      size = laid.size;
      within = omega (arith, some);
      inside = omega (arith, laid.inside, are.0.begins, are.0.locals, are.0.stack, are.0.room);
      stacked = are.1;
    }

pub left_view : (xs : List Value) (top now : Standing) (below : List Standing) (free : ℕ) → free < length below
    → now ≡ get_or below free now → frames_in xs now (drop (free + 1) below) ≡ drop 1 (frames_in xs top (drop free below))
left_view xs top now below free some read = ap (λ standing. drop 1 (frames_in xs top standing)) (sym (left_list below free now some read))
