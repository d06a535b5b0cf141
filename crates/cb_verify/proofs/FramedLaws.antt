-- Each instruction of a program that is typed has a frame before it.
use Rattle.std.proofs.Common.{◌≡◌, ◌∙◌, ap, refl, sym, arith, ℕ, zero, suc, ◌+◌, ◌<◌, ◌≤◌, Bool, true, false, not, ◌&&◌, ◌||◌, List, [], ◌∷◌, ◌++◌, Option, Some, None, length, map}
use Rattle.std.specs.Prelude.{filter, is_some, option_and_then, option_map, slice_get, ◌==◌, if◌then◌else◌}
use Rattle.std.specs.List.{find, list_all, list_any, range_with_len}
use Rattle.cb_insn.specs.declared.insn.Insn.{Insn}
use Rattle.cb_link.specs.declared.linked.LinkedMethod.{LinkedMethod}
use Rattle.cb_link.specs.Program.{Linked}
use Rattle.cb_verify.specs.Framed.{FramesStand, frame_at_place, frame_in, framed, frames_in, stands_at, typing_of}
use Rattle.cb_verify.specs.Frames.{Frame}
use Rattle.cb_verify.specs.Typed.{Declared, IsTyped, Placed, after, begins, failing, fails_at, first_failing, fits, fits_with, is_lost, least, placed_in}
use Rattle.cb_verify.specs.Expansion.{declared, start}
use Rattle.cb_verify.specs.Within.{Within, within}
use Rattle.cb_verify.proofs.Walks.{any_placed}

-- what fits has a frame before it
framed_where : (method : Within) (frames : Declared) (pc : ℕ) (insn : Insn) (next : Option ℕ) (before later : Option Frame)
    → fits_with method frames pc insn next before later ≡ true → is_some before ≡ true
framed_where method frames pc insn next None later fits = absurd (cc fits)
framed_where method frames pc insn next (Some before) later fits = refl

-- where none doesn't fit, all do, and have frames
abbrev has_frame : Placed → Bool
has_frame own = is_some own.before

all_framed : (method : Within) (frames : Declared) (placed : List Placed) → map (λ own. own.place) (filter (λ own. not (fits method frames own)) placed) ≡ []
    → list_all has_frame placed ≡ true
all_framed method frames [] none = refl
all_framed method frames (own ∷ placed) none = go (all_framed method frames placed) (fits method frames own) refl none where
  go : (map (λ (own : Placed). own.place) (filter (λ own. not (fits method frames own)) placed) ≡ [] → list_all has_frame placed ≡ true) → (is : Bool) → fits method frames own ≡ is
      → map (λ (own : Placed). own.place) (if not is then own ∷ filter (λ own. not (fits method frames own)) placed else filter (λ own. not (fits method frames own)) placed) ≡ []
      → list_all has_frame (own ∷ placed) ≡ true
  go rest true is none =
      let here : has_frame own ≡ true = framed_where method frames own.place own.insn own.next own.before (after method (own.place, own.insn) own.before) is in
      ap (λ test. test && list_all has_frame placed) here ∙ rest none
  go rest false is none = absurd (cc none)

-- so there is one at each of their places, and at no other
found_framed : (placed : List Placed) (pc : ℕ) → list_all has_frame placed ≡ true → is_some (frame_at_place pc (framed placed)) ≡ list_any (λ own. own.place == pc) placed
found_framed [] pc all = refl
found_framed (own ∷ placed) pc all = go (found_framed placed pc) own.before refl all where
  go : (list_all has_frame placed ≡ true → is_some (frame_at_place pc (framed placed)) ≡ list_any (λ own. own.place == pc) placed) → (before : Option Frame) → own.before ≡ before → (is_some before && list_all has_frame placed) ≡ true
      → is_some (frame_at_place pc (framed (own ∷ placed))) ≡ ((own.place == pc) || list_any (λ own. own.place == pc) placed)
  go rest None is all = absurd (cc all)
  go rest (Some frame) is all = rw is (at (own.place == pc) refl) where
    at : (here : Bool) → (own.place == pc) ≡ here
        → is_some (frame_at_place pc ((own.place, frame) ∷ framed placed)) ≡ ((own.place == pc) || list_any (λ own. own.place == pc) placed)
    at true same = rw same refl
    at false same = rw same (rest all)

-- a method none of whose places fails
none_least : (numbers : List ℕ) → least numbers ≡ None → numbers ≡ []
none_least [] none = refl
none_least (number ∷ numbers) none = absurd (cc none)

front_none : {X : Type 0} (front back : List X) → front ++ back ≡ [] → front ≡ []
front_none [] back none = refl
front_none (item ∷ front) back none = absurd (cc none)

back_none : {X : Type 0} (front back : List X) → front ++ back ≡ [] → back ≡ []
back_none [] back none = none
back_none (item ∷ front) back none = absurd (cc none)

method_framed : (method : Within) (pc : ℕ) → first_failing method ≡ None → is_some (frame_at_place pc (framed (placed_in method))) ≡ stands_at (Some method) pc
method_framed method pc none =
    let own : List ℕ = if begins method (declared method) then [] else 0 ∷ [] in
    let unfit : List ℕ = map (λ own. own.place) (filter (λ own. not (fits method (declared method) own)) (placed_in method)) in
    let lost : List ℕ = map (λ entry. entry.0) (filter (is_lost (placed_in method)) (declared method)) in
    let nothing : (own ++ unfit) ++ lost ≡ [] = none_least (failing method) none in
    found_framed (placed_in method) pc (all_framed method (declared method) (placed_in method) (back_none own unfit (front_none (own ++ unfit) lost nothing)))
    ∙ any_placed method (declared method) (start method) method.body.code pc

within_framed : (found : Option Within) (pc : ℕ) → option_and_then first_failing found ≡ None → is_some (frame_at_place pc (frames_in found)) ≡ stands_at found pc
within_framed None pc none = refl
within_framed (Some method) pc none = method_framed method pc none

-- of the methods by their numbers
numbered : {Item : Type 0} (make : ℕ → Item) (from count number : ℕ) → number < count → slice_get (map make (range_with_len from count)) number ≡ Some (make (from + number))
numbered make from zero number low = absurd (omega (arith, low))
numbered make from (suc count) zero low = ap (λ number. Some (make number)) (omega arith)
numbered make from (suc count) (suc number) low = numbered make (from + 1) count number (omega (arith, low)) ∙ ap (λ number. Some (make number)) (omega arith)

past : {Item : Type 0} (make : ℕ → Item) (from count number : ℕ) → count ≤ number → slice_get (map make (range_with_len from count)) number ≡ None
past make from zero number high = refl
past make from (suc count) zero high = absurd (omega (arith, high))
past make from (suc count) (suc number) high = past make (from + 1) count number (omega (arith, high))

pub frames_stand : (program : Linked) → IsTyped program → FramesStand program (typing_of program)
frames_stand program typed = record {
  each = λ method pc low.
      ap (λ (own : Option (List (ℕ × Frame))). is_some (option_and_then (frame_at_place pc) own)) (numbered (λ number. frames_in (within program number)) 0 (length program.methods) method low)
      ∙ ap (λ number. is_some (frame_at_place pc (frames_in (within program number)))) (let at : 0 + method ≡ method = omega arith in at)
      ∙ within_framed (within program method) pc (typed.fit method low);
  none = λ method pc high.
      ap (λ (own : Option (List (ℕ × Frame))). option_and_then (frame_at_place pc) own) (past (λ number. frames_in (within program number)) 0 (length program.methods) method high);
}
