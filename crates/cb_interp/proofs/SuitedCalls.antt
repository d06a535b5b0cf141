-- The arguments of a method that is entered from a typed state fit into its local variables; and all that is asked for before an instruction.
use Rattle.std.proofs.Common.{◌≡◌, ◌∙◌, ap, arith, refl, sym, subst, ℕ, ◌+◌, ◌<◌, ◌≤◌, Bool, true, false, List, [], ◌∷◌, drop, length, Option, Some, None, zero, suc}
use Rattle.std.specs.List.{flat_map}
use Rattle.std.specs.Prelude.{slice_get}
use Rattle.cb_classfile.specs.declared.body.Body.{Body}
use Rattle.cb_frames.specs.Tops.{arguments_of, changed_in, with_stack, without}
use Rattle.cb_heap.specs.Closed.{IsClosed}
use Rattle.cb_link.specs.declared.decoded.Decoded.{Decoded}
use Rattle.cb_link.specs.declared.linked.LinkedMethod.{LinkedMethod}
use Rattle.cb_machine.specs.Entering.{entered_upon}
use Rattle.cb_machine.specs.Machine.{Machine}
use Rattle.cb_machine.specs.Steps.{plan}
use Rattle.cb_plain.specs.Depth.{has_room, slots_of}
use Rattle.cb_plain.specs.State.{Frame, Initialising, OfMethod, State}
use Rattle.cb_shapes.specs.Shapes.{action_of}
use Rattle.cb_shapes.specs.declared.action.Action.{Action}
use Rattle.cb_shapes.specs.declared.action.Action.TheVariants as actions
use Rattle.cb_verify.specs.Typed.{IsTyped}
use Rattle.cb_verify.specs.Within.{Within, with_body, within}
use Rattle.cb_safety.specs.Advancing.{Advances}
use Rattle.cb_machine.specs.Machine.{with_limit}
use Rattle.cb_safety.specs.Sound.{IsSound}
use Rattle.cb_safety.specs.States.{IsTypedState}
use Rattle.cb_safety.specs.Words.{AreOfSort}
use Rattle.cb_shapes.specs.Sorts.{sort_of_elements}
use Rattle.cb_shapes.specs.declared.sort.Sort.TheVariants as sorts
use Rattle.cb_safety.proofs.Laws.{Stage, arguments_fit, stage_of}
use Rattle.cb_act.specs.Acting.{ArgumentsFit, acted, enter_deed}
use Rattle.cb_act.specs.Here.{GoesOn, HasElements, Here, LooksAtArrays, array_depth, deed_plan, here_within, planned_as}
use Rattle.cb_act.specs.Steps.{view_of}
use Rattle.cb_act.specs.Suited.{HasRoom, HasWords, Suited}
use Rattle.cb_act.proofs.Laws.{acts_so}
use Rattle.cb_interp.proofs.SuitedRoom.{has_room as has_room_on}
use Rattle.cb_interp.proofs.SuitedWords.{has_elements, has_words, loaded_array, loaded_references, stored_array}

there_in : {X : Type 0} (items : List X) (place : ℕ) → place < length items → (item : X) × (slice_get items place ≡ Some item)
there_in [] place low = absurd (omega (arith, low))
there_in (item ∷ items) zero low = (item, refl)
there_in (item ∷ items) (suc place) low = there_in items place (omega (arith, low))

room_without : (limit slots count : ℕ) (frames : List Frame) → has_room limit (changed_in (with_stack (λ stack. drop count stack)) frames) slots ≡ has_room limit frames slots
room_without limit slots count [] = refl
room_without limit slots count (OfMethod frame ∷ below) = refl
room_without limit slots count (Initialising class place ∷ below) = refl

enters_upon : (machine : Machine) (state : State) (method count : ℕ) (body : Body)
    → deed_plan machine state (enter_deed machine.frames (view_of state) method count body)
    ≡ Some (entered_upon machine state (without state.roots count).frames method (arguments_of state.roots count) body)
enters_upon machine state method count body =
    go (has_room machine.frames state.roots.frames (body.max_locals + body.max_stack)) refl where
      go : (is : Bool) → has_room machine.frames state.roots.frames (body.max_locals + body.max_stack) ≡ is
          → deed_plan machine state (enter_deed machine.frames (view_of state) method count body)
          ≡ Some (entered_upon machine state (without state.roots count).frames method (arguments_of state.roots count) body)
      go true is = rw (is, room_without machine.frames (body.max_locals + body.max_stack) count state.roots.frames, is) refl
      go false is = rw (is, room_without machine.frames (body.max_locals + body.max_stack) count state.roots.frames, is) refl

module _ (machine : Machine) (state : State) (decoded : Decoded) (at : Here machine state decoded)
    (goes : GoesOn decoded) (arrays : LooksAtArrays machine.program (view_of state) decoded)
    (advances : (limit : ℕ) → Advances (with_limit machine limit) state) where
  plans : (limit method count : ℕ) (body : Body) → acted machine.program limit decoded (view_of state) ≡ Some (enter_deed limit (view_of state) method count body)
      → plan (with_limit machine limit) state ≡ Some (entered_upon (with_limit machine limit) state (without state.roots count).frames method (arguments_of state.roots count) body)
  plans limit method count body enters =
      (advances limit).is
      ∙ sym (acts_so (with_limit machine limit) state decoded (here_within machine state decoded limit at) (advances limit).plan goes arrays (advances limit).is)
      ∙ ap (planned_as (with_limit machine limit) state) enters
      ∙ enters_upon (with_limit machine limit) state method count body

  abbrev Fit : ℕ → Body → Type 0
  Fit count body = length (flat_map slots_of (arguments_of state.roots count)) ≤ body.max_locals

  abbrev body_in : Body → Option Within → Body
  body_in body None = body
  body_in body (Some callee) = callee.body

  pub arguments_suit : ArgumentsFit machine.program (view_of state) (λ limit. acted machine.program limit decoded (view_of state))
  arguments_suit method count numbered body low is has enters = go (slice_get machine.program.methods method) refl where
    of_callee : (linked : LinkedMethod) → slice_get machine.program.methods method ≡ Some linked → (found : Option Within) → within machine.program method ≡ found → Fit count body
    of_callee linked there None among =
        let whole : within machine.program method ≡ with_body machine.program method linked.class numbered.member (Some body) = rw (there, is, has) refl in
        absurd (cc (sym among ∙ whole))
    of_callee linked there (Some callee) among =
        let whole : within machine.program method ≡ with_body machine.program method linked.class numbered.member (Some body) = rw (there, is, has) refl in
        let same : callee.body ≡ body = ap (body_in body) (sym among ∙ whole) in
        subst (Fit count) same
        (arguments_fit machine state (without state.roots count).frames method callee (arguments_of state.roots count) at.quiet among advances
        (λ limit. plans limit method count body (enters limit)
        ∙ ap (λ body. Some (entered_upon (with_limit machine limit) state (without state.roots count).frames method (arguments_of state.roots count) body)) (sym same)))

    go : (linked : Option LinkedMethod) → slice_get machine.program.methods method ≡ linked → Fit count body
    go None there = absurd (cc (sym there ∙ (there_in machine.program.methods method low).1))
    go (Some linked) there = of_callee linked there (within machine.program method) refl

-- all that is asked for
pub suits : (machine : Machine) (state : State) (decoded : Decoded) (at : Here machine state decoded)
    → IsTyped machine.program → IsSound machine.program → IsTypedState machine.program state → IsClosed (view_of state)
    → GoesOn decoded → LooksAtArrays machine.program (view_of state) decoded
    → ((limit : ℕ) → Advances (with_limit machine limit) state) → Suited machine.program decoded (view_of state)
suits machine state decoded at fits sound typed closed goes arrays advances = record {
  room = subst (λ (decoded : Decoded). HasRoom decoded (view_of state)) (sym at.is)
      (has_room_on machine state at.frame at.below at.insn fits sound typed at.quiet at.frames at.there);
  words = subst (λ (decoded : Decoded). HasWords machine.program decoded (view_of state)) (sym at.is)
      (has_words machine state at.frame at.below at.insn fits sound typed at.quiet at.frames at.there closed);
  arguments = arguments_suit machine state decoded at goes arrays advances;
}

-- and what typing says of the place: there is a next instruction, where it may be reached, and arrays are arrays
pub goes_on_so : (machine : Machine) (state : State) (decoded : Decoded) (at : Here machine state decoded)
    → IsTyped machine.program → IsSound machine.program → IsTypedState machine.program state → GoesOn decoded
goes_on_so machine state decoded at fits sound typed action does on =
    let own : action_of at.insn ≡ Some action = sym (ap (λ (decoded : Decoded). decoded.action) at.is) ∙ does in
    let stage : Stage machine state at.frame at.below at.insn action =
    stage_of machine state at.frame at.below at.insn action fits sound.spelled sound.holds_on typed at.quiet at.frames at.there own in
    let next = stage.next on in
    (next.place, ap (λ (decoded : Decoded). decoded.next) at.is ∙ next.behind)

pub looks_so : (machine : Machine) (state : State) (decoded : Decoded) (at : Here machine state decoded)
    → IsTyped machine.program → IsSound machine.program → IsTypedState machine.program state → LooksAtArrays machine.program (view_of state) decoded
looks_so machine state decoded at fits sound typed action depth does = go action (sym (ap (λ (decoded : Decoded). decoded.action) at.is) ∙ does) where
  go : (action : Action) → action_of at.insn ≡ Some action → array_depth action ≡ Some depth → HasElements machine.program (view_of state) depth
  go (actions.LoadNumber elements) own is =
      let depths : 1 ≡ depth = cc is in
      subst (HasElements machine.program (view_of state)) depths
      (has_elements machine state at.frame at.below at.frames (AreOfSort (sort_of_elements elements)) 1
      (loaded_array machine state at.frame at.below at.insn fits sound typed at.quiet at.frames at.there elements own))
  go actions.LoadReference own is =
      let depths : 1 ≡ depth = cc is in
      subst (HasElements machine.program (view_of state)) depths
      (has_elements machine state at.frame at.below at.frames (AreOfSort sorts.Reference) 1
      (loaded_references machine state at.frame at.below at.insn fits sound typed at.quiet at.frames at.there own))
  go (actions.StoreNumber elements) own is =
      let depths : 2 ≡ depth = cc is in
      subst (HasElements machine.program (view_of state)) depths
      (has_elements machine state at.frame at.below at.frames (AreOfSort (sort_of_elements elements)) 2
      (stored_array machine state at.frame at.below at.insn fits sound typed at.quiet at.frames at.there elements own))
  go other own is = absurd (cc is)
