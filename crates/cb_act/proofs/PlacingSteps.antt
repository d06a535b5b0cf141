-- What is left where an object is placed is what the step leaves; and calls that enter a method.
use Rattle.std.proofs.Common.{◌≡◌, ◌∙◌, ap, refl, sym, ℕ, pos, negsuc, ◌+◌, true, List, [], ◌∷◌, ◌++◌, drop, length, replicate, reverse, take, Option, Some, None}
use Rattle.std.proofs.Math.Seq.{drop-append_seam, take-append_seam}
use Rattle.std.proofs.lemmas.Bool.{false≢true}
use Rattle.std.specs.Prelude.{option_map, slice_get, if◌then◌else◌}
use Rattle.cb_classfile.specs.declared.body.Body.{Body}
use Rattle.cb_classfile.specs.declared.method.Method.{Method}
use Rattle.cb_frames.specs.Tops.{at_place as placed_at, changed_in, on_top, stack_in, with_stack}
use Rattle.cb_heap.specs.Shaped.{new_object}
use Rattle.cb_link.specs.Calls.{class_of_kind}
use Rattle.cb_link.specs.Numbers.{Numbered}
use Rattle.cb_link.specs.declared.named.Named.TheVariants as meanings
use Rattle.cb_machine.specs.Calling.{asked_sorts, invokes_static}
use Rattle.cb_machine.specs.Creating.{blank_element, blank_fields, makes_arrays, makes_object, site_number}
use Rattle.cb_machine.specs.Machine.{Machine, class_declaring, kind_of_site, method_numbered}
use Rattle.cb_machine.specs.Plans.{leaving, made, object_of, with_alike, with_one}
use Rattle.cb_machine.specs.Sites.{negative_size, stack_overflow}
use Rattle.cb_machine.specs.Standing.{Now, goes_to, named_here, taken, with_stack as holding}
use Rattle.cb_machine.specs.Throwing.{exception_contents, throws}
use Rattle.cb_plain.specs.Depth.{frame_of, has_room}
use Rattle.cb_plain.specs.declared.class_state.ClassState.{ClassState}
use Rattle.cb_plain.specs.declared.class_state.ClassState.TheVariants as states
use Rattle.cb_plain.specs.declared.shape.Shape.{Shape}
use Rattle.cb_plain.specs.declared.value.Value.{Value}
use Rattle.cb_plain.specs.declared.value.Value.TheVariants.{Int, Ref}
use Rattle.cb_plain.specs.State.{OfMethod, State}
use Rattle.cb_plain.specs.Updates.{with_frames, with_objects}
use Rattle.cb_shapes.specs.declared.sort.Sort.TheVariants as sorts
use Rattle.cb_act.specs.Going.{is_ready}
use Rattle.cb_act.specs.Placing.{at_place, exception_size, made_array, made_object, thrown, with_view}
use Rattle.cb_act.specs.Steps.{StandsBefore, entered_to, view_of}
use Rattle.cb_act.proofs.ObjectSteps.{front}

-- an exception
pub thrown_so : (machine : Machine) (state : State) (site : ℕ) (shapes : List Shape)
    → new_object shapes site (kind_of_site machine.program site) exception_size ≡ object_of site (kind_of_site machine.program site) (exception_contents 0 0)
    → made (throws machine state site) ≡ with_view state (thrown shapes site (kind_of_site machine.program site) (view_of state))
thrown_so machine state site shapes is = rw is refl

module _ (now : Now) (pc : ℕ) (stands : StandsBefore now pc) where
  -- new
  makes_at_so : (site size : ℕ) (shapes : List Shape)
      → new_object shapes site (kind_of_site now.machine.program site) size ≡ object_of site (kind_of_site now.machine.program site) (blank_fields now.machine.program (kind_of_site now.machine.program site))
      → option_map made (option_map (λ pc. goes_to now pc now.frame.locals (Ref (length now.state.objects + 1) ∷ now.frame.stack)
      (with_one (leaving now.state) site (kind_of_site now.machine.program site) (blank_fields now.machine.program (kind_of_site now.machine.program site)))) now.next)
      ≡ Some (with_view now.state (at_place (made_object shapes site (kind_of_site now.machine.program site) size (view_of now.state)) pc))
  makes_at_so site size shapes is =
      rw (is, stands.next)
      (ap (λ frames. Some (with_objects (with_frames now.state (changed_in (placed_at pc) (changed_in (with_stack (λ stack. Ref (length now.state.objects + 1) ∷ stack)) frames)))
      (now.state.objects ++ Some (object_of site (kind_of_site now.machine.program site) (blank_fields now.machine.program (kind_of_site now.machine.program site))) ∷ []))) (sym stands.frames))

  pub makes_so : (kind class site size : ℕ) (shapes : List Shape) → named_here now ≡ meanings.Kind kind → class_of_kind now.machine.program kind ≡ Some class
      → is_ready (slice_get now.state.roots.classes class) ≡ true → site_number now.machine.program now.frame.method now.frame.pc 0 ≡ Some site
      → new_object shapes site (kind_of_site now.machine.program site) size ≡ object_of site (kind_of_site now.machine.program site) (blank_fields now.machine.program (kind_of_site now.machine.program site))
      → option_map made (makes_object now) ≡ Some (with_view now.state (at_place (made_object shapes site (kind_of_site now.machine.program site) size (view_of now.state)) pc))
  makes_so kind class site size shapes names classed ready sited is = go (slice_get now.state.roots.classes class) refl ready where
    go : (own : Option ClassState) → slice_get now.state.roots.classes class ≡ own → is_ready own ≡ true
        → option_map made (makes_object now) ≡ Some (with_view now.state (at_place (made_object shapes site (kind_of_site now.machine.program site) size (view_of now.state)) pc))
    go None at ready = absurd (false≢true ready)
    go (Some states.Untouched) at ready = absurd (false≢true ready)
    go (Some states.Failed) at ready = absurd (false≢true ready)
    go (Some states.Busy) at ready = rw (names, classed, at, sited) (makes_at_so site size shapes is)
    go (Some states.Done) at ready = rw (names, classed, at, sited) (makes_at_so site size shapes is)

  -- invokestatic
  pub enters_so : (method : ℕ) (body : Body) (held rest : List Value) → now.frame.stack ≡ held ++ rest
      → (if has_room now.machine.frames (OfMethod (holding now.frame rest) ∷ now.below) (body.max_locals + body.max_stack)
      then leaving (with_frames now.state (frame_of method body.max_locals body.max_stack (reverse held) ∷ OfMethod (holding now.frame rest) ∷ now.below))
      else throws now.machine now.state stack_overflow)
      ≡ entered_to now method (length held) body
  enters_so method body held rest whole =
      ap (λ held. if has_room now.machine.frames (OfMethod (holding now.frame rest) ∷ now.below) (body.max_locals + body.max_stack)
      then leaving (with_frames now.state (frame_of method body.max_locals body.max_stack (reverse held) ∷ OfMethod (holding now.frame rest) ∷ now.below))
      else throws now.machine now.state stack_overflow) (sym (take-append_seam held rest) ∙ ap (take (length held)) (sym whole))
      ∙ ap (λ rest. if has_room now.machine.frames (OfMethod (holding now.frame rest) ∷ now.below) (body.max_locals + body.max_stack)
      then leaving (with_frames now.state (frame_of method body.max_locals body.max_stack (reverse (take (length held) now.frame.stack)) ∷ OfMethod (holding now.frame rest) ∷ now.below))
      else throws now.machine now.state stack_overflow) (sym (drop-append_seam held rest) ∙ ap (drop (length held)) (sym whole))
      ∙ ap (λ frames. if has_room now.machine.frames frames (body.max_locals + body.max_stack)
      then leaving (with_frames now.state (frame_of method body.max_locals body.max_stack (reverse (take (length held) (on_top [] stack_in frames))) ∷ changed_in (with_stack (λ stack. drop (length held) stack)) frames))
      else throws now.machine now.state stack_overflow) (sym stands.frames)

  pub invokes_so : (class method : ℕ) (numbered : Numbered Method) (body : Body) (held rest : List Value) → named_here now ≡ meanings.Method method
      → class_declaring now.machine.program method ≡ Some class → is_ready (slice_get now.state.roots.classes class) ≡ true
      → taken (asked_sorts now.machine.program method) now.frame.stack ≡ Some (held, rest) → method_numbered now.machine.program method ≡ Some numbered
      → numbered.member.body ≡ Some body → invokes_static now ≡ Some (entered_to now method (length held) body)
  invokes_so class method numbered body held rest names declares ready there is has = go (slice_get now.state.roots.classes class) refl ready where
    entered : Some (if has_room now.machine.frames (OfMethod (holding now.frame rest) ∷ now.below) (body.max_locals + body.max_stack)
        then leaving (with_frames now.state (frame_of method body.max_locals body.max_stack (reverse held) ∷ OfMethod (holding now.frame rest) ∷ now.below))
        else throws now.machine now.state stack_overflow)
        ≡ Some (entered_to now method (length held) body)
    entered = ap Some (enters_so method body held rest (front (asked_sorts now.machine.program method) now.frame.stack held rest there))

    go : (own : Option ClassState) → slice_get now.state.roots.classes class ≡ own → is_ready own ≡ true → invokes_static now ≡ Some (entered_to now method (length held) body)
    go None at ready = absurd (false≢true ready)
    go (Some states.Untouched) at ready = absurd (false≢true ready)
    go (Some states.Failed) at ready = absurd (false≢true ready)
    go (Some states.Busy) at ready = rw (names, declares, at, there, is, has) entered
    go (Some states.Done) at ready = rw (names, declares, at, there, is, has) entered

  -- newarray and anewarray
  makes_sized_so : (site size : ℕ) (rest : List Value) (shapes : List Shape) → now.frame.stack ≡ Int (pos size) ∷ rest
      → new_object shapes site (kind_of_site now.machine.program site) size
      ≡ object_of site (kind_of_site now.machine.program site) (replicate size (blank_element now.machine.program (kind_of_site now.machine.program site)))
      → option_map made (option_map (λ pc. goes_to now pc now.frame.locals (Ref (length now.state.objects + 1) ∷ rest)
      (with_alike (leaving now.state) site (kind_of_site now.machine.program site) (blank_element now.machine.program (kind_of_site now.machine.program site)) size 1)) now.next)
      ≡ Some (with_view now.state (at_place (made_array shapes site (kind_of_site now.machine.program site) size (view_of now.state)) pc))
  makes_sized_so site size rest shapes whole is =
      rw (is, stands.next)
      (ap (λ rest. Some (with_objects (with_frames now.state (changed_in (placed_at pc) (changed_in (with_stack (λ stack. Ref (length now.state.objects + 1) ∷ rest)) (OfMethod now.frame ∷ now.below))))
      (now.state.objects ++ Some (object_of site (kind_of_site now.machine.program site) (replicate size (blank_element now.machine.program (kind_of_site now.machine.program site)))) ∷ [])))
      (ap (drop 1) (sym whole))
      ∙ ap (λ frames. Some (with_objects (with_frames now.state (changed_in (placed_at pc) (changed_in (with_stack (λ stack. Ref (length now.state.objects + 1) ∷ drop 1 (on_top [] stack_in frames))) frames)))
      (now.state.objects ++ Some (object_of site (kind_of_site now.machine.program site) (replicate size (blank_element now.machine.program (kind_of_site now.machine.program site)))) ∷ []))) (sym stands.frames))

  pub makes_array_so : (site size : ℕ) (rest : List Value) (shapes : List Shape) → now.frame.stack ≡ Int (pos size) ∷ rest
      → site_number now.machine.program now.frame.method now.frame.pc 0 ≡ Some site
      → new_object shapes site (kind_of_site now.machine.program site) size
      ≡ object_of site (kind_of_site now.machine.program site) (replicate size (blank_element now.machine.program (kind_of_site now.machine.program site)))
      → option_map made (makes_arrays now 1) ≡ Some (with_view now.state (at_place (made_array shapes site (kind_of_site now.machine.program site) size (view_of now.state)) pc))
  makes_array_so site size rest shapes whole sited is =
      let there : taken (sorts.Int ∷ []) now.frame.stack ≡ Some (Int (pos size) ∷ [], rest) = rw whole refl in
      rw (there, sited) (makes_sized_so site size rest shapes whole is)

  pub negative_so : (below : ℕ) (rest : List Value) → now.frame.stack ≡ Int (negsuc below) ∷ rest → makes_arrays now 1 ≡ Some (throws now.machine now.state negative_size)
  negative_so below rest whole =
      let there : taken (sorts.Int ∷ []) now.frame.stack ≡ Some (Int (negsuc below) ∷ [], rest) = rw whole refl in
      rw there refl
