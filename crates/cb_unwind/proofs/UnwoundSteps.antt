-- A step of unwinding leaves what the machine's step leaves.
use Rattle.std.proofs.Common.{◌≡◌, ◌∙◌, ap, add-one, refl, sym, ℕ, ◌+◌, suc, Bool, true, false, List, [], ◌∷◌, ◌++◌, length, Option, Some, None}
use Rattle.std.proofs.lemmas.Bool.{false≢true}
use Rattle.std.specs.Prelude.{option_and_then, option_map}
use Rattle.std.specs.List.{find}
use Rattle.cb_classfile.specs.declared.handler.Handler.{Handler}
use Rattle.cb_heap.specs.Kept.{with_content}
use Rattle.cb_heap.specs.Shaped.{new_object}
use Rattle.cb_link.specs.Named.{handlers_at}
use Rattle.cb_link.specs.Subtypes.{instance}
use Rattle.cb_machine.specs.Library.{error}
use Rattle.cb_machine.specs.Machine.{Machine, class_declaring, kind_of_site}
use Rattle.cb_machine.specs.Plans.{asked, made, object_of}
use Rattle.cb_machine.specs.Sites.{exception_in_initializer}
use Rattle.cb_machine.specs.Throwing.{exception_contents}
use Rattle.cb_machine.specs.Unwinding.{takes, unwinding}
use Rattle.cb_plain.specs.declared.class_state.ClassState.TheVariants.{Failed}
use Rattle.cb_plain.specs.declared.shape.Shape.{Shape}
use Rattle.cb_plain.specs.State.{Frame, Initialising, MethodFrame, Object, OfMethod, Reference, State, words_of}
use Rattle.cb_plain.specs.Updates.{object_at, with_class, with_frames, with_objects, with_pending}
use Rattle.cb_unwind.specs.Steps.{unwound_plan, view_of, with_view}
use Rattle.cb_unwind.specs.Unwound.{cause_word, exception_size, unwound, wraps}

-- the cause is put into what was placed last
caused_at : (objects : List (Option Object)) (site kind cause : ℕ)
    → with_content (objects ++ Some (object_of site kind (exception_contents 0 0)) ∷ []) (suc (length objects)) cause_word (Reference cause)
    ≡ objects ++ Some (object_of site kind (exception_contents 0 cause)) ∷ []
caused_at [] site kind cause = refl
caused_at (entry ∷ objects) site kind cause = ap (λ (rest : List (Option Object)). entry ∷ rest) (caused_at objects site kind cause)

caused_so : (objects : List (Option Object)) (site kind cause : ℕ)
    → with_content (objects ++ Some (object_of site kind (exception_contents 0 0)) ∷ []) (length objects + 1) cause_word (Reference cause)
    ≡ objects ++ Some (object_of site kind (exception_contents 0 cause)) ∷ []
caused_so objects site kind cause =
    ap (λ (serial : ℕ). with_content (objects ++ Some (object_of site kind (exception_contents 0 0)) ∷ []) serial cause_word (Reference cause)) (add-one (length objects))
    ∙ caused_at objects site kind cause

module _ (machine : Machine) (state : State) (shapes : List Shape) where
  -- nothing is placed
  abbrev Left : Type 0
  Left = unwinding machine state ≡ option_and_then (unwound_plan state) (unwound machine.program shapes (view_of state))

  of_handler : (object : Object) (frame : MethodFrame) (below : List Frame) → object_at state state.roots.pending ≡ Some object → state.roots.frames ≡ OfMethod frame ∷ below
      → (found : Option Handler) → find (takes machine.program (class_declaring machine.program frame.method) frame.pc object.kind) (handlers_at machine.program frame.method) ≡ found
      → Left
  of_handler object frame below there frames None is = rw (there, frames, is) refl
  of_handler object frame below there frames (Some handler) is = rw (there, frames, is) refl

  of_class : (object : Object) (class place : ℕ) (below : List Frame) → object_at state state.roots.pending ≡ Some object → state.roots.frames ≡ Initialising class place ∷ below
      → wraps machine.program (view_of state) ≡ false → (is : Bool) → instance machine.program object.kind error ≡ is → Left
  of_class object class place below there frames left true is = rw (there, frames, is) refl
  of_class object class place below there frames left false is =
      let wrapping : wraps machine.program (view_of state) ≡ true = rw (there, frames, is) refl in absurd (false≢true (sym left ∙ wrapping))

  of_frames : (object : Object) → object_at state state.roots.pending ≡ Some object → wraps machine.program (view_of state) ≡ false
      → (frames : List Frame) → state.roots.frames ≡ frames → Left
  of_frames object there left [] frames = rw (there, frames) refl
  of_frames object there left (OfMethod frame ∷ below) frames =
      of_handler object frame below there frames (find (takes machine.program (class_declaring machine.program frame.method) frame.pc object.kind) (handlers_at machine.program frame.method)) refl
  of_frames object there left (Initialising class place ∷ below) frames =
      of_class object class place below there frames left (instance machine.program object.kind error) refl

  pub left_so : wraps machine.program (view_of state) ≡ false → Left
  left_so left = by (object_at state state.roots.pending) refl where
    by : (found : Option Object) → object_at state state.roots.pending ≡ found → Left
    by None there = rw there refl
    by (Some object) there = of_frames object there left state.roots.frames refl

  -- the exception is wrapped
  abbrev new_kind : ℕ
  new_kind = kind_of_site machine.program exception_in_initializer

  abbrev IsBlank : Type 0
  IsBlank = new_object shapes exception_in_initializer new_kind exception_size ≡ object_of exception_in_initializer new_kind (exception_contents 0 0)

  abbrev Wraps : Type 0
  Wraps = option_map made (unwinding machine state) ≡ option_map (λ past. with_view state past.1) (unwound machine.program shapes (view_of state))

  of_wrapped : (object : Object) (class place : ℕ) (below : List Frame) → object_at state state.roots.pending ≡ Some object → state.roots.frames ≡ Initialising class place ∷ below
      → instance machine.program object.kind error ≡ false → IsBlank → Wraps
  of_wrapped object class place below there frames is blank =
      rw (there, frames, is, blank)
      (ap (λ (objects : List (Option Object)). Some (with_objects (with_pending (with_class (with_frames state below) class Failed) (length state.objects + 1)) objects))
      (sym (caused_so state.objects exception_in_initializer new_kind state.roots.pending)))

module _ (machine : Machine) (state : State) where
  -- by what stands where an exception is wrapped
  wrapping_at : {P : Type 0} (object : Object) → object_at state state.roots.pending ≡ Some object → wraps machine.program (view_of state) ≡ true
      → ((class place : ℕ) (below : List Frame) → state.roots.frames ≡ Initialising class place ∷ below → instance machine.program object.kind error ≡ false → P)
      → (frames : List Frame) → state.roots.frames ≡ frames → P
  wrapping_at object there wrapping so [] frames =
      let left : wraps machine.program (view_of state) ≡ false = rw (there, frames) refl in absurd (false≢true (sym left ∙ wrapping))
  wrapping_at object there wrapping so (OfMethod frame ∷ below) frames =
      let left : wraps machine.program (view_of state) ≡ false = rw (there, frames) refl in absurd (false≢true (sym left ∙ wrapping))
  wrapping_at {P} object there wrapping so (Initialising class place ∷ below) frames = by (instance machine.program object.kind error) refl where
    by : (is : Bool) → instance machine.program object.kind error ≡ is → P
    by true is = let left : wraps machine.program (view_of state) ≡ false = rw (there, frames, is) refl in absurd (false≢true (sym left ∙ wrapping))
    by false is = so class place below frames is

  wrapping_by : {P : Type 0} → wraps machine.program (view_of state) ≡ true
      → ((object : Object) (class place : ℕ) (below : List Frame) → object_at state state.roots.pending ≡ Some object
      → state.roots.frames ≡ Initialising class place ∷ below → instance machine.program object.kind error ≡ false → P)
      → (found : Option Object) → object_at state state.roots.pending ≡ found → P
  wrapping_by wrapping so None there =
      let left : wraps machine.program (view_of state) ≡ false = rw there refl in absurd (false≢true (sym left ∙ wrapping))
  wrapping_by wrapping so (Some object) there =
      wrapping_at object there wrapping (λ class place below frames is. so object class place below there frames is) state.roots.frames refl

  pub wrapped_so : (shapes : List Shape) → wraps machine.program (view_of state) ≡ true
      → new_object shapes exception_in_initializer (kind_of_site machine.program exception_in_initializer) exception_size
      ≡ object_of exception_in_initializer (kind_of_site machine.program exception_in_initializer) (exception_contents 0 0)
      → option_map made (unwinding machine state) ≡ option_map (λ past. with_view state past.1) (unwound machine.program shapes (view_of state))
  wrapped_so shapes wrapping blank =
      wrapping_by wrapping (λ object class place below there frames is. of_wrapped machine state shapes object class place below there frames is blank)
      (object_at state state.roots.pending) refl

  pub asked_so : wraps machine.program (view_of state) ≡ true
      → option_map asked (unwinding machine state) ≡ Some (record { site = exception_in_initializer; words = words_of exception_size } ∷ [])
  asked_so wrapping =
      wrapping_by wrapping (λ object class place below there frames is. rw (there, frames, is) refl) (object_at state state.roots.pending) refl
