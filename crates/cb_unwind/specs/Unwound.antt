-- What a step of unwinding leaves of roots and objects: a pending exception looks for its handler (JVMS §2.10, §5.5).
use Rattle.std.specs.Prelude.{◌≡◌, ◌<◌, ◌≤◌, ℕ, ◌+◌, ◌^◌, Bool, true, false, not, List, [], ◌∷◌, ◌++◌, length, Option, Some, None, option_map, slice_get, if◌then◌else◌}
use Rattle.std.specs.List.{find}
use Rattle.cb_frames.specs.Tops.{cleared, left, placed, pushed, top_room, topmost}
use Rattle.cb_frames.specs.declared.frame.Frame.{Frame}
use Rattle.cb_frames.specs.declared.frame.Frame.TheVariants as shown
use Rattle.cb_heap.specs.Closed.{IsClosed}
use Rattle.cb_heap.specs.Kept.{with_content}
use Rattle.cb_heap.specs.Reading.{View}
use Rattle.cb_heap.specs.Shaped.{new_object}
use Rattle.cb_link.specs.Having.{site_kinds}
use Rattle.cb_link.specs.Named.{handlers_at}
use Rattle.cb_link.specs.Program.{Linked}
use Rattle.cb_link.specs.Subtypes.{instance}
use Rattle.cb_machine.specs.Library.{error}
use Rattle.cb_machine.specs.Machine.{class_declaring, kind_of_site}
use Rattle.cb_machine.specs.Sites.{exception_in_initializer}
use Rattle.cb_machine.specs.Unwinding.{takes}
use Rattle.cb_plain.specs.declared.class_state.ClassState.TheVariants.{Failed}
use Rattle.cb_plain.specs.declared.shape.Shape.{Shape}
use Rattle.cb_plain.specs.declared.shape.Shape.TheVariants.{Fields}
use Rattle.cb_plain.specs.declared.value.Value.TheVariants.{Ref}
use Rattle.cb_plain.specs.declared.want.Want.{Want}
use Rattle.cb_plain.specs.Requests.{words_at}
use Rattle.cb_plain.specs.Roots.{with_pending}
use Rattle.cb_plain.specs.State.{Object, Reference, Roots, words_of}
use Rattle.cb_plain.specs.Updates.{object_in}
use Rattle.cb_unwind.specs.declared.answers.Unwound.{Unwound}
use Rattle.cb_unwind.specs.declared.answers.Unwound.TheVariants.{NoFrame, Caught, Popped, Wrapped}
use Rattle.cb_unwind.specs.Initialised.{ended}

-- a handler at a place of the topmost method takes the exception: it stands alone on the stack
abbrev pub caught : ℕ → Roots → Roots
caught pc roots = with_pending (placed (pushed (cleared roots) (Ref roots.pending)) pc) 0

-- a handler of a class takes exceptions of a kind
abbrev pub is_caught_as : Linked → ℕ → Option ℕ → Bool
is_caught_as program kind None = false
is_caught_as program kind (Some other) = instance program kind other

-- the place of the first handler of a method, in the order of its table, that takes an exception of a kind at a place
abbrev pub handler_for : Linked → (method pc kind : ℕ) → Option ℕ
handler_for program method pc kind =
    option_map (λ handler. handler.handler) (find (takes program (class_declaring program method) pc kind) (handlers_at program method))

-- a method's frame: its handler goes on, or the frame ends
abbrev pub past_method : Roots → Option ℕ → Unwound × Roots
past_method roots None = (Popped, left roots)
past_method roots (Some pc) = (Caught, caught pc roots)

-- an exception has a message, a cause and what was suppressed: three words, and the cause in the second
abbrev pub exception_size : ℕ
exception_size = 3

abbrev pub cause_word : ℕ
cause_word = 1

-- an ExceptionInInitializerError of a kind, whose cause is the pending exception, becomes pending
abbrev pub wrapped : List Shape → (kind : ℕ) → View → View
wrapped shapes kind view =
    record { roots = with_pending view.roots (length view.objects + 1); objects = with_content (view.objects ++ Some (new_object shapes exception_in_initializer kind exception_size) ∷ []) (length view.objects + 1) cause_word (Reference view.roots.pending) }

-- an initialisation fails, and its frame ends. An exception that is no Error is wrapped
abbrev pub with_roots_of : View → Roots → View
with_roots_of view roots = record { roots = roots; objects = view.objects }

abbrev pub failed : ℕ → View → View
failed class view = with_roots_of view (ended Failed class view.roots)

abbrev pub past_class : Linked → List Shape → View → (kind class : ℕ) → Unwound × View
past_class program shapes view kind class =
    if instance program kind error then (Popped, failed class view)
    else (Wrapped, failed class (wrapped shapes (kind_of_site program exception_in_initializer) view))

abbrev pub seen_as : View → Unwound × Roots → Unwound × View
seen_as view past = (past.0, with_roots_of view past.1)

abbrev pub past_top : Linked → List Shape → View → ℕ → Option Frame → Unwound × View
past_top program shapes view kind None = (NoFrame, view)
past_top program shapes view kind (Some (shown.Running method pc)) = seen_as view (past_method view.roots (handler_for program method pc kind))
past_top program shapes view kind (Some (shown.Initialising class place)) = past_class program shapes view kind class

-- the step, by the kind of the exception and the topmost frame, with what it has done
abbrev pub unwound : Linked → List Shape → View → Option (Unwound × View)
unwound program shapes view =
    option_map (λ object. past_top program shapes view object.kind (topmost view.roots.frames)) (object_in view.objects view.roots.pending)

-- whether it wraps the exception
abbrev pub wraps_kind : Linked → Option Frame → ℕ → Bool
wraps_kind program None kind = false
wraps_kind program (Some (shown.Running method pc)) kind = false
wraps_kind program (Some (shown.Initialising class place)) kind = not (instance program kind error)

abbrev pub wraps_object : Linked → Option Frame → Option Object → Bool
wraps_object program top None = false
wraps_object program top (Some object) = wraps_kind program top object.kind

abbrev pub wraps : Linked → View → Bool
wraps program view = wraps_object program (topmost view.roots.frames) (object_in view.objects view.roots.pending)

-- the pending exception is of this kind, and of a kind of the program
abbrev pub IsPendingKind : View → ℕ → Type 0
IsPendingKind view kind = option_map (λ object. object.kind) (object_in view.objects view.roots.pending) ≡ Some kind

abbrev pub HasPendingKind : Linked → View → Type 0
HasPendingKind program view = (object : Object) → object_in view.objects view.roots.pending ≡ Some object → object.kind < length program.kinds

-- a method's frame on top is that of a method of the program, and where a handler takes the exception there is room for it on the stack
abbrev pub RunsOnTop : Roots → (method pc : ℕ) → Type 0
RunsOnTop roots method pc = Some (shown.Running method pc) ≡ topmost roots.frames

abbrev pub MethodBelow : (count : ℕ) → Roots → Type 0
MethodBelow count roots = (method pc : ℕ) → RunsOnTop roots method pc → method < count

abbrev pub MayCatch : Linked → Roots → Type 0
MayCatch program roots =
    (method pc kind place : ℕ) → RunsOnTop roots method pc → handler_for program method pc kind ≡ Some place → 0 < top_room (cleared roots)

-- what is asked where an exception is wrapped: room for the one that wraps it, which has the words of an exception and may refer to it
pub record MayWrap (program : Linked) (shapes : List Shape) (room : List Want) (allows : ℕ → ℕ → Bool) (view : View) : Type 0 where
  pub granted : words_of exception_size ≤ words_at room exception_in_initializer
  pub site : exception_in_initializer < length (site_kinds program)
  pub shape : slice_get shapes (kind_of_site program exception_in_initializer) ≡ Some (Fields (true ∷ true ∷ true ∷ []))
  pub serials : length view.objects + 1 < 2 ^ 63
  pub closed : IsClosed view
  pub allowed : (object : Object) → object_in view.objects view.roots.pending ≡ Some object → allows exception_in_initializer object.site ≡ true
