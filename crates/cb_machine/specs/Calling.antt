-- Calls and returns (JVMS §2.6.4, §6.5 invokestatic to invokeinterface, ireturn to return; §5.4.5). A native is performed within the step
-- of its caller.
use Rattle.std.specs.Prelude.{ℕ, Bool, List, [], ◌∷◌, ◌++◌, map, reverse, Option, Some, None, option_and_then, option_map, if◌then◌else◌}
use Rattle.cb_classfile.specs.declared.body.Body.{Body}
use Rattle.cb_hierarchy.specs.Resolution.{is_private, method_is}
use Rattle.cb_hierarchy.specs.declared.selected.Selected.{Selected}
use Rattle.cb_hierarchy.specs.declared.selected.Selected.TheVariants as chosen
use Rattle.cb_kinds.specs.Texts.{number_of}
use Rattle.cb_library.specs.declared.native.Native.{Native}
use Rattle.cb_link.specs.Calls.{select}
use Rattle.cb_link.specs.Having.{parameters_at}
use Rattle.cb_link.specs.Named.{behind_in, code_at}
use Rattle.cb_link.specs.Numbers.{class_number, ranked_methods}
use Rattle.cb_link.specs.Program.{Linked}
use Rattle.cb_link.specs.Special.{class_declaring, holder_named, method_numbered, special}
use Rattle.cb_link.specs.Subtypes.{instance}
use Rattle.cb_link.specs.declared.named.Named.{Named}
use Rattle.cb_link.specs.declared.named.Named.TheVariants as meanings
use Rattle.cb_plain.specs.declared.value.Value.{Value}
use Rattle.cb_plain.specs.declared.value.Value.TheVariants.{Ref}
use Rattle.cb_plain.specs.State.{Frame, MethodFrame, OfMethod}
use Rattle.cb_plain.specs.Updates.{with_frames}
use Rattle.cb_shapes.specs.declared.sort.Sort.{Sort}
use Rattle.cb_shapes.specs.declared.sort.Sort.TheVariants as sorts
use Rattle.cb_machine.specs.Arrays.{with_object}
use Rattle.cb_machine.specs.Entering.{entered_upon}
use Rattle.cb_machine.specs.Initialising.{once_ready}
use Rattle.cb_machine.specs.Natives.{native_of, performed}
use Rattle.cb_machine.specs.Performing.{Performed, Gives, Stops}
use Rattle.cb_machine.specs.Plans.{Plan, leaving, with_left}
use Rattle.cb_machine.specs.Sites.{abstract_method, incompatible_class_change}
use Rattle.cb_machine.specs.Standing.{Now, at_place, taken, with_stack, named_here}
use Rattle.cb_machine.specs.Throwing.{throws}
use Rattle.cb_machine.specs.Values.{sort_of_basic}

-- an answer is laid on the stack of the frame that waits for it, which goes on behind its call
abbrev pub answered : Linked → MethodFrame → List Value → Option MethodFrame
answered program frame answer =
    option_map (λ pc. at_place frame pc frame.locals (answer ++ frame.stack)) (behind_in (code_at program frame.method) frame.pc)

-- a native either gives an answer, or stops the call before it has one: something was thrown, or has to be done first
abbrev by_native : Now → List Value → Performed → Option Plan
by_native now rest (Stops plan) = Some plan
by_native now rest (Gives plan answer) =
    option_map (λ frame. with_left plan (with_frames plan.left (OfMethod frame ∷ now.below))) (answered now.machine.program (with_stack now.frame rest) answer)

-- a method is invoked with its arguments, the receiver first, where they were taken from the stack: one with code is entered, a native
-- performed, and any other is abstract
abbrev throws_abstract : Now → Option Plan
throws_abstract now = Some (throws now.machine now.state abstract_method)

abbrev without_body : Now → List Value → List Value → Option Native → Option Plan
without_body now arguments rest None = throws_abstract now
without_body now arguments rest (Some native) = option_and_then (by_native now rest) (performed now.machine now.state native arguments)

abbrev by_body : Now → ℕ → List Value → List Value → Option Body → Option Plan
by_body now method arguments rest None = without_body now arguments rest (native_of now.machine.program method)
by_body now method arguments rest (Some body) =
    Some (entered_upon now.machine now.state (OfMethod (with_stack now.frame rest) ∷ now.below) method arguments body)

abbrev pub by_method : Now → List Value → List Value → Selected → Option Plan
by_method now arguments rest (chosen.Method number) =
    option_and_then (λ numbered. by_body now number arguments rest numbered.member.body) (method_numbered now.machine.program number)
by_method now arguments rest chosen.Abstract = throws_abstract now
by_method now arguments rest chosen.Several = Some (throws now.machine now.state incompatible_class_change)

-- the sorts of what a call takes, the last parameter being the topmost
abbrev pub asked_sorts : Linked → ℕ → List Sort
asked_sorts program method = reverse (map sort_of_basic (parameters_at program method))

-- invokestatic, once the class that declares the method is ready
abbrev invokes_taken : Now → ℕ → List Value × List Value → Option Plan
invokes_taken now method taken = by_method now (reverse taken.0) taken.1 (chosen.Method method)

abbrev invokes_ready : Now → ℕ → Option Plan
invokes_ready now method = option_and_then (invokes_taken now method) (taken (asked_sorts now.machine.program method) now.frame.stack)

abbrev invokes_named : Now → Named → Option Plan
invokes_named now (meanings.Method method) =
    option_and_then (λ class. once_ready now.machine now.state class (invokes_ready now method)) (class_declaring now.machine.program method)
invokes_named now other = None

abbrev pub invokes_static : Now → Option Plan
invokes_static now = invokes_named now (named_here now)

-- the other calls take a receiver, which isn't null. Which method is run is said of the object's kind
abbrev receives : Now → (ℕ → Selected) → List Value → List Value → Option Plan
receives now choose (Ref serial ∷ arguments) rest =
    with_object now serial (λ object. by_method now (Ref serial ∷ arguments) rest (choose object.kind))
receives now choose other rest = None

abbrev calls_taken : Now → (ℕ → Selected) → List Value × List Value → Option Plan
calls_taken now choose taken = receives now choose (reverse taken.0) taken.1

abbrev pub calls : Now → (ℕ → Selected) → ℕ → Option Plan
calls now choose method =
    option_and_then (calls_taken now choose) (taken (asked_sorts now.machine.program method ++ sorts.Reference ∷ []) now.frame.stack)

-- invokevirtual selects by the object's kind
abbrev calls_virtual : Now → Named → Option Plan
calls_virtual now (meanings.Method method) = calls now (λ kind. select now.machine.program kind method) method
calls_virtual now other = None

abbrev pub invokes_virtual : Now → Option Plan
invokes_virtual now = calls_virtual now (named_here now)

-- the class or interface whose member a call names
abbrev holder_name : Now → ℕ → Option (List ℕ)
holder_name now index = holder_named now.machine.program now.frame.method index

-- invokeinterface selects where the object's class implements the interface, and else ends as where several are selected. A private
-- method can't be invoked so, whatever the object (§6.5 invokeinterface)
abbrev pub implementing : Linked → ℕ → Option ℕ → ℕ → Selected
implementing program method None kind = chosen.Several
implementing program method (Some interface) kind = if instance program kind interface then select program kind method else chosen.Several

abbrev pub is_private_method : Linked → ℕ → Bool
is_private_method program method = method_is (ranked_methods program.classes) (λ own. is_private own.visibility) method

abbrev calls_interface : Now → ℕ → Named → Option Plan
calls_interface now index (meanings.Method method) =
    if is_private_method now.machine.program method then Some (throws now.machine now.state incompatible_class_change)
    else calls now (implementing now.machine.program method (option_and_then (number_of now.machine.program.kinds) (holder_name now index))) method
calls_interface now index other = None

abbrev pub invokes_interface : Now → ℕ → Option Plan
invokes_interface now index = calls_interface now index (named_here now)

-- which method an invokespecial runs isn't said of the object
abbrev calls_special : Now → ℕ → Named → Option Plan
calls_special now index (meanings.Method method) =
    calls now (λ kind. special now.machine.program method (class_declaring now.machine.program now.frame.method)
    (option_and_then (class_number now.machine.program.classes) (holder_name now index))) method
calls_special now index other = None

abbrev pub invokes_special : Now → ℕ → Option Plan
invokes_special now index = calls_special now index (named_here now)

-- a return ends the frame. Below it stands a method that waits for the answer, or else nothing waits
abbrev returned_to : Linked → List Value → List Frame → Option (List Frame)
returned_to program answer (OfMethod frame ∷ below) = option_map (λ now. OfMethod now ∷ below) (answered program frame answer)
returned_to program answer other = Some other

abbrev asked_by : Option Sort → List Sort
asked_by None = []
asked_by (Some sort) = sort ∷ []

abbrev returns_taken : Now → List Value × List Value → Option Plan
returns_taken now taken =
    option_map (λ frames. leaving (with_frames now.state frames)) (returned_to now.machine.program taken.0 now.below)

abbrev pub returns : Now → Option Sort → Option Plan
returns now sort = option_and_then (returns_taken now) (taken (asked_by sort) now.frame.stack)
