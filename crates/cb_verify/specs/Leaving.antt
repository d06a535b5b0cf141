-- What an instruction leaves of the frame before it, where its rule is met (JVMS §4.10.1.9).
use Rattle.std.specs.Prelude.{ℕ, Bool, false, List, [], ◌∷◌, Option, Some, None, option_and_then, option_map, slice_get, not, ◌==◌, ◌||◌, ◌&&◌, if◌then◌else◌, is_none}
use Rattle.std.specs.List.{list_any}
use Rattle.cb_insn.specs.declared.insn.Insn.{Insn}
use Rattle.cb_hierarchy.specs.Classes.{listed}
use Rattle.cb_kinds.specs.Kinds.{is_array}
use Rattle.cb_link.specs.Named.{code_at, insn_in, kind_at}
use Rattle.cb_link.specs.Numbers.{or_none}
use Rattle.cb_shapes.specs.declared.action.Action.{Action}
use Rattle.cb_shapes.specs.declared.action.Action.TheVariants as actions
use Rattle.cb_shapes.specs.declared.sort.Sort.{Sort}
use Rattle.cb_shapes.specs.declared.sort.Sort.TheVariants as sorts
use Rattle.cb_shapes.specs.Operands.{takes}
use Rattle.cb_shapes.specs.Shapes.{action_of}
use Rattle.cb_shapes.specs.Shuffles.{shuffled}
use Rattle.cb_verify.specs.declared.verification_type.VerificationType.{VerificationType}
use Rattle.cb_verify.specs.declared.verification_type.VerificationType.TheVariants.{Top, This, Object, New}
use Rattle.cb_verify.specs.Frames.{Frame, is_same, loaded, replaced, stored, with_locals, with_stack}
use Rattle.cb_verify.specs.Calls.{call_interface, call_special, call_static, call_virtual, exchanged, get_field, popped, put_field, put_on, return_with}
use Rattle.cb_verify.specs.Members.{Member, given_types, member_at, taken_types}
use Rattle.cb_verify.specs.Rules.{given, taken}
use Rattle.cb_verify.specs.Types.{category}
use Rattle.cb_verify.specs.Within.{Within, holder, is_init, kind_named, name_at}

-- loads and stores of local variables, and iinc (§4.10.1.7)
abbrev pub load : Within → Sort → ℕ → Frame → Option Frame
load method sort local frame = option_and_then (λ type. put_on method frame (type ∷ []) frame.stack) (loaded sort local frame)

abbrev pub store_taken : Within → ℕ → Frame → List VerificationType × List VerificationType → Option Frame
store_taken method local frame (type ∷ [], rest) =
    option_and_then (λ locals. with_stack method.body.max_stack (with_locals frame locals) rest) (stored local type frame.locals)
store_taken method local frame other = None

abbrev pub store : Within → Sort → ℕ → Frame → Option Frame
store method sort local frame = option_and_then (store_taken method local frame) (taken (sort ∷ []) frame.stack)

abbrev pub increase : ℕ → Frame → Option Frame
increase local frame = option_map (λ type. frame) (loaded sorts.Int local frame)

-- new (§4.10.1.9): of a class. What it made before can't be used any more, and may not be on the stack
abbrev pub makes_object : Within → ℕ → Bool
makes_object method index = is_class (kind_named method index) where
  is_class : Option ℕ → Bool
  is_class None = false
  is_class (Some kind) = not (is_array (or_none (slice_get method.program.kinds kind)))

abbrev pub make : Within → ℕ → ℕ → Frame → Option Frame
make method pc index frame =
    if makes_object method index && not (list_any (is_same (New pc)) frame.stack)
    then put_on method (with_locals frame (replaced (New pc) Top frame.locals)) (New pc ∷ []) frame.stack
    else None

-- the kind of the object that the `new` at a place makes, if one stands there
abbrev pub new_of : Within → Option Action → Option ℕ
new_of method (Some (actions.New index)) = kind_named method index
new_of method other = None

abbrev pub new_kind : Within → ℕ → Option ℕ
new_kind method place = new_of method (option_and_then action_of (insn_in (code_at method.program method.number) place))

-- what a constructor makes of an object, by the kind of the class that declares it: of this one, if it is a constructor of its own
-- class or of the superclass, and of a new one of the very class
abbrev is_kind : ℕ → Option ℕ → Bool
is_kind kind None = false
is_kind kind (Some other) = kind == other

abbrev pub superclass_of : Within → Option ℕ
superclass_of method = option_and_then (λ class. kind_at method.program method.class class.super_class) (slice_get method.program.classes method.class)

abbrev pub finished : Within → ℕ → VerificationType → Option VerificationType
finished method kind This =
    if (kind == method.class) || is_kind kind (superclass_of method) then Some (Object method.class) else None
finished method kind (New place) = if is_kind kind (new_kind method place) then Some (Object kind) else None
finished method kind other = None

-- whether a constructor is unfinished when another was called on an object
abbrev still_unfinished : VerificationType → Bool → Bool
still_unfinished This before = false
still_unfinished other before = before

abbrev pub all_replaced : VerificationType → VerificationType → Frame → List VerificationType → Frame
all_replaced old type frame rest =
    record { locals = replaced old type frame.locals; stack = replaced old type rest; unfinished = still_unfinished old frame.unfinished }

-- invokespecial of a constructor: the object is below the arguments
abbrev pub constructed : Within → ℕ → Frame → List VerificationType → Option Frame
constructed method kind frame [] = None
constructed method kind frame (object ∷ rest) = option_map (λ type. all_replaced object type frame rest) (finished method kind object)

abbrev pub construct : Within → ℕ → Member → Frame → Option Frame
construct method index member frame =
    if is_none member.gives
    then option_and_then (λ kind. option_and_then (constructed method kind frame) (popped method.program (taken_types member) frame.stack)) (holder method index)
    else None

-- what names no member and only exchanges values: it takes by sorts, and gives by its rule
abbrev pub exchange : Within → ℕ → Action → Frame → Option Frame
exchange method pc action frame =
    option_and_then (λ off. option_and_then (λ type. put_on method frame (listed type) off.1) (given method pc action off.0))
    (taken (takes [] action) frame.stack)

abbrev pub left_with : Within → ℕ → Member → Action → Frame → Option Frame
left_with method pc member (actions.Load sort local) frame = load method sort local frame
left_with method pc member (actions.Store sort local) frame = store method sort local frame
left_with method pc member (actions.Increase local by) frame = increase local frame
left_with method pc member (actions.Shuffle shuffle) frame =
    option_and_then (with_stack method.body.max_stack frame) (shuffled category shuffle frame.stack)
left_with method pc member (actions.New index) frame = make method pc index frame
left_with method pc member (actions.GetField index) frame = get_field method index member frame
left_with method pc member (actions.PutField index) frame = put_field method index member frame
left_with method pc member (actions.GetStatic index) frame = exchanged method frame (given_types member) []
left_with method pc member (actions.PutStatic index) frame = exchanged method frame [] (taken_types member)
left_with method pc member (actions.Return sort) frame = return_with method sort frame
left_with method pc member (actions.InvokeStatic index) frame = call_static method index member frame
left_with method pc member (actions.InvokeSpecial index) frame =
    if is_init (name_at method index) then construct method index member frame else call_special method index member frame
left_with method pc member (actions.InvokeVirtual index) frame = call_virtual method index member frame
left_with method pc member (actions.InvokeInterface index count) frame = call_interface method index count member frame
left_with method pc member action frame = exchange method pc action frame

abbrev pub left : Within → ℕ → Insn → Frame → Option Frame
left method pc insn frame = option_and_then (λ action. left_with method pc (member_at method pc) action frame) (action_of insn)
