-- Instructions on fields and methods (JVMS §4.10.1.9, getfield to invokeinterface) and the returns.
use Rattle.std.specs.Prelude.{ℕ, Bool, false, List, [], ◌∷◌, ◌++◌, Option, Some, None, option_and_then, not, ◌==◌, ◌||◌, ◌&&◌, if◌then◌else◌, is_none}
use Rattle.std.specs.Option.{option_or}
use Rattle.cb_kinds.specs.declared.basic.Basic.{Basic}
use Rattle.cb_link.specs.Program.{Linked}
use Rattle.cb_shapes.specs.declared.sort.Sort.{Sort}
use Rattle.cb_verify.specs.declared.verification_type.VerificationType.{VerificationType}
use Rattle.cb_verify.specs.declared.verification_type.VerificationType.TheVariants.{Object, This}
use Rattle.cb_verify.specs.Frames.{Frame, height, with_stack}
use Rattle.cb_verify.specs.Members.{Member, given_types, taken_types}
use Rattle.cb_verify.specs.Types.{goes_to, is_of, kind_goes_to, type_of}
use Rattle.cb_verify.specs.Within.{Within, holder, is_clinit, is_init, name_at, result_of}

-- what is left of a stack when values are taken off it that are assignable to types (canPop of the standard)
abbrev pub popped : Linked → List VerificationType → List VerificationType → Option (List VerificationType)
popped program [] stack = Some stack
popped program (wanted ∷ more) [] = None
popped program (wanted ∷ more) (type ∷ stack) = if goes_to program type wanted then popped program more stack else None

-- values put on what is left
abbrev pub put_on : Within → Frame → List VerificationType → List VerificationType → Option Frame
put_on method frame types rest = with_stack method.body.max_stack frame (types ++ rest)

abbrev pub exchanged : Within → Frame → List VerificationType → List VerificationType → Option Frame
exchanged method frame given wanted = option_and_then (put_on method frame given) (popped method.program wanted frame.stack)

-- what a member takes on an object of a kind: the object is below the value or the arguments
abbrev pub on_object : List VerificationType → ℕ → List VerificationType
on_object types kind = types ++ Object kind ∷ []

-- getfield and putfield, on an object of the class that the constant names
abbrev pub get_field : Within → ℕ → Member → Frame → Option Frame
get_field method index member frame =
    option_and_then (λ kind. exchanged method frame (given_types member) (on_object [] kind)) (holder method index)

-- or, for putfield, on the object of a constructor, of which it may set a field of the class before another is called
abbrev pub without_this : List VerificationType → Option (List VerificationType)
without_this (This ∷ rest) = Some rest
without_this other = None

abbrev is_own : Within → Option ℕ → Bool
is_own method None = false
is_own method (Some kind) = kind == method.class

abbrev pub may_set_early : Within → ℕ → Bool
may_set_early method index = method.is_constructor && is_own method (holder method index)

abbrev pub put_early : Within → ℕ → Member → Frame → Option Frame
put_early method index member frame =
    if may_set_early method index
    then option_and_then (put_on method frame []) (option_and_then without_this (popped method.program (taken_types member) frame.stack))
    else None

abbrev pub put_field : Within → ℕ → Member → Frame → Option Frame
put_field method index member frame =
    option_or (put_early method index member frame)
    (option_and_then (λ kind. exchanged method frame [] (on_object (taken_types member) kind)) (holder method index))

-- a method that instructions may call by its name: no constructor and no initialiser of a class
abbrev pub is_callable : List ℕ → Bool
is_callable name = not (is_init name || is_clinit name)

-- invokestatic, invokevirtual and invokeinterface, whose count is that of the words of the arguments and the object
abbrev pub call_static : Within → ℕ → Member → Frame → Option Frame
call_static method index member frame =
    if is_callable (name_at method index) then exchanged method frame (given_types member) (taken_types member) else None

abbrev pub call_on : Within → ℕ → Member → Frame → ℕ → Option Frame
call_on method index member frame kind =
    if is_callable (name_at method index) then exchanged method frame (given_types member) (on_object (taken_types member) kind) else None

abbrev pub call_virtual : Within → ℕ → Member → Frame → Option Frame
call_virtual method index member frame = option_and_then (call_on method index member frame) (holder method index)

abbrev pub call_interface : Within → ℕ → ℕ → Member → Frame → Option Frame
call_interface method index count member frame =
    if count == height (on_object (taken_types member) 0) then call_virtual method index member frame else None

-- invokespecial of a method that is no constructor: on an object of the class itself, of a method of this class or of one above
abbrev pub call_above : Within → ℕ → Member → Frame → ℕ → Option Frame
call_above method index member frame kind =
    if kind_goes_to method.program method.class kind
    then option_and_then (λ rest. call_on method index member frame method.class) (popped method.program (on_object (taken_types member) kind) frame.stack)
    else None

abbrev pub call_special : Within → ℕ → Member → Frame → Option Frame
call_special method index member frame = option_and_then (call_above method index member frame) (holder method index)

-- the returns: of a result that is what the method gives, and of none, which ends a constructor only when another was called
abbrev return_of : Within → Sort → Frame → Basic → Option Frame
return_of method sort frame result =
    if is_of sort (type_of result) then exchanged method frame [] (type_of result ∷ []) else None

abbrev pub return_with : Within → Option Sort → Frame → Option Frame
return_with method None frame = if is_none (result_of method) && not frame.unfinished then Some frame else None
return_with method (Some sort) frame = option_and_then (return_of method sort frame) (result_of method)
