-- Frames of types (JVMS §4.10.1.4), and which is assignable to which.
use Rattle.std.specs.Prelude.{ℕ, ◌+◌, ◌-◌, Bool, true, false, List, [], ◌∷◌, ◌++◌, Option, Some, None, length, map, option_and_then, replicate, slice_get, slice_set, nat_le, nat_lt, not, ◌==◌, ◌||◌, ◌&&◌, if◌then◌else◌}
use Rattle.std.specs.Cmp.Lexicographic.{pointwise}
use Rattle.std.specs.List.{flat_map, list_any}
use Rattle.cb_link.specs.Program.{Linked}
use Rattle.cb_shapes.specs.declared.sort.Sort.{Sort}
use Rattle.cb_verify.specs.declared.verification_type.VerificationType.{VerificationType}
use Rattle.cb_verify.specs.declared.verification_type.VerificationType.TheVariants.{Top, Long, This, New}
use Rattle.cb_verify.specs.Types.{goes_to, is_of, words}

-- the types of the local variables by number, a long's second one being top; those of the values on the operand stack, the topmost
-- first; and whether a constructor has yet to call another (the standard's flagThisUninit)
pub record Frame : Type 0 where
  pub locals : List VerificationType
  pub stack : List VerificationType
  pub unfinished : Bool

-- the words of the values on a stack, the topmost first: a long has two, of which nothing is known of the upper one (§4.10.1.4)
abbrev pub in_stack_words : VerificationType → List VerificationType → List VerificationType
in_stack_words Long below = Top ∷ Long ∷ below
in_stack_words type below = type ∷ below

abbrev pub stack_words : List VerificationType → List VerificationType
stack_words [] = []
stack_words (type ∷ stack) = in_stack_words type (stack_words stack)

-- one is assignable to another: each local variable, each word on the stack, of which there are as many, and a constructor that is
-- unfinished only to one that is
abbrev pub stack_goes_to : Linked → List VerificationType → List VerificationType → Bool
stack_goes_to program one other = pointwise (goes_to program) (stack_words one) (stack_words other)

abbrev pub frame_goes_to : Linked → Frame → Frame → Bool
frame_goes_to program one other =
    pointwise (goes_to program) one.locals other.locals && stack_goes_to program one.stack other.stack
    && (not one.unfinished || other.unfinished)

-- the words of the values on a stack, and whether it may have so many (§4.10.1.4, operandStackHasLegalLength)
abbrev pub height : List VerificationType → ℕ
height [] = 0
height (type ∷ types) = words type + height types

abbrev pub is_legal : ℕ → List VerificationType → Bool
is_legal most stack = nat_le (height stack) most

-- a frame with another stack, if it may have so many words
abbrev pub with_stack : ℕ → Frame → List VerificationType → Option Frame
with_stack most frame stack =
    if is_legal most stack then Some (record { locals = frame.locals; stack = stack; unfinished = frame.unfinished }) else None

-- a frame with other local variables
abbrev pub with_locals : Frame → List VerificationType → Frame
with_locals frame locals = record { locals = locals; stack = frame.stack; unfinished = frame.unfinished }

-- what a local variable holds, where it is of a sort (§4.10.1.7)
abbrev pub of_sort : Sort → VerificationType → Option VerificationType
of_sort sort type = if is_of sort type then Some type else None

abbrev pub loaded : Sort → ℕ → Frame → Option VerificationType
loaded sort local frame = option_and_then (of_sort sort) (slice_get frame.locals local)

-- local variables in which a value is stored (§4.10.1.7, modifyLocalVariable): a long takes two, and one that lay in this and the
-- one before it is lost
abbrev is_long : Option VerificationType → Bool
is_long (Some Long) = true
is_long other = false

abbrev without_long_before : ℕ → List VerificationType → List VerificationType
without_long_before local locals = if nat_lt 0 local && is_long (slice_get locals (local - 1)) then slice_set locals (local - 1) Top else locals

abbrev placed : ℕ → VerificationType → List VerificationType → List VerificationType
placed local Long locals = slice_set (slice_set locals local Long) (local + 1) Top
placed local type locals = slice_set locals local type

abbrev pub stored : ℕ → VerificationType → List VerificationType → Option (List VerificationType)
stored local type locals =
    if nat_le (local + words type) (length locals) then Some (placed local type (without_long_before local locals)) else None

-- values in local variables, one after the other, and nothing in the others up to so many (§4.10.1.6, expandToLength)
abbrev pub in_words : VerificationType → List VerificationType
in_words Long = Long ∷ Top ∷ []
in_words type = type ∷ []

abbrev pub filled : ℕ → List VerificationType → Option (List VerificationType)
filled most locals = if nat_le (length locals) most then Some (locals ++ replicate (most - length locals) Top) else None

abbrev pub laid : ℕ → List VerificationType → Option (List VerificationType)
laid most types = filled most (flat_map in_words types)

-- whether this is among types
abbrev pub is_this : VerificationType → Bool
is_this This = true
is_this other = false

abbrev pub has_this : List VerificationType → Bool
has_this types = list_any is_this types

-- a type is the same as one that isn't initialised, and types with another put in its place
abbrev pub is_same : VerificationType → VerificationType → Bool
is_same This This = true
is_same (New place) (New other) = place == other
is_same type other = false

abbrev pub replaced : VerificationType → VerificationType → List VerificationType → List VerificationType
replaced old type types = map (λ own. if is_same old own then type else own) types
