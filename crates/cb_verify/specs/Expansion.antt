-- The frames that a method declares, in full (JVMS §4.7.4, §4.10.1.4), and the one with which it begins (§4.10.1.6).
use Rattle.std.specs.Prelude.{ℕ, List, [], ◌∷◌, ◌++◌, map, Option, Some, None, is_some, option_and_then, option_map, ◌==◌, ◌&&◌, if◌then◌else◌}
use Rattle.std.specs.List.{find}
use Rattle.cb_classfile.specs.declared.frame_form.FrameForm.{FrameForm}
use Rattle.cb_classfile.specs.declared.frame_map.MapFrame.{MapFrame}
use Rattle.cb_classfile.specs.declared.map_type.MapType.{MapType}
use Rattle.cb_classfile.specs.declared.map_type.MapType.TheVariants as types
use Rattle.cb_classfile.specs.Expansion.{all_of, frames_behind, locals_in}
use Rattle.cb_classfile.specs.FrameMap.{form_of_frame}
use Rattle.cb_verify.specs.declared.verification_type.VerificationType.{VerificationType}
use Rattle.cb_verify.specs.declared.verification_type.VerificationType.TheVariants.{Top, Int, Long, Null, This, Object, New}
use Rattle.cb_verify.specs.Frames.{Frame, has_this, is_legal, laid}
use Rattle.cb_verify.specs.Leaving.{new_kind}
use Rattle.cb_verify.specs.Types.{type_of}
use Rattle.cb_verify.specs.Within.{Within, kind_named, parameters, result_of}

-- what a type in a file says. One that isn't initialised is of a place at which `new` stands
abbrev pub type_in : Within → MapType → Option VerificationType
type_in method types.Top = Some Top
type_in method types.Integer = Some Int
type_in method types.Long = Some Long
type_in method types.Null = Some Null
type_in method types.UninitializedThis = Some This
type_in method (types.Object index) = option_map Object (kind_named method index)
type_in method (types.Uninitialized place) = option_map (λ kind. New place) (new_kind method place)
type_in method other = None

abbrev pub types_in : Within → List MapType → Option (List VerificationType)
types_in method kinds = all_of (map (type_in method) kinds)

-- the object of a method that isn't static, which isn't ready yet in a constructor, and the parameters
abbrev pub this_types : Within → List VerificationType
this_types method =
    if method.is_static then [] else if method.is_constructor then This ∷ [] else Object method.class ∷ []

abbrev pub start_types : Within → List VerificationType
start_types method = this_types method ++ map type_of (parameters method)

-- types on a stack, one after the other
abbrev pub reversed : List VerificationType → List VerificationType → List VerificationType
reversed behind [] = behind
reversed behind (type ∷ more) = reversed (type ∷ behind) more

-- a frame with these values in its local variables and on its stack, the topmost last, if it may have so many
abbrev pub frame_of : Within → List VerificationType → List VerificationType → Option Frame
frame_of method values stacked =
    if is_legal method.body.max_stack stacked
    then option_map (λ locals. record { locals = locals; stack = reversed [] stacked; unfinished = has_this values }) (laid method.body.max_locals values)
    else None

-- the frame with which a method begins, if it has room for its parameters. A constructor gives nothing (§4.3.3)
abbrev pub start : Within → Option Frame
start method = if method.is_constructor && is_some (result_of method) then None else frame_of method (start_types method) []

-- the values in the local variables of a frame by those before it, if both are there
abbrev pub values_in : Within → FrameForm → MapFrame → Option (List VerificationType) → Option (List VerificationType)
values_in method form frame before = locals_in (type_in method) form frame before

-- values for which the method's local variables have room
abbrev pub fitting : Within → List VerificationType → Option (List VerificationType)
fitting method values = option_map (λ locals. values) (laid method.body.max_locals values)

-- the frames behind one at a place with such values, or behind the method's start. None stands for one that can't be expanded: its
-- types can't be had, it takes off more values than there are, it has more words than the method's frames, or the values before it
-- can't be had
abbrev pub expanded : Within → Option (List VerificationType) → List MapType → Option Frame
expanded method values stacked = option_and_then (λ locals. option_and_then (frame_of method locals) (types_in method stacked)) values

abbrev pub declared_behind : Within → Option ℕ → Option (List VerificationType) → List MapFrame → List (ℕ × Option Frame)
declared_behind method previous before frames =
    frames_behind (λ frame values. option_and_then (fitting method) (values_in method (form_of_frame frame.kind) frame values))
    (λ place values stack. (place, expanded method values stack)) previous before frames

abbrev pub declared : Within → List (ℕ × Option Frame)
declared method = declared_behind method None (fitting method (start_types method)) method.body.frames

-- the one at a place
abbrev pub declared_at : List (ℕ × Option Frame) → ℕ → Option (Option Frame)
declared_at frames place = option_map (λ entry. entry.1) (find (λ entry. entry.0 == place) frames)
