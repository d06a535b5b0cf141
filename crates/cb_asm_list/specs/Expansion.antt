-- Frames in full (JVMS §4.7.4, §4.10.1.6): each kind of frame says how its locals differ from those of the frame before
-- it, the first from those at the method's start.
use Rattle.std.specs.Prelude.{ℕ, List, [], ◌∷◌, ◌++◌, map, Option, Some, None, option_map, option_and_then, codes, bit_and, ◌==◌, ◌&&◌, not, if◌then◌else◌}
use Rattle.std.specs.Option.{unwrap_or}
use Rattle.cb_text.specs.declared.constant.Constant.{Constant}
use Rattle.cb_names.specs.declared.base.BaseType.TheVariants as base
use Rattle.cb_names.specs.Types.{Element, Primitive, Named, JavaType, type_text}
use Rattle.cb_classfile.specs.declared.class.ClassFile.{ClassFile}
use Rattle.cb_classfile.specs.declared.frame_form.FrameForm.{FrameForm}
use Rattle.cb_classfile.specs.declared.frame_map.MapFrame.{MapFrame}
use Rattle.cb_classfile.specs.declared.map_type.MapType.{MapType}
use Rattle.cb_classfile.specs.declared.map_type.MapType.TheVariants as types
use Rattle.cb_classfile.specs.declared.method.Method.{Method}
use Rattle.cb_classfile.specs.Class.{object}
use Rattle.cb_classfile.specs.Flags.{acc_static}
use Rattle.cb_classfile.specs.Expansion.{all_of, frames_behind, locals_in as locals_by}
use Rattle.cb_classfile.specs.FrameMap.{form_of_frame}
use Rattle.cb_classfile.specs.Pool.{text_at, class_at}
use Rattle.cb_asm_line.specs.Lines.{same_text}
use Rattle.cb_asm_line.specs.Parameters.{parameters_of}
use Rattle.cb_asm_line.specs.declared.frame.FrameType.{FrameType}
use Rattle.cb_asm_line.specs.declared.frame.Frame.{Frame}
use Rattle.cb_asm_line.specs.declared.frame.FrameType.TheVariants.{Top, Int, Long, Null, This, Object, New}

-- types of a frame, with places for labels
abbrev pub Types : Type 0
Types = List (FrameType ℕ)

-- a type by its names. A float and a double have no words
abbrev pub type_in : List Constant → MapType → Option (FrameType ℕ)
type_in pool types.Top = Some Top
type_in pool types.Integer = Some Int
type_in pool types.Long = Some Long
type_in pool types.Null = Some Null
type_in pool types.UninitializedThis = Some This
type_in pool (types.Object class) = option_map Object (class_at pool class)
type_in pool (types.Uninitialized place) = Some (New place)
type_in pool other = None

abbrev pub types_in : List Constant → List MapType → Option Types
types_in pool kinds = all_of (map (type_in pool) kinds)

-- the type of a parameter: an int for what is narrower too, and an array by its descriptor
abbrev pub element_type : Element → Option (FrameType ℕ)
element_type (Primitive base.Long) = Some Long
element_type (Primitive base.Float) = None
element_type (Primitive base.Double) = None
element_type (Primitive other) = Some Int
element_type (Named name) = Some (Object name)

abbrev pub parameter_type : JavaType → Option (FrameType ℕ)
parameter_type type = if type.dimensions == 0 then element_type type.element else Some (Object (type_text type))

-- `this` isn't initialised yet in a constructor of any class but Object
abbrev pub this_type : List ℕ → List ℕ → FrameType ℕ
this_type class method =
    if same_text method (codes "<init>") && not (same_text class object) then This else Object class

abbrev pub this_types : ℕ → List ℕ → List ℕ → Types
this_types flags class method = if bit_and flags acc_static == acc_static then [] else this_type class method ∷ []

-- the name of a class or a text in a record, which has it
abbrev pub class_named : ClassFile → ℕ → List ℕ
class_named class index = unwrap_or (class_at class.pool index) []

abbrev pub text_named : ClassFile → ℕ → List ℕ
text_named class index = unwrap_or (text_at class.pool index) []

-- the locals at a method's start
abbrev pub start_types : ClassFile → Method → Option Types
start_types class method =
    option_map (λ parameters. this_types method.flags.0 (class_named class class.this_class) (text_named class method.name) ++ parameters) (all_of (map parameter_type (parameters_of (text_named class method.descriptor))))

-- the locals of a frame by those before it, if both are there
abbrev pub locals_in : FrameForm → List Constant → MapFrame → Option Types → Option Types
locals_in form pool frame locals = locals_by (type_in pool) form frame locals

-- a frame at a place, where its locals and its stack are there
abbrev pub frame_at : ℕ → Option Types → Option Types → Option (Frame ℕ)
frame_at place locals stack =
    option_and_then (λ have. option_map (λ stacked. record { place = place; locals = have; stack = stacked }) stack) locals

-- the frames behind one at a place with such locals, or behind the method's start. None stands for one that can't be
-- expanded
abbrev pub expanded_behind : List Constant → Option ℕ → Option Types → List MapFrame → List (Option (Frame ℕ))
expanded_behind pool previous locals frames =
    frames_behind (λ frame. locals_in (form_of_frame frame.kind) pool frame) (λ place now stack. frame_at place now (types_in pool stack)) previous locals frames

abbrev pub expanded : ClassFile → Method → List MapFrame → List (Option (Frame ℕ))
expanded class method frames = expanded_behind class.pool None (start_types class method) frames
