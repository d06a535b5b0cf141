-- The names of classes that a class mentions, in the order in which it mentions them.
use Rattle.std.specs.Prelude.{ℕ, Bool, true, false, List, [], ◌∷◌, ◌++◌, map, Option, Some, None, ◌==◌, if◌then◌else◌}
use Rattle.std.specs.List.{flat_map}
use Rattle.cb_text.specs.declared.constant.Constant.{Constant}
use Rattle.cb_text.specs.Naming.{MemberNames, text_at, class_at, member_at}
use Rattle.cb_insn.specs.declared.insn.Insn.{Insn}
use Rattle.cb_classfile.specs.declared.body.Body.{Body}
use Rattle.cb_classfile.specs.declared.class.ClassFile.{ClassFile}
use Rattle.cb_classfile.specs.declared.frame_map.MapFrame.{MapFrame}
use Rattle.cb_classfile.specs.declared.handler.Handler.{Handler}
use Rattle.cb_classfile.specs.declared.map_type.MapType.{MapType}
use Rattle.cb_classfile.specs.declared.map_type.MapType.TheVariants as types
use Rattle.cb_classfile.specs.declared.method.Method.{Method}
use Rattle.cb_classfile.specs.Needed.{index_in}
use Rattle.cb_classfile.specs.Profile.{is_array}

-- a name that is looked for, and whether a class of that name has to be there
pub record Entry : Type 0 where
  pub name : List ℕ
  pub needed : Bool

-- names that are needed, and names that aren't
abbrev pub needed : List (List ℕ) → List Entry
needed names = map (λ name. record { name = name; needed = true }) names

abbrev pub mentioned : List (List ℕ) → List Entry
mentioned names = map (λ name. record { name = name; needed = false }) names

-- the signs of a descriptor between which the name of a class stands (JVMS §4.3.2)
abbrev pub letter_class : ℕ
letter_class = 76

abbrev pub semicolon : ℕ
semicolon = 59

-- the names in a descriptor, in order: what stands between an L that begins a type and the next semicolon
abbrev mutual
  pub names_in : List ℕ → List (List ℕ)
  names_in [] = []
  names_in (unit ∷ rest) = if unit == letter_class then name_behind [] rest else names_in rest

  -- the same, behind an L and the units of the name so far
  pub name_behind : List ℕ → List ℕ → List (List ℕ)
  name_behind name [] = []
  name_behind name (unit ∷ rest) = if unit == semicolon then name ∷ names_in rest else name_behind (name ++ unit ∷ []) rest

-- what a constant Class names: a class, or an array, which counts by the class of its elements, if they have one
abbrev pub class_names : List ℕ → List (List ℕ)
class_names name = if is_array name then names_in name else name ∷ []

-- the names that a text or class at an index has, none where there is none
abbrev pub all_of : {X : Type 0} → (X → List (List ℕ)) → Option X → List (List ℕ)
all_of names None = []
all_of names (Some item) = names item

abbrev pub names_at : List Constant → ℕ → List (List ℕ)
names_at pool descriptor = all_of names_in (text_at pool descriptor)

abbrev pub class_names_at : List Constant → ℕ → List (List ℕ)
class_names_at pool class = all_of class_names (class_at pool class)

-- the names that the constant of an instruction has: a class, or the class of a member and then the names of the member's
-- descriptor
abbrev pub constant_names : List Constant → ℕ → List Entry
constant_names pool index = by_member (member_at pool index) where
  by_member : Option MemberNames → List Entry
  by_member None = needed (class_names_at pool index)
  by_member (Some member) = needed (class_names member.class) ++ mentioned (names_in member.descriptor)

abbrev pub insn_names : List Constant → Insn → List Entry
insn_names pool insn = by_index (index_in insn.operand) where
  by_index : Option ℕ → List Entry
  by_index None = []
  by_index (Some index) = constant_names pool index

-- the class that a handler catches, where it doesn't catch any
abbrev pub handler_names : List Constant → Handler → List (List ℕ)
handler_names pool handler = class_names_at pool handler.catch_type

-- the classes of the objects in a frame
abbrev pub type_names : List Constant → MapType → List (List ℕ)
type_names pool (types.Object class) = class_names_at pool class
type_names pool other = []

abbrev pub frame_names : List Constant → MapFrame → List (List ℕ)
frame_names pool frame = flat_map (type_names pool) (frame.locals ++ frame.stack)

-- the names of a body: its instructions by place, its handlers, and its frames
abbrev pub body_names : List Constant → Option Body → List Entry
body_names pool None = []
body_names pool (Some body) =
    flat_map (λ placed. insn_names pool placed.1) body.code ++ needed (flat_map (handler_names pool) body.handlers)
    ++ mentioned (flat_map (frame_names pool) body.frames)

abbrev pub method_names : List Constant → Method → List Entry
method_names pool method = mentioned (names_at pool method.descriptor) ++ body_names pool method.body

-- the names that a class adds, in this order: its superclass and its interfaces, which are needed; the names in its
-- fields' descriptors, which aren't; and of each method the names of its descriptor, which aren't, those of its body's
-- instructions and handlers, of which the classes that are named are needed, and those of its frames, which aren't
abbrev pub names_of : ClassFile → List Entry
names_of class =
    needed (class_names_at class.pool class.super_class) ++ needed (flat_map (class_names_at class.pool) class.interfaces)
    ++ mentioned (flat_map (λ field. names_at class.pool field.descriptor) class.fields)
    ++ flat_map (method_names class.pool) class.methods
