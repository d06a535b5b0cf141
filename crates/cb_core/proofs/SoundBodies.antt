-- Tests of the bodies of rows.
use Rattle.std.proofs.Common.{◌≡◌, arith, ℕ, ◌^◌, ◌⊎◌, inl, inr, refl, Bool, true, false, ◌&&◌, ◌||◌, not, List, length, Option, Some, codes, is_none, nat_eq, nat_le, nat_lt}
use Rattle.std.specs.List.{ends_with, list_all}
use Rattle.std.specs.Str.{bytes_eq}
use Rattle.cb_insn.specs.declared.form.Form.{Form}
use Rattle.cb_insn.specs.declared.form.Form.TheVariants as forms
use Rattle.cb_insn.specs.Forms.{form_of}
use Rattle.cb_library.specs.Rows.{Body, Frame, Instruction, Plain, Branch, LoadText, OfClass, OfField, OfMethod}
use Rattle.cb_classfile.specs.declared.needed.ConstantKind.{ConstantKind}
use Rattle.cb_classfile.specs.declared.needed.ConstantKind.TheVariants as kinds
use Rattle.cb_classfile.specs.Needed.{kind_needed}
use Rattle.cb_classfile.specs.Pool.{GivesNothing}
use Rattle.cb_classfile.specs.Profile.{opcode_item}
use Rattle.cb_core.specs.Sound.{IsSoundBody, IsSoundClassName, IsSoundFrame, IsSoundInsn}
use Rattle.cb_core.proofs.SoundTests.{below, both, each, itself, none, then, within}
use Rattle.cb_core.proofs.SoundNames.{is_short, is_sound_class_name, is_sound_field_name, is_sound_method_name, short, sound_class_name, sound_field_name, sound_method_name}
use Rattle.cb_core.proofs.SoundTypes.{is_sound_field_descriptor, is_sound_method_descriptor, sound_field_descriptor, sound_method_descriptor}

-- the forms of operands that rows have
abbrev is_plain : Option Form → Bool
is_plain (Some forms.Plain) = true
is_plain other = false

plain : (form : Option Form) → is_plain form ≡ true → form ≡ Some forms.Plain
plain (Some forms.Plain) is = refl
plain other is = absurd (grind (arith, is))

abbrev is_branch : Option Form → Bool
is_branch (Some forms.Branch) = true
is_branch other = false

branch : (form : Option Form) → is_branch form ≡ true → form ≡ Some forms.Branch
branch (Some forms.Branch) is = refl
branch other is = absurd (grind (arith, is))

abbrev is_pool : Option Form → Bool
is_pool (Some forms.Pool) = true
is_pool other = false

pool : (form : Option Form) → is_pool form ≡ true → form ≡ Some forms.Pool
pool (Some forms.Pool) is = refl
pool other is = absurd (grind (arith, is))

-- the kinds of constants that they name
abbrev is_class : Option ConstantKind → Bool
is_class (Some kinds.Class) = true
is_class other = false

class : (kind : Option ConstantKind) → is_class kind ≡ true → kind ≡ Some kinds.Class
class (Some kinds.Class) is = refl
class other is = absurd (grind (arith, is))

abbrev is_field : Option ConstantKind → Bool
is_field (Some kinds.Field) = true
is_field other = false

field : (kind : Option ConstantKind) → is_field kind ≡ true → kind ≡ Some kinds.Field
field (Some kinds.Field) is = refl
field other is = absurd (grind (arith, is))

abbrev is_method : Option ConstantKind → Bool
is_method (Some kinds.ClassMethod) = true
is_method (Some kinds.AnyMethod) = true
is_method other = false

method : (kind : Option ConstantKind) → is_method kind ≡ true → (kind ≡ Some kinds.ClassMethod) ⊎ (kind ≡ Some kinds.AnyMethod)
method (Some kinds.ClassMethod) is = inl refl
method (Some kinds.AnyMethod) is = inr refl
method other is = absurd (grind (arith, is))

-- an instruction
abbrev gives_nothing : List ℕ → Bool
gives_nothing descriptor = ends_with nat_eq descriptor (codes ")V")

abbrev constructs : List ℕ → List ℕ → Bool
constructs name descriptor = not (bytes_eq name (codes "<init>")) || gives_nothing descriptor

constructor : (name descriptor : List ℕ) → constructs name descriptor ≡ true → name ≡ codes "<init>" → GivesNothing descriptor
constructor name descriptor is same = then (bytes_eq name (codes "<init>")) (gives_nothing descriptor) is (rw same (itself (codes "<init>")))

abbrev is_sound_insn : ℕ → Instruction → Bool
is_sound_insn count (Plain opcode) = is_plain (form_of opcode) && is_none (opcode_item opcode)
is_sound_insn count (Branch opcode target) = is_branch (form_of opcode) && (is_none (opcode_item opcode) && nat_lt target count)
is_sound_insn count (LoadText text) = is_short text
is_sound_insn count (OfClass opcode class) =
    is_pool (form_of opcode) && (is_none (opcode_item opcode) && (is_class (kind_needed opcode) && is_sound_class_name class))
is_sound_insn count (OfField opcode class name descriptor) =
    is_pool (form_of opcode) && (is_none (opcode_item opcode) && (is_field (kind_needed opcode) && (is_sound_class_name class && (is_sound_field_name name && is_sound_field_descriptor descriptor))))
is_sound_insn count (OfMethod opcode class name descriptor) =
    is_pool (form_of opcode) && (is_none (opcode_item opcode) && (is_method (kind_needed opcode) && (is_sound_class_name class && (is_sound_method_name name && (is_sound_method_descriptor descriptor && constructs name descriptor)))))

insn : (count : ℕ) (item : Instruction) → is_sound_insn count item ≡ true → IsSoundInsn count item
insn count (Plain opcode) is = let two = both _ _ is in (plain _ two.0, none _ two.1)
insn count (Branch opcode target) is =
    let first = both _ _ is in
    let second = both _ _ first.1 in
    (branch _ first.0, none _ second.0, below _ _ second.1)
insn count (LoadText text) is = short text is
insn count (OfClass opcode name) is =
    let first = both _ _ is in
    let second = both _ _ first.1 in
    let third = both _ _ second.1 in
    (pool _ first.0, none _ second.0, class _ third.0, sound_class_name name third.1)
insn count (OfField opcode holder name descriptor) is =
    let first = both _ _ is in
    let second = both _ _ first.1 in
    let third = both _ _ second.1 in
    let fourth = both _ _ third.1 in
    let fifth = both _ _ fourth.1 in
    (pool _ first.0, none _ second.0, field _ third.0, sound_class_name holder fourth.0, sound_field_name name fifth.0, sound_field_descriptor descriptor fifth.1)
insn count (OfMethod opcode holder name descriptor) is =
    let first = both _ _ is in
    let second = both _ _ first.1 in
    let third = both _ _ second.1 in
    let fourth = both _ _ third.1 in
    let fifth = both _ _ fourth.1 in
    let sixth = both _ _ fifth.1 in
    (pool _ first.0, none _ second.0, method _ third.0, sound_class_name holder fourth.0, sound_method_name name fifth.0, sound_method_descriptor descriptor sixth.0, constructor name descriptor sixth.1)

-- a frame
abbrev is_sound_frame : ℕ → Frame → Bool
is_sound_frame count frame = nat_lt frame.at count && (nat_lt (length frame.locals) (2 ^ 16) && list_all is_sound_class_name frame.locals)

frame_is : (count : ℕ) (frame : Frame) → is_sound_frame count frame ≡ true → IsSoundFrame count frame
frame_is count frame is =
    let first = both _ _ is in
    let second = both _ _ first.1 in
    record { at = below _ _ first.0; few = below _ _ second.0; locals = each is_sound_class_name IsSoundClassName sound_class_name frame.locals second.1 }

-- a body
abbrev pub is_sound_body : Body → Bool
is_sound_body body =
    nat_lt body.max_stack (2 ^ 16)
    && (nat_lt body.max_locals (2 ^ 16)
    && (nat_lt 0 (length body.code)
    && (nat_le (length body.code) 1000
    && (list_all (is_sound_insn (length body.code)) body.code
    && (nat_le (length body.frames) 1
    && list_all (is_sound_frame (length body.code)) body.frames)))))

pub sound_body : (body : Body) → is_sound_body body ≡ true → IsSoundBody body
sound_body body is =
    let first = both _ _ is in
    let second = both _ _ first.1 in
    let third = both _ _ second.1 in
    let fourth = both _ _ third.1 in
    let fifth = both _ _ fourth.1 in
    let sixth = both _ _ fifth.1 in
    record {
      max_stack = below _ _ first.0;
      max_locals = below _ _ second.0;
      some = below _ _ third.0;
      few = within _ _ fourth.0;
      code = each (is_sound_insn (length body.code)) (IsSoundInsn (length body.code)) (insn (length body.code)) body.code fifth.0;
      one_frame = within _ _ sixth.0;
      frames = each (is_sound_frame (length body.code)) (IsSoundFrame (length body.code)) (frame_is (length body.code)) body.frames sixth.1;
    }
