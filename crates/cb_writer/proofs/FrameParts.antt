-- The parts of a frame have a spelling.
use Rattle.std.proofs.Common.{◌≡◌, ◌≢◌, ◌↔◌, ◌⊎◌, ℕ, ◌^◌, ◌<◌, Bool, true, IsTrue, List, [], ◌∷◌, ◌++◌, refl, inl, inr}
use Rattle.std.specs.List.{AllByRecursion}
use Rattle.cb_text.specs.declared.constant.Constant.{Constant}
use Rattle.cb_classfile.specs.declared.frame_form.FrameForm.{FrameForm}
use Rattle.cb_classfile.specs.declared.frame_form.FrameForm.TheVariants as forms
use Rattle.cb_classfile.specs.declared.frame_map.MapFrame.{MapFrame}
use Rattle.cb_classfile.specs.declared.map_type.MapType.{MapType}
use Rattle.cb_classfile.specs.declared.map_type.MapType.TheVariants.{Object, Uninitialized}
use Rattle.cb_classfile.specs.FrameMap.{IsType, SpellsDelta, SpellsFrame, SpellsLocals, SpellsStack, SpellsType, form_of_frame, type_bytes}
use Rattle.cb_classfile.specs.Tables.{u2}
use Rattle.cb_writer.specs.Formed.{HasSpelling}
use Rattle.cb_writer.proofs.Spelling.{of_count}

-- a delta that stands behind the kind
pub delta_has : (form : FrameForm) (kind delta : ℕ) → form ≢ forms.Same → form ≢ forms.SameOneItem → form ≢ forms.Reserved → delta < 2 ^ 16 → HasSpelling (SpellsDelta form kind) delta
delta_has forms.Same kind delta same item reserved fits = absurd (same refl)
delta_has forms.SameOneItem kind delta same item reserved fits = absurd (item refl)
delta_has forms.Reserved kind delta same item reserved fits = absurd (reserved refl)
delta_has form kind delta same item reserved fits = record { bytes = u2 delta; spelled = (fits, refl) }

-- a type that may stand there
pub type_has : (pool : List Constant) (kind : MapType) → IsType pool kind → HasSpelling (SpellsType pool) kind
type_has pool kind allowed = record { bytes = type_bytes kind; spelled = record { spelled = refl; allowed = allowed } }

-- one without a number
pub other_type : (pool : List Constant) (kind : MapType) → ((class : ℕ) → kind ≢ Object class) → ((place : ℕ) → kind ≢ Uninitialized place) → IsType pool kind
other_type pool (Object class) no_class no_place = absurd (no_class class refl)
other_type pool (Uninitialized place) no_class no_place = absurd (no_place place refl)
other_type pool kind no_class no_place = tt

-- a frame, by its parts
pub record HasParts (pool : List Constant) (frame : MapFrame) : Type 0 where
  pub delta : HasSpelling (SpellsDelta (form_of_frame frame.kind) frame.kind) frame.delta
  pub locals : HasSpelling (SpellsLocals pool (form_of_frame frame.kind) frame.kind) frame.locals
  pub stack : HasSpelling (SpellsStack pool (form_of_frame frame.kind)) frame.stack

pub parts_of_frame : {pool : List Constant} {frame : MapFrame} → HasSpelling (SpellsFrame pool) frame → HasParts pool frame
parts_of_frame {pool} {frame} has =
    let behind = has.spelled.behind in
    record {
      delta = record { bytes = behind.first; spelled = behind.here };
      locals = record { bytes = behind.behind.first; spelled = behind.behind.here };
      stack = record { bytes = behind.behind.second; spelled = behind.behind.behind };
    }

pub frame_has : {pool : List Constant} {frame : MapFrame} → HasParts pool frame → HasSpelling (SpellsFrame pool) frame
frame_has {pool} {frame} parts = record {
  bytes = frame.kind ∷ [] ++ (parts.delta.bytes ++ (parts.locals.bytes ++ parts.stack.bytes));
  spelled = record {
    first = frame.kind ∷ [];
    second = parts.delta.bytes ++ (parts.locals.bytes ++ parts.stack.bytes);
    spelled = refl;
    here = refl;
    behind = record {
      first = parts.delta.bytes;
      second = parts.locals.bytes ++ parts.stack.bytes;
      spelled = refl;
      here = parts.delta.spelled;
      behind = record { first = parts.locals.bytes; second = parts.stack.bytes; spelled = refl; here = parts.locals.spelled; behind = parts.stack.spelled };
    };
  };
}

-- the questions on the parts together, where the first two have said yes
pub frame_told : (pool : List Constant) (frame : MapFrame) {delta locals stack : Bool} → IsTrue delta ↔ HasSpelling (SpellsDelta (form_of_frame frame.kind) frame.kind) frame.delta → IsTrue locals ↔ HasSpelling (SpellsLocals pool (form_of_frame frame.kind) frame.kind) frame.locals → IsTrue stack ↔ HasSpelling (SpellsStack pool (form_of_frame frame.kind)) frame.stack → delta ≡ true → locals ≡ true → IsTrue stack ↔ HasSpelling (SpellsFrame pool) frame
frame_told pool frame on_delta on_locals on_stack is_delta is_locals = (
  λ is. frame_has (record { delta = on_delta.0 is_delta; locals = on_locals.0 is_locals; stack = on_stack.0 is }),
  λ has. on_stack.1 (parts_of_frame has).stack,
)

-- the one item of the two forms that have one
pub one_item : (pool : List Constant) {form : FrameForm} {stack : List MapType} → (form ≡ forms.SameOneItem) ⊎ (form ≡ forms.SameOneItemExtended) → HasSpelling (SpellsStack pool form) stack → AllByRecursion (HasSpelling (SpellsType pool)) stack
one_item pool (inl is) has = of_count (rw is at has)
one_item pool (inr is) has = of_count (rw is at has)
