-- What holds for the kinds of some objects holds when there are more objects behind them.
use Rattle.std.proofs.Common.{◌≡◌, refl, ℕ, zero, suc, Bool, true, List, [], ◌∷◌, ◌++◌, Option, Some, IsTrue}
use Rattle.std.specs.List.{flat_map, list_all, slice_get}
use Rattle.std.proofs.lemmas.Option.{none-some}
use Rattle.cb_heap.specs.Closed.{reference_in_word}
use Rattle.cb_kinds.specs.declared.basic.Basic.{Basic}
use Rattle.cb_link.specs.Program.{Linked}
use Rattle.cb_plain.specs.Reach.{frame_references, reference_in, references_in, table_references, unless_null}
use Rattle.cb_plain.specs.declared.value.Value.{Value}
use Rattle.cb_plain.specs.State.{Content, Frame, MethodFrame, Object, OfMethod, Tables}
use Rattle.cb_verify.specs.declared.verification_type.VerificationType.{VerificationType}
use Rattle.cb_verify.specs.Within.{Within}
use Rattle.cb_safety.specs.Frames.{AreBelow, AreCovered, AreStanding, IsCovered, Stands, Waits}
use Rattle.cb_safety.specs.Heap.{IsObject}
use Rattle.cb_safety.specs.Held.{HasBasic, HasContent, HasType, HaveTypes, IsStack}
use Rattle.cb_safety.specs.Kinds.{AreKnown, IsKnown, IsOfKind, Kinds, Refers, kind_in, known}
use Rattle.cb_safety.specs.States.{AreStatics, AreTables}
use Rattle.cb_safety.proofs.Staying as staying

still_there : (kinds more : Kinds) (place own : ℕ) → known (slice_get kinds place) ≡ Some own → known (slice_get (kinds ++ more) place) ≡ Some own
still_there [] more place own is = absurd (none-some own is)
still_there (kind ∷ kinds) more zero own is = is
still_there (kind ∷ kinds) more (suc place) own is = still_there kinds more place own is

pub kind_in_more : (kinds more : Kinds) (serial own : ℕ) → kind_in kinds serial ≡ Some own → kind_in (kinds ++ more) serial ≡ Some own
kind_in_more kinds more zero own is = is
kind_in_more kinds more (suc place) own is = still_there kinds more place own is

-- so the kinds of all serials stay
abbrev any : ℕ → Bool
any serial = true

passes : (references : List ℕ) → IsTrue (list_all any references)
passes [] = refl
passes (serial ∷ references) = passes references

grows : (kinds more : Kinds) (serial own : ℕ) → IsTrue (any serial) → kind_in kinds serial ≡ Some own → kind_in (kinds ++ more) serial ≡ Some own
grows kinds more serial own pass is = kind_in_more kinds more serial own is

pub is_of_kind_more : (program : Linked) (kinds more : Kinds) (kind serial : ℕ) → IsOfKind program kinds kind serial → IsOfKind program (kinds ++ more) kind serial
is_of_kind_more program kinds more kind serial is = staying.of_kind_stays kinds (kinds ++ more) any (grows kinds more) program kind serial (passes (unless_null serial)) is

pub refers_more : (program : Linked) (kinds more : Kinds) (kind serial : ℕ) → Refers program kinds kind serial → Refers program (kinds ++ more) kind serial
refers_more program kinds more kind serial refers = staying.refers_stays kinds (kinds ++ more) any (grows kinds more) program kind serial (passes (unless_null serial)) refers

is_known_more : (kinds more : Kinds) (value : Value) → IsKnown kinds value → IsKnown (kinds ++ more) value
is_known_more kinds more value known = staying.known_stays kinds (kinds ++ more) any (grows kinds more) value (passes (reference_in value)) known

are_known_more : (kinds more : Kinds) (held : List Value) → AreKnown kinds held → AreKnown (kinds ++ more) held
are_known_more kinds more held known = staying.all_known_stay kinds (kinds ++ more) any (grows kinds more) held (passes (references_in held)) known

has_type_more : (method : Within) (kinds more : Kinds) (type : VerificationType) (value : Value) → HasType method kinds type value → HasType method (kinds ++ more) type value
has_type_more method kinds more type value has = staying.type_stays kinds (kinds ++ more) any (grows kinds more) method type value (passes (reference_in value)) has

pub have_types_more : (method : Within) (kinds more : Kinds) (types : List VerificationType) (held : List Value) → HaveTypes method kinds types held → HaveTypes method (kinds ++ more) types held
have_types_more method kinds more types held have = staying.types_stay kinds (kinds ++ more) any (grows kinds more) method types held (passes (references_in held)) have

pub is_stack_more : (method : Within) (kinds more : Kinds) (types : List VerificationType) (stack : List Value) → IsStack method kinds types stack → IsStack method (kinds ++ more) types stack
is_stack_more method kinds more types stack is = staying.stack_stays kinds (kinds ++ more) any (grows kinds more) method types stack (passes (references_in stack)) is

pub has_content_more : (program : Linked) (kinds more : Kinds) (basic : Basic) (content : Content) → HasContent program kinds basic content → HasContent program (kinds ++ more) basic content
has_content_more program kinds more basic content has = staying.content_stays kinds (kinds ++ more) any (grows kinds more) program basic content (passes (reference_in_word content)) has

has_basic_more : (program : Linked) (kinds more : Kinds) (basic : Basic) (value : Value) → HasBasic program kinds basic value → HasBasic program (kinds ++ more) basic value
has_basic_more program kinds more basic value has = staying.basic_stays kinds (kinds ++ more) any (grows kinds more) program basic value (passes (reference_in value)) has

pub waits_more : (program : Linked) (kinds more : Kinds) (result : Option Basic) (frame : MethodFrame) → Waits program kinds result frame → Waits program (kinds ++ more) result frame
waits_more program kinds more result frame waits =
    staying.waits_stays kinds (kinds ++ more) any (grows kinds more) program result frame (passes (frame_references (OfMethod frame))) waits

stands_more : (program : Linked) (kinds more : Kinds) (frame : MethodFrame) → Stands program kinds frame → Stands program (kinds ++ more) frame
stands_more program kinds more frame stands = staying.stands_stays kinds (kinds ++ more) any (grows kinds more) program frame (passes (frame_references (OfMethod frame))) stands

is_covered_more : (program : Linked) (kinds more : Kinds) (frame : MethodFrame) → IsCovered program kinds frame → IsCovered program (kinds ++ more) frame
is_covered_more program kinds more frame is = staying.covered_stays kinds (kinds ++ more) any (grows kinds more) program frame (passes (frame_references (OfMethod frame))) is

pub are_below_more : (program : Linked) (kinds more : Kinds) (result : Option Basic) (frames : List Frame) → AreBelow program kinds result frames → AreBelow program (kinds ++ more) result frames
are_below_more program kinds more result frames are =
    staying.below_stay kinds (kinds ++ more) any (grows kinds more) program result frames (passes (flat_map frame_references frames)) are

pub are_standing_more : (program : Linked) (kinds more : Kinds) (frames : List Frame) → AreStanding program kinds frames → AreStanding program (kinds ++ more) frames
are_standing_more program kinds more frames are =
    staying.standing_stay kinds (kinds ++ more) any (grows kinds more) program frames (passes (flat_map frame_references frames)) are

pub are_covered_more : (program : Linked) (kinds more : Kinds) (frames : List Frame) → AreCovered program kinds frames → AreCovered program (kinds ++ more) frames
are_covered_more program kinds more frames are =
    staying.all_covered_stay kinds (kinds ++ more) any (grows kinds more) program frames (passes (flat_map frame_references frames)) are

pub are_statics_more : (program : Linked) (kinds more : Kinds) (held : List Value) → AreStatics program kinds held → AreStatics program (kinds ++ more) held
are_statics_more program kinds more held statics = staying.statics_stay kinds (kinds ++ more) any (grows kinds more) program held (passes (references_in held)) statics

pub are_tables_more : (program : Linked) (kinds more : Kinds) (tables : Tables) → AreTables program kinds tables → AreTables program (kinds ++ more) tables
are_tables_more program kinds more tables are = staying.tables_stay kinds (kinds ++ more) any (grows kinds more) program tables (passes (table_references tables)) are

pub is_object_more : (program : Linked) (kinds more : Kinds) (object : Object) → IsObject program kinds object → IsObject program (kinds ++ more) object
is_object_more program kinds more object is =
    staying.object_stays kinds (kinds ++ more) any (grows kinds more) program object (passes (flat_map reference_in_word object.contents)) is
