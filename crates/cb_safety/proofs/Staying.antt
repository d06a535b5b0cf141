-- What holds for the kinds of some objects holds for others, where those of the serials that pass a test stay: all that is named passes.
use Rattle.std.proofs.Common.{◌≡◌, ℕ, zero, suc, Bool, true, List, [], ◌∷◌, length, Option, Some, IsTrue}
use Rattle.std.specs.List.{AllByRecursion, flat_map, list_all}
use Rattle.std.proofs.lemmas.Bool.{and_parts}
use Rattle.cb_heap.specs.Closed.{reference_in_word}
use Rattle.cb_heap.proofs.Laws as laws
use Rattle.cb_kinds.specs.declared.basic.Basic.{Basic}
use Rattle.cb_link.specs.Program.{Linked}
use Rattle.cb_machine.specs.Library as library
use Rattle.cb_machine.specs.Machine.{kind_of_site}
use Rattle.cb_machine.specs.Sites as sites
use Rattle.cb_plain.specs.Reach.{frame_references, reference_in, references_in, root_references, table_references, unless_null}
use Rattle.cb_plain.specs.State.{Content, Frame, MethodFrame, Number, Object, OfMethod, Reference, Roots, Tables, small_chars, small_numbers}
use Rattle.cb_plain.specs.declared.value.Value.{Value}
use Rattle.cb_plain.specs.declared.value.Value.TheVariants as values
use Rattle.cb_verify.specs.declared.verification_type.VerificationType.{VerificationType}
use Rattle.cb_verify.specs.Within.{Within, kind_of_class, kind_of_string, kind_of_throwable}
use Rattle.cb_safety.specs.Frames.{AreBelow, AreCovered, AreStanding, IsCovered, Stands, Waits, result_at}
use Rattle.cb_safety.specs.Heap.{Holds, IsKnownWord, IsObject}
use Rattle.cb_safety.specs.Held.{HasBasic, HasContent, HasType, HaveTypes, IsStack}
use Rattle.cb_safety.specs.Kinds.{AreKnown, IsKnown, IsOfKind, Kinds, Refers, kind_in}
use Rattle.cb_safety.specs.States.{AreFrames, AreRoots, AreStatics, AreTables, IsTable}

module _ (kinds others : Kinds) (test : ℕ → Bool)
    (stays : (serial own : ℕ) → IsTrue (test serial) → kind_in kinds serial ≡ Some own → kind_in others serial ≡ Some own) where
  abbrev Pass : List ℕ → Type 0
  Pass references = IsTrue (list_all test references)

  -- ---- one reference

  kind_stays : (serial own : ℕ) → Pass (unless_null serial) → kind_in kinds serial ≡ Some own → kind_in others serial ≡ Some own
  kind_stays zero own pass is = is
  kind_stays (suc place) own pass is = stays (suc place) own (and_parts (test (suc place)) true pass).0 is

  pub of_kind_stays : (program : Linked) (kind serial : ℕ) → Pass (unless_null serial) → IsOfKind program kinds kind serial → IsOfKind program others kind serial
  of_kind_stays program kind serial pass is = record { own = is.own; there = kind_stays serial is.own pass is.there; goes = is.goes }

  pub refers_stays : (program : Linked) (kind serial : ℕ) → Pass (unless_null serial) → Refers program kinds kind serial → Refers program others kind serial
  refers_stays program kind serial pass Refers.ToNull = Refers.ToNull
  refers_stays program kind serial pass (Refers.To own is) = Refers.To own (of_kind_stays program kind own pass is)

  -- ---- values and words

  pub known_stays : (value : Value) → Pass (reference_in value) → IsKnown kinds value → IsKnown others value
  known_stays value pass (IsKnown.AnInt number) = IsKnown.AnInt number
  known_stays value pass (IsKnown.ALong number) = IsKnown.ALong number
  known_stays value pass IsKnown.Null = IsKnown.Null
  known_stays value pass (IsKnown.AnObject serial own there) = IsKnown.AnObject serial own (kind_stays serial own pass there)

  pub all_known_stay : (held : List Value) → Pass (references_in held) → AreKnown kinds held → AreKnown others held
  all_known_stay [] pass known = tt
  all_known_stay (value ∷ held) pass known = (
    known_stays value (laws.front_of test (reference_in value) (references_in held) pass) known.0,
    all_known_stay held (laws.rest_of test (reference_in value) (references_in held) pass) known.1,
  )

  pub type_stays : (method : Within) (type : VerificationType) (value : Value) → Pass (reference_in value) → HasType method kinds type value → HasType method others type value
  type_stays method type value pass (HasType.Unknown own is) = HasType.Unknown own (known_stays own pass is)
  type_stays method type value pass (HasType.AnInt number fits) = HasType.AnInt number fits
  type_stays method type value pass (HasType.ALong number fits) = HasType.ALong number fits
  type_stays method type value pass HasType.ItsNull = HasType.ItsNull
  type_stays method type value pass (HasType.AReference kind serial refers) = HasType.AReference kind serial (refers_stays method.program kind serial pass refers)
  type_stays method type value pass (HasType.ItsThis serial is) = HasType.ItsThis serial (of_kind_stays method.program method.class serial pass is)
  type_stays method type value pass (HasType.ANew place serial kind made there) = HasType.ANew place serial kind made (kind_stays serial kind pass there)

  pub types_stay : (method : Within) (types : List VerificationType) (held : List Value) → Pass (references_in held) → HaveTypes method kinds types held
      → HaveTypes method others types held
  types_stay method types held pass HaveTypes.NoMore = HaveTypes.NoMore
  types_stay method types held pass (HaveTypes.And type value more rest has have) =
      HaveTypes.And type value more rest (type_stays method type value (laws.front_of test (reference_in value) (references_in rest) pass) has)
      (types_stay method more rest (laws.rest_of test (reference_in value) (references_in rest) pass) have)

  pub stack_stays : (method : Within) (types : List VerificationType) (stack : List Value) → Pass (references_in stack) → IsStack method kinds types stack
      → IsStack method others types stack
  stack_stays method types stack pass IsStack.Empty = IsStack.Empty
  stack_stays method types stack pass (IsStack.Upon type value more rest has words is) =
      IsStack.Upon type value more rest (type_stays method type value (laws.front_of test (reference_in value) (references_in rest) pass) has) words
      (stack_stays method more rest (laws.rest_of test (reference_in value) (references_in rest) pass) is)
  stack_stays method types stack pass (IsStack.Halves number more rest is) = IsStack.Halves number more rest (stack_stays method more rest pass is)

  pub content_stays : (program : Linked) (basic : Basic) (content : Content) → Pass (reference_in_word content) → HasContent program kinds basic content
      → HasContent program others basic content
  content_stays program basic content pass (HasContent.AReference kind serial refers) = HasContent.AReference kind serial (refers_stays program kind serial pass refers)
  content_stays program basic content pass (HasContent.ALong number fits) = HasContent.ALong number fits
  content_stays program basic content pass (HasContent.AnInt own number is fits kept) = HasContent.AnInt own number is fits kept

  pub basic_stays : (program : Linked) (basic : Basic) (value : Value) → Pass (reference_in value) → HasBasic program kinds basic value → HasBasic program others basic value
  basic_stays program basic value pass (HasBasic.AReference kind serial refers) = HasBasic.AReference kind serial (refers_stays program kind serial pass refers)
  basic_stays program basic value pass (HasBasic.ALong number fits) = HasBasic.ALong number fits
  basic_stays program basic value pass (HasBasic.AnInt own number is fits kept) = HasBasic.AnInt own number is fits kept

  -- ---- frames

  pub waits_stays : (program : Linked) (result : Option Basic) (frame : MethodFrame) → Pass (frame_references (OfMethod frame)) → Waits program kinds result frame
      → Waits program others result frame
  waits_stays program result frame pass w = record {
    at = w.at;
    insn = w.insn;
    there = w.there;
    after = w.after;
    leaves = w.leaves;
    falls = w.falls;
    rest = w.rest;
    answered = w.answered;
    before = types_stay w.at.method w.at.types.locals frame.locals (laws.front_of test (references_in frame.locals) (references_in frame.stack) pass) w.before;
    locals = types_stay w.at.method w.after.locals frame.locals (laws.front_of test (references_in frame.locals) (references_in frame.stack) pass) w.locals;
    stack = stack_stays w.at.method w.rest frame.stack (laws.rest_of test (references_in frame.locals) (references_in frame.stack) pass) w.stack;
  }

  pub stands_stays : (program : Linked) (frame : MethodFrame) → Pass (frame_references (OfMethod frame)) → Stands program kinds frame → Stands program others frame
  stands_stays program frame pass s = record {
    at = s.at;
    locals = types_stay s.at.method s.at.types.locals frame.locals (laws.front_of test (references_in frame.locals) (references_in frame.stack) pass) s.locals;
    stack = stack_stays s.at.method s.at.types.stack frame.stack (laws.rest_of test (references_in frame.locals) (references_in frame.stack) pass) s.stack;
  }

  pub covered_stays : (program : Linked) (frame : MethodFrame) → Pass (frame_references (OfMethod frame)) → IsCovered program kinds frame → IsCovered program others frame
  covered_stays program frame pass is = record {
    at = is.at;
    locals = types_stay is.at.method is.at.types.locals frame.locals (laws.front_of test (references_in frame.locals) (references_in frame.stack) pass) is.locals;
    stack = all_known_stay frame.stack (laws.rest_of test (references_in frame.locals) (references_in frame.stack) pass) is.stack;
  }

  mutual
    pub below_stay : (program : Linked) (result : Option Basic) (frames : List Frame) → Pass (flat_map frame_references frames) → AreBelow program kinds result frames
        → AreBelow program others result frames
    below_stay program result frames pass AreBelow.Nothing = AreBelow.Nothing
    below_stay program result frames pass (AreBelow.ACall own frame below waits rest) =
        AreBelow.ACall own frame below (waits_stays program own frame (laws.front_of test (frame_references (OfMethod frame)) (flat_map frame_references below) pass) waits)
        (below_stay program (result_at program frame.method) below (laws.rest_of test (frame_references (OfMethod frame)) (flat_map frame_references below) pass) rest)
    below_stay program result frames pass (AreBelow.AnInitialiser class place below is rest) = AreBelow.AnInitialiser class place below is (standing_stay program below pass rest)

    pub standing_stay : (program : Linked) (frames : List Frame) → Pass (flat_map frame_references frames) → AreStanding program kinds frames → AreStanding program others frames
    standing_stay program frames pass AreStanding.NotYet = AreStanding.NotYet
    standing_stay program frames pass (AreStanding.AMethod frame below stands rest) =
        AreStanding.AMethod frame below (stands_stays program frame (laws.front_of test (frame_references (OfMethod frame)) (flat_map frame_references below) pass) stands)
        (below_stay program (result_at program frame.method) below (laws.rest_of test (frame_references (OfMethod frame)) (flat_map frame_references below) pass) rest)
    standing_stay program frames pass (AreStanding.AnInitialisation class place below is rest) =
        AreStanding.AnInitialisation class place below is (standing_stay program below pass rest)

  pub all_covered_stay : (program : Linked) (frames : List Frame) → Pass (flat_map frame_references frames) → AreCovered program kinds frames → AreCovered program others frames
  all_covered_stay program frames pass AreCovered.Nothing = AreCovered.Nothing
  all_covered_stay program frames pass (AreCovered.AMethod frame below is rest) =
      AreCovered.AMethod frame below (covered_stays program frame (laws.front_of test (frame_references (OfMethod frame)) (flat_map frame_references below) pass) is)
      (below_stay program (result_at program frame.method) below (laws.rest_of test (frame_references (OfMethod frame)) (flat_map frame_references below) pass) rest)
  all_covered_stay program frames pass (AreCovered.AnInitialisation class place below is rest) =
      AreCovered.AnInitialisation class place below is (standing_stay program below pass rest)

  frames_stay : (program : Linked) (pending : ℕ) (frames : List Frame) → Pass (unless_null pending) → Pass (flat_map frame_references frames)
      → AreFrames program kinds pending frames → AreFrames program others pending frames
  frames_stay program pending frames waits pass (AreFrames.Running own standing) = AreFrames.Running own (standing_stay program own pass standing)
  frames_stay program pending frames waits pass (AreFrames.Unwinding serial own is covered) =
      AreFrames.Unwinding serial own (of_kind_stays program kind_of_throwable serial waits is) (all_covered_stay program own pass covered)

  -- ---- static fields and tables

  pub statics_stay : (program : Linked) (held : List Value) → Pass (references_in held) → AreStatics program kinds held → AreStatics program others held
  statics_stay program held pass statics = record {
    each = λ slot basic declared.
        let own = statics.each slot basic declared in
        record { value = own.value; there = own.there; fits = basic_stays program basic own.value (laws.all_in test reference_in held slot own.value own.there pass) own.fits };
    known = all_known_stay held pass statics.known;
  }

  table_stays : (program : Linked) (kind size : ℕ) (entries : List ℕ) → Pass (flat_map unless_null entries) → IsTable program kinds kind size entries
      → IsTable program others kind size entries
  table_stays program kind size entries pass table = record {
    count = table.count;
    each = λ place serial there. refers_stays program kind serial (laws.all_in test unless_null entries place serial there pass) (table.each place serial there);
  }

  pub tables_stay : (program : Linked) (tables : Tables) → Pass (table_references tables) → AreTables program kinds tables → AreTables program others tables
  tables_stay program tables pass are = record {
    constants = table_stays program kind_of_string (length program.constants) tables.constants (laws.constants_of test tables pass) are.constants;
    classes = table_stays program kind_of_class (length program.kinds) tables.classes (laws.classes_of test tables pass) are.classes;
    integers = table_stays program library.integer small_numbers tables.integers (laws.integers_of test tables pass) are.integers;
    longs = table_stays program library.long small_numbers tables.longs (laws.longs_of test tables pass) are.longs;
    characters = table_stays program library.character small_chars tables.characters (laws.characters_of test tables pass) are.characters;
    booleans = table_stays program library.boolean 2 tables.booleans (laws.booleans_of test tables pass) are.booleans;
  }

  -- ---- all roots, and an object

  pub roots_stay : (program : Linked) (roots : Roots) → Pass (root_references roots) → AreRoots program kinds roots → AreRoots program others roots
  roots_stay program roots pass are = record {
    frames = frames_stay program roots.pending roots.frames (laws.pending_of test roots pass) (laws.frames_of test roots pass) are.frames;
    statics = statics_stay program roots.statics (laws.statics_of test roots pass) are.statics;
    classes = are.classes;
    tables = tables_stay program roots.tables (laws.tables_of test roots pass) are.tables;
    argument = refers_stays program (kind_of_site program sites.arguments) roots.argument (laws.argument_of test roots pass) are.argument;
  }

  holds_stays : (program : Linked) (contents : List Content) (place : ℕ) (basic : Basic) → Pass (flat_map reference_in_word contents) → Holds program kinds contents place basic
      → Holds program others contents place basic
  holds_stays program contents place basic pass holds = record {
    content = holds.content;
    there = holds.there;
    fits = content_stays program basic holds.content (laws.all_in test reference_in_word contents place holds.content holds.there pass) holds.fits;
  }

  words_stay : (contents : List Content) → Pass (flat_map reference_in_word contents) → AllByRecursion (IsKnownWord kinds) contents → AllByRecursion (IsKnownWord others) contents
  words_stay [] pass known = tt
  words_stay (Number number ∷ contents) pass known = (tt, words_stay contents pass known.1)
  words_stay (Reference serial ∷ contents) pass known = (
    known_stays (values.Ref serial) (laws.front_of test (unless_null serial) (flat_map reference_in_word contents) pass) known.0,
    words_stay contents (laws.rest_of test (unless_null serial) (flat_map reference_in_word contents) pass) known.1,
  )

  pub object_stays : (program : Linked) (object : Object) → Pass (flat_map reference_in_word object.contents) → IsObject program kinds object → IsObject program others object
  object_stays program object pass is = record {
    kind = is.kind;
    site = is.site;
    sized = is.sized;
    fields = λ class slot basic own declared. holds_stays program object.contents slot basic pass (is.fields class slot basic own declared);
    elements = λ basic place own low. holds_stays program object.contents place basic pass (is.elements basic place own low);
    few = is.few;
    words = words_stay object.contents pass is.words;
  }
