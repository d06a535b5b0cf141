-- What a typed state names is there.
use Rattle.std.proofs.Common.{◌≡◌, ap, refl, ℕ, zero, suc, Bool, List, [], ◌∷◌, Option, Some, None, IsTrue, is_some, slice_get}
use Rattle.std.specs.List.{AllByRecursion, flat_map, list_all}
use Rattle.cb_heap.specs.Closed.{IsClosed, reference_in_word, references_in as references_in_objects}
use Rattle.cb_heap.specs.Kept.{is_held}
use Rattle.cb_heap.proofs.Laws as laws
use Rattle.cb_kinds.specs.declared.basic.Basic.{Basic}
use Rattle.cb_link.specs.Program.{Linked}
use Rattle.cb_plain.specs.Reach.{frame_references, reference_in, references_in, table_references, unless_null}
use Rattle.cb_plain.specs.State.{Content, Frame, MethodFrame, Number, Object, OfMethod, Reference, State, Tables}
use Rattle.cb_plain.specs.Updates.{kept}
use Rattle.cb_plain.specs.declared.value.Value.{Value}
use Rattle.cb_plain.specs.declared.value.Value.TheVariants as values
use Rattle.cb_verify.specs.declared.verification_type.VerificationType.{VerificationType}
use Rattle.cb_verify.specs.Within.{Within}
use Rattle.cb_safety.specs.Frames.{AreBelow, AreCovered, AreStanding, Stands, Waits, result_at}
use Rattle.cb_safety.specs.Heap.{IsKnownWord}
use Rattle.cb_safety.specs.Held.{HasContent, HaveTypes, IsStack}
use Rattle.cb_safety.specs.Kinds.{AreKnown, IsKnown, Kinds, Refers, kind_in, kinds_of}
use Rattle.cb_safety.specs.States.{AreFrames, AreTables, IsTable, IsTypedState}
use Rattle.cb_safety.proofs.Asking.{is_at}
use Rattle.cb_safety.proofs.Assigned.{typed_is_known}

module _ (program : Linked) (objects : List (Option Object)) where
  abbrev kinds : Kinds
  kinds = kinds_of objects

  abbrev held : ℕ → Bool
  held = is_held objects

  abbrev AreHeld : List ℕ → Type 0
  AreHeld references = IsTrue (list_all held references)

  -- ---- one reference

  kind_held : (serial own : ℕ) → kind_in kinds serial ≡ Some own → IsTrue (held serial)
  kind_held zero own is = refl
  kind_held (suc place) own is = ap is_some (is_at objects (suc place) own is).there

  one_held : (serial : ℕ) → IsTrue (held serial) → AreHeld (unless_null serial)
  one_held serial is = laws.passes_held objects serial is

  refers_held : (kind serial : ℕ) → Refers program kinds kind serial → AreHeld (unless_null serial)
  refers_held kind serial Refers.ToNull = refl
  refers_held kind serial (Refers.To own is) = one_held own (kind_held own is.own is.there)

  value_held : (value : Value) → IsKnown kinds value → AreHeld (reference_in value)
  value_held value (IsKnown.AnInt number) = refl
  value_held value (IsKnown.ALong number) = refl
  value_held value IsKnown.Null = refl
  value_held value (IsKnown.AnObject serial own is) = one_held serial (kind_held serial own is)

  -- ---- frames

  locals_held : (method : Within) (types : List VerificationType) (locals : List Value) → HaveTypes method kinds types locals → AreHeld (references_in locals)
  locals_held method types locals HaveTypes.NoMore = refl
  locals_held method types locals (HaveTypes.And type value others more has have) =
      laws.all_of held (reference_in value) (references_in more) (value_held value (typed_is_known method kinds type value has)) (locals_held method others more have)

  stack_held : (method : Within) (types : List VerificationType) (stack : List Value) → IsStack method kinds types stack → AreHeld (references_in stack)
  stack_held method types stack IsStack.Empty = refl
  stack_held method types stack (IsStack.Upon type value others below has words is) =
      laws.all_of held (reference_in value) (references_in below) (value_held value (typed_is_known method kinds type value has)) (stack_held method others below is)
  stack_held method types stack (IsStack.Halves number others below is) = stack_held method others below is

  stands_held : (frame : MethodFrame) → Stands program kinds frame → AreHeld (frame_references (OfMethod frame))
  stands_held frame stands =
      laws.all_of held (references_in frame.locals) (references_in frame.stack) (locals_held stands.at.method stands.at.types.locals frame.locals stands.locals)
      (stack_held stands.at.method stands.at.types.stack frame.stack stands.stack)

  waits_held : (result : Option Basic) (frame : MethodFrame) → Waits program kinds result frame → AreHeld (frame_references (OfMethod frame))
  waits_held result frame waits =
      laws.all_of held (references_in frame.locals) (references_in frame.stack) (locals_held waits.at.method waits.at.types.locals frame.locals waits.before)
      (stack_held waits.at.method waits.rest frame.stack waits.stack)

  mutual
    below_held : (result : Option Basic) (frames : List Frame) → AreBelow program kinds result frames → AreHeld (flat_map frame_references frames)
    below_held result frames AreBelow.Nothing = refl
    below_held result frames (AreBelow.ACall own frame below waits rest) =
        laws.all_of held (frame_references (OfMethod frame)) (flat_map frame_references below) (waits_held own frame waits) (below_held (result_at program frame.method) below rest)
    below_held result frames (AreBelow.AnInitialiser class place below is rest) = standing_held below rest

    standing_held : (frames : List Frame) → AreStanding program kinds frames → AreHeld (flat_map frame_references frames)
    standing_held frames AreStanding.NotYet = refl
    standing_held frames (AreStanding.AMethod frame below stands rest) =
        laws.all_of held (frame_references (OfMethod frame)) (flat_map frame_references below) (stands_held frame stands) (below_held (result_at program frame.method) below rest)
    standing_held frames (AreStanding.AnInitialisation class place below is rest) = standing_held below rest

  values_held : (each : List Value) → AreKnown kinds each → AreHeld (references_in each)
  values_held [] known = refl
  values_held (value ∷ each) known = laws.all_of held (reference_in value) (references_in each) (value_held value known.0) (values_held each known.1)

  covered_held : (frames : List Frame) → AreCovered program kinds frames → AreHeld (flat_map frame_references frames)
  covered_held frames AreCovered.Nothing = refl
  covered_held frames (AreCovered.AMethod frame below covered rest) =
      laws.all_of held (frame_references (OfMethod frame)) (flat_map frame_references below)
      (laws.all_of held (references_in frame.locals) (references_in frame.stack) (locals_held covered.at.method covered.at.types.locals frame.locals covered.locals)
      (values_held frame.stack covered.stack)) (below_held (result_at program frame.method) below rest)
  covered_held frames (AreCovered.AnInitialisation class place below is rest) = standing_held below rest

  frames_held : (pending : ℕ) (frames : List Frame) → AreFrames program kinds pending frames → AreHeld (flat_map frame_references frames)
  frames_held pending frames (AreFrames.Running own standing) = standing_held own standing
  frames_held pending frames (AreFrames.Unwinding serial own is covered) = covered_held own covered

  pending_held : (pending : ℕ) (frames : List Frame) → AreFrames program kinds pending frames → AreHeld (unless_null pending)
  pending_held pending frames (AreFrames.Running own standing) = refl
  pending_held pending frames (AreFrames.Unwinding serial own is covered) = one_held serial (kind_held serial is.own is.there)

  -- ---- objects

  words_held : (contents : List Content) → AllByRecursion (IsKnownWord kinds) contents → AreHeld (flat_map reference_in_word contents)
  words_held [] known = refl
  words_held (Number number ∷ contents) known = words_held contents known.1
  words_held (Reference serial ∷ contents) known =
      laws.all_of held (unless_null serial) (flat_map reference_in_word contents) (value_held (values.Ref serial) known.0) (words_held contents known.1)

  objects_held : (entries : List (Option Object)) → ((place : ℕ) (object : Object) → kept (slice_get entries place) ≡ Some object → AllByRecursion (IsKnownWord kinds) object.contents)
      → AreHeld (references_in_objects entries)
  objects_held [] each = refl
  objects_held (None ∷ entries) each = objects_held entries (λ place. each (suc place))
  objects_held (Some object ∷ entries) each =
      laws.all_of held (flat_map reference_in_word object.contents) (references_in_objects entries) (words_held object.contents (each 0 object refl))
      (objects_held entries (λ place. each (suc place)))

  -- ---- tables

  entries_held : (entries : List ℕ) → ((place serial : ℕ) → slice_get entries place ≡ Some serial → AreHeld (unless_null serial)) → AreHeld (flat_map unless_null entries)
  entries_held [] each = refl
  entries_held (serial ∷ entries) each =
      laws.all_of held (unless_null serial) (flat_map unless_null entries) (each 0 serial refl) (entries_held entries (λ place. each (suc place)))

  table_held : (kind size : ℕ) (entries : List ℕ) → IsTable program kinds kind size entries → AreHeld (flat_map unless_null entries)
  table_held kind size entries table = entries_held entries (λ place serial there. refers_held kind serial (table.each place serial there))

  tables_held : (tables : Tables) → AreTables program kinds tables → AreHeld (table_references tables)
  tables_held tables are =
      laws.joined_tables held tables (table_held _ _ tables.constants are.constants) (table_held _ _ tables.classes are.classes)
      (table_held _ _ tables.integers are.integers) (table_held _ _ tables.longs are.longs) (table_held _ _ tables.characters are.characters)
      (table_held _ _ tables.booleans are.booleans)

-- ---- in a word of an object that may hold it, and in a typed state

pub words_name_objects : (program : Linked) (objects : List (Option Object)) (basic : Basic) (content : Content) → HasContent program (kinds_of objects) basic content
    → IsTrue (list_all (is_held objects) (reference_in_word content))
words_name_objects program objects basic content (HasContent.AReference kind serial refers) = refers_held program objects kind serial refers
words_name_objects program objects basic content (HasContent.ALong number fits) = refl
words_name_objects program objects basic content (HasContent.AnInt own number sort fits kept) = refl

pub typed_states_are_closed : (program : Linked) (state : State) → IsTypedState program state → IsClosed (record { roots = state.roots; objects = state.objects })
typed_states_are_closed program state typed = record {
  roots =
      laws.joined (is_held state.objects) state.roots (frames_held program state.objects state.roots.pending state.roots.frames typed.roots.frames)
      (values_held program state.objects state.roots.statics typed.roots.statics.known) (tables_held program state.objects state.roots.tables typed.roots.tables)
      (pending_held program state.objects state.roots.pending state.roots.frames typed.roots.frames)
      (refers_held program state.objects _ state.roots.argument typed.roots.argument);
  objects = objects_held program state.objects state.objects (λ place object there. (typed.heap.each (suc place) object there).words);
}
