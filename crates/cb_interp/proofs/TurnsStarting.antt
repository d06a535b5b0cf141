-- What is placed at the start of a run, and that its roots and objects are those of the machine's first state.
use Rattle.std.proofs.Common.{◌≡◌, ◌∙◌, ap, refl, sym, subst, arith, ℕ, zero, suc, ◌+◌, ◌*◌, List, [], ◌∷◌, length, Option, Some, None, IsTrue}
use Rattle.std.proofs.lemmas.Bool.{false≢true}
use Rattle.std.proofs.lemmas.List.{length-map}
use Rattle.std.proofs.lemmas.List.FromFn.{length-map-range_with_len}
use Rattle.std.specs.List.{fold, list_all}
use Rattle.std.specs.Prelude.{IsErr, IsErrAnd}
use Rattle.std.specs.declared.result.Result.{Result}
use Rattle.std.specs.declared.result.Result.TheVariants.{Err, Ok}
use Rattle.cb_heap.proofs.Laws.{reads_static, roots_again}
use Rattle.cb_heap.specs.Closed.{IsClosed}
use Rattle.cb_heap.specs.Kept.{is_held, keep, residents}
use Rattle.cb_heap.specs.Reading.{View, read_roots, read_value, seen, serial_of}
use Rattle.cb_heap.specs.Rules.{Rules}
use Rattle.cb_heap.specs.Store.{ReadsAsBefore}
use Rattle.cb_heap.specs.declared.no_room.NoRoom.{NoRoom}
use Rattle.cb_link.specs.Program.{Linked}
use Rattle.cb_link.specs.Slots.{statics}
use Rattle.cb_machine.specs.Initialising.{own_statics}
use Rattle.cb_machine.specs.Library.{system}
use Rattle.cb_machine.specs.Machine.{Machine}
use Rattle.cb_machine.specs.Plans.{asked}
use Rattle.cb_machine.specs.Starting.{empty_roots, start_plan}
use Rattle.cb_plain.specs.Reach.{root_references}
use Rattle.cb_plain.specs.Requests.{add_want}
use Rattle.cb_plain.specs.Roots.{with_argument, with_static}
use Rattle.cb_plain.specs.State.{Object, Roots, State}
use Rattle.cb_plain.specs.Updates.{with_objects}
use Rattle.cb_plain.specs.declared.shape.Shape.{Shape}
use Rattle.cb_plain.specs.declared.value.Value.TheVariants.{Ref}
use Rattle.cb_plain.specs.declared.want.Want.{Want}
use Rattle.cb_safety.proofs.Laws.{typed_states_are_closed}
use Rattle.cb_safety.specs.States.{IsTypedState}
use Rattle.cb_interp.specs.Arguments.{all_wants}
use Rattle.cb_interp.specs.Starting.{BeginsWith, MayStart, first_objects, first_value, knows_first, settled, unread, with_streams}
use Rattle.cb_act.specs.Turning.{Moment, StandsAt, state_of}
use Rattle.cb_interp.proofs.TurnsMade.{marks_count}
use Rattle.cb_interp.proofs.TurnsStartingPlan.{asks_so, knows_so, start_is}
use Rattle.cb_interp.proofs.TurnsStartingRoots.{empty_held, empty_read}

-- ---- places that read as before

-- over no objects only null is held, which reads as null
only_null : (serial : ℕ) → IsTrue (is_held [] serial) → serial ≡ 0
only_null zero held = refl
only_null (suc place) held = absurd (false≢true held)

pub still : (objects : List (Option Object)) (before after : ℕ → ℕ) → ReadsAsBefore objects before after → (place serial : ℕ) → serial_of before place ≡ serial
    → IsTrue (is_held objects serial) → serial_of after place ≡ serial
still objects before after again place serial is held = again place (subst (λ (serial : ℕ). IsTrue (is_held objects serial)) (sym is) held) ∙ is

-- nothing but null reads as it did over no objects
pub nulls_then : (objects : List (Option Object)) (first second third : ℕ → ℕ) → ReadsAsBefore [] first second → ReadsAsBefore objects second third → ReadsAsBefore [] first third
nulls_then objects first second third placed more place held =
    let null : serial_of first place ≡ 0 = only_null (serial_of first place) held in
    still objects second third more place 0 (placed place held ∙ null) refl ∙ sym null

-- ---- roots

pub none_left : (objects : List (Option Object)) → length objects ≡ 0 → objects ≡ []
none_left [] is = refl
none_left (entry ∷ objects) is = absurd (omega (arith, is))

streams_read : (index : ℕ → ℕ) (slots : List ℕ) (out input : ℕ) (held : Roots)
    → read_roots index (with_streams slots out input held) ≡ with_streams slots (serial_of index out) (serial_of index input) (read_roots index held)
streams_read index [] out input held = refl
streams_read index (slot ∷ slots) out input held =
    streams_read index slots input input (with_static held slot (Ref out))
    ∙ ap (with_streams slots (serial_of index input) (serial_of index input)) (reads_static index held slot (Ref out))

abbrev pub over_nothing : Roots → View
over_nothing roots = record { roots = roots; objects = [] }

module _ (program : Linked) where
  pub seen_empty : (index : ℕ → ℕ) (kept : List (Option Object)) (held : Roots) → kept ≡ [] → held ≡ empty_roots program
      → seen index kept held ≡ over_nothing (empty_roots program)
  seen_empty index kept held nothing is =
      ap (λ (kept : List (Option Object)). seen index kept held) nothing ∙ ap (λ (held : Roots). over_nothing (read_roots index held)) is
      ∙ ap over_nothing (empty_read program index)

  pub statics_count : (index : ℕ → ℕ) (held : Roots) → read_roots index held ≡ empty_roots program → length held.statics ≡ length (statics program.classes)
  statics_count index held is =
      sym (length-map held.statics (read_value index)) ∙ ap (λ (roots : Roots). length roots.statics) is
      ∙ length-map-range_with_len (first_value program) 0 (length (statics program.classes))

  module _ (before after : ℕ → ℕ) (held : Roots) (is : read_roots before held ≡ empty_roots program) (again : ReadsAsBefore [] before after) where
    same_read : read_roots after held ≡ empty_roots program
    same_read =
        roots_again [] before after again held
        (subst (λ (roots : Roots). IsTrue (list_all (is_held []) (root_references roots))) (sym is) (empty_held program (is_held []))) ∙ is

    module _ (one two three array out input : ℕ) (is_array : serial_of after array ≡ one) (is_out : serial_of after out ≡ two) (is_input : serial_of after input ≡ three) where
      settled_read : read_roots after (settled program array out input held) ≡ settled program one two three (empty_roots program)
      settled_read =
          ap (λ (roots : Roots). with_argument roots (serial_of after array)) (streams_read after (own_statics program system) out input held)
          ∙ ap (settled program (serial_of after array) (serial_of after out) (serial_of after input)) same_read
          ∙ ap (λ (array : ℕ). settled program array (serial_of after out) (serial_of after input) (empty_roots program)) is_array
          ∙ ap (λ (out : ℕ). settled program one out (serial_of after input) (empty_roots program)) is_out
          ∙ ap (λ (input : ℕ). settled program one two input (empty_roots program)) is_input

      -- what is seen in the end
      pub state_so : (objects all : List (Option Object)) (left : Roots) (input_left : List ℕ) → left ≡ settled program array out input held → objects ≡ all
          → state_of (seen after objects left) (unread input_left)
          ≡ state_of (record { roots = settled program one two three (empty_roots program); objects = all }) (unread input_left)
      state_so objects all left input_left leaves kept =
          ap (λ (roots : Roots). state_of (record { roots = roots; objects = objects }) (unread input_left)) (ap (read_roots after) leaves ∙ settled_read)
          ∙ ap (λ (objects : List (Option Object)). state_of (record { roots = settled program one two three (empty_roots program); objects = objects }) (unread input_left)) kept

-- ---- the answer

module _ {Facts : Type 0} (rules : Rules Facts) (machine : Machine) (known : Facts) (given : List (List ℕ)) where
  abbrev nothing : View
  nothing = over_nothing (empty_roots machine.program)

  -- room is made over no objects
  pub ruled_so : (index : ℕ → ℕ) (kept left : List (Option Object)) (held : Roots) (wants : List Want) (result : Result (Unit {0}) NoRoom) (facts : Facts) → kept ≡ []
      → held ≡ empty_roots machine.program → wants ≡ fold add_want [] (all_wants given) → length left ≡ length kept
      → rules.makes_room known (seen index kept held) wants result (record { facts = facts; residents = residents left })
      → (input : List ℕ) → rules.makes_room known nothing (asked (start_plan machine given input)) result (record { facts = facts; residents = [] })
  ruled_so index kept left held wants result facts none is asks count ruled input =
      subst (λ (view : View). rules.makes_room known view (asked (start_plan machine given input)) result (record { facts = facts; residents = [] }))
      (seen_empty machine.program index kept held none is)
      (subst (λ (wants : List Want). rules.makes_room known (seen index kept held) wants result (record { facts = facts; residents = [] })) (asks ∙ sym (asks_so machine given input))
      (subst (λ (left : List (Option Object)). rules.makes_room known (seen index kept held) wants result (record { facts = facts; residents = residents left }))
      (none_left left (count ∙ ap (λ (kept : List (Option Object)). length kept) none)) ruled))

  pub begins_with : (shapes : List Shape) → MayStart machine.program shapes → (input : List ℕ) (middle : Facts) (moment : Moment Facts)
      → rules.makes_room known nothing (asked (start_plan machine given input)) (Ok tt) (record { facts = middle; residents = [] })
      → moment.state
      ≡ state_of (record { roots = settled machine.program 1 (2 * length given + 2) (2 * length given + 3) (empty_roots machine.program); objects = first_objects machine.program given }) (unread input)
      → moment.facts ≡ knows_first rules middle given → BeginsWith rules machine given input known moment
  begins_with shapes may input middle moment ruled state knows = record {
    middle = middle;
    ruled = ruled;
    starts = state ∙ sym (start_is machine given input may.first may.second may.slots);
    knows = knows ∙ sym (knows_so rules machine given input middle);
  }

-- a refusal that is handed on is the same
pub handed_same : {Made Fault : Type 0} (result : Result Made Fault) (fault : Fault) → IsErr result × IsErrAnd result (λ told. told ≡ fault) → result ≡ Err fault
handed_same (Ok made) fault on = absurd on.1
handed_same {Made} {Fault} (Err told) fault on = ap {B = Result Made Fault} Err on.1

-- ---- a typed state stands for itself

keep_own : (objects : List (Option Object)) → keep (residents objects) objects ≡ objects
keep_own [] = refl
keep_own (None ∷ objects) = ap (λ (rest : List (Option Object)). None ∷ rest) (keep_own objects)
keep_own (Some object ∷ objects) = ap (λ (rest : List (Option Object)). Some object ∷ rest) (keep_own objects)

pub stands_itself : {Facts : Type 0} (program : Linked) (moment : Moment Facts) (full : State) → moment.state ≡ full → IsTypedState program full → StandsAt moment full
stands_itself program moment full is typed = record {
  kept = residents full.objects;
  same = is ∙ ap (with_objects full) (sym (keep_own full.objects));
  marks = ap residents (keep_own full.objects);
  keeping = record {
    count = marks_count full.objects;
    closed = subst (λ (objects : List (Option Object)). IsClosed (record { roots = full.roots; objects = objects })) (sym (keep_own full.objects))
        (typed_states_are_closed program full typed);
  };
}
