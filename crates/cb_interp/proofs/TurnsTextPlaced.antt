-- The constants of static fields are placed, one after the other.
use Rattle.std.proofs.Common.{◌≡◌, ◌∙◌, ap, ap₂, append_assoc, arith, refl, sym, subst, ℕ, zero, suc, ◌+◌, ◌^◌, ◌<◌, ◌≤◌, ◌++◌, List, [], ◌∷◌, length, slice_get, Option, Some, None, IsTrue}
use Rattle.std.proofs.lemmas.List.{length-set}
use Rattle.std.specs.List.{flat_map, fold, list_all}
use Rattle.cb_heap.proofs.Laws.{all_in, closed_static, constants_of, held_from, passes_held, tables_of}
use Rattle.cb_heap.specs.Closed.{IsClosed, references_in}
use Rattle.cb_heap.specs.Kept.{is_held, is_kept}
use Rattle.cb_heap.specs.Reading.{View, read_value}
use Rattle.cb_heap.specs.Rules.{Rules}
use Rattle.cb_kinds.specs.declared.basic.Basic.{Basic}
use Rattle.cb_link.specs.Named.{static_initial}
use Rattle.cb_link.specs.Program.{Linked}
use Rattle.cb_link.specs.Slots.{static_basic, statics}
use Rattle.cb_link.specs.declared.named.Named.{Named}
use Rattle.cb_link.specs.declared.named.Named.TheVariants as meanings
use Rattle.cb_machine.specs.Machine.{Machine, kind_of_site, listed, or_zero}
use Rattle.cb_machine.specs.Plans.{One, Plan, made, object_of, objects_of}
use Rattle.cb_machine.specs.Sites.{constant_characters, constant_strings}
use Rattle.cb_machine.specs.Strings.{constant_string, unit_contents}
use Rattle.cb_machine.specs.Values.{kept_value}
use Rattle.cb_plain.specs.Reach.{reference_in, unless_null}
use Rattle.cb_plain.specs.Requests.{spent, words_at}
use Rattle.cb_plain.specs.Roots as roots
use Rattle.cb_plain.specs.State.{Object, Reference, State, words_of}
use Rattle.cb_plain.specs.Updates.{with_static}
use Rattle.cb_plain.specs.declared.value.Value.{Value}
use Rattle.cb_plain.specs.declared.value.Value.TheVariants as values
use Rattle.cb_plain.specs.declared.want.Want.{Want}
use Rattle.cb_unwind.proofs.Laws.{constant_so, initial_read}
use Rattle.cb_unwind.specs.Steps as unwound
use Rattle.cb_unwind.specs.Strings.{new_constant, units_of, with_constant}
use Rattle.cb_interp.specs.Arguments.{Covers}
use Rattle.cb_interp.specs.TextStatics.{AreLow, HasSerials, knows_if_new, knows_to, seen_to, set_initial, set_static, set_to, set_whole, spent_if_new, spent_to, text_wants, wants_behind, wants_if_new, wants_to, with_found}
use Rattle.cb_act.specs.Turning.{Outside, facts_behind, knows_placed, state_of}
use Rattle.cb_interp.proofs.TurnsNeedDivides.{text_closed, text_count, text_stands}
use Rattle.cb_interp.proofs.TurnsNeedLoads.{units_count}
use Rattle.cb_interp.proofs.TurnsStartingRoom.{covers_first, covers_rest, spent_here, spent_there}
use Rattle.cb_interp.proofs.TurnsTextAsks.{two_more}
use Rattle.cb_interp.proofs.TurnsTextSet.{constant_statics}

-- ---- what the machine plans is what is left

module _ (machine : Machine) (slot : ℕ) (plan : Plan) (view : View) (outside : Outside) (is : made plan ≡ state_of view outside) (next : plan.next ≡ length view.objects + 1) where
  abbrev table_is : plan.left.roots.tables.constants ≡ view.roots.tables.constants
  table_is = ap (λ (state : State). state.roots.tables.constants) is

  text_made : (text : ℕ) → made (set_static slot (constant_string machine text plan)) ≡ state_of (with_found slot (with_constant machine.program text view)) outside
  text_made text =
      let said = constant_so machine text plan (next ∙ ap (λ (state : State). length state.objects + 1) (sym is)) in
      ap₂ (λ (state : State) (serial : ℕ). with_static state slot (values.Ref serial)) said.0 said.1
      ∙ ap (λ (state : State). with_static (unwound.with_view state (with_constant machine.program text (unwound.view_of state)).1) slot
      (values.Ref (with_constant machine.program text (unwound.view_of state)).0)) is

  whole_made : (value : Value) (basic : Option Basic) → static_basic machine.program slot ≡ basic
      → made (set_whole slot value plan basic) ≡ state_of (seen_to machine.program slot view (meanings.Whole value)) outside
  whole_made value None at = rw at is
  whole_made value (Some basic) at = rw at (ap (λ (state : State). with_static state slot (kept_value basic value)) is)

  pub made_to : (named : Named) → made (set_to machine slot plan named) ≡ state_of (seen_to machine.program slot view named) outside
  made_to meanings.Nothing = is
  made_to (meanings.Kind kind) = is
  made_to (meanings.Static class other) = is
  made_to (meanings.Field class other) = is
  made_to (meanings.Method method) = is
  made_to (meanings.Whole value) = whole_made value (static_basic machine.program slot) refl
  made_to (meanings.Text text) = text_made text

  text_next : (text serial : ℕ) → listed view.roots.tables.constants text ≡ serial
      → (set_static slot (constant_string machine text plan)).next ≡ length (with_found slot (with_constant machine.program text view)).objects + 1
  text_next text zero at =
      let planned : listed plan.left.roots.tables.constants text ≡ 0 = ap (λ (table : List ℕ). listed table text) table_is ∙ at in
      let count = text_count machine.program text view in
      let more : plan.next + 1 + 1 ≡ length (new_constant machine.program text view).1.objects + 1 = omega (arith, next, count) in
      rw (planned, at) more
  text_next text (suc place) at =
      let planned : listed plan.left.roots.tables.constants text ≡ suc place = ap (λ (table : List ℕ). listed table text) table_is ∙ at in
      rw (planned, at) next

  whole_next : (value : Value) (basic : Option Basic) → (set_whole slot value plan basic).next ≡ plan.next
  whole_next value None = refl
  whole_next value (Some basic) = refl

  pub next_to : (named : Named) → (set_to machine slot plan named).next ≡ length (seen_to machine.program slot view named).objects + 1
  next_to meanings.Nothing = next
  next_to (meanings.Kind kind) = next
  next_to (meanings.Static class other) = next
  next_to (meanings.Field class other) = next
  next_to (meanings.Method method) = next
  next_to (meanings.Whole value) = whole_next value (static_basic machine.program slot) ∙ next
  next_to (meanings.Text text) = text_next text (listed view.roots.tables.constants text) refl

-- ---- what a store knows

module _ {Facts : Type 0} (rules : Rules Facts) (first : Facts) (machine : Machine) (slot : ℕ) (plan : Plan) where
  both_known : (text serial kind string : ℕ) → fold (knows_placed rules) first (flat_map objects_of ((plan.placed ++ One constant_characters kind (unit_contents (units_of machine.program text)) ∷ [])
      ++ One constant_strings string (Reference serial ∷ []) ∷ []))
      ≡ knows_if_new rules machine.program (facts_behind rules first plan.placed) text zero
  both_known text serial kind string =
      two_more objects_of (knows_placed rules) first plan.placed (One constant_characters kind (unit_contents (units_of machine.program text))) (One constant_strings string (Reference serial ∷ []))
      ∙ ap (λ (count : ℕ). rules.placed (rules.placed (facts_behind rules first plan.placed) constant_characters count) constant_strings 1) (units_count machine.program text)

  text_facts : (text serial : ℕ) → listed plan.left.roots.tables.constants text ≡ serial
      → facts_behind rules first (set_static slot (constant_string machine text plan)).placed ≡ knows_if_new rules machine.program (facts_behind rules first plan.placed) text serial
  text_facts text zero at = rw at (both_known text plan.next (kind_of_site machine.program constant_characters) (kind_of_site machine.program constant_strings))
  text_facts text (suc place) at = rw at refl

  whole_facts : (value : Value) (basic : Option Basic) → facts_behind rules first (set_whole slot value plan basic).placed ≡ facts_behind rules first plan.placed
  whole_facts value None = refl
  whole_facts value (Some basic) = refl

  pub facts_to : (named : Named) → facts_behind rules first (set_to machine slot plan named).placed
      ≡ knows_to rules machine.program plan.left.roots.tables.constants (facts_behind rules first plan.placed) named
  facts_to meanings.Nothing = refl
  facts_to (meanings.Kind kind) = refl
  facts_to (meanings.Static class other) = refl
  facts_to (meanings.Field class other) = refl
  facts_to (meanings.Method method) = refl
  facts_to (meanings.Whole value) = whole_facts value (static_basic machine.program slot)
  facts_to (meanings.Text text) = text_facts text (listed plan.left.roots.tables.constants text) refl

-- ---- room

module _ (program : Linked) (table : List ℕ) (granted rest : List Want) where
  abbrev array_want : ℕ → Want
  array_want text = record { site = constant_characters; words = words_of (length (units_of program text)) }

  abbrev string_want : Want
  string_want = record { site = constant_strings; words = words_of 1 }

  pub room_array : (text : ℕ) → Covers granted (text_wants program text ++ rest) → words_of (length (units_of program text)) ≤ words_at granted constant_characters
  room_array text covers = covers_first granted (array_want text) (string_want ∷ rest) covers

  pub room_string : (text : ℕ) → Covers granted (text_wants program text ++ rest)
      → words_of 1 ≤ words_at (spent granted constant_characters (words_of (length (units_of program text)))) constant_strings
  room_string text covers =
      covers_first (spent granted constant_characters (words_of (length (units_of program text)))) string_want rest (covers_rest granted (array_want text) (string_want ∷ rest) covers)

  covers_text : (text serial : ℕ) → Covers granted (wants_if_new program text serial ++ rest) → Covers (spent_if_new program granted text serial) rest
  covers_text text zero covers =
      covers_rest (spent granted constant_characters (words_of (length (units_of program text)))) string_want rest (covers_rest granted (array_want text) (string_want ∷ rest) covers)
  covers_text text (suc place) covers = covers

  pub covers_to : (named : Named) → Covers granted (wants_to program table named ++ rest) → Covers (spent_to program table granted named) rest
  covers_to meanings.Nothing covers = covers
  covers_to (meanings.Kind kind) covers = covers
  covers_to (meanings.Static class other) covers = covers
  covers_to (meanings.Field class other) covers = covers
  covers_to (meanings.Method method) covers = covers
  covers_to (meanings.Whole value) covers = covers
  covers_to (meanings.Text text) covers = covers_text text (listed table text) covers

-- serials stay low
still : (objects : ℕ) (granted rest : List Want) → AreLow objects granted → HasSerials objects granted rest
still objects granted [] low = tt
still objects granted (want ∷ rest) low = low

module _ (program : Linked) (slot : ℕ) (view : View) (granted rest : List Want) where
  pub room_serials : AreLow (length view.objects) granted → (text : ℕ) → Covers granted (text_wants program text ++ rest) → length view.objects + 2 < 2 ^ 63
  room_serials serials text covers =
      let array = room_array program [] granted rest text covers in
      let string = room_string program [] granted rest text covers in
      let same = spent_there granted constant_characters (words_of (length (units_of program text))) constant_strings refl in
      omega (arith, serials, array, string, same)

  text_serials : (text serial : ℕ) → listed view.roots.tables.constants text ≡ serial → HasSerials (length view.objects) granted (wants_if_new program text serial ++ rest)
      → Covers granted (wants_if_new program text serial ++ rest)
      → HasSerials (length (with_constant program text view).1.objects) (spent_if_new program granted text serial) rest
  text_serials text zero at serials covers =
      let array = room_array program [] granted rest text covers in
      let string = room_string program [] granted rest text covers in
      let one : List Want = spent granted constant_characters (words_of (length (units_of program text))) in
      let one_here = spent_here granted constant_characters (words_of (length (units_of program text))) in
      let one_there = spent_there granted constant_characters (words_of (length (units_of program text))) constant_strings refl in
      let two_here = spent_here one constant_strings (words_of 1) in
      let two_there = spent_there one constant_strings (words_of 1) constant_characters refl in
      let count = text_count program text view in
      let left : AreLow (length (new_constant program text view).1.objects) (spent one constant_strings (words_of 1)) =
      omega (arith, serials, array, string, one_here, one_there, two_here, two_there, count) in
      let so = still (length (new_constant program text view).1.objects) (spent one constant_strings (words_of 1)) rest left in
      rw at so
  text_serials text (suc place) at serials covers = rw at serials

  pub serials_to : (named : Named) → HasSerials (length view.objects) granted (wants_to program view.roots.tables.constants named ++ rest)
      → Covers granted (wants_to program view.roots.tables.constants named ++ rest)
      → HasSerials (length (seen_to program slot view named).objects) (spent_to program view.roots.tables.constants granted named) rest
  serials_to meanings.Nothing serials covers = serials
  serials_to (meanings.Kind kind) serials covers = serials
  serials_to (meanings.Static class other) serials covers = serials
  serials_to (meanings.Field class other) serials covers = serials
  serials_to (meanings.Method method) serials covers = serials
  serials_to (meanings.Whole value) serials covers = serials
  serials_to (meanings.Text text) serials covers = text_serials text (listed view.roots.tables.constants text) refl serials covers

-- ---- views stay closed

no_reference : (basic : Basic) (value : Value) → ((index : ℕ → ℕ) → read_value index value ≡ value) → reference_in (kept_value basic value) ≡ []
no_reference basic (values.Int number) same = refl
no_reference basic (values.Long number) same = refl
no_reference basic (values.Ref zero) same = refl
no_reference basic (values.Ref (suc place)) same =
    let not : values.Ref (suc (place + 1)) ≡ values.Ref (suc place) = same (λ at. place + 1) in
    let serial : suc (place + 1) ≡ suc place = ap serial_in not in
    absurd (omega (arith, serial))
  where
    serial_in : Value → ℕ
    serial_in (values.Ref place) = place
    serial_in other = 0

module _ (program : Linked) (slot : ℕ) (view : View) (closed : IsClosed view) where
  found_closed : (found : ℕ × View) → IsClosed found.1 → IsTrue (is_held found.1.objects found.0) → IsClosed (with_found slot found)
  found_closed found inside held = record {
    roots = closed_static (is_held found.1.objects) found.1.roots slot (values.Ref found.0) inside.roots (passes_held found.1.objects found.0 held);
    objects = inside.objects;
  }

  new_closed : (text : ℕ) → IsClosed (new_constant program text view).1
  new_closed text = record {
    roots = (text_stands program text view closed).0;
    objects = subst (λ (objects : List (Option Object)). IsTrue (list_all (is_held objects) (references_in objects)))
        (append_assoc view.objects
        (Some (object_of constant_characters (kind_of_site program constant_characters) (unit_contents (units_of program text))) ∷ [])
        (Some (object_of constant_strings (kind_of_site program constant_strings) (Reference (length view.objects + 1) ∷ [])) ∷ []))
        (text_closed program text view closed).objects;
  }

  held_of : (objects : List (Option Object)) (serial : ℕ) → IsTrue (is_kept objects serial) → IsTrue (is_held objects serial)
  held_of objects zero kept = refl
  held_of objects (suc place) kept = kept

  entry_held : (text place : ℕ) → (found : Option ℕ) → slice_get view.roots.tables.constants text ≡ found → or_zero found ≡ suc place → IsTrue (is_held view.objects (suc place))
  entry_held text place None at is = absurd (cc is)
  entry_held text place (Some entry) at is =
      let all = all_in (is_held view.objects) unless_null view.roots.tables.constants text entry at
      (constants_of (is_held view.objects) view.roots.tables (tables_of (is_held view.objects) view.roots closed.roots)) in
      held_from view.objects (suc place) (subst (λ (serial : ℕ). IsTrue (list_all (is_held view.objects) (unless_null serial))) is all)

  text_is_closed : (text serial : ℕ) → listed view.roots.tables.constants text ≡ serial → IsClosed (with_found slot (with_constant program text view))
  text_is_closed text zero at =
      let so : IsClosed (with_found slot (new_constant program text view)) =
      found_closed (new_constant program text view) (new_closed text)
      (held_of (new_constant program text view).1.objects (new_constant program text view).0 (text_stands program text view closed).1) in
      rw at so
  text_is_closed text (suc place) at =
      let so : IsClosed (with_found slot (suc place, view)) = found_closed (suc place, view) closed (entry_held text place (slice_get view.roots.tables.constants text) refl at) in
      rw at so

  whole_closed : (value : Value) (basic : Option Basic) → static_basic program slot ≡ basic → ((index : ℕ → ℕ) → read_value index value ≡ value)
      → IsClosed (seen_to program slot view (meanings.Whole value))
  whole_closed value None at same = rw at closed
  whole_closed value (Some basic) at same =
      let so : IsClosed (record { roots = roots.with_static view.roots slot (kept_value basic value); objects = view.objects }) =
      record {
        roots = closed_static (is_held view.objects) view.roots slot (kept_value basic value) closed.roots
            (ap (list_all (is_held view.objects)) (no_reference basic value same));
        objects = closed.objects;
      } in
      rw at so

  pub closed_to : (named : Named) → static_initial program slot ≡ named → IsClosed (seen_to program slot view named)
  closed_to meanings.Nothing is = closed
  closed_to (meanings.Kind kind) is = closed
  closed_to (meanings.Static class other) is = closed
  closed_to (meanings.Field class other) is = closed
  closed_to (meanings.Method method) is = closed
  closed_to (meanings.Whole value) is = whole_closed value (static_basic program slot) refl (λ index. initial_read program index slot value is)
  closed_to (meanings.Text text) is = text_is_closed text (listed view.roots.tables.constants text) refl

-- ---- as many static fields and texts stay

module _ (program : Linked) (slot : ℕ) (view : View) where
  text_statics : (text : ℕ) → length (with_found slot (with_constant program text view)).roots.statics ≡ length view.roots.statics
  text_statics text =
      length-set (with_constant program text view).1.roots.statics slot (values.Ref (with_constant program text view).0) ∙ constant_statics program text view

  whole_statics : (value : Value) (basic : Option Basic) → static_basic program slot ≡ basic
      → length (seen_to program slot view (meanings.Whole value)).roots.statics ≡ length view.roots.statics
  whole_statics value None at = rw at refl
  whole_statics value (Some basic) at = rw at (length-set view.roots.statics slot (kept_value basic value))

  pub statics_to : (named : Named) → length (seen_to program slot view named).roots.statics ≡ length view.roots.statics
  statics_to meanings.Nothing = refl
  statics_to (meanings.Kind kind) = refl
  statics_to (meanings.Static class other) = refl
  statics_to (meanings.Field class other) = refl
  statics_to (meanings.Method method) = refl
  statics_to (meanings.Whole value) = whole_statics value (static_basic program slot) refl
  statics_to (meanings.Text text) = text_statics text

  text_tables : (text serial : ℕ) → listed view.roots.tables.constants text ≡ serial
      → length (with_found slot (with_constant program text view)).roots.tables.constants ≡ length view.roots.tables.constants
  text_tables text zero at = rw at (length-set view.roots.tables.constants text (length view.objects + 2))
  text_tables text (suc place) at = rw at refl

  whole_tables : (value : Value) (basic : Option Basic) → static_basic program slot ≡ basic
      → length (seen_to program slot view (meanings.Whole value)).roots.tables.constants ≡ length view.roots.tables.constants
  whole_tables value None at = rw at refl
  whole_tables value (Some basic) at = rw at refl

  pub tables_to : (named : Named) → length (seen_to program slot view named).roots.tables.constants ≡ length view.roots.tables.constants
  tables_to meanings.Nothing = refl
  tables_to (meanings.Kind kind) = refl
  tables_to (meanings.Static class other) = refl
  tables_to (meanings.Field class other) = refl
  tables_to (meanings.Method method) = refl
  tables_to (meanings.Whole value) = whole_tables value (static_basic program slot) refl
  tables_to (meanings.Text text) = text_tables text (listed view.roots.tables.constants text) refl

-- ---- so far

pub record PlacedSoFar {Facts : Type 0} (rules : Rules Facts) (machine : Machine) (first : Facts) (whole : Plan) (outside : Outside) (slots : List ℕ) (view : View) (facts : Facts)
    (granted : List Want) : Type 0 where
  pub plan : Plan
  pub leads : fold (set_initial machine) plan slots ≡ whole
  pub makes : made plan ≡ state_of view outside
  pub next : plan.next ≡ length view.objects + 1
  pub knows : facts ≡ facts_behind rules first plan.placed
  pub covers : Covers granted (wants_behind machine plan slots)
  pub serials : HasSerials (length view.objects) granted (wants_behind machine plan slots)
  pub closed : IsClosed view
  pub fields : length (statics machine.program.classes) ≤ length view.roots.statics
  pub texts : length machine.program.constants ≤ length view.roots.tables.constants

module _ {Facts : Type 0} (rules : Rules Facts) (machine : Machine) (first : Facts) (whole : Plan) (outside : Outside) (slot : ℕ) (slots : List ℕ) (view : View) (facts : Facts) (granted : List Want)
    (so : PlacedSoFar rules machine first whole outside (slot ∷ slots) view facts granted) where
  abbrev named : Named
  named = static_initial machine.program slot

  same_table : so.plan.left.roots.tables.constants ≡ view.roots.tables.constants
  same_table = ap (λ (state : State). state.roots.tables.constants) so.makes

  covered : Covers granted (wants_to machine.program view.roots.tables.constants named ++ wants_behind machine (set_initial machine so.plan slot) slots)
  covered =
      subst (λ (table : List ℕ). Covers granted (wants_to machine.program table named ++ wants_behind machine (set_initial machine so.plan slot) slots)) same_table so.covers

  serial : HasSerials (length view.objects) granted (wants_to machine.program view.roots.tables.constants named ++ wants_behind machine (set_initial machine so.plan slot) slots)
  serial =
      subst (λ (table : List ℕ). HasSerials (length view.objects) granted (wants_to machine.program table named ++ wants_behind machine (set_initial machine so.plan slot) slots)) same_table
      so.serials

  -- there is room for a new text
  pub covers_new : (text : ℕ) → named ≡ meanings.Text text → listed view.roots.tables.constants text ≡ 0
      → Covers granted (text_wants machine.program text ++ wants_behind machine (set_initial machine so.plan slot) slots)
  covers_new text is new =
      let told : Covers granted (wants_to machine.program view.roots.tables.constants (meanings.Text text) ++ wants_behind machine (set_initial machine so.plan slot) slots) =
      subst (λ (name : Named). Covers granted (wants_to machine.program view.roots.tables.constants name ++ wants_behind machine (set_initial machine so.plan slot) slots)) is covered in
      subst (λ (serial : ℕ). Covers granted (wants_if_new machine.program text serial ++ wants_behind machine (set_initial machine so.plan slot) slots)) new told

  pub low_new : (text : ℕ) → named ≡ meanings.Text text → listed view.roots.tables.constants text ≡ 0 → AreLow (length view.objects) granted
  low_new text is new =
      let told : HasSerials (length view.objects) granted (wants_to machine.program view.roots.tables.constants (meanings.Text text) ++ wants_behind machine (set_initial machine so.plan slot) slots) =
      subst (λ (name : Named). HasSerials (length view.objects) granted (wants_to machine.program view.roots.tables.constants name ++ wants_behind machine (set_initial machine so.plan slot) slots))
      is serial in
      subst (λ (serial : ℕ). HasSerials (length view.objects) granted (wants_if_new machine.program text serial ++ wants_behind machine (set_initial machine so.plan slot) slots)) new told

  pub placed_next : (after : View) → after ≡ seen_to machine.program slot view named → (known : Facts) → known ≡ knows_to rules machine.program view.roots.tables.constants facts named
      → (left : List Want) → left ≡ spent_to machine.program view.roots.tables.constants granted named → PlacedSoFar rules machine first whole outside slots after known left
  placed_next after seen known knows left spends =
      let told : PlacedSoFar rules machine first whole outside slots (seen_to machine.program slot view named) (knows_to rules machine.program view.roots.tables.constants facts named)
      (spent_to machine.program view.roots.tables.constants granted named) =
      record {
        plan = set_initial machine so.plan slot;
        leads = so.leads;
        makes = made_to machine slot so.plan view outside so.makes so.next named;
        next = next_to machine slot so.plan view outside so.makes so.next named;
        knows =
            ap (λ (table : List ℕ). knows_to rules machine.program table facts named) (sym same_table)
            ∙ ap (λ facts. knows_to rules machine.program so.plan.left.roots.tables.constants facts named) so.knows
            ∙ sym (facts_to rules first machine slot so.plan named);
        covers = covers_to machine.program view.roots.tables.constants granted (wants_behind machine (set_initial machine so.plan slot) slots) named covered;
        serials = serials_to machine.program slot view granted (wants_behind machine (set_initial machine so.plan slot) slots) named serial covered;
        closed = closed_to machine.program slot view so.closed named refl;
        fields = subst (λ (count : ℕ). length (statics machine.program.classes) ≤ count) (sym (statics_to machine.program slot view named)) so.fields;
        texts = subst (λ (count : ℕ). length machine.program.constants ≤ count) (sym (tables_to machine.program slot view named)) so.texts;
      } in
      subst (λ (after : View). PlacedSoFar rules machine first whole outside slots after known left) (sym seen)
      (subst (λ (known : Facts). PlacedSoFar rules machine first whole outside slots (seen_to machine.program slot view named) known left) (sym knows)
      (subst (PlacedSoFar rules machine first whole outside slots (seen_to machine.program slot view named) (knows_to rules machine.program view.roots.tables.constants facts named)) (sym spends) told))
