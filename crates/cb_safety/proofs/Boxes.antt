-- Natives that give an object from a table: a typed state advances where one is called.
use Rattle.std.proofs.Common.{◌≡◌, ◌∙◌, ap, refl, sym, subst, ℕ, ℤ, pos, negsuc, zero, suc, ◌<◌, ◌+ℤ◌, Bool, true, false, List, [], ◌∷◌, ◌++◌, length, nat_lt, if◌then◌else◌, Option, Some, None, slice_get, slice_set}
use Rattle.std.proofs.lemmas.List.{length-set}
use Rattle.std.proofs.lemmas.Option.{none-some}
use Rattle.cb_arith.specs.Bits.{low_bits}
use Rattle.cb_kinds.specs.declared.basic.Basic.{Basic}
use Rattle.cb_kinds.specs.declared.basic.Basic.TheVariants as basics
use Rattle.cb_library.specs.NativeForms.{form_of}
use Rattle.cb_library.specs.declared.native.Native.{Native}
use Rattle.cb_library.specs.declared.native.Native.TheVariants as natives
use Rattle.cb_library.specs.declared.native.NativeForm.TheVariants as forms
use Rattle.cb_link.specs.Program.{Linked}
use Rattle.cb_machine.specs.Boxes.{offset}
use Rattle.cb_machine.specs.Library as library
use Rattle.cb_machine.specs.Machine.{Machine, kind_of_site, listed, or_zero}
use Rattle.cb_machine.specs.Natives.{performed}
use Rattle.cb_machine.specs.Performing.{Call, Gives, Performed, gives_placed}
use Rattle.cb_machine.specs.Plans.{Plan, leaving, object_of, with_left, with_one}
use Rattle.cb_machine.specs.Sites as sites
use Rattle.cb_machine.specs.Strings.{Placed, class_object}
use Rattle.cb_machine.specs.Texts.{unit_of}
use Rattle.cb_plain.specs.Roots as plain_roots
use Rattle.cb_plain.specs.State.{Content, Frame, MethodFrame, Number, Object, OfMethod, Roots, State, small_chars, small_numbers}
use Rattle.cb_plain.specs.Updates.{with_entry}
use Rattle.cb_plain.specs.declared.table.Table.{Table}
use Rattle.cb_plain.specs.declared.table.Table.TheVariants as tables
use Rattle.cb_plain.specs.declared.value.Value.{Value}
use Rattle.cb_plain.specs.declared.value.Value.TheVariants as values
use Rattle.cb_verify.specs.Typed.{IsTyped}
use Rattle.cb_verify.specs.Within.{kind_of_class}
use Rattle.cb_safety.specs.Advancing.{Advances, HoldsOn, IsSpelled}
use Rattle.cb_safety.specs.Heap.{IsObject}
use Rattle.cb_safety.specs.Held.{HasContent}
use Rattle.cb_safety.specs.Kinds.{IsOfKind, Kinds, Refers, kind_in, kinds_of}
use Rattle.cb_safety.specs.Natives.{CallsNative}
use Rattle.cb_safety.specs.Performing.{AreBoxes, HasNatives}
use Rattle.cb_safety.specs.Signatures.{gives_of, object, takes_of}
use Rattle.cb_safety.specs.States.{AreRoots, AreTables, IsTable, IsTypedState}
use Rattle.cb_safety.proofs.ClassObjects.{HasClassObject, class_made}
use Rattle.cb_safety.proofs.Contents.{int_kept}
use Rattle.cb_safety.proofs.Extended.{refers_more}
use Rattle.cb_safety.proofs.Grown.{Grows, good_one, grows_first, grows_one, one_put}
use Rattle.cb_safety.proofs.Growing.{kind_behind, kinds_grown}
use Rattle.cb_safety.proofs.Natively.{gives_typed, kinds, object_answer, object_typed, placed_typed}
use Rattle.cb_safety.proofs.Performed.{AreGiven, IsPerformed, given_advances}
use Rattle.cb_safety.proofs.StringsMade.{IsGood, good_rooted, objects_in, set_each}
use Rattle.cb_safety.proofs.Throwing.{kind_low}

-- ---- an object that is placed last

pub last_kind : (program : Linked) (plan : Plan) (site kind : ℕ) (contents : List Content) → IsGood program plan
    → kind_in (kinds_of (objects_in (with_one plan site kind contents))) plan.next ≡ Some kind
last_kind program plan site kind contents good =
    ap (λ (objects : List (Option Object)). kind_in (kinds_of objects) plan.next) (one_put plan site kind contents)
    ∙ ap (λ (kinds : Kinds). kind_in kinds plan.next) (kinds_grown (objects_in plan) (object_of site kind contents ∷ []))
    ∙ ap (kind_in (kinds_of (objects_in plan) ++ Some kind ∷ [])) good.next ∙ kind_behind (objects_in plan) kind []

-- ---- the tables of boxes

is_table_set : (program : Linked) (kinds : Kinds) (kind size : ℕ) (entries : List ℕ) (place serial : ℕ) → Refers program kinds kind serial → IsTable program kinds kind size entries
    → IsTable program kinds kind size (slice_set entries place serial)
is_table_set program kinds kind size entries place serial refers table = record {
  count = length-set entries place serial ∙ table.count;
  each = set_each (Refers program kinds kind) entries place serial refers table.each;
}

pub data AreKept : Table → ℕ → Type 0 where
  Integers : AreKept tables.Integers library.integer
  Longs : AreKept tables.Longs library.long
  Characters : AreKept tables.Characters library.character
  Booleans : AreKept tables.Booleans library.boolean

with_tables : (program : Linked) (kinds : Kinds) (roots : Roots) (table : Table) (place serial : ℕ) → AreTables program kinds (plain_roots.with_entry roots table place serial).tables
    → AreRoots program kinds roots → AreRoots program kinds (plain_roots.with_entry roots table place serial)
with_tables program own roots table place serial are roots_are = record {
  frames = roots_are.frames;
  statics = roots_are.statics;
  classes = roots_are.classes;
  tables = are;
  argument = roots_are.argument;
}

box_entered : (program : Linked) (kinds : Kinds) (roots : Roots) (table : Table) (kind place serial : ℕ) → AreKept table kind → Refers program kinds kind serial → AreRoots program kinds roots
    → AreRoots program kinds (plain_roots.with_entry roots table place serial)
box_entered program kinds roots table kind place serial AreKept.Integers refers are = with_tables program kinds roots tables.Integers place serial (record {
  constants = are.tables.constants;
  classes = are.tables.classes;
  integers = is_table_set program kinds library.integer small_numbers roots.tables.integers place serial refers are.tables.integers;
  longs = are.tables.longs;
  characters = are.tables.characters;
  booleans = are.tables.booleans;
}) are
box_entered program kinds roots table kind place serial AreKept.Longs refers are = with_tables program kinds roots tables.Longs place serial (record {
  constants = are.tables.constants;
  classes = are.tables.classes;
  integers = are.tables.integers;
  longs = is_table_set program kinds library.long small_numbers roots.tables.longs place serial refers are.tables.longs;
  characters = are.tables.characters;
  booleans = are.tables.booleans;
}) are
box_entered program kinds roots table kind place serial AreKept.Characters refers are = with_tables program kinds roots tables.Characters place serial (record {
  constants = are.tables.constants;
  classes = are.tables.classes;
  integers = are.tables.integers;
  longs = are.tables.longs;
  characters = is_table_set program kinds library.character small_chars roots.tables.characters place serial refers are.tables.characters;
  booleans = are.tables.booleans;
}) are
box_entered program kinds roots table kind place serial AreKept.Booleans refers are = with_tables program kinds roots tables.Booleans place serial (record {
  constants = are.tables.constants;
  classes = are.tables.classes;
  integers = are.tables.integers;
  longs = are.tables.longs;
  characters = are.tables.characters;
  booleans = is_table_set program kinds library.boolean 2 roots.tables.booleans place serial refers are.tables.booleans;
}) are

there_is : (found : Option ℕ) (place : ℕ) → or_zero found ≡ suc place → found ≡ Some (suc place)
there_is None place is = absurd (cc is)
there_is (Some number) place is = ap Some is

box_kept : (program : Linked) (kinds : Kinds) (roots : Roots) (table : Table) (kind place other : ℕ) → AreKept table kind → AreRoots program kinds roots
    → listed (plain_roots.table_in roots.tables table) place ≡ suc other → Refers program kinds kind (suc other)
box_kept program own roots table kind place other AreKept.Integers are there = are.tables.integers.each place (suc other) (there_is (slice_get roots.tables.integers place) other there)
box_kept program own roots table kind place other AreKept.Longs are there = are.tables.longs.each place (suc other) (there_is (slice_get roots.tables.longs place) other there)
box_kept program own roots table kind place other AreKept.Characters are there = are.tables.characters.each place (suc other) (there_is (slice_get roots.tables.characters place) other there)
box_kept program own roots table kind place other AreKept.Booleans are there = are.tables.booleans.each place (suc other) (there_is (slice_get roots.tables.booleans place) other there)

-- ---- a box

box_is : (program : Linked) (kinds : Kinds) (site own : ℕ) (basic : Basic) (number : ℤ) → AreBoxes program (kind_of_site program site) own basic → HasContent program kinds basic (Number number)
    → IsObject program kinds (object_of site (kind_of_site program site) (Number number ∷ []))
box_is program kinds site own basic number boxes has = record {
  kind = kind_low program (kind_of_site program site) own boxes.box;
  site = boxes.sited site refl;
  sized = boxes.sized;
  fields = λ class slot declared classed field.
      let is = boxes.fields class slot declared classed field in
      record {
        content = Number number;
        there = ap (slice_get (Number number ∷ [])) is.0;
        fits = subst (λ (basic : Basic). HasContent program kinds basic (Number number)) (sym is.1) has;
      };
  elements = λ declared place element low. absurd (none-some declared (sym boxes.no_elements ∙ element));
  few = λ declared element. absurd (none-some declared (sym boxes.no_elements ∙ element));
  words = (tt, tt);
}

module _ (machine : Machine) (state : State) (has : HasNatives machine.program) (typed : IsTypedState machine.program state) (runs : state.roots.pending ≡ 0) where
  abbrev call : Call
  call = record { machine = machine; state = state }

  abbrev Is : Option Basic → Option Performed → Type 0
  Is result found = IsPerformed machine.program (kinds machine state has typed runs) result found

  first_good : IsGood machine.program (leaving state)
  first_good = record { typed = typed; next = refl }

  module _ (site own : ℕ) (basic : Basic) (number : ℤ) (boxes : AreBoxes machine.program (kind_of_site machine.program site) own basic)
      (fits : (kinds : Kinds) → HasContent machine.program kinds basic (Number number)) where
    abbrev boxed : Plan
    boxed = with_one (leaving state) site (kind_of_site machine.program site) (Number number ∷ [])

    boxed_good : IsGood machine.program boxed
    boxed_good = good_one machine.program (leaving state) site (kind_of_site machine.program site) (Number number ∷ []) first_good
        (box_is machine.program _ site own basic number boxes (fits _))

    boxed_grows : Grows (kinds machine state has typed runs) boxed
    boxed_grows = grows_one (kinds machine state has typed runs) (leaving state) site (kind_of_site machine.program site) (Number number ∷ []) (grows_first state runs)

    boxed_is : IsOfKind machine.program (kinds_of (objects_in boxed)) own (leaving state).next
    boxed_is = record {
      own = kind_of_site machine.program site;
      there = last_kind machine.program (leaving state) site (kind_of_site machine.program site) (Number number ∷ []) first_good;
      goes = boxes.box;
    }

    new_typed : Is (Some (basics.Reference own)) (Some (Gives boxed (values.Ref (leaving state).next ∷ [])))
    new_typed = placed_typed machine state has typed runs own (leaving state).next boxed boxed_good boxed_grows boxed_is

    abbrev kept_box : Table → ℕ → ℕ → Performed
    kept_box table place zero = Gives (with_left boxed (with_entry state table place (leaving state).next)) (values.Ref (leaving state).next ∷ [])
    kept_box table place (suc other) = Gives (leaving state) (values.Ref (suc other) ∷ [])

    abbrev box_at : Table → ℕ → ℤ → Performed
    box_at table count (pos place) =
        if nat_lt place count then kept_box table place (listed (plain_roots.table_in state.roots.tables table) place) else Gives boxed (values.Ref (leaving state).next ∷ [])
    box_at table count other = Gives boxed (values.Ref (leaving state).next ∷ [])

    kept_typed : (table : Table) (place : ℕ) → AreKept table own → (serial : ℕ) → listed (plain_roots.table_in state.roots.tables table) place ≡ serial
        → Is (Some (basics.Reference own)) (Some (kept_box table place serial))
    kept_typed table place are zero there =
        placed_typed machine state has typed runs own (leaving state).next (with_left boxed (with_entry state table place (leaving state).next))
        (good_rooted machine.program boxed (plain_roots.with_entry state.roots table place (leaving state).next) boxed_good
        (box_entered machine.program (kinds_of (objects_in boxed)) state.roots table own place (leaving state).next are (Refers.To (leaving state).next boxed_is) boxed_good.typed.roots))
        (record { more = boxed_grows.more; is = boxed_grows.is; runs = runs }) boxed_is
    kept_typed table place are (suc other) there =
        gives_typed machine state has typed runs (Some (basics.Reference own)) (values.Ref (suc other) ∷ [])
        (object_answer machine.program (kinds machine state has typed runs ++ []) own (suc other)
        (refers_more machine.program (kinds machine state has typed runs) [] own (suc other) (box_kept machine.program (kinds machine state has typed runs) state.roots table own place other are typed.roots there)))

    at_typed : (table : Table) (count : ℕ) (place : ℤ) → AreKept table own → Is (Some (basics.Reference own)) (Some (box_at table count place))
    at_typed table count (negsuc place) are = new_typed
    at_typed table count (pos place) are = go (nat_lt place count) where
      go : (test : Bool) → Is (Some (basics.Reference own))
          (Some (if test then kept_box table place (listed (plain_roots.table_in state.roots.tables table) place) else Gives boxed (values.Ref (leaving state).next ∷ [])))
      go true = kept_typed table place are (listed (plain_roots.table_in state.roots.tables table) place) refl
      go false = new_typed

  -- the class of an object
  class_typed : (kind : ℕ) → kind < length machine.program.kinds → Is (Some (basics.Reference kind_of_class)) (gives_placed (class_object machine kind (leaving state)))
  class_typed kind low =
      let placed : Placed = class_object machine kind (leaving state) in
      let made : HasClassObject machine.program (kinds machine state has typed runs) placed =
      class_made machine has.class_objects (kinds machine state has typed runs) kind (leaving state) low first_good (grows_first state runs) in
      placed_typed machine state has typed runs kind_of_class placed.serial placed.plan made.good made.grows made.is

  box_performed : (native : Native) (held : List Value) → AreGiven machine.program (kinds machine state has typed runs) (takes_of machine.program native) held
      → form_of native ≡ forms.Table → Is (gives_of machine.program native) (performed machine state native held)
  box_performed natives.ObjectGetClass _ (AreGiven.AnObject _ serial _ _ refers AreGiven.Nothing) form = object_typed machine state has typed runs (Some (basics.Reference kind_of_class)) object serial _ refers (λ place own same there is goes. class_typed own.kind is.kind)
  box_performed natives.IntegerValueOf _ (AreGiven.AnInt number _ _ fits AreGiven.Nothing) form = at_typed sites.integers library.integer basics.Int number has.int_boxes (λ kinds. HasContent.AnInt basics.Int number refl fits refl) tables.Integers small_numbers (number +ℤ offset) AreKept.Integers
  box_performed natives.LongValueOf _ (AreGiven.ALong number _ _ fits AreGiven.Nothing) form = at_typed sites.longs library.long basics.Long number has.long_boxes (λ kinds. HasContent.ALong number fits) tables.Longs small_numbers (number +ℤ offset) AreKept.Longs
  box_performed natives.CharacterValueOf _ (AreGiven.AnInt unit _ _ fits AreGiven.Nothing) form = at_typed sites.characters library.character basics.Char (pos (unit_of unit)) has.char_boxes (λ kinds. int_kept machine.program kinds basics.Char unit refl fits) tables.Characters small_chars (pos (unit_of unit)) AreKept.Characters
  box_performed natives.BooleanValueOf _ (AreGiven.AnInt is _ _ fits AreGiven.Nothing) form = at_typed sites.booleans library.boolean basics.Boolean (pos (low_bits 1 is)) has.boolean_boxes (λ kinds. int_kept machine.program kinds basics.Boolean is refl fits) tables.Booleans 2 (pos (low_bits 1 is)) AreKept.Booleans
  box_performed other held given form = absurd (cc form)

pub boxes_advance : (machine : Machine) (state : State) (frame : MethodFrame) (below : List Frame) → HasNatives machine.program → IsTyped machine.program → IsSpelled machine.program
    → HoldsOn machine.program → IsTypedState machine.program state → state.roots.pending ≡ 0 → state.roots.frames ≡ OfMethod frame ∷ below
    → (calls : CallsNative machine state frame below) → form_of calls.native ≡ forms.Table → Advances machine state
boxes_advance machine state frame below has fits spelled holds typed runs frames calls form =
    given_advances machine state frame below has fits spelled holds typed runs frames calls
    (λ given. box_performed machine state has typed runs calls.native calls.arguments given form)
