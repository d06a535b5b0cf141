-- Plans that leave a typed state, and strings that they place.
use Rattle.std.proofs.Common.{◌≡◌, ◌∙◌, ap, arith, refl, sym, subst, ℕ, zero, suc, pos, ◌+◌, ◌<◌, ◌^◌, List, [], ◌∷◌, ◌++◌, map, length, Option, Some, slice_get, slice_set, ◌+ℤ◌, ◌*ℤ◌}
use Rattle.std.specs.List.{AllByRecursion, fold}
use Rattle.std.proofs.lemmas.List.{append_assoc, length-append, length-map, length-set}
use Rattle.std.proofs.lemmas.List.Sums.{fold_push}
use Rattle.std.proofs.lemmas.Option.{none-some, same_Some}
use Rattle.std.proofs.lemmas.Int.{ints}
use Rattle.cb_arith.proofs.Laws.{low_bits_only}
use Rattle.cb_kinds.specs.declared.basic.Basic.{Basic}
use Rattle.cb_kinds.specs.declared.basic.Basic.TheVariants as basics
use Rattle.cb_link.specs.Program.{Linked}
use Rattle.cb_machine.specs.Machine.{Machine, kind_of_site}
use Rattle.cb_machine.specs.Plans.{One, Placing, Plan, made, object_of}
use Rattle.cb_machine.specs.Sites as sites
use Rattle.cb_machine.specs.Strings.{Placed, unit_contents, with_string}
use Rattle.cb_machine.specs.Values.{kept_int}
use Rattle.cb_plain.specs.Roots as plain_roots
use Rattle.cb_plain.specs.State.{Content, Frame, Number, Object, Reference, Roots}
use Rattle.cb_plain.specs.Updates.{with_roots}
use Rattle.cb_plain.specs.declared.table.Table.TheVariants as tables
use Rattle.cb_verify.specs.Within.{kind_of_string}
use Rattle.cb_safety.specs.Heap.{IsKnownWord, IsObject}
use Rattle.cb_safety.specs.Held.{HasContent}
use Rattle.cb_safety.specs.Kinds.{IsKnown, IsOfKind, Kinds, Refers, kind_in, kinds_of}
use Rattle.cb_safety.specs.States.{AreFrames, AreRoots, IsTable, IsTypedState}
use Rattle.cb_safety.specs.Strings.{AreStrings, HoldsCharacters, IsText}
use Rattle.cb_safety.proofs.Known.{all_mapped}
use Rattle.cb_safety.proofs.Assigned.{never}
use Rattle.cb_safety.proofs.Enlarged.{grown_state, grown_typed, put}
use Rattle.cb_safety.proofs.Extended.{are_covered_more, are_standing_more, are_statics_more, are_tables_more, is_of_kind_more, refers_more}
use Rattle.cb_safety.proofs.Growing.{kind_behind, kinds_grown, kinds_placed}
use Rattle.cb_safety.proofs.NewArrays.{kinds_parts}
use Rattle.cb_safety.proofs.Placed.{array_sized}
use Rattle.cb_safety.proofs.Throwing.{kind_low}

-- ---- roots

are_frames_more : (program : Linked) (kinds more : Kinds) (pending : ℕ) (frames : List Frame) → AreFrames program kinds pending frames → AreFrames program (kinds ++ more) pending frames
are_frames_more program kinds more pending frames (AreFrames.Running own standing) = AreFrames.Running own (are_standing_more program kinds more own standing)
are_frames_more program kinds more pending frames (AreFrames.Unwinding serial own is covered) =
    AreFrames.Unwinding serial own (is_of_kind_more program kinds more _ serial is) (are_covered_more program kinds more own covered)

pub are_roots_more : (program : Linked) (kinds more : Kinds) (roots : Roots) → AreRoots program kinds roots → AreRoots program (kinds ++ more) roots
are_roots_more program kinds more roots are = record {
  frames = are_frames_more program kinds more roots.pending roots.frames are.frames;
  statics = are_statics_more program kinds more roots.statics are.statics;
  classes = are.classes;
  tables = are_tables_more program kinds more roots.tables are.tables;
  argument = refers_more program kinds more (kind_of_site program sites.arguments) roots.argument are.argument;
}

-- a table with another entry
pub set_each : {Item : Type 0} (P : Item → Type 0) (items : List Item) (slot : ℕ) (item : Item) → P item → ((place : ℕ) (own : Item) → slice_get items place ≡ Some own → P own)
    → (place : ℕ) (own : Item) → slice_get (slice_set items slot item) place ≡ Some own → P own
set_each P [] slot item is old place own there = never there
set_each P (first ∷ items) zero item is old zero own there = subst P (same_Some item own there) is
set_each P (first ∷ items) zero item is old (suc place) own there = old (suc place) own there
set_each P (first ∷ items) (suc slot) item is old zero own there = old 0 own there
set_each P (first ∷ items) (suc slot) item is old (suc place) own there = set_each P items slot item is (λ place. old (suc place)) place own there

is_table_set : (program : Linked) (kinds : Kinds) (kind size : ℕ) (entries : List ℕ) (place serial : ℕ) → Refers program kinds kind serial → IsTable program kinds kind size entries
    → IsTable program kinds kind size (slice_set entries place serial)
is_table_set program kinds kind size entries place serial refers table = record {
  count = length-set entries place serial ∙ table.count;
  each = set_each (Refers program kinds kind) entries place serial refers table.each;
}

pub roots_entered : (program : Linked) (kinds : Kinds) (roots : Roots) (text serial : ℕ) → Refers program kinds kind_of_string serial → AreRoots program kinds roots
    → AreRoots program kinds (plain_roots.with_entry roots tables.Constants text serial)
roots_entered program kinds roots text serial refers are = record {
  frames = are.frames;
  statics = are.statics;
  classes = are.classes;
  tables = record {
    constants = is_table_set program kinds kind_of_string (length program.constants) roots.tables.constants text serial refers are.tables.constants;
    classes = are.tables.classes;
    integers = are.tables.integers;
    longs = are.tables.longs;
    characters = are.tables.characters;
    booleans = are.tables.booleans;
  };
  argument = are.argument;
}

-- ---- plans

-- the objects of a plan's state
abbrev pub objects_in : Plan → List (Option Object)
objects_in plan = fold put plan.left.objects plan.placed

-- the state that it leaves is typed, and the serial of the next object is that behind the last
pub record IsGood (program : Linked) (plan : Plan) : Type 0 where
  pub typed : IsTypedState program (made plan)
  pub next : plan.next ≡ length (objects_in plan) + 1

-- with other roots
abbrev pub rooted : Plan → Roots → Plan
rooted plan roots = record { placed = plan.placed; next = plan.next; left = with_roots plan.left roots }

pub good_rooted : (program : Linked) (plan : Plan) (roots : Roots) → IsGood program plan → AreRoots program (kinds_of (objects_in plan)) roots → IsGood program (rooted plan roots)
good_rooted program plan roots good are = record { typed = record { heap = good.typed.heap; roots = are; input = good.typed.input }; next = good.next }

-- with objects more
abbrev more_placed : Plan → List Placing → ℕ → Plan
more_placed plan placed next = record { placed = placed; next = next; left = plan.left }

good_more : (program : Linked) (plan : Plan) (placed : List Placing) (next : ℕ) (more : List Object) → IsGood program plan → next ≡ plan.next + length more
    → fold put plan.left.objects placed ≡ objects_in plan ++ map Some more
    → AllByRecursion (IsObject program (kinds_of (objects_in plan) ++ kinds_placed more)) more → IsGood program (more_placed plan placed next)
good_more program plan placed next more good is puts all = record {
  typed = subst (λ (objects : List (Option Object)). IsTypedState program (grown_state plan.left plan.left.roots objects)) (sym puts)
      (grown_typed program (made plan) plan.left.roots more good.typed all
      (are_roots_more program (kinds_of (objects_in plan)) (kinds_placed more) plan.left.roots good.typed.roots));
  next =
      let long : length (fold put plan.left.objects placed) ≡ length (objects_in plan) + length more =
      ap length puts ∙ length-append (objects_in plan) (map Some more) ∙ ap (λ (count : ℕ). length (objects_in plan) + count) (length-map more Some) in
      let old = good.next in
      omega (arith, is, long, old);
}

-- ---- a string with its characters

low_kept : (unit : ℕ) → unit < 2 ^ 16 → kept_int basics.Char (pos unit) ≡ pos unit
low_kept unit low = ap pos (sym (low_bits_only 16 (pos unit) unit low (pos 0, same unit (2 ^ 16))))
  where
    same : (unit power : ℕ) → pos unit ≡ pos unit +ℤ pos 0 *ℤ pos power
    same unit power = omega (arith, ints)

module _ (program : Linked) (site characters : ℕ) (strings : AreStrings program (kind_of_site program site) (kind_of_site program characters)) where
  abbrev text_object : List ℕ → Object
  text_object units = object_of characters (kind_of_site program characters) (unit_contents units)

  abbrev string_object : ℕ → Object
  string_object serial = object_of site (kind_of_site program site) (Reference serial ∷ [])

  unit_at : (kinds : Kinds) (units : List ℕ) (place : ℕ) → AllByRecursion (λ unit. unit < 2 ^ 16) units → place < length units
      → (content : Content) × (slice_get (unit_contents units) place ≡ Some content) × HasContent program kinds basics.Char content
  unit_at kinds [] place all low = absurd (omega (arith, low))
  unit_at kinds (unit ∷ units) zero all low =
      let short : unit < 2 ^ 16 = all.0 in
      (Number (pos unit), refl, HasContent.AnInt basics.Char (pos unit) refl (record { sfits = omega (arith, short) }) (low_kept unit short))
  unit_at kinds (unit ∷ units) (suc place) all low = unit_at kinds units place all.1 (omega (arith, low))

  pub text_is : (kinds : Kinds) (units : List ℕ) → IsText units → IsObject program kinds (text_object units)
  text_is kinds units is = record {
    kind = strings.low;
    site = strings.characters_sited characters refl;
    sized = array_sized program (kind_of_site program characters) basics.Char strings.elements;
    fields = λ class slot basic own declared. absurd (none-some class (sym strings.no_class ∙ own));
    elements = λ basic place own low.
        let found = unit_at kinds units place is.each (omega (arith, low, length-map units (λ (unit : ℕ). Number (pos unit)))) in
        record {
          content = found.0;
          there = found.1;
          fits = subst (λ (basic : Basic). HasContent program kinds basic found.0) (same_Some basics.Char basic (sym strings.elements ∙ own)) found.2;
        };
    few = λ basic own. let short = is.few in omega (arith, short, length-map units (λ (unit : ℕ). Number (pos unit)));
    words = all_mapped (IsKnownWord kinds) (λ (unit : ℕ). Number (pos unit)) units (λ unit. tt);
  }

  reference_at : (kinds : Kinds) (serial slot : ℕ) (basic : Basic) → kind_in kinds serial ≡ Some (kind_of_site program characters)
      → HoldsCharacters program (kind_of_site program characters) slot basic
      → (slice_get (Reference serial ∷ []) slot ≡ Some (Reference serial)) × HasContent program kinds basic (Reference serial)
  reference_at kinds serial slot basic there holds = (
    ap (slice_get (Reference serial ∷ [])) holds.first,
    subst (λ (basic : Basic). HasContent program kinds basic (Reference serial)) (sym holds.is)
        (HasContent.AReference holds.kind serial (Refers.To serial (record { own = kind_of_site program characters; there = there; goes = holds.goes }))),
  )

  pub string_is : (kinds : Kinds) (serial : ℕ) → kind_in kinds serial ≡ Some (kind_of_site program characters) → IsObject program kinds (string_object serial)
  string_is kinds serial there = record {
    kind = kind_low program (kind_of_site program site) kind_of_string strings.string;
    site = strings.sited site refl;
    sized = strings.sized;
    fields = λ class slot basic own declared.
        let found = reference_at kinds serial slot basic there (strings.fields class slot basic own declared) in
        record { content = Reference serial; there = found.0; fits = found.1 };
    elements = λ basic place own low. absurd (none-some basic (sym strings.no_elements ∙ own));
    few = λ basic own. absurd (none-some basic (sym strings.no_elements ∙ own));
    words = (IsKnown.AnObject serial (kind_of_site program characters) there, tt);
  }

-- a plan that has placed a string
pub record HasString (program : Linked) (placed : Placed) : Type 0 where
  pub good : IsGood program placed.plan
  pub is : IsOfKind program (kinds_of (objects_in placed.plan)) kind_of_string placed.serial

pub string_made : (machine : Machine) (site characters : ℕ) (units : List ℕ) (plan : Plan) → AreStrings machine.program (kind_of_site machine.program site) (kind_of_site machine.program characters)
    → IsText units → IsGood machine.program plan → HasString machine.program (with_string machine site characters units plan)
string_made machine site characters units plan strings text good = record {
  good = good_more program plan ((plan.placed ++ One characters char_kind (unit_contents units) ∷ []) ++ One site kind (Reference plan.next ∷ []) ∷ []) (plan.next + 1 + 1) both good
      (omega arith) puts (text_is program site characters strings grown units text, (string_is program site characters strings grown plan.next there, tt));
  is = record {
    own = kind;
    there = ap (λ (objects : List (Option Object)). kind_in (kinds_of objects) (plan.next + 1)) puts
        ∙ ap (λ (kinds : Kinds). kind_in kinds (plan.next + 1)) (kinds_grown objects both) ∙ last;
    goes = strings.string;
  };
}
  where
    program : Linked
    program = machine.program

    kind : ℕ
    kind = kind_of_site machine.program site

    char_kind : ℕ
    char_kind = kind_of_site machine.program characters

    objects : List (Option Object)
    objects = objects_in plan

    one : Object
    one = object_of characters char_kind (unit_contents units)

    two : Object
    two = object_of site kind (Reference plan.next ∷ [])

    both : List Object
    both = one ∷ two ∷ []

    grown : Kinds
    grown = kinds_of objects ++ kinds_placed both

    puts : fold put plan.left.objects ((plan.placed ++ One characters char_kind (unit_contents units) ∷ []) ++ One site kind (Reference plan.next ∷ []) ∷ []) ≡ objects ++ map Some both
    puts =
        fold_push put plan.left.objects (plan.placed ++ One characters char_kind (unit_contents units) ∷ []) (One site kind (Reference plan.next ∷ []))
        ∙ ap (λ (some : List (Option Object)). some ++ map Some (two ∷ [])) (fold_push put plan.left.objects plan.placed (One characters char_kind (unit_contents units)))
        ∙ append_assoc objects (map Some (one ∷ [])) (map Some (two ∷ []))

    there : kind_in grown plan.next ≡ Some char_kind
    there = ap (kind_in grown) good.next ∙ kind_behind objects char_kind (Some kind ∷ [])

    last : kind_in grown (plan.next + 1) ≡ Some kind
    last =
        let long : length (objects ++ map Some (one ∷ [])) ≡ length objects + 1 = length-append objects (map Some (one ∷ [])) in
        let old = good.next in
        ap (λ (kinds : Kinds). kind_in kinds (plan.next + 1)) (sym (kinds_parts objects (one ∷ []) (two ∷ [])))
        ∙ ap (kind_in (kinds_of (objects ++ map Some (one ∷ [])) ++ kinds_placed (two ∷ [])))
        (let same : plan.next + 1 ≡ length (objects ++ map Some (one ∷ [])) + 1 = omega (arith, old, long) in same)
        ∙ kind_behind (objects ++ map Some (one ∷ [])) kind []
