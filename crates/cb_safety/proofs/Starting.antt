-- The state with which a run begins is typed.
use Rattle.std.proofs.Common.{◌≡◌, ◌∙◌, inl, inr, ap, arith, refl, sym, subst, ℕ, zero, suc, ◌+◌, ◌*◌, ◌<◌, ◌≤◌, List, [], ◌∷◌, ◌++◌, append_assoc, length, map, Option, Some}
use Rattle.std.specs.List.{AllByRecursion, fold, range_with_len}
use Rattle.std.proofs.lemmas.Bool.{cases_lt}
use Rattle.std.proofs.lemmas.List.{length-append, length-map, map-append}
use Rattle.std.proofs.lemmas.List.FromFn.{length-map-range_with_len}
use Rattle.std.proofs.lemmas.Option.{none-some, same_Some}
use Rattle.cb_kinds.specs.declared.basic.Basic.{Basic}
use Rattle.cb_kinds.specs.declared.basic.Basic.TheVariants as basics
use Rattle.cb_link.specs.Program.{Linked}
use Rattle.cb_machine.specs.Initialising.{own_statics}
use Rattle.cb_machine.specs.Library as library
use Rattle.cb_machine.specs.Machine.{Machine, kind_of_site}
use Rattle.cb_machine.specs.Performing.{most_elements}
use Rattle.cb_machine.specs.Plans.{Plan, leaving, made, object_of, with_left, with_one}
use Rattle.cb_machine.specs.Sites as sites
use Rattle.cb_machine.specs.Starting.{empty_state, start}
use Rattle.cb_machine.specs.Strings.{unit_contents, with_string}
use Rattle.cb_plain.specs.Roots as plain_roots
use Rattle.cb_plain.specs.State.{Content, Object, Reference, State}
use Rattle.cb_plain.specs.Updates.{object_in, with_argument, with_static}
use Rattle.cb_plain.specs.declared.value.Value.TheVariants as values
use Rattle.cb_verify.specs.Within.{kind_of_string}
use Rattle.cb_safety.specs.Heap.{IsKnownWord, IsHeap, IsObject}
use Rattle.cb_safety.specs.Held.{HasBasic, HasContent}
use Rattle.cb_safety.specs.Kinds.{IsKnown, Kinds, Refers, kind_in, kinds_of}
use Rattle.cb_safety.specs.Starting.{AreEmpty, HasStart, HoldsObjects}
use Rattle.cb_safety.specs.States.{AreRoots, IsInput, IsTypedState}
use Rattle.cb_safety.specs.Strings.{IsText}
use Rattle.cb_safety.proofs.Known.{all_ranged}
use Rattle.cb_safety.proofs.AtFirst.{first_roots}
use Rattle.cb_safety.proofs.Extended.{is_object_more, kind_in_more}
use Rattle.cb_safety.proofs.Grown.{one_put}
use Rattle.cb_safety.proofs.Growing.{heap_grown, kind_behind, kinds_grown, kinds_placed}
use Rattle.cb_safety.proofs.Lists.{all_both}
use Rattle.cb_safety.proofs.NewArrays.{kinds_parts}
use Rattle.cb_safety.proofs.Placed.{array_sized}
use Rattle.cb_safety.proofs.Searching.{all_weaker, numbered}
use Rattle.cb_safety.proofs.StaticValues.{roots_set}
use Rattle.cb_safety.proofs.StringsMade.{objects_in, string_is, text_is}

module _ (machine : Machine) (input : List ℕ) (contents : List Content) (has : HasStart machine.program) where
  abbrev program : Linked
  program = machine.program

  abbrev array_kind : ℕ
  array_kind = kind_of_site machine.program sites.arguments

  abbrev string_kind : ℕ
  string_kind = kind_of_site machine.program sites.argument_strings

  abbrev char_kind : ℕ
  char_kind = kind_of_site machine.program sites.argument_characters

  abbrev array : Object
  array = object_of sites.arguments array_kind contents

  -- the array, and the strings of so many arguments behind it
  record Strung (plan : Plan) (count : ℕ) : Type 0 where
    pub list : List Object
    pub puts : objects_in plan ≡ map Some (array ∷ list)
    pub next : plan.next ≡ length list + 2
    pub left : plan.left ≡ empty_state machine.program input
    pub all : AllByRecursion (IsObject machine.program (kinds_placed (array ∷ list))) list
    pub strings : (turn : ℕ) → turn < count → kind_in (kinds_placed (array ∷ list)) (2 * turn + 3) ≡ Some string_kind
    pub many : length list ≡ 2 * count

  first_strung : Strung (with_one (leaving (empty_state machine.program input)) sites.arguments array_kind contents) 0
  first_strung = record {
    list = [];
    puts = refl;
    next = refl;
    left = refl;
    all = tt;
    strings = λ turn low. absurd (omega (arith, low));
    many = refl;
  }

  -- kinds of more behind
  placed_more : (list more : List Object) → kinds_placed (array ∷ list ++ more) ≡ kinds_placed (array ∷ list) ++ kinds_placed more
  placed_more list more = ap kinds_of (map-append Some (array ∷ list) more) ∙ kinds_grown (map Some (array ∷ list)) more

  all_more : (list more : List Object) → AllByRecursion (IsObject machine.program (kinds_placed (array ∷ list))) list
      → AllByRecursion (IsObject machine.program (kinds_placed (array ∷ list) ++ kinds_placed more)) more
      → AllByRecursion (IsObject machine.program (kinds_placed (array ∷ list ++ more))) (list ++ more)
  all_more list more old new =
      subst (λ (kinds : Kinds). AllByRecursion (IsObject machine.program kinds) (list ++ more)) (sym (placed_more list more))
      (all_both (IsObject machine.program (kinds_placed (array ∷ list) ++ kinds_placed more)) list more
      (all_weaker (IsObject machine.program (kinds_placed (array ∷ list))) (IsObject machine.program (kinds_placed (array ∷ list) ++ kinds_placed more))
      (λ object is. is_object_more machine.program (kinds_placed (array ∷ list)) (kinds_placed more) object is) list old) new)

  one_strung : (plan : Plan) (count : ℕ) (units : List ℕ) → IsText units → Strung plan count
      → Strung (with_string machine sites.argument_strings sites.argument_characters units plan).plan (count + 1)
  one_strung plan count units text strung = record {
    list = strung.list ++ both;
    puts = one_put front sites.argument_strings string_kind (Reference plan.next ∷ [])
        ∙ ap (λ (some : List (Option Object)). some ++ map Some (two ∷ [])) (one_put plan sites.argument_characters char_kind (unit_contents units))
        ∙ append_assoc (objects_in plan) (map Some (one ∷ [])) (map Some (two ∷ []))
        ∙ ap (λ (some : List (Option Object)). some ++ map Some both) strung.puts
        ∙ sym (map-append Some (array ∷ strung.list) both);
    next = let old = strung.next in omega (arith, old, long);
    left = strung.left;
    all = all_more strung.list both strung.all (
      text_is machine.program sites.argument_strings sites.argument_characters has.strings grown units text,
      (string_is machine.program sites.argument_strings sites.argument_characters has.strings grown plan.next there, tt),
    );
    strings = λ turn low. ap (λ (kinds : Kinds). kind_in kinds (2 * turn + 3)) (placed_more strung.list both) ∙ by turn low;
    many = let old = strung.many in omega (arith, old, long);
  }
    where
      front : Plan
      front = with_one plan sites.argument_characters char_kind (unit_contents units)

      one : Object
      one = object_of sites.argument_characters char_kind (unit_contents units)

      two : Object
      two = object_of sites.argument_strings string_kind (Reference plan.next ∷ [])

      both : List Object
      both = one ∷ two ∷ []

      objects : List (Option Object)
      objects = map Some (array ∷ strung.list)

      grown : Kinds
      grown = kinds_of objects ++ kinds_placed both

      long : length (strung.list ++ both) ≡ length strung.list + 2
      long = length-append strung.list both

      size : length objects ≡ length strung.list + 1
      size = length-map (array ∷ strung.list) Some ∙ (let same : suc (length strung.list) ≡ length strung.list + 1 = omega arith in same)

      there : kind_in grown plan.next ≡ Some char_kind
      there =
          let old = strung.next in
          ap (kind_in grown) (let same : plan.next ≡ length objects + 1 = omega (arith, old, size) in same) ∙ kind_behind objects char_kind (Some string_kind ∷ [])

      last : kind_in grown (plan.next + 1) ≡ Some string_kind
      last =
          let more : length (objects ++ map Some (one ∷ [])) ≡ length objects + 1 = length-append objects (map Some (one ∷ [])) in
          let old = strung.next in
          ap (λ (kinds : Kinds). kind_in kinds (plan.next + 1)) (sym (kinds_parts objects (one ∷ []) (two ∷ [])))
          ∙ ap (kind_in (kinds_of (objects ++ map Some (one ∷ [])) ++ kinds_placed (two ∷ [])))
          (let same : plan.next + 1 ≡ length (objects ++ map Some (one ∷ [])) + 1 = omega (arith, old, size, more) in same)
          ∙ kind_behind (objects ++ map Some (one ∷ [])) string_kind []

      by : (turn : ℕ) → turn < count + 1 → kind_in grown (2 * turn + 3) ≡ Some string_kind
      by turn low = elim (cases_lt turn count) [
        | inl short ↦ kind_in_more (kinds_placed (array ∷ strung.list)) (kinds_placed both) (2 * turn + 3) string_kind (strung.strings turn short)
        | inr high ↦
            let old = strung.next in
            let many = strung.many in
            ap (kind_in grown) (let same : 2 * turn + 3 ≡ plan.next + 1 = omega (arith, low, high, old, many) in same) ∙ last
      ]

  abbrev with_argument_string : Plan → List ℕ → Plan
  with_argument_string plan units = (with_string machine sites.argument_strings sites.argument_characters units plan).plan

  all_strung : (texts : List (List ℕ)) (plan : Plan) (count total : ℕ) → total ≡ count + length texts → AllByRecursion IsText texts → Strung plan count
      → Strung (fold with_argument_string plan texts) total
  all_strung [] plan count total is all strung = subst (Strung plan) (let same : count ≡ total = omega (arith, is) in same) strung
  all_strung (units ∷ texts) plan count total is all strung =
      all_strung texts (with_argument_string plan units) (count + 1) total (omega (arith, is)) all.1 (one_strung plan count units all.0 strung)

  -- ---- with the streams

  empty_is : (kinds : Kinds) (site kind : ℕ) → AreEmpty machine.program kind → kind_of_site machine.program site ≡ kind
      → IsObject machine.program kinds (object_of site kind [])
  empty_is kinds site kind empty same = record {
    kind = empty.low;
    site = empty.sited site same;
    sized = empty.sized;
    fields = λ class slot basic own declared. absurd (empty.no_fields class slot basic own declared);
    elements = λ basic place own low. absurd (none-some basic (sym empty.no_elements ∙ own));
    few = λ basic own. absurd (none-some basic (sym empty.no_elements ∙ own));
    words = tt;
  }

  held_basic : (kinds : Kinds) (own serial : ℕ) (basic : Basic) → kind_in kinds serial ≡ Some own → HoldsObjects machine.program own basic → HasBasic machine.program kinds basic (values.Ref serial)
  held_basic kinds own serial basic there holds =
      subst (λ (basic : Basic). HasBasic machine.program kinds basic (values.Ref serial)) (sym holds.is)
      (HasBasic.AReference holds.kind serial (Refers.To serial (record { own = own; there = there; goes = holds.goes })))

  abbrev streamed : Plan → Plan
  streamed plan =
      with_one (with_one plan sites.system_out (kind_of_site machine.program sites.system_out) []) sites.system_in (kind_of_site machine.program sites.system_in) []

  abbrev set_streams : Plan → List ℕ → ℕ → Plan
  set_streams plan [] serial = plan
  set_streams plan (slot ∷ slots) serial = set_streams (with_left plan (with_static plan.left slot (values.Ref serial))) slots (serial + 1)

  abbrev ended : Plan → ℕ → List ℕ → Plan
  ended plan serial slots = let own = set_streams plan slots serial in with_left own (with_argument own.left 1)

  module _ (plan : Plan) (count : ℕ) (strung : Strung plan count)
      (fits : (kinds : Kinds) → ((turn : ℕ) → turn < count → kind_in kinds (2 * turn + 3) ≡ Some string_kind) → IsObject machine.program kinds array)
      (bytes : IsInput input) where
    abbrev out_kind : ℕ
    out_kind = kind_of_site machine.program sites.system_out

    abbrev in_kind : ℕ
    in_kind = kind_of_site machine.program sites.system_in

    abbrev out : Object
    out = object_of sites.system_out out_kind []

    abbrev inside : Object
    inside = object_of sites.system_in in_kind []

    abbrev streams : List Object
    streams = out ∷ inside ∷ []

    abbrev whole : List Object
    whole = array ∷ strung.list ++ streams

    abbrev kinds : Kinds
    kinds = kinds_placed whole

    puts : objects_in (streamed plan) ≡ map Some whole
    puts =
        one_put (with_one plan sites.system_out out_kind []) sites.system_in in_kind []
        ∙ ap (λ (some : List (Option Object)). some ++ map Some (inside ∷ [])) (one_put plan sites.system_out out_kind [])
        ∙ append_assoc (objects_in plan) (map Some (out ∷ [])) (map Some (inside ∷ []))
        ∙ ap (λ (some : List (Option Object)). some ++ map Some streams) strung.puts
        ∙ sym (map-append Some (array ∷ strung.list) streams)

    abbrev objects : List (Option Object)
    objects = map Some (array ∷ strung.list)

    size : length objects ≡ length strung.list + 1
    size = length-map (array ∷ strung.list) Some ∙ (let same : suc (length strung.list) ≡ length strung.list + 1 = omega arith in same)

    first_there : kind_in kinds plan.next ≡ Some out_kind
    first_there =
        let old = strung.next in
        ap (λ (kinds : Kinds). kind_in kinds plan.next) (placed_more strung.list streams)
        ∙ ap (kind_in (kinds_of objects ++ kinds_placed streams)) (let same : plan.next ≡ length objects + 1 = omega (arith, old, size) in same)
        ∙ kind_behind objects out_kind (Some in_kind ∷ [])

    second_there : kind_in kinds (plan.next + 1) ≡ Some in_kind
    second_there =
        let more : length (objects ++ map Some (out ∷ [])) ≡ length objects + 1 = length-append objects (map Some (out ∷ [])) in
        let old = strung.next in
        ap (λ (kinds : Kinds). kind_in kinds (plan.next + 1)) (placed_more strung.list streams)
        ∙ ap (λ (kinds : Kinds). kind_in kinds (plan.next + 1)) (sym (kinds_parts objects (out ∷ []) (inside ∷ [])))
        ∙ ap (kind_in (kinds_of (objects ++ map Some (out ∷ [])) ++ kinds_placed (inside ∷ [])))
        (let same : plan.next + 1 ≡ length (objects ++ map Some (out ∷ [])) + 1 = omega (arith, old, size, more) in same)
        ∙ kind_behind (objects ++ map Some (out ∷ [])) in_kind []

    array_is : IsObject machine.program kinds array
    array_is =
        fits kinds
        (λ turn low. ap (λ (kinds : Kinds). kind_in kinds (2 * turn + 3)) (placed_more strung.list streams)
        ∙ kind_in_more (kinds_placed (array ∷ strung.list)) (kinds_placed streams) (2 * turn + 3) string_kind (strung.strings turn low))

    heap : IsHeap machine.program (map Some whole)
    heap =
        heap_grown machine.program [] whole (record { each = λ serial object is. absurd (none_in serial object is) }) (
          array_is,
          all_more strung.list streams strung.all (
            empty_is (kinds_placed (array ∷ strung.list) ++ kinds_placed streams) sites.system_out out_kind has.out refl,
            (empty_is (kinds_placed (array ∷ strung.list) ++ kinds_placed streams) sites.system_in in_kind has.input refl, tt),
          ),
        )
      where
        none_in : (serial : ℕ) (object : Object) → object_in [] serial ≡ Some object → ⊥
        none_in zero object is = absurd (cc is)
        none_in (suc place) object is = absurd (cc is)

    roots : AreRoots machine.program kinds (with_static (with_static plan.left has.first (values.Ref plan.next)) has.second (values.Ref (plan.next + 1))).roots
    roots =
        roots_set machine.program kinds (plain_roots.with_static plan.left.roots has.first (values.Ref plan.next)) has.second (values.Ref (plan.next + 1))
        (roots_set machine.program kinds plan.left.roots has.first (values.Ref plan.next)
        (subst (λ (state : State). AreRoots machine.program kinds state.roots) (sym strung.left) (first_roots machine.program kinds))
        (IsKnown.AnObject plan.next out_kind first_there)
        (λ basic is. held_basic kinds out_kind plan.next basic first_there (has.holds_out basic is)))
        (IsKnown.AnObject (plan.next + 1) in_kind second_there)
        (λ basic is. held_basic kinds in_kind (plan.next + 1) basic second_there (has.holds_in basic is))

    ended_typed : IsTypedState machine.program (made (ended (streamed plan) plan.next (own_statics machine.program library.system)))
    ended_typed =
        subst (λ (slots : List ℕ). IsTypedState machine.program (made (ended (streamed plan) plan.next slots))) (sym has.slots)
        (record {
          heap = subst (IsHeap machine.program) (sym puts) heap;
          roots = subst (λ (own : Kinds). AreRoots machine.program own (made (ended (streamed plan) plan.next (has.first ∷ has.second ∷ []))).roots) (sym (ap kinds_of puts))
              (record {
                frames = roots.frames;
                statics = roots.statics;
                classes = roots.classes;
                tables = roots.tables;
                argument = Refers.To 1 (record { own = array_kind; there = refl; goes = has.array.own });
              });
          input = subst (λ (state : State). IsInput state.input) (sym strung.left) bytes;
        })

-- ---- the arguments

abbrev string_behind : ℕ → Content
string_behind turn = Reference (2 * turn + 3)

array_fits : (program : Linked) (has : HasStart program) (count : ℕ) → count ≤ most_elements → (kinds : Kinds)
    → ((turn : ℕ) → turn < count → kind_in kinds (2 * turn + 3) ≡ Some (kind_of_site program sites.argument_strings))
    → IsObject program kinds (object_of sites.arguments (kind_of_site program sites.arguments) (map string_behind (range_with_len 0 count)))
array_fits program has count few kinds there = record {
  kind = has.array.low;
  site = has.array.sited sites.arguments refl;
  sized = array_sized program (kind_of_site program sites.arguments) (basics.Reference kind_of_string) has.array.elements;
  fields = λ class slot basic own declared. absurd (none-some class (sym has.array.no_class ∙ own));
  elements = λ basic place own within.
      let low : place < count = omega (arith, within, length-map-range_with_len string_behind 0 count) in
      record {
        content = string_behind place;
        there = numbered string_behind 0 count place low ∙ ap (λ (number : ℕ). Some (string_behind number)) (let same : 0 + place ≡ place = omega arith in same);
        fits = subst (λ (basic : Basic). HasContent program kinds basic (string_behind place)) (same_Some (basics.Reference kind_of_string) basic (sym has.array.elements ∙ own))
            (HasContent.AReference kind_of_string (2 * place + 3)
            (Refers.To (2 * place + 3) (record { own = kind_of_site program sites.argument_strings; there = there place low; goes = has.strings.string })));
      };
  few = λ basic own. omega (arith, few, length-map-range_with_len string_behind 0 count);
  words = all_ranged (IsKnownWord kinds) string_behind 0 count
      (λ place low. IsKnown.AnObject (2 * (0 + place) + 3) (kind_of_site program sites.argument_strings) (there (0 + place) (omega (arith, low))));
}

pub start_is_typed : (machine : Machine) (arguments : List (List ℕ)) (input : List ℕ) → HasStart machine.program → AllByRecursion IsText arguments
    → length arguments ≤ most_elements → IsInput input → IsTypedState machine.program (start machine arguments input)
start_is_typed machine arguments input has texts few bytes =
    ended_typed machine input contents has (fold (with_argument_string machine input contents has) first arguments) (length arguments)
    (all_strung machine input contents has arguments first 0 (length arguments) (omega arith) texts (first_strung machine input contents has))
    (array_fits machine.program has (length arguments) few) bytes
  where
    contents : List Content
    contents = map string_behind (range_with_len 0 (length arguments))

    first : Plan
    first = with_one (leaving (empty_state machine.program input)) sites.arguments (kind_of_site machine.program sites.arguments) contents
