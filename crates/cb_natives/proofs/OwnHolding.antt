-- What natives do to the text of their own object, as changes of it.
use Rattle.std.proofs.Common.{◌≡◌, ◌∙◌, ap, arith, refl, subst, sym, ℕ, pos, negsuc, zero, suc, ◌+◌, ◌<◌, ◌≤◌, ◌^◌, Bool, true, false, cond, IsTrue, List, [], ◌∷◌, ◌++◌, drop, length, map, Option, Some, nat_eq, nat_lt, slice_get, slice_set, take, inl, inr, ◌⊎◌}
use Rattle.std.specs.Prelude.{option_and_then, option_map}
use Rattle.std.specs.declared.result.Result.{Result}
use Rattle.std.specs.declared.result.Result.TheVariants.{Err, Ok}
use Rattle.std.proofs.lemmas.List.{append-nil, length-append, length-map, length-take-le, map-append, take-map}
use Rattle.std.proofs.lemmas.Bool.Decides.{nat_tests}
use Rattle.std.proofs.lemmas.Option.{none-some, slice_get_within}
use Rattle.cb_heap.specs.Kept.{content_at, contents_at, is_held, is_kept, is_number, is_reference}
use Rattle.cb_heap.specs.Reading.{serial_of}
use Rattle.cb_link.specs.Program.{Linked}
use Rattle.cb_machine.specs.Builders.{grown, holding, holds, holds_in, in_new_array, in_own_array, on_built, with_array, with_count}
use Rattle.cb_machine.specs.Copying.{overwritten}
use Rattle.cb_machine.specs.Performing.{Call, Gives, Performed, array_words, built_text, count_slot, counted, if_short, most_elements, number_at, number_in, on_object, reference_at, reference_in, stops, unit_in, value_slot, words_at}
use Rattle.cb_machine.specs.Plans.{Plan, leaving, with_left}
use Rattle.cb_machine.specs.Sites.{builder_characters, negative_size}
use Rattle.cb_machine.specs.Strings.{unit_contents}
use Rattle.cb_plain.specs.State.{Content, Number, Object, Reference}
use Rattle.cb_plain.specs.Updates.{object_in, with_contents_at, with_contents_in, with_objects}
use Rattle.cb_plain.specs.declared.value.Value.{Value}
use Rattle.cb_natives.specs.Answers.{Beside}
use Rattle.cb_natives.specs.Exceptions.{site_of}
use Rattle.cb_natives.specs.Given.{HoldsUnits, IsUnit, units_in}
use Rattle.cb_natives.specs.MakingOwn.{Decides, HasBuilt, call_of, counting, held_by, in_place, itself, placing, planned, rebuilt, referring, renewed, roomy, written}
use Rattle.cb_natives.specs.Pieces.{IsPiece, MayWrite, piece_units, text_units}
use Rattle.cb_natives.specs.declared.answers.Exception.{Exception}
use Rattle.cb_natives.specs.declared.answers.Exception.TheVariants as exceptions
use Rattle.cb_natives.specs.declared.own_change.Change.TheVariants as changes
use Rattle.cb_natives.specs.declared.own_change.Own.{Own}
use Rattle.cb_natives.specs.declared.own_reading.Built.{Built}
use Rattle.cb_natives.specs.declared.pieces.Piece.{Piece}
use Rattle.cb_natives.specs.declared.pieces.Piece.TheVariants as pieces
use Rattle.cb_natives.specs.declared.pieces.Text.{Text}
use Rattle.cb_natives.proofs.OwnLaws.{changed_there, contents_so, kept_there, other_same, word_there}
use Rattle.cb_natives.proofs.UnitLaws.{le_false, le_true}

-- ---- an object that is there

pub on_so : (call : Call) (serial : ℕ) (object : Object) (go : Object → Option Performed) → object_in call.state.objects serial ≡ Some object
    → on_object call serial go ≡ go object
on_so call zero object go is = absurd (none-some object is)
on_so call (suc place) object go is = ap (option_and_then go) is

-- ---- its plan, as a making

pub array_so : (call : Call) (site serial : ℕ) (object : Object) (units : List ℕ) (room : ℕ) → object_in call.state.objects serial ≡ Some object
    → with_array call site serial object units room
    ≡ planned call (placing call.machine.program call.state.objects site (roomy units room) (referring call.state.objects serial (length call.state.objects + 1)))
array_so call site serial object units room is =
    ap (λ (contents : List Content). planned call (placing call.machine.program call.state.objects site (roomy units room)
    (with_contents_in call.state.objects serial (slice_set contents value_slot (Reference (length call.state.objects + 1))))))
    (sym (contents_so call.state.objects serial object is))

pub count_so : (call : Call) (serial : ℕ) (plan : Plan) (count : ℕ) (object : Object) → object_in plan.left.objects serial ≡ Some object
    → with_count call serial plan count ≡ with_left plan (with_objects plan.left (counting plan.left.objects serial count))
count_so call serial plan count object is = rw is refl

-- a builder gets a new array
pub build_so : (call : Call) (serial : ℕ) (object : Object) (units : List ℕ) (room : ℕ) → object_in call.state.objects serial ≡ Some object
    → with_count call serial (with_array call builder_characters serial object units room) (length units)
    ≡ planned call (placing call.machine.program call.state.objects builder_characters (roomy units room)
    (counting (referring call.state.objects serial (length call.state.objects + 1)) serial (length units)))
build_so call serial object units room is =
    let own : Plan = planned call (placing call.machine.program call.state.objects builder_characters (roomy units room) (referring call.state.objects serial (length call.state.objects + 1))) in
    ap (λ (plan : Plan). with_count call serial plan (length units)) (array_so call builder_characters serial object units room is)
    ∙ count_so call serial own (length units)
    (record { site = object.site; kind = object.kind; contents = slice_set (contents_at call.state.objects serial) value_slot (Reference (length call.state.objects + 1)) })
    (changed_there call.state.objects serial (slice_set (contents_at call.state.objects serial) value_slot (Reference (length call.state.objects + 1))) object is)

pub short_so : (call : Call) (count : ℕ) (go : Option Performed) → count < 2 ^ 31 → if_short call count go ≡ go
short_so call count go few = ap (λ (is : Bool). cond is go (stops call negative_size)) (le_true count most_elements (omega (arith, few)))

pub long_so : (call : Call) (count : ℕ) (go : Option Performed) → most_elements < count → if_short call count go ≡ stops call negative_size
long_so call count go long = ap (λ (is : Bool). cond is go (stops call negative_size)) (le_false count most_elements long)

-- ---- what is decided

pub decided_as : {program : Linked} {objects : List (Option Object)} {index : ℕ → ℕ} {one other : Call → Option Performed} {result : Result Own Exception}
    → Decides program objects index one result
    → ((frames : ℕ) (beside : Beside) → other (call_of program objects frames beside) ≡ one (call_of program objects frames beside))
    → Decides program objects index other result
decided_as decided same = record { does = λ frames beside. same frames beside ∙ decided.does frames beside; may = decided.may }

pub decided_err : (program : Linked) (objects : List (Option Object)) (index : ℕ → ℕ) (done : Call → Option Performed) (exception : Exception)
    → ((frames : ℕ) (beside : Beside) → done (call_of program objects frames beside) ≡ stops (call_of program objects frames beside) (site_of exception))
    → Decides program objects index done (Err exception)
decided_err program objects index done exception same = record { does = same; may = tt }

-- ---- units of arrays

unit_again : (content : Content) → IsUnit (Some content) → Number (pos (unit_in content)) ≡ content
unit_again (Number (pos unit)) is = refl
unit_again (Number (negsuc unit)) is = absurd is
unit_again (Reference serial) is = absurd is

units_again : (contents : List Content) → ((place : ℕ) → place < length contents → IsUnit (slice_get contents place)) → unit_contents (map unit_in contents) ≡ contents
units_again [] each = refl
units_again (content ∷ contents) each =
    ap (λ (first : Content). first ∷ unit_contents (map unit_in contents)) (unit_again content (each 0 (omega arith)))
    ∙ ap (λ (rest : List Content). content ∷ rest) (units_again contents (λ place low. each (suc place) (omega (arith, low))))

pub contents_again : (objects : List (Option Object)) (array : ℕ) → HoldsUnits objects array → unit_contents (units_in objects array) ≡ contents_at objects array
contents_again objects array units = units_again (contents_at objects array) units.each

-- units in front of others, as words that these are written over
pub front_so : (objects : List (Option Object)) (array kept : ℕ) (added : List ℕ) → HoldsUnits objects array → kept ≤ length (contents_at objects array)
    → unit_contents (take kept (units_in objects array) ++ added) ++ drop (length (take kept (units_in objects array) ++ added)) (contents_at objects array)
    ≡ overwritten (contents_at objects array) kept (unit_contents added)
front_so objects array kept added units fits =
    let number : ℕ → Content = λ unit. Number (pos unit) in
    let contents : List Content = contents_at objects array in
    let size : length (take kept (units_in objects array) ++ added) ≡ kept + length (unit_contents added) =
    length-append (take kept (units_in objects array)) added
    ∙ ap (λ (count : ℕ). count + length added) (length-take-le kept (units_in objects array) (omega (arith, fits, length-map contents unit_in)))
    ∙ ap (λ (count : ℕ). kept + count) (sym (length-map added number)) in
    let front : unit_contents (take kept (units_in objects array) ++ added) ≡ take kept contents ++ unit_contents added =
    map-append number (take kept (units_in objects array)) added
    ∙ ap (λ (words : List Content). words ++ unit_contents added) (sym (take-map number kept (units_in objects array)) ∙ ap (take kept) (contents_again objects array units)) in
    ap (λ (words : List Content). words ++ drop (length (take kept (units_in objects array) ++ added)) contents) front
    ∙ ap (λ (count : ℕ). take kept contents ++ unit_contents added ++ drop count contents) size

-- ---- what a builder has

words_so : (call : Call) (array : ℕ) → IsTrue (is_held call.state.objects array) → words_at call.state array ≡ Some (contents_at call.state.objects array)
words_so call zero held = refl
words_so call (suc place) held =
    let found = kept_there call.state.objects (suc place) held in
    ap (option_map (λ (array : Object). array.contents)) found.1
    ∙ ap {B = Option (List Content)} Some (sym (contents_so call.state.objects (suc place) found.0 found.1))

slot_so : (objects : List (Option Object)) (serial word : ℕ) (content : Content) (object : Object) → content_at objects serial word ≡ Some content
    → object_in objects serial ≡ Some object → slice_get object.contents word ≡ Some content
slot_so objects serial word content object is there = sym (ap (λ (contents : List Content). slice_get contents word) (contents_so objects serial object there)) ∙ is

refers_so : (objects : List (Option Object)) (serial array : ℕ) (object : Object) → content_at objects serial value_slot ≡ Some (Reference array)
    → object_in objects serial ≡ Some object → reference_at object value_slot ≡ Some array
refers_so objects serial array object is there = ap (option_and_then reference_in) (slot_so objects serial value_slot (Reference array) object is there)

built_so : (call : Call) (index : ℕ → ℕ) (serial : ℕ) (built : Built) (object : Object) → HasBuilt call.state.objects index serial built
    → object_in call.state.objects serial ≡ Some object
    → built_text call.state object ≡ Some (take built.count (units_in call.state.objects (serial_of index built.array)))
built_so call index serial built object has there =
    let array = serial_of index built.array in
    let units : List ℕ = units_in call.state.objects array in
    let words : array_words call.state object ≡ Some (contents_at call.state.objects array) =
    ap (option_and_then (words_at call.state)) (refers_so call.state.objects serial array object has.refers there) ∙ words_so call array has.units.held in
    let number : number_at object count_slot ≡ Some has.number =
    ap (option_and_then number_in) (slot_so call.state.objects serial count_slot (Number has.number) object has.counts there) in
    let size : length units ≡ built.room = length-map (contents_at call.state.objects array) unit_in ∙ sym has.room in
    ap (λ (words : Option (List Content)). option_and_then (λ (units : List ℕ). option_map (counted units) (number_at object count_slot)) (option_map (map unit_in) words)) words
    ∙ ap (option_map (counted units)) number
    ∙ ap {B = Option (List ℕ)} Some (sym (has.front units size))

pub on_built_so : (call : Call) (index : ℕ → ℕ) (serial : ℕ) (built : Built) (go : Object → List ℕ → Option Performed) → HasBuilt call.state.objects index serial built
    → on_built call serial go ≡ on_object call serial (λ builder. go builder (take built.count (units_in call.state.objects (serial_of index built.array))))
on_built_so call index serial built go has =
    let found = word_there call.state.objects serial value_slot (Reference (serial_of index built.array)) has.refers in
    on_so call serial found.0 (λ builder. option_and_then (go builder) (built_text call.state builder)) found.1
    ∙ ap (option_and_then (go found.0)) (built_so call index serial built found.0 has found.1)
    ∙ sym (on_so call serial found.0 (λ builder. go builder (take built.count (units_in call.state.objects (serial_of index built.array)))) found.1)

-- its array is another object
pub apart_so : (objects : List (Option Object)) (serial array other : ℕ) → HoldsUnits objects array → content_at objects serial value_slot ≡ Some (Reference other)
    → array ≡ serial → ⊥
apart_so objects serial array other units is same =
    let at : content_at objects array 0 ≡ Some (Reference other) = ap (λ (serial : ℕ). content_at objects serial 0) same ∙ is in
    subst IsUnit at (units.each 0 (slice_get_within (contents_at objects array) 0 (Reference other) at))

-- ---- it holds other units

eq_from : (a : ℕ) → nat_eq a 0 ≡ true → a ≡ 0
eq_from a is = grind (arith, nat_tests)

pub lt_from : (a b : ℕ) → nat_lt a b ≡ true → a < b
lt_from a b is = grind (arith, nat_tests)

pub le_from : (a b : ℕ) → nat_lt a b ≡ false → b ≤ a
le_from a b is = grind (arith, nat_tests)

serial_some : (index : ℕ → ℕ) (at : ℕ) → nat_eq at 0 ≡ false → (serial_of index at ≡ 0) → ⊥
serial_some index zero is same = cc is
serial_some index (suc at) is same = cc same

module _ (call : Call) (serial : ℕ) (builder : Object) (units : List ℕ) (answer : List Value) where
  in_new : (array : ℕ) → IsTrue (is_held call.state.objects array) → (room : ℕ) → room ≡ length (contents_at call.state.objects array)
      → (array ≡ 0) ⊎ (room < length units)
      → holds_in call serial builder units answer array ≡ Some (Gives (in_new_array call serial builder room units) answer)
  in_new zero held room is why = ap (λ (room : ℕ). Some (Gives (in_new_array call serial builder room units) answer)) (sym is)
  in_new (suc place) held room is (inl null) = absurd (cc null)
  in_new (suc place) held room is (inr small) =
      let found = kept_there call.state.objects (suc place) held in
      let size : length found.0.contents ≡ room = sym (is ∙ ap length (contents_so call.state.objects (suc place) found.0 found.1)) in
      ap (option_map (λ (array : Object). Gives (holding call serial builder (suc place) array units) answer)) found.1
      ∙ ap (λ (fits : Bool). Some (Gives (cond fits (in_own_array call serial (suc place) found.0 units) (in_new_array call serial builder (length found.0.contents) units)) answer))
      (le_false (length units) (length found.0.contents) (omega (arith, small, size)))
      ∙ ap (λ (room : ℕ). Some (Gives (in_new_array call serial builder room units) answer)) size

  in_own : (array : ℕ) (chars : Object) → object_in call.state.objects array ≡ Some chars → length units ≤ length chars.contents
      → holds_in call serial builder units answer array ≡ Some (Gives (in_own_array call serial array chars units) answer)
  in_own zero chars is fits = absurd (none-some chars is)
  in_own (suc place) chars is fits =
      ap (option_map (λ (array : Object). Gives (holding call serial builder (suc place) array units) answer)) is
      ∙ ap (λ (fits : Bool). Some (Gives (cond fits (in_own_array call serial (suc place) chars units) (in_new_array call serial builder (length chars.contents) units)) answer))
      (le_true (length units) (length chars.contents) fits)

pub kept_so : (objects : List (Option Object)) (array : ℕ) → (array ≡ 0 → ⊥) → IsTrue (is_held objects array) → IsTrue (is_kept objects array)
kept_so objects zero some held = absurd (some refl)
kept_so objects (suc place) some held = held

-- in its own array
pub own_so : (call : Call) (index : ℕ → ℕ) (serial : ℕ) (built : Built) → HasBuilt call.state.objects index serial built → (units : List ℕ) (answer : List Value)
    → length units < 2 ^ 31 → (serial_of index built.array ≡ 0 → ⊥) → length units ≤ built.room
    → on_object call serial (λ builder. holds call serial builder answer units)
    ≡ Some (Gives (planned call (in_place (with_contents_in call.state.objects (serial_of index built.array)
    (unit_contents units ++ drop (length units) (contents_at call.state.objects (serial_of index built.array)))) serial (length units))) answer)
own_so call index serial built has units answer few some fits =
    let objects = call.state.objects in
    let array = serial_of index built.array in
    let found = word_there objects serial value_slot (Reference array) has.refers in
    let chars = kept_there objects array (kept_so objects array some has.units.held) in
    let contents = contents_so objects array chars.0 chars.1 in
    let room = has.room in
    let long = ap length contents in
    let words : List Content = unit_contents units ++ drop (length units) (contents_at objects array) in
    on_so call serial found.0 (λ builder. holds call serial builder answer units) found.1
    ∙ short_so call (length units) (option_and_then (holds_in call serial found.0 units answer) (reference_at found.0 value_slot)) few
    ∙ ap (option_and_then (holds_in call serial found.0 units answer)) (refers_so objects serial array found.0 has.refers found.1)
    ∙ in_own call serial found.0 units answer array chars.0 chars.1 (omega (arith, fits, room, long))
    ∙ ap (λ (words : List Content). Some (Gives (with_count call serial (leaving (with_contents_at call.state array (unit_contents units ++ drop (length units) words))) (length units)) answer)) (sym contents)
    ∙ ap (λ (plan : Plan). Some (Gives plan answer))
    (count_so call serial (leaving (with_contents_at call.state array words)) (length units) found.0
    (other_same objects array serial words (apart_so objects serial array array has.units has.refers) ∙ found.1))

module _ (program : Linked) (objects : List (Option Object)) (index : ℕ → ℕ) (at : ℕ) (gives : Bool) (built : Built) (has : HasBuilt objects index (serial_of index at) built)
    (kept : ℕ) (within : kept ≤ built.count) (piece : Piece) (is : IsPiece program objects index piece) (may : MayWrite index (serial_of index built.array) kept piece)
    (count : ℕ) (same : kept + length (piece_units program objects index piece) ≡ count) where
  abbrev serial : ℕ
  serial = serial_of index at

  abbrev array : ℕ
  array = serial_of index built.array

  abbrev added : List ℕ
  added = piece_units program objects index piece

  abbrev units : List ℕ
  units = take kept (units_in objects array) ++ added

  abbrev text : Text
  text = record { first = pieces.Range built.array 0 kept; second = piece; third = pieces.Zeros 0 }

  low : kept ≤ length (units_in objects array)
  low = let room = has.room in let inside = has.within in omega (arith, within, room, inside, length-map (contents_at objects array) unit_in)

  size : length units ≡ count
  size = length-append (take kept (units_in objects array)) added ∙ ap (λ (front : ℕ). front + length added) (length-take-le kept (units_in objects array) low) ∙ same

  text_so : text_units program objects index text ≡ units
  text_so = append-nil units

  found : (object : Object) × (object_in objects serial ≡ Some object) × (slice_get object.contents value_slot ≡ Some (Reference array))
  found = word_there objects serial value_slot (Reference array) has.refers

  begun : (call : Call) → call.state.objects ≡ objects → count < 2 ^ 31
      → held_by call serial gives units ≡ holds_in call serial found.0 units (itself gives serial) array
  begun call over few =
      let go : Option Performed = option_and_then (holds_in call serial found.0 units (itself gives serial)) (reference_at found.0 value_slot) in
      on_so call serial found.0 (λ builder. holds call serial builder (itself gives serial) units) (ap (λ (objects : List (Option Object)). object_in objects serial) over ∙ found.1)
      ∙ short_so call (length units) go (omega (arith, few, size))
      ∙ ap (option_and_then (holds_in call serial found.0 units (itself gives serial))) (refers_so objects serial array found.0 has.refers found.1)

  pub held_long : most_elements < count → Decides program objects index (λ call. held_by call serial gives units) (Err exceptions.NegativeArraySize)
  held_long long = record {
    does = λ frames beside.
        let call = call_of program objects frames beside in
        let go : Option Performed = option_and_then (holds_in call serial found.0 units (itself gives serial)) (reference_at found.0 value_slot) in
        on_so call serial found.0 (λ builder. holds call serial builder (itself gives serial) units) found.1
        ∙ long_so call (length units) go (omega (arith, long, size));
    may = tt;
  }

  held_new : count < 2 ^ 31 → (array ≡ 0) ⊎ (built.room < count)
      → Decides program objects index (λ call. held_by call serial gives units) (Ok (record { at = at; gives = gives; change = renewed built kept piece count }))
  held_new few why = record {
    does = λ frames beside.
        let call = call_of program objects frames beside in
        begun call refl few
        ∙ in_new call serial found.0 units (itself gives serial) array has.units.held built.room has.room
        (subst (λ (count : ℕ). (array ≡ 0) ⊎ (built.room < count)) (sym size) why)
        ∙ ap (λ (plan : Plan). Some (Gives plan (itself gives serial))) (build_so call serial found.0 units (grown built.room (length units)) found.1)
        ∙ ap (λ (count : ℕ). Some (Gives (planned call (placing program objects builder_characters (roomy units (grown built.room count))
        (counting (referring objects serial (length objects + 1)) serial count))) (itself gives serial))) size
        ∙ ap (λ (units : List ℕ). Some (Gives (planned call (placing program objects builder_characters (roomy units (grown built.room count))
        (counting (referring objects serial (length objects + 1)) serial count))) (itself gives serial))) (sym text_so);
    may = (
      record {
        refers = ap is_reference has.refers;
        is = record { first = record { holds = has.units; within = omega (arith, low) }; second = is; third = tt };
        fits = (let long = ap length text_so in omega (arith, few, long, size));
        few = omega arith;
      },
      ap is_number has.counts,
    );
  }

  held_own : count < 2 ^ 31 → (array ≡ 0 → ⊥) → count ≤ built.room
      → Decides program objects index (λ call. held_by call serial gives units) (Ok (record { at = at; gives = gives; change = changes.Writes built.array kept piece count }))
  held_own few some fits =
      let chars = kept_there objects array (kept_so objects array some has.units.held) in
      let contents = contents_so objects array chars.0 chars.1 in
      let room = has.room in
      let long = ap length contents in
      let apart = apart_so objects serial array array has.units has.refers in
      record {
        does = λ frames beside.
            let call = call_of program objects frames beside in
            begun call refl few
            ∙ in_own call serial found.0 units (itself gives serial) array chars.0 chars.1 (omega (arith, fits, size, room, long))
            ∙ ap (λ (words : List Content). Some (Gives (with_count call serial (leaving (with_contents_at call.state array words)) (length units)) (itself gives serial)))
            (ap (λ (words : List Content). unit_contents units ++ drop (length units) words) (sym contents)
            ∙ front_so objects array kept added has.units (omega (arith, low, length-map (contents_at objects array) unit_in)))
            ∙ ap (λ (plan : Plan). Some (Gives plan (itself gives serial)))
            (count_so call serial (leaving (with_contents_at call.state array (overwritten (contents_at objects array) kept (unit_contents added)))) (length units) found.0
            (other_same objects array serial (overwritten (contents_at objects array) kept (unit_contents added)) apart ∙ found.1))
            ∙ ap (λ (count : ℕ). Some (Gives (planned call (in_place (written objects array kept added) serial count)) (itself gives serial))) size;
        may = (
          record { counts = ap is_number has.counts; apart = apart; kept = kept_so objects array some has.units.held; units = has.units },
          record { is = is; may = may; room = omega (arith, fits, same, room) },
        );
      }

  held_by_tests : count < 2 ^ 31 → (null large : Bool) → nat_eq built.array 0 ≡ null → nat_lt built.room count ≡ large
      → Decides program objects index (λ call. held_by call serial gives units)
      (Ok (record { at = at; gives = gives; change = cond null (renewed built kept piece count) (cond large (renewed built kept piece count) (changes.Writes built.array kept piece count)) }))
  held_by_tests few true large none more = held_new few (inl (ap (serial_of index) (eq_from built.array none)))
  held_by_tests few false true none more = held_new few (inr (lt_from built.room count more))
  held_by_tests few false false none more = held_own few (serial_some index built.array none) (le_from built.room count more)

  pub held_so : count < 2 ^ 31
      → Decides program objects index (λ call. held_by call serial gives units) (Ok (record { at = at; gives = gives; change = rebuilt built kept piece count }))
  held_so few = held_by_tests few (nat_eq built.array 0) (nat_lt built.room count) refl refl
