-- Natives of strings and builders, as what is decided.
use Rattle.std.proofs.Common.{◌≡◌, ◌∙◌, ap, arith, refl, subst, sym, ℕ, ℤ, pos, negsuc, zero, suc, ◌+◌, ◌-◌, ◌<◌, ◌≤◌, ◌^◌, Bool, true, false, cond, List, [], ◌∷◌, ◌++◌, drop, length, map, min, replicate, IsTrue, Option, Some, None, nat_le, nat_lt, take}
use Rattle.std.specs.declared.result.Result.TheVariants.{Ok}
use Rattle.std.proofs.lemmas.Bool.Decides.{nat_tests}
use Rattle.std.proofs.lemmas.Option.{same_Some}
use Rattle.std.proofs.lemmas.List.{append_assoc, drop-append-le, drop-map, length-append, length-drop, length-map, length-take-le, map-append, take-append-drop, take-map, take-take, take_all}
use Rattle.cb_heap.specs.Kept.{contents_at, is_kept, is_number}
use Rattle.cb_heap.specs.Reading.{serial_of}
use Rattle.cb_link.specs.Program.{Linked}
use Rattle.cb_machine.specs.Builders.{appends, appends_string, builds, builds_sized, cut_at, deleted_at, done, holds, on_built, set_at, sets_range, sets_text, with_array, with_count}
use Rattle.cb_machine.specs.Copying.{overwritten}
use Rattle.cb_machine.specs.Performing.{Call, Gives, on_object, on_text, stops, unit_in, units_of, value_slot}
use Rattle.cb_machine.specs.Plans.{Plan}
use Rattle.cb_machine.specs.Sites.{builder_characters, negative_size, string_index}
use Rattle.cb_machine.specs.Strings.{unit_contents}
use Rattle.cb_plain.specs.State.{Content, Number, Object, Reference}
use Rattle.cb_plain.specs.Updates.{object_in, with_contents_in}
use Rattle.cb_plain.specs.declared.value.Value.{Value}
use Rattle.cb_plain.specs.declared.value.Value.TheVariants as values
use Rattle.cb_natives.specs.Given.{HoldsUnits, IsBuilder, units_in}
use Rattle.cb_natives.specs.MakingOwn.{Decides, HasBuilt, HasOwn, call_of, closed_up, counting, deleted, held_by, in_place, natural_in, place_in, placing, planned, range_in, referring, roomy, written}
use Rattle.cb_natives.specs.Pieces.{IsText, Spells, piece_units, text_units}
use Rattle.cb_natives.specs.declared.own_change.Change.TheVariants as changes
use Rattle.cb_natives.specs.declared.own_reading.Built.{Built}
use Rattle.cb_natives.specs.declared.pieces.Piece.{Piece}
use Rattle.cb_natives.specs.declared.pieces.Text.{Text}
use Rattle.cb_natives.proofs.OwnHolding.{apart_so, build_so, contents_again, kept_so, le_from, lt_from, on_built_so, on_so, own_so, short_so}
use Rattle.cb_natives.proofs.OwnLaws.{contents_so, kept_there, reference_kept, word_there}
use Rattle.cb_natives.proofs.UnitLaws.{le_true}

fits_from : (a b : ℕ) → nat_le a b ≡ true → a ≤ b
fits_from a b is = grind (arith, nat_tests)

lt_true : (a b : ℕ) → a < b → nat_lt a b ≡ true
lt_true a b low = grind (arith, nat_tests)

pub serial_not : (index : ℕ → ℕ) (at : ℕ) → (at ≡ 0 → ⊥) → serial_of index at ≡ 0 → ⊥
serial_not index zero some is = some refl
serial_not index (suc place) some is = cc is

-- ---- what is appended

pub appends_held : (call : Call) (index : ℕ → ℕ) (serial : ℕ) (built : Built) (units : List ℕ) → HasBuilt call.state.objects index serial built
    → appends call serial units ≡ held_by call serial true (take built.count (units_in call.state.objects (serial_of index built.array)) ++ units)
appends_held call index serial built units has =
    on_built_so call index serial built (λ builder front. holds call serial builder (values.Ref serial ∷ []) (front ++ units)) has

pub string_so : (call : Call) (index : ℕ → ℕ) (serial string : ℕ) → (string ≡ 0 → ⊥)
    → appends_string call serial (serial_of index string) ≡ on_text call (serial_of index string) (appends call serial)
string_so call index serial zero some = absurd (some refl)
string_so call index serial (suc place) some = refl

-- ---- a builder that is built

pub build_decided : (program : Linked) (objects : List (Option Object)) (index : ℕ → ℕ) (at : ℕ) (text : Text) (count room : ℕ) → IsBuilder objects (serial_of index at)
    → IsText program objects index text → count ≡ length (text_units program objects index text) → count ≤ room → room < 2 ^ 31
    → Decides program objects index (λ call. on_object call (serial_of index at) (builds call (serial_of index at) (text_units program objects index text) room))
    (Ok (record { at = at; gives = false; change = changes.Builds text count room }))
build_decided program objects index at text count room own is size fits few =
    let serial = serial_of index at in
    let units : List ℕ = text_units program objects index text in
    let found = reference_kept objects serial value_slot own.text.refers in
    record {
      does = λ frames beside.
          let call = call_of program objects frames beside in
          on_so call serial found.0 (builds call serial units room) found.1
          ∙ short_so call room (done (with_count call serial (with_array call builder_characters serial found.0 units room) (length units))) few
          ∙ ap (λ (plan : Plan). Some (Gives plan [])) (build_so call serial found.0 units room found.1)
          ∙ ap (λ (count : ℕ). Some (Gives (planned call (placing program objects builder_characters (roomy units room)
          (counting (referring objects serial (length objects + 1)) serial count))) [])) (sym size);
      may = (record { refers = own.text.refers; is = is; fits = omega (arith, size, fits); few = few }, ap is_number own.count.is);
    }

natural_so : (number : ℤ) (natural : ℕ) → natural_in number ≡ Some natural → number ≡ pos natural
natural_so (pos number) natural is = cc is
natural_so (negsuc number) natural is = absurd (cc is)

pub sized_so : (call : Call) (serial : ℕ) (room : ℤ) (size : ℕ) → natural_in room ≡ Some size
    → on_object call serial (builds_sized call serial room) ≡ on_object call serial (builds call serial [] size)
sized_so call serial room size is = ap (λ (room : ℤ). on_object call serial (builds_sized call serial room)) (natural_so room size is)

negative_so : (call : Call) (serial : ℕ) (room : ℤ) (object : Object) → natural_in room ≡ None → builds_sized call serial room object ≡ stops call negative_size
negative_so call serial (pos room) object is = absurd (cc is)
negative_so call serial (negsuc room) object is = refl

pub sized_not : (call : Call) (serial : ℕ) (room : ℤ) → IsBuilder call.state.objects serial → natural_in room ≡ None
    → on_object call serial (builds_sized call serial room) ≡ stops call negative_size
sized_not call serial room own is =
    let found = reference_kept call.state.objects serial value_slot own.text.refers in
    on_so call serial found.0 (builds_sized call serial room) found.1 ∙ negative_so call serial room found.0 is

-- ---- a range

range_parts : (from size : ℤ) (all : ℕ) (range : ℕ × ℕ) → range_in from size all ≡ Some range → (from ≡ pos range.0) × (size ≡ pos range.1) × (range.0 + range.1 ≤ all)
range_parts (negsuc from) size all range is = absurd (cc is)
range_parts (pos from) (negsuc size) all range is = absurd (cc is)
range_parts (pos from) (pos size) all range is = by_test (nat_le (from + size) all) refl is where
  by_test : (fits : Bool) → nat_le (from + size) all ≡ fits → cond fits (Some (from, size)) None ≡ Some range
      → (pos from ≡ pos range.0) × (pos size ≡ pos range.1) × (range.0 + range.1 ≤ all)
  by_test false fits is = absurd (cc is)
  by_test true fits is =
      let pair : (from, size) ≡ range = same_Some (from, size) range is in
      let one : from ≡ range.0 = ap (λ (pair : ℕ × ℕ). pair.0) pair in
      let other : size ≡ range.1 = ap (λ (pair : ℕ × ℕ). pair.1) pair in
      let within = fits_from (from + size) all fits in
      (ap pos one, ap pos other, omega (arith, within, one, other))

pub range_so : (call : Call) (serial array : ℕ) (from size : ℤ) (range : ℕ × ℕ) → IsTrue (is_kept call.state.objects array)
    → range_in from size (length (units_in call.state.objects array)) ≡ Some range
    → on_object call array (λ array. on_object call serial (λ object. sets_range call serial object (units_of array) from size))
    ≡ on_object call serial (sets_text call serial (take range.1 (drop range.0 (units_in call.state.objects array))))
range_so call serial array from size range there is =
    let units : List ℕ = units_in call.state.objects array in
    let found = kept_there call.state.objects array there in
    let parts = range_parts from size (length units) range is in
    let fits = parts.2 in
    let count : range.0 + range.1 - range.0 ≡ range.1 = omega arith in
    on_so call array found.0 (λ array. on_object call serial (λ object. sets_range call serial object (units_of array) from size)) found.1
    ∙ ap (λ (contents : List Content). on_object call serial (λ object. sets_range call serial object (map unit_in contents) from size)) (sym (contents_so call.state.objects array found.0 found.1))
    ∙ ap (λ (from : ℤ). on_object call serial (λ object. sets_range call serial object units from size)) parts.0
    ∙ ap (λ (size : ℤ). on_object call serial (λ object. sets_range call serial object units (pos range.0) size)) parts.1
    ∙ ap (λ (fits : Bool). on_object call serial (λ object. cond fits (sets_text call serial (take (range.0 + range.1 - range.0) (drop range.0 units)) object) (stops call string_index)))
    (le_true (range.0 + range.1) (length units) fits)
    ∙ ap (λ (count : ℕ). on_object call serial (sets_text call serial (take count (drop range.0 units)))) count

-- ---- cut

cut_units : (count kept : ℕ) (units : List ℕ) → kept ≤ length units
    → take count (take kept units) ++ replicate (count - length (take kept units)) 0 ≡ take (min count kept) units ++ replicate (count - min count kept) 0
cut_units count kept units fits = by_case (nat_lt kept count) refl where
  size : length (take kept units) ≡ kept
  size = length-take-le kept units fits

  by_case : (more : Bool) → nat_lt kept count ≡ more
      → take count (take kept units) ++ replicate (count - length (take kept units)) 0 ≡ take (min count kept) units ++ replicate (count - min count kept) 0
  by_case true is =
      let low = lt_from kept count is in
      let least : min count kept ≡ kept = omega (arith, low) in
      ap (λ (front : List ℕ). front ++ replicate (count - length (take kept units)) 0) (take_all count (take kept units) (omega (arith, low, size)))
      ∙ ap (λ (length : ℕ). take kept units ++ replicate (count - length) 0) size
      ∙ ap (λ (least : ℕ). take least units ++ replicate (count - least) 0) (sym least)
  by_case false is =
      let low = le_from kept count is in
      let least : min count kept ≡ count = omega (arith, low) in
      let none : count - length (take kept units) ≡ count - count = omega (arith, low, size) in
      ap (λ (front : List ℕ). front ++ replicate (count - length (take kept units)) 0) (take-take count kept units low)
      ∙ ap (λ (more : ℕ). take count units ++ replicate more 0) none
      ∙ ap (λ (least : ℕ). take least units ++ replicate (count - least) 0) (sym least)

built_low : (objects : List (Option Object)) (index : ℕ → ℕ) (serial : ℕ) (built : Built) → HasBuilt objects index serial built
    → built.count ≤ length (units_in objects (serial_of index built.array))
built_low objects index serial built has =
    let room = has.room in
    let inside = has.within in
    omega (arith, room, inside, length-map (contents_at objects (serial_of index built.array)) unit_in)

pub cut_held : (call : Call) (index : ℕ → ℕ) (serial : ℕ) (built : Built) (length : ℤ) (count : ℕ) → HasBuilt call.state.objects index serial built
    → natural_in length ≡ Some count → count < 2 ^ 31
    → on_built call serial (cut_at call serial length)
    ≡ held_by call serial false (take (min count built.count) (units_in call.state.objects (serial_of index built.array)) ++ replicate (count - min count built.count) 0)
cut_held call index serial built size count has is few =
    let objects = call.state.objects in
    let units : List ℕ = units_in objects (serial_of index built.array) in
    let found = word_there objects serial value_slot (Reference (serial_of index built.array)) has.refers in
    on_built_so call index serial built (cut_at call serial size) has
    ∙ on_so call serial found.0 (λ builder. cut_at call serial size builder (take built.count units)) found.1
    ∙ ap (λ (size : ℤ). cut_at call serial size found.0 (take built.count units)) (natural_so size count is)
    ∙ short_so call count (holds call serial found.0 [] (take count (take built.count units) ++ replicate (count - length (take built.count units)) 0)) few
    ∙ ap (holds call serial found.0 []) (cut_units count built.count units (built_low objects index serial built has))
    ∙ sym (on_so call serial found.0 (λ builder. holds call serial builder [] (take (min count built.count) units ++ replicate (count - min count built.count) 0)) found.1)

cut_none : (call : Call) (serial : ℕ) (length : ℤ) (object : Object) (units : List ℕ) → natural_in length ≡ None → cut_at call serial length object units ≡ stops call string_index
cut_none call serial (pos length) object units is = absurd (cc is)
cut_none call serial (negsuc length) object units is = refl

pub cut_not : (call : Call) (index : ℕ → ℕ) (serial : ℕ) (built : Built) (length : ℤ) → HasBuilt call.state.objects index serial built → natural_in length ≡ None
    → on_built call serial (cut_at call serial length) ≡ stops call string_index
cut_not call index serial built size has is =
    let units : List ℕ = units_in call.state.objects (serial_of index built.array) in
    let found = word_there call.state.objects serial value_slot (Reference (serial_of index built.array)) has.refers in
    on_built_so call index serial built (cut_at call serial size) has
    ∙ on_so call serial found.0 (λ builder. cut_at call serial size builder (take built.count units)) found.1
    ∙ cut_none call serial size found.0 (take built.count units) is

-- ---- one unit set, and one left out

place_so : (place : ℤ) (count from : ℕ) → place_in place count ≡ Some from → (place ≡ pos from) × (from < count)
place_so (negsuc place) count from is = absurd (cc is)
place_so (pos place) count from is = by_test (nat_lt place count) refl is where
  by_test : (low : Bool) → nat_lt place count ≡ low → cond low (Some place) None ≡ Some from → (pos place ≡ pos from) × (from < count)
  by_test true low is = let same : place ≡ from = cc is in (ap pos same, subst (λ (place : ℕ). place < count) same (lt_from place count low))
  by_test false low is = absurd (cc is)

array_some : (objects : List (Option Object)) (array : ℕ) → 0 < length (contents_at objects array) → array ≡ 0 → ⊥
array_some objects array some is = let none : length (contents_at objects array) ≡ 0 = ap (λ (array : ℕ). length (contents_at objects array)) is in omega (arith, some, none)

module _ (objects : List (Option Object)) (array : ℕ) (holds : HoldsUnits objects array) (count from : ℕ) (low : from < count) (fits : count ≤ length (contents_at objects array)) where
  abbrev number : ℕ → Content
  number unit = Number (pos unit)

  abbrev words : List Content
  words = contents_at objects array

  abbrev built_units : List ℕ
  built_units = take count (units_in objects array)

  taken : (size : ℕ) → unit_contents (take size (units_in objects array)) ≡ take size words
  taken size = sym (take-map number size (units_in objects array)) ∙ ap (take size) (contents_again objects array holds)

  built_size : length built_units ≡ count
  built_size = length-take-le count (units_in objects array) (omega (arith, fits, length-map words unit_in))

  front_words : unit_contents (take from built_units) ≡ take from words
  front_words = ap unit_contents (take-take from count (units_in objects array) (omega (arith, low))) ∙ taken from

  rest_words : unit_contents (drop (from + 1) built_units) ≡ drop (from + 1) (take count words)
  rest_words = sym (drop-map number (from + 1) built_units) ∙ ap (drop (from + 1)) (taken count)

  abbrev set_units : ℕ → List ℕ
  set_units unit = take from built_units ++ unit ∷ drop (from + 1) built_units

  set_size : (unit : ℕ) → length (set_units unit) ≡ count
  set_size unit =
      let front = length-take-le from built_units (omega (arith, low, built_size)) in
      let rest = length-drop (from + 1) built_units in
      length-append (take from built_units) (unit ∷ drop (from + 1) built_units) ∙ omega (arith, front, rest, built_size, low)

  set_words : (unit : ℕ) → unit_contents (set_units unit) ++ drop (length (set_units unit)) words ≡ overwritten words from (unit_contents (unit ∷ []))
  set_words unit =
      let size : from + 1 ≤ length (take count words) = (let taken_size = length-take-le count words fits in omega (arith, taken_size, low)) in
      ap (λ (size : ℕ). unit_contents (set_units unit) ++ drop size words) (set_size unit)
      ∙ ap (λ (front : List Content). front ++ drop count words)
      (map-append number (take from built_units) (unit ∷ drop (from + 1) built_units)
      ∙ ap (λ (front : List Content). front ++ number unit ∷ unit_contents (drop (from + 1) built_units)) front_words
      ∙ ap (λ (rest : List Content). take from words ++ number unit ∷ rest) rest_words)
      ∙ append_assoc (take from words) (number unit ∷ drop (from + 1) (take count words)) (drop count words)
      ∙ ap (λ (rest : List Content). take from words ++ number unit ∷ rest)
      (sym (drop-append-le (from + 1) (take count words) (drop count words) size) ∙ ap (drop (from + 1)) (take-append-drop count words))
      ∙ sym (append_assoc (take from words) (number unit ∷ []) (drop (from + 1) words))

  abbrev left_units : List ℕ
  left_units = take from built_units ++ drop (from + 1) built_units

  left_size : length left_units ≡ count - 1
  left_size =
      let front = length-take-le from built_units (omega (arith, low, built_size)) in
      let rest = length-drop (from + 1) built_units in
      length-append (take from built_units) (drop (from + 1) built_units) ∙ omega (arith, front, rest, built_size, low)

  left_words : unit_contents left_units ++ drop (length left_units) words ≡ closed_up words from (count - 1)
  left_words =
      let more : count ≡ count - 1 + 1 = omega (arith, low) in
      ap (λ (size : ℕ). unit_contents left_units ++ drop size words) left_size
      ∙ ap (λ (front : List Content). front ++ drop (count - 1) words)
      (map-append number (take from built_units) (drop (from + 1) built_units)
      ∙ ap (λ (front : List Content). front ++ unit_contents (drop (from + 1) built_units)) front_words
      ∙ ap (λ (rest : List Content). take from words ++ rest) (rest_words ∙ ap (λ (count : ℕ). drop (from + 1) (take count words)) more))

module _ (program : Linked) (objects : List (Option Object)) (index : ℕ → ℕ) (at : ℕ) (built : Built) (has : HasBuilt objects index (serial_of index at) built)
    (place : ℤ) (from : ℕ) (is : place_in place built.count ≡ Some from) where
  abbrev serial : ℕ
  serial = serial_of index at

  abbrev array : ℕ
  array = serial_of index built.array

  abbrev front : List ℕ
  front = take built.count (units_in objects array)

  placed : (place ≡ pos from) × (from < built.count)
  placed = place_so place built.count from is

  inside : built.count ≤ length (contents_at objects array)
  inside = let room = has.room in let within = has.within in omega (arith, room, within)

  some : array ≡ 0 → ⊥
  some = let low = placed.1 in array_some objects array (omega (arith, low, inside))

  few : built.count < 2 ^ 31
  few = let short = has.units.few in omega (arith, short, inside)

  found : (object : Object) × (object_in objects serial ≡ Some object)
  found = let there = word_there objects serial value_slot (Reference array) has.refers in (there.0, there.1)

  low_true : nat_lt from (length front) ≡ true
  low_true = let low = placed.1 in lt_true from (length front) (omega (arith, low, built_size objects array has.units built.count from low inside))

  own : HasOwn objects serial array
  own = record { counts = ap is_number has.counts; apart = apart_so objects serial array array has.units has.refers; kept = kept_so objects array some has.units.held; units = has.units }

  pub set_decided : (unit : ℕ) (piece : Piece) → Spells (unit ∷ []) piece
      → Decides program objects index (λ call. on_built call serial (set_at call serial unit place)) (Ok (record { at = at; gives = false; change = changes.Writes built.array from piece built.count }))
  set_decided unit piece says =
      let low = placed.1 in
      let units : List ℕ = set_units objects array has.units built.count from low inside unit in
      let size = set_size objects array has.units built.count from low inside unit in
      let room = has.room in
      let written_size = ap length (says.units program objects index) in
      record {
        does = λ frames beside.
            let call = call_of program objects frames beside in
            on_built_so call index serial built (set_at call serial unit place) has
            ∙ on_so call serial found.0 (λ builder. set_at call serial unit place builder front) found.1
            ∙ ap (λ (place : ℤ). set_at call serial unit place found.0 front) placed.0
            ∙ ap (λ (low : Bool). cond low (holds call serial found.0 [] units) (stops call string_index)) low_true
            ∙ sym (on_so call serial found.0 (λ builder. holds call serial builder [] units) found.1)
            ∙ own_so call index serial built has units [] (omega (arith, few, size)) some (let within = has.within in omega (arith, within, size))
            ∙ ap (λ (words : List Content). Some (Gives (planned call (in_place (with_contents_in objects array words) serial (length units))) [])) (set_words objects array has.units built.count from low inside unit)
            ∙ ap (λ (added : List ℕ). Some (Gives (planned call (in_place (written objects array from added) serial (length units))) [])) (sym (says.units program objects index))
            ∙ ap (λ (count : ℕ). Some (Gives (planned call (in_place (written objects array from (piece_units program objects index piece)) serial count)) [])) size;
        may = (own, record { is = says.is program objects index; may = says.may index array from; room = omega (arith, low, inside, written_size) });
      }

  pub deleted_decided :
      Decides program objects index (λ call. on_built call serial (deleted_at call serial place)) (Ok (record { at = at; gives = true; change = changes.Deletes built.array from (built.count - 1) }))
  deleted_decided =
      let low = placed.1 in
      let units : List ℕ = left_units objects array has.units built.count from low inside in
      let size = left_size objects array has.units built.count from low inside in
      let answer : List Value = values.Ref serial ∷ [] in
      record {
        does = λ frames beside.
            let call = call_of program objects frames beside in
            on_built_so call index serial built (deleted_at call serial place) has
            ∙ on_so call serial found.0 (λ builder. deleted_at call serial place builder front) found.1
            ∙ ap (λ (place : ℤ). deleted_at call serial place found.0 front) placed.0
            ∙ ap (λ (low : Bool). cond low (holds call serial found.0 answer units) (stops call string_index)) low_true
            ∙ sym (on_so call serial found.0 (λ builder. holds call serial builder answer units) found.1)
            ∙ own_so call index serial built has units answer (omega (arith, few, size)) some (let within = has.within in omega (arith, within, size))
            ∙ ap (λ (words : List Content). Some (Gives (planned call (in_place (with_contents_in objects array words) serial (length units))) answer)) (left_words objects array has.units built.count from low inside)
            ∙ ap (λ (count : ℕ). Some (Gives (planned call (in_place (deleted objects array from (built.count - 1)) serial count)) answer)) size;
        may = (own, record { there = omega (arith, low); within = omega (arith, low, inside) });
      }
