-- Natives that read: what they perform over an input, and where one of them throws.
use Rattle.std.proofs.Common.{◌≡◌, ◌∙◌, ap, arith, refl, sym, subst, ℤ, pos, negsuc, ℕ, zero, suc, ◌+◌, ◌<◌, ◌≤◌, Bool, true, false, List, [], ◌∷◌, Option, Some, None, IsTrue, drop, length, map, nat_le, option_map, take}
use Rattle.std.proofs.lemmas.Bool.{false≢true, leb-true}
use Rattle.std.proofs.lemmas.Bool.Decides.{nat_tests}
use Rattle.std.proofs.lemmas.Option.{none-some, same_Some}
use Rattle.std.specs.declared.result.Result.TheVariants.{Err}
use Rattle.cb_heap.specs.Kept.{contents_at, is_kept}
use Rattle.cb_heap.specs.Reading.{read_value, serial_of}
use Rattle.cb_library.specs.declared.native.Native.TheVariants as natives
use Rattle.cb_machine.specs.Copying.{overwritten}
use Rattle.cb_machine.specs.Machine.{Machine}
use Rattle.cb_machine.specs.Natives.{performed}
use Rattle.cb_machine.specs.Outside.{stored_byte}
use Rattle.cb_machine.specs.Performing.{Gives, stops}
use Rattle.cb_machine.specs.Plans.{leaving}
use Rattle.cb_machine.specs.Sites.{index_out_of_bounds}
use Rattle.cb_plain.specs.State.{Object, State}
use Rattle.cb_plain.specs.Updates.{object_in, with_contents_in, with_input, with_objects}
use Rattle.cb_plain.specs.declared.value.Value.{Value}
use Rattle.cb_plain.specs.declared.value.Value.TheVariants.{Int, Long, Ref}
use Rattle.cb_natives.specs.Answers.{Beside, call_on}
use Rattle.cb_natives.specs.Given.{AreGiven, HoldsBytes, roles}
use Rattle.cb_natives.specs.Input.{IsRange, PlansRange, byte_number, count_number, with_bytes}
use Rattle.cb_natives.specs.MakingOwn.{range_in}
use Rattle.cb_natives.specs.declared.answers.Exception.TheVariants as exceptions
use Rattle.cb_natives.proofs.Changes.{with_same}
use Rattle.cb_natives.proofs.Overwriting.{over_none}
use Rattle.cb_natives.proofs.OwnNatives.{serial_not}

-- ---- an array that is there

found : (objects : List (Option Object)) (array : ℕ) → IsTrue (is_kept objects array) → (object : Object) × (object_in objects array ≡ Some object)
found objects array there = go (object_in objects array) refl where
  go : (entry : Option Object) → object_in objects array ≡ entry → (object : Object) × (object_in objects array ≡ Some object)
  go None is = absurd (false≢true (sym (let none : is_kept objects array ≡ false = rw is refl in none) ∙ there))
  go (Some object) is = (object, is)

contents_there : (objects : List (Option Object)) (array : ℕ) (object : Object) → object_in objects array ≡ Some object → contents_at objects array ≡ object.contents
contents_there objects array object there = rw there refl

pub length_so : (objects : List (Option Object)) (array count : ℕ) → option_map (λ (object : Object). length object.contents) (object_in objects array) ≡ Some count
    → count ≡ length (contents_at objects array)
length_so objects array count is = go (object_in objects array) refl where
  go : (entry : Option Object) → object_in objects array ≡ entry → count ≡ length (contents_at objects array)
  go None same = absurd (none-some count (sym (ap (option_map (λ (object : Object). length object.contents)) same) ∙ is))
  go (Some object) same =
      sym (ap length (contents_there objects array object same)
      ∙ same_Some (length object.contents) count (sym (ap (option_map (λ (object : Object). length object.contents)) same) ∙ is))

-- ---- what is performed

module _ (machine : Machine) (state : State) where
  byte_so : (stream : ℕ) (input : List ℕ) → performed machine (with_input state input) natives.ReadByte (Ref stream ∷ [])
      ≡ Some (Gives (leaving (with_input state (drop (length (take 1 input)) input))) (Int (byte_number (take 1 input)) ∷ []))
  byte_so stream [] = refl
  byte_so stream (byte ∷ input) = refl

  pub byte_performed : (input bytes : List ℕ) (arguments : List Value) → AreGiven state.objects (roles natives.ReadByte) arguments → take 1 input ≡ bytes
      → performed machine (with_input state input) natives.ReadByte arguments ≡ Some (Gives (leaving (with_input state (drop (length bytes) input))) (Int (byte_number bytes) ∷ []))
  byte_performed input bytes [] given front = absurd given
  byte_performed input bytes (Int number ∷ rest) given front = absurd given.0
  byte_performed input bytes (Long number ∷ rest) given front = absurd given.0
  byte_performed input bytes (Ref stream ∷ []) given front =
      byte_so stream input ∙ ap (λ (bytes : List ℕ). Some (Gives (leaving (with_input state (drop (length bytes) input))) (Int (byte_number bytes) ∷ []))) front
  byte_performed input bytes (Ref stream ∷ value ∷ rest) given front = absurd given.1

  -- a range that isn't empty
  module _ (place : ℕ) (object : Object) (there : object_in state.objects (suc place) ≡ Some object) where
    none_changed : (from : ℕ) → with_contents_in state.objects (suc place) (overwritten object.contents from []) ≡ state.objects
    none_changed from =
        ap (with_contents_in state.objects (suc place)) (over_none object.contents from ∙ sym (contents_there state.objects (suc place) object there)) ∙ with_same state.objects (suc place)

    abbrev range_left : (from : ℕ) → (input bytes : List ℕ) → State
    range_left from input bytes =
        with_objects (with_input state (drop (length bytes) input)) (with_contents_in state.objects (suc place) (overwritten object.contents from (map stored_byte bytes)))

    range_so : (stream from count : ℕ) (input : List ℕ) → nat_le (from + suc count) (length object.contents) ≡ true
        → performed machine (with_input state input) natives.ReadRange (Ref stream ∷ Ref (suc place) ∷ Int (pos from) ∷ Int (pos (suc count)) ∷ [])
        ≡ Some (Gives (leaving (range_left from input (take (suc count) input))) (Int (count_number (length (take (suc count) input))) ∷ []))
    range_so stream from count [] within =
        let none : performed machine (with_input state []) natives.ReadRange (Ref stream ∷ Ref (suc place) ∷ Int (pos from) ∷ Int (pos (suc count)) ∷ [])
        ≡ Some (Gives (leaving (with_objects (with_input state []) state.objects)) (Int (negsuc 0) ∷ [])) = rw (there, within) refl in
        none ∙ ap (λ (objects : List (Option Object)). Some (Gives (leaving (with_objects (with_input state []) objects)) (Int (negsuc 0) ∷ []))) (sym (none_changed from))
    range_so stream from count (byte ∷ input) within = rw (there, within) refl

  range_kept : (place from count : ℕ) (input bytes : List ℕ) (arguments : List Value) → (is : IsRange state.objects arguments (suc place) from (suc count)) → take (suc count) input ≡ bytes
      → performed machine (with_input state input) natives.ReadRange arguments
      ≡ Some (Gives (leaving (with_objects (with_input state (drop (length bytes) input)) (with_bytes state.objects (suc place) from bytes))) (Int (count_number (length bytes)) ∷ []))
  range_kept place from count input bytes arguments is front =
      let it = found state.objects (suc place) is.holds.there in
      let contents = contents_there state.objects (suc place) it.0 it.1 in
      let fits : from + suc count ≤ length it.0.contents = subst (λ contents. from + suc count ≤ length contents) contents is.within in
      let within : nat_le (from + suc count) (length it.0.contents) ≡ true = grind (arith, nat_tests) in
      ap (performed machine (with_input state input) natives.ReadRange) is.are
      ∙ range_so place it.0 it.1 is.stream from count input within
      ∙ ap (λ (bytes : List ℕ). Some (Gives (leaving (range_left place it.0 it.1 from input bytes)) (Int (count_number (length bytes)) ∷ []))) front
      ∙ ap (λ contents. Some (Gives (leaving (with_objects (with_input state (drop (length bytes) input))
      (with_contents_in state.objects (suc place) (overwritten contents from (map stored_byte bytes))))) (Int (count_number (length bytes)) ∷ []))) (sym contents)

  pub range_performed : (array from count : ℕ) (input bytes : List ℕ) (arguments : List Value) → (is : IsRange state.objects arguments array from count) → 0 < count → take count input ≡ bytes
      → performed machine (with_input state input) natives.ReadRange arguments
      ≡ Some (Gives (leaving (with_objects (with_input state (drop (length bytes) input)) (with_bytes state.objects array from bytes))) (Int (count_number (length bytes)) ∷ []))
  range_performed zero from count input bytes arguments is some front = absurd (false≢true is.holds.there)
  range_performed (suc place) from zero input bytes arguments is some front = absurd (omega (arith, some))
  range_performed (suc place) from (suc count) input bytes arguments is some front = range_kept place from count input bytes arguments is front

  -- an empty one
  empty_so : (place : ℕ) (object : Object) → object_in state.objects (suc place) ≡ Some object → (stream from : ℕ) → nat_le (from + 0) (length object.contents) ≡ true
      → performed machine state natives.ReadRange (Ref stream ∷ Ref (suc place) ∷ Int (pos from) ∷ Int (pos 0) ∷ []) ≡ Some (Gives (leaving state) (Int (pos 0) ∷ []))
  empty_so place object there stream from within = rw (there, within) refl

  pub empty_performed : (array from : ℕ) (arguments : List Value) → IsRange state.objects arguments array from 0
      → performed machine state natives.ReadRange arguments ≡ Some (Gives (leaving state) (Int (pos 0) ∷ []))
  empty_performed zero from arguments is = absurd (false≢true is.holds.there)
  empty_performed (suc place) from arguments is =
      let it = found state.objects (suc place) is.holds.there in
      let contents = contents_there state.objects (suc place) it.0 it.1 in
      let fits : from + 0 ≤ length it.0.contents = subst (λ contents. from + 0 ≤ length contents) contents is.within in
      let within : nat_le (from + 0) (length it.0.contents) ≡ true = grind (arith, nat_tests) in
      ap (performed machine state natives.ReadRange) is.are ∙ empty_so place it.0 it.1 is.stream from within

-- ---- where it throws

module _ (objects : List (Option Object)) (index : ℕ → ℕ) (arguments : List Value) (stream at : ℕ) (from count : ℤ)
    (are : arguments ≡ Ref stream ∷ Ref at ∷ Int from ∷ Int count ∷ []) where
  read_so : map (read_value index) arguments ≡ Ref (serial_of index stream) ∷ Ref (serial_of index at) ∷ Int from ∷ Int count ∷ []
  read_so = ap (map (read_value index)) are

  pub range_holds : AreGiven objects (roles natives.ReadRange) (map (read_value index) arguments) → (at ≡ 0 → ⊥) → HoldsBytes objects (serial_of index at)
  range_holds given some = (subst (AreGiven objects (roles natives.ReadRange)) read_so given).1.0.there (serial_not index at some)

  pub null_stops : at ≡ 0 → PlansRange objects index (map (read_value index) arguments) (Err exceptions.NullPointer)
  null_stops none = λ machine beside.
      ap (performed machine (call_on machine objects beside).state natives.ReadRange) read_so
      ∙ ap (λ (at : ℕ). performed machine (call_on machine objects beside).state natives.ReadRange (Ref (serial_of index stream) ∷ Ref (serial_of index at) ∷ Int from ∷ Int count ∷ [])) none

  bounds_so : (machine : Machine) (beside : Beside) (place : ℕ) (object : Object) → object_in objects (suc place) ≡ Some object → (from count : ℤ) → range_in from count (length object.contents) ≡ None
      → performed machine (call_on machine objects beside).state natives.ReadRange (Ref (serial_of index stream) ∷ Ref (suc place) ∷ Int from ∷ Int count ∷ [])
      ≡ stops (call_on machine objects beside) index_out_of_bounds
  bounds_so machine beside place object there (pos from) (pos count) none = by (nat_le (from + count) (length object.contents)) refl where
    by : (test : Bool) → nat_le (from + count) (length object.contents) ≡ test
        → performed machine (call_on machine objects beside).state natives.ReadRange (Ref (serial_of index stream) ∷ Ref (suc place) ∷ Int (pos from) ∷ Int (pos count) ∷ [])
        ≡ stops (call_on machine objects beside) index_out_of_bounds
    by true is = absurd (none-some (from, count) (sym none ∙ (let some : range_in (pos from) (pos count) (length object.contents) ≡ Some (from, count) = rw is refl in some)))
    by false is = rw (there, is) refl
  bounds_so machine beside place object there (pos from) (negsuc count) none = rw there refl
  bounds_so machine beside place object there (negsuc from) count none = rw there refl

  pub bounds_stop : (serial : ℕ) → serial_of index at ≡ serial → IsTrue (is_kept objects serial) → range_in from count (length (contents_at objects serial)) ≡ None
      → PlansRange objects index (map (read_value index) arguments) (Err exceptions.IndexOutOfBounds)
  bounds_stop zero same there none = absurd (false≢true there)
  bounds_stop (suc place) same there none = λ machine beside.
      let it = found objects (suc place) there in
      ap (performed machine (call_on machine objects beside).state natives.ReadRange)
      (read_so ∙ ap (λ (serial : ℕ). Ref (serial_of index stream) ∷ Ref serial ∷ Int from ∷ Int count ∷ []) same)
      ∙ bounds_so machine beside place it.0 it.1 from count (ap (λ contents. range_in from count (length contents)) (sym (contents_there objects (suc place) it.0 it.1)) ∙ none)

range_some : (from count : ℤ) (size : ℕ) (range : ℕ × ℕ) → range_in from count size ≡ Some range → (from ≡ pos range.0) × (count ≡ pos range.1) × (range.0 + range.1 ≤ size)
range_some (pos from) (pos count) size range is = by (nat_le (from + count) size) refl where
  by : (test : Bool) → nat_le (from + count) size ≡ test → (pos from ≡ pos range.0) × (pos count ≡ pos range.1) × (range.0 + range.1 ≤ size)
  by true fits =
      let some : range_in (pos from) (pos count) size ≡ Some (from, count) = rw fits refl in
      let same : (from, count) ≡ range = same_Some (from, count) range (sym some ∙ is) in
      let low : from + count ≤ size = leb-true (from + count) size fits in
      (ap (λ (range : ℕ × ℕ). pos range.0) same, ap (λ (range : ℕ × ℕ). pos range.1) same, subst (λ (range : ℕ × ℕ). range.0 + range.1 ≤ size) same low)
  by false fits = absurd (none-some range (sym (let none : range_in (pos from) (pos count) size ≡ None = rw fits refl in none) ∙ is))
range_some (pos from) (negsuc count) size range is = absurd (none-some range is)
range_some (negsuc from) count size range is = absurd (none-some range is)

pub range_there : (objects : List (Option Object)) (index : ℕ → ℕ) (arguments : List Value) (stream at : ℕ) (from count : ℤ) → arguments ≡ Ref stream ∷ Ref at ∷ Int from ∷ Int count ∷ []
    → HoldsBytes objects (serial_of index at) → (range : ℕ × ℕ) → range_in from count (length (contents_at objects (serial_of index at))) ≡ Some range
    → IsRange objects (map (read_value index) arguments) (serial_of index at) range.0 range.1
range_there objects index arguments stream at from count are holds range is =
    let all = range_some from count (length (contents_at objects (serial_of index at))) range is in
    record {
      stream = serial_of index stream;
      are = ap (map (read_value index)) are
          ∙ ap (λ (from : ℤ). Ref (serial_of index stream) ∷ Ref (serial_of index at) ∷ Int from ∷ Int count ∷ []) all.0
          ∙ ap (λ (count : ℤ). Ref (serial_of index stream) ∷ Ref (serial_of index at) ∷ Int (pos range.0) ∷ Int count ∷ []) all.1;
      holds = holds;
      within = all.2;
    }
