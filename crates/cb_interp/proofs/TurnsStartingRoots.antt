-- New roots are put in order one class and one static field after the other; then they name nothing.
use Rattle.std.proofs.Common.{◌≡◌, ◌∙◌, ap, ap₂, refl, sym, subst, arith, ℕ, zero, suc, ◌+◌, ◌-◌, ◌<◌, ◌==◌, Bool, true, false, List, [], ◌∷◌, ◌++◌, append_assoc, filter, length, map, replicate, pos, Option, Some, None, IsTrue}
use Rattle.std.proofs.Math.Seq.{set-append_seam}
use Rattle.std.proofs.lemmas.Bool.{eq-eqb, ne_eqb}
use Rattle.std.proofs.lemmas.List.{length-append, length-replicate, length-set}
use Rattle.std.proofs.lemmas.Option.{none-some, same_Some}
use Rattle.std.specs.Prelude.{option_map, slice_set}
use Rattle.std.specs.List.{flat_map, fold, list_all, range_with_len}
use Rattle.cb_classfile.specs.declared.field.Field.{Field}
use Rattle.cb_heap.proofs.Laws.{all_of, joined, joined_tables}
use Rattle.cb_heap.specs.Closed.{IsClosed}
use Rattle.cb_heap.specs.Kept.{is_held}
use Rattle.cb_heap.specs.Reading.{read_roots, read_tables, read_value, serial_of}
use Rattle.cb_kinds.specs.declared.basic.Basic.{Basic}
use Rattle.cb_kinds.specs.declared.basic.Basic.TheVariants as basics
use Rattle.cb_link.specs.Numbers.{Numbered}
use Rattle.cb_link.specs.Program.{Linked}
use Rattle.cb_link.specs.Slots.{static_at, static_basic, statics}
use Rattle.cb_machine.specs.Starting.{empty_roots, empty_tables}
use Rattle.cb_plain.specs.Reach.{reference_in, references_in, root_references, unless_null}
use Rattle.cb_plain.specs.Roots.{with_static}
use Rattle.cb_plain.specs.State.{Roots, Tables, small_chars, small_numbers}
use Rattle.cb_plain.specs.declared.class_state.ClassState.{ClassState}
use Rattle.cb_plain.specs.declared.class_state.ClassState.TheVariants.{Untouched}
use Rattle.cb_plain.specs.declared.value.Value.{Value}
use Rattle.cb_plain.specs.declared.value.Value.TheVariants.{Int, Ref}
use Rattle.cb_interp.specs.Starting.{first_of_type, first_state, first_value, new_roots, set_first, set_ready, with_first, with_ready, with_streams}

-- ---- lists of which one item after the other is set

abbrev pub set_each : {X : Type 0} → (ℕ → X) → List X → List ℕ → List X
set_each own items places = fold (λ items place. slice_set items place (own place)) items places

set_rest : {X : Type 0} (own : ℕ → X) (front rest : List X) (from : ℕ) → length front ≡ from
    → set_each own (front ++ rest) (range_with_len from (length rest)) ≡ front ++ map own (range_with_len from (length rest))
set_rest own front [] from is = refl
set_rest {X} own front (item ∷ rest) from is =
    ap (λ (items : List X). set_each own items (range_with_len (from + 1) (length rest)))
    (ap (λ (place : ℕ). slice_set (front ++ item ∷ rest) place (own from)) (sym is) ∙ set-append_seam front item rest (own from)
    ∙ sym (append_assoc front (own from ∷ []) rest))
    ∙ set_rest own (front ++ own from ∷ []) rest (from + 1) (length-append front (own from ∷ []) ∙ ap (λ (count : ℕ). count + 1) is)
    ∙ append_assoc front (own from ∷ []) (map own (range_with_len (from + 1) (length rest)))

pub set_all : {X : Type 0} (own : ℕ → X) (items : List X) (count : ℕ) → length items ≡ count
    → set_each own items (range_with_len 0 count) ≡ map own (range_with_len 0 count)
set_all own items count is =
    subst (λ (count : ℕ). set_each own items (range_with_len 0 count) ≡ map own (range_with_len 0 count)) is (set_rest own [] items 0 refl)

-- the places from one on
from_on : (place count : ℕ) → place < count → range_with_len place (count - place) ≡ place ∷ range_with_len (place + 1) (count - (place + 1))
from_on place count low = ap (range_with_len place) (let same : count - place ≡ suc (count - (place + 1)) = omega (arith, low) in same)

-- ---- classes

abbrev with_states : Roots → List ClassState → Roots
with_states roots states =
    record { frames = roots.frames; pending = roots.pending; statics = roots.statics; classes = states; tables = roots.tables; argument = roots.argument }

states_set : (classes : List ℕ) (roots : Roots) → fold set_ready roots classes ≡ with_states roots (set_each first_state roots.classes classes)
states_set [] roots = refl
states_set (class ∷ classes) roots = states_set classes (set_ready roots class)

-- what is still to be set, at each step of the walk
abbrev pub ready_from : ℕ → Roots → ℕ → Roots
ready_from count roots class = fold set_ready roots (range_with_len class (count - class))

pub sets_ready : (count : ℕ) (roots : Roots) (class : ℕ) → class < count → ready_from count (set_ready roots class) (class + 1) ≡ ready_from count roots class
sets_ready count roots class low = ap (fold set_ready roots) (sym (from_on class count low))

pub ready_count : (roots : Roots) (class : ℕ) → length (set_ready roots class).classes ≡ length roots.classes
ready_count roots class = length-set roots.classes class (first_state class)

-- ---- static fields

abbrev with_values : Roots → List Value → Roots
with_values roots held =
    record { frames = roots.frames; pending = roots.pending; statics = held; classes = roots.classes; tables = roots.tables; argument = roots.argument }

module _ (program : Linked) where
  values_set : (slots : List ℕ) (roots : Roots) → fold (set_first program) roots slots ≡ with_values roots (set_each (first_value program) roots.statics slots)
  values_set [] roots = refl
  values_set (slot ∷ slots) roots = values_set slots (set_first program roots slot)

  abbrev pub first_from : ℕ → Roots → ℕ → Roots
  first_from count roots slot = fold (set_first program) roots (range_with_len slot (count - slot))

  pub sets_first : (count : ℕ) (roots : Roots) (slot : ℕ) → slot < count → first_from count (set_first program roots slot) (slot + 1) ≡ first_from count roots slot
  sets_first count roots slot low = ap (fold (set_first program) roots) (sym (from_on slot count low))

  pub first_count : (roots : Roots) (slot : ℕ) → length (set_first program roots slot).statics ≡ length roots.statics
  first_count roots slot = length-set roots.statics slot (first_value program slot)

  -- ---- in order

  abbrev roots_as : List ClassState → List Value → Roots
  roots_as states held = record { frames = []; pending = 0; statics = held; classes = states; tables = empty_tables program; argument = 0 }

  pub as_many_classes : length program.classes ≡ length (new_roots program).classes
  as_many_classes = sym (length-replicate (length program.classes) Untouched)

  pub as_many_statics : length (statics program.classes) ≡ length (with_ready program (new_roots program)).statics
  as_many_statics =
      sym (length-replicate (length (statics program.classes)) (Int (pos 0)))
      ∙ ap (λ (roots : Roots). length roots.statics) (sym (states_set (range_with_len 0 (length program.classes)) (new_roots program)))

  pub in_order : with_first program (with_ready program (new_roots program)) ≡ empty_roots program
  in_order =
      let classes : List ℕ = range_with_len 0 (length program.classes) in
      let slots : List ℕ = range_with_len 0 (length (statics program.classes)) in
      let states : List ClassState = set_each first_state (new_roots program).classes classes in
      ap (with_first program) (states_set classes (new_roots program)) ∙ values_set slots (with_states (new_roots program) states)
      ∙ ap₂ roots_as (set_all first_state (new_roots program).classes (length program.classes) (length-replicate (length program.classes) Untouched))
      (set_all (first_value program) (new_roots program).statics (length (statics program.classes)) (length-replicate (length (statics program.classes)) (Int (pos 0))))

-- ---- read, and closed

value_read : (index : ℕ → ℕ) (found : Option Basic) → read_value index (first_of_type found) ≡ first_of_type found
value_read index None = refl
value_read index (Some basics.Long) = refl
value_read index (Some (basics.Reference kind)) = refl
value_read index (Some other) = refl

values_read : (index : ℕ → ℕ) (program : Linked) (slots : List ℕ) → map (read_value index) (map (first_value program) slots) ≡ map (first_value program) slots
values_read index program [] = refl
values_read index program (slot ∷ slots) =
    ap₂ (λ (value : Value) (held : List Value). value ∷ held) (value_read index (static_basic program slot)) (values_read index program slots)

nulls_read : (index : ℕ → ℕ) (count : ℕ) → map (serial_of index) (replicate count 0) ≡ replicate count 0
nulls_read index zero = refl
nulls_read index (suc count) = ap (λ (rest : List ℕ). 0 ∷ rest) (nulls_read index count)

abbrev null_tables : (constants classes integers longs characters booleans : ℕ) → Tables
null_tables constants classes integers longs characters booleans =
    record { constants = replicate constants 0; classes = replicate classes 0; integers = replicate integers 0; longs = replicate longs 0; characters = replicate characters 0; booleans = replicate booleans 0 }

tables_read : (index : ℕ → ℕ) (constants classes integers longs characters booleans : ℕ)
    → read_tables index (null_tables constants classes integers longs characters booleans) ≡ null_tables constants classes integers longs characters booleans
tables_read index constants classes integers longs characters booleans =
    rw (nulls_read index constants, nulls_read index classes, nulls_read index integers, nulls_read index longs, nulls_read index characters, nulls_read index booleans) refl

abbrev roots_of : Linked → List Value → Tables → Roots
roots_of program held tables =
    record { frames = []; pending = 0; statics = held; classes = (empty_roots program).classes; tables = tables; argument = 0 }

pub empty_read : (program : Linked) (index : ℕ → ℕ) → read_roots index (empty_roots program) ≡ empty_roots program
empty_read program index =
    ap₂ (roots_of program) (values_read index program (range_with_len 0 (length (statics program.classes))))
    (tables_read index (length program.constants) (length program.kinds) small_numbers small_numbers small_chars 2)

nulls_held : (test : ℕ → Bool) (count : ℕ) → IsTrue (list_all test (flat_map unless_null (replicate count 0)))
nulls_held test zero = refl
nulls_held test (suc count) = nulls_held test count

value_held : (test : ℕ → Bool) (found : Option Basic) → IsTrue (list_all test (reference_in (first_of_type found)))
value_held test None = refl
value_held test (Some basics.Long) = refl
value_held test (Some (basics.Reference kind)) = refl
value_held test (Some other) = refl

values_held : (test : ℕ → Bool) (program : Linked) (slots : List ℕ) → IsTrue (list_all test (references_in (map (first_value program) slots)))
values_held test program [] = refl
values_held test program (slot ∷ slots) =
    all_of test (reference_in (first_value program slot)) (references_in (map (first_value program) slots)) (value_held test (static_basic program slot))
    (values_held test program slots)

pub empty_held : (program : Linked) (test : ℕ → Bool) → IsTrue (list_all test (root_references (empty_roots program)))
empty_held program test =
    joined test (empty_roots program) refl (values_held test program (range_with_len 0 (length (statics program.classes))))
    (joined_tables test (empty_tables program) (nulls_held test (length program.constants)) (nulls_held test (length program.kinds)) (nulls_held test small_numbers)
    (nulls_held test small_numbers) (nulls_held test small_chars) (nulls_held test 2)) refl refl

pub empty_closed : (program : Linked) → IsClosed (record { roots = empty_roots program; objects = [] })
empty_closed program = record { roots = empty_held program (is_held []); objects = refl }

-- ---- the static fields of a class, one after the other

abbrev declared_by : ℕ → Option (Numbered Field) → Bool
declared_by class None = false
declared_by class (Some field) = field.class == class

declared_so : (class owner : ℕ) (found : Option (Numbered Field)) → option_map (λ field. field.class) found ≡ Some owner → declared_by class found ≡ (owner == class)
declared_so class owner None is = absurd (none-some owner is)
declared_so class owner (Some field) is = ap (λ (other : ℕ). other == class) (same_Some field.class owner is)

module _ (program : Linked) (class count : ℕ) where
  abbrev pub slots_from : ℕ → List ℕ
  slots_from slot = filter (λ slot. declared_by class (static_at program slot)) (range_with_len slot (count - slot))

  own_next : (slot owner : ℕ) → slot < count → option_map (λ field. field.class) (static_at program slot) ≡ Some owner → (owner == class) ≡ true
      → slots_from slot ≡ slot ∷ slots_from (slot + 1)
  own_next slot owner low is own =
      let passes : declared_by class (static_at program slot) ≡ true = declared_so class owner (static_at program slot) is ∙ own in
      ap (filter (λ (slot : ℕ). declared_by class (static_at program slot))) (from_on slot count low) ∙ rw passes refl

  other_next : (slot owner : ℕ) → slot < count → option_map (λ field. field.class) (static_at program slot) ≡ Some owner → (owner == class) ≡ false
      → slots_from slot ≡ slots_from (slot + 1)
  other_next slot owner low is other =
      let fails : declared_by class (static_at program slot) ≡ false = declared_so class owner (static_at program slot) is ∙ other in
      ap (filter (λ (slot : ℕ). declared_by class (static_at program slot))) (from_on slot count low) ∙ rw fails refl

  -- what is still to be set
  abbrev pub streams_from : Roots → (out input slot : ℕ) → Roots
  streams_from roots out input slot = with_streams (slots_from slot) out input roots

  pub sets_stream : (roots : Roots) (out input slot owner : ℕ) → slot < count → option_map (λ field. field.class) (static_at program slot) ≡ Some owner → owner ≡ class
      → streams_from (with_static roots slot (Ref out)) input input (slot + 1) ≡ streams_from roots out input slot
  sets_stream roots out input slot owner low is own =
      ap (λ (slots : List ℕ). with_streams slots out input roots) (sym (own_next slot owner low is (eq-eqb owner class own)))

  pub passes_stream : (roots : Roots) (out input slot owner : ℕ) → slot < count → option_map (λ field. field.class) (static_at program slot) ≡ Some owner → (owner ≡ class → ⊥)
      → streams_from roots out input (slot + 1) ≡ streams_from roots out input slot
  passes_stream roots out input slot owner low is other =
      ap (λ (slots : List ℕ). with_streams slots out input roots) (sym (other_next slot owner low is (ne_eqb owner class other)))

pub stream_count : (roots : Roots) (slot : ℕ) (value : Value) → length (with_static roots slot value).statics ≡ length roots.statics
stream_count roots slot value = length-set roots.statics slot value
