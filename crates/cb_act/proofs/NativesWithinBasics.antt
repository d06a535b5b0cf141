-- What natives give names only what passes: what is common to natives.
use Rattle.std.proofs.Common.{◌≡◌, refl, sym, subst, ℕ, ℤ, ◌+◌, Bool, true, false, List, [], ◌∷◌, drop, length, take, Option, Some, None, zero, suc, IsTrue, if◌then◌else◌, nat_le}
use Rattle.std.specs.Prelude.{option_and_then, option_map, slice_set}
use Rattle.cb_heap.specs.Closed.{reference_in_word}
use Rattle.cb_machine.specs.Computing.{divide_message, throws_by_zero}
use Rattle.cb_machine.specs.Machine.{Machine}
use Rattle.cb_machine.specs.Performing.{Call, Performed, array_words, built_text, gives, gives_placed, gives_text, if_short, most_elements, number_at, on_number, on_object, on_text, reference_at, stops, text_of, value_slot, words_at}
use Rattle.cb_machine.specs.Plans.{Plan, leaving, with_left}
use Rattle.cb_machine.specs.Sites.{arithmetic, made_characters, made_strings, negative_size, null_pointer}
use Rattle.cb_machine.specs.Strings.{Placed, constant_string, with_string}
use Rattle.cb_machine.specs.Testing.{int_of}
use Rattle.cb_plain.specs.declared.value.Value.{Value}
use Rattle.cb_plain.specs.declared.value.Value.TheVariants as values
use Rattle.cb_plain.specs.Reach.{references_in, unless_null}
use Rattle.cb_plain.specs.State.{Content, Object, State}
use Rattle.cb_plain.specs.Updates.{object_at, with_contents_at}
use Rattle.cb_act.specs.Within.{GivenWithin, IsPlanWithin, IsWithin, Pass, contents_references}
use Rattle.cb_act.proofs.KeepLaws.{length_changed}
use Rattle.cb_act.proofs.KeptObjects.{parts}
use Rattle.cb_act.proofs.WithinBasics.{both, constant_within, left_within, set_passes, string_within, throwing_within, throws_within}
use Rattle.cb_act.proofs.WithinObjects.{contents_pass, object_passes}

-- a state of a machine, of which all references pass, and all that come next
pub record Passing : Type 0 where
  pub ok : ℕ → Bool
  pub machine : Machine
  pub state : State
  pub is : IsWithin ok state

abbrev pub call_in : Passing → Call
call_in it = record { machine = it.machine; state = it.state }

abbrev pub Given : Passing → Option Performed → Type 0
Given it found = GivenWithin it.ok found

abbrev pub AllPass : Passing → List Value → Type 0
AllPass it arguments = Pass it.ok (references_in arguments)

abbrev pub WordsPass : Passing → List Content → Type 0
WordsPass it contents = Pass it.ok (contents_references contents)

module _ (it : Passing) where
  -- arguments
  pub first_passes : (serial : ℕ) (rest : List Value) → AllPass it (values.Ref serial ∷ rest) → Pass it.ok (unless_null serial)
  first_passes serial rest all = (parts it.ok (unless_null serial) (references_in rest) all).0

  pub one_passes : (serial : ℕ) → Pass it.ok (unless_null serial) → AllPass it (values.Ref serial ∷ [])
  one_passes serial is = both it.ok (unless_null serial) [] is refl

  -- answers of nothing placed
  pub left_passes : IsPlanWithin it.ok (leaving it.state)
  left_passes = left_within it.ok it.state it.is

  pub gives_passes : (answer : List Value) → AllPass it answer → Given it (gives (call_in it) answer)
  gives_passes answer all = (left_passes, all)

  -- without references, whatever it is
  pub plain_passes : IsPlanWithin it.ok (leaving it.state) × Pass it.ok []
  plain_passes = (left_passes, refl)

  pub int_passes : (number : ℤ) → Given it (gives (call_in it) (values.Int number ∷ []))
  int_passes number = plain_passes

  pub long_passes : (number : ℤ) → Given it (gives (call_in it) (values.Long number ∷ []))
  long_passes number = plain_passes

  pub bool_passes : (is : Bool) → Given it (gives (call_in it) (int_of is ∷ []))
  bool_passes true = plain_passes
  bool_passes false = plain_passes

  pub stops_passes : (site : ℕ) → Given it (stops (call_in it) site)
  stops_passes site = throws_within it.ok it.machine it.state site it.is

  pub by_zero_passes : IsPlanWithin it.ok (throws_by_zero it.machine it.state)
  by_zero_passes =
      let message : Placed = constant_string it.machine divide_message (leaving it.state) in
      let own = constant_within it.ok it.machine divide_message (leaving it.state) left_passes in
      throwing_within it.ok it.machine arithmetic message.serial 0 message.plan own.0 own.1 refl

  -- what comes of what is there, and one of two
  pub then_passes : {X : Type 0} (one : X → Option Performed) (found : Option X) → ((each : X) → found ≡ Some each → Given it (one each)) → Given it (option_and_then one found)
  then_passes one None each = tt
  then_passes one (Some item) each = each item refl

  pub branch_passes : (is : Bool) (one other : Option Performed) → Given it one → Given it other → Given it (if is then one else other)
  branch_passes true one other first second = first
  branch_passes false one other first second = second

  pub short_passes : (count : ℕ) (one : Option Performed) → Given it one → Given it (if_short (call_in it) count one)
  short_passes count one is = branch_passes (nat_le count most_elements) one (stops (call_in it) negative_size) is (stops_passes negative_size)

  -- an object, and what it holds
  pub on_passes : (serial : ℕ) (one : Object → Option Performed) → ((object : Object) → object_at it.state serial ≡ Some object → Given it (one object))
      → Given it (on_object (call_in it) serial one)
  on_passes zero one each = stops_passes null_pointer
  on_passes (suc place) one each = then_passes one (object_at it.state (suc place)) each

  pub number_passes : (serial : ℕ) (one : ℤ → Option Performed) → ((number : ℤ) → Given it (one number)) → Given it (on_number (call_in it) serial one)
  number_passes serial one each =
      on_passes serial (λ object. option_and_then one (number_at object value_slot))
      (λ object there. then_passes one (number_at object value_slot) (λ number is. each number))

  pub words_of_object : (serial : ℕ) (object : Object) → object_at it.state serial ≡ Some object → WordsPass it object.contents
  words_of_object serial object there = object_passes it.ok it.state.objects serial object there it.is.objects

  pub words_pass : (one : List Content → Option Performed) → ((words : List Content) → WordsPass it words → Given it (one words)) → (object : Object)
      → Given it (option_and_then one (array_words it.state object))
  words_pass one each object = named (reference_at object value_slot) where
    there : (place : ℕ) (found : Option Object) → object_at it.state (suc place) ≡ found
        → Given it (option_and_then one (option_map (λ (array : Object). array.contents) found))
    there place None is = tt
    there place (Some array) is = each array.contents (words_of_object (suc place) array is)

    named : (found : Option ℕ) → Given it (option_and_then one (option_and_then (words_at it.state) found))
    named None = tt
    named (Some zero) = each [] refl
    named (Some (suc place)) = there place (object_at it.state (suc place)) refl

  -- texts, of strings and of builders
  pub text_passes : (serial : ℕ) (one : List ℕ → Option Performed) → ((units : List ℕ) → Given it (one units)) → Given it (on_text (call_in it) serial one)
  text_passes serial one each =
      on_passes serial (λ object. option_and_then one (text_of it.state object))
      (λ object there. then_passes one (text_of it.state object) (λ units is. each units))

  pub built_passes : (serial : ℕ) (one : Object → List ℕ → Option Performed)
      → ((object : Object) → object_at it.state serial ≡ Some object → (units : List ℕ) → Given it (one object units))
      → Given it (on_object (call_in it) serial (λ builder. option_and_then (one builder) (built_text it.state builder)))
  built_passes serial one each =
      on_passes serial (λ builder. option_and_then (one builder) (built_text it.state builder))
      (λ builder there. then_passes (one builder) (built_text it.state builder) (λ units is. each builder there units))

  -- what is placed
  pub placed_passes : (placed : Placed) → IsPlanWithin it.ok placed.plan → Pass it.ok (unless_null placed.serial) → Given it (gives_placed placed)
  placed_passes placed is pass = (is, one_passes placed.serial pass)

  pub texts_pass : (units : List ℕ) → Given it (gives_text (call_in it) units)
  texts_pass units =
      let placed : Placed = with_string it.machine made_strings made_characters units (leaving it.state) in
      let own = string_within it.ok it.machine made_strings made_characters units (leaving it.state) left_passes in
      short_passes (length units) (gives_placed placed) (placed_passes placed own.0 own.1)

  -- words in parts, and with another one
  pub drop_passes : (count : ℕ) (contents : List Content) → WordsPass it contents → WordsPass it (drop count contents)
  drop_passes zero contents all = all
  drop_passes (suc count) [] all = refl
  drop_passes (suc count) (content ∷ contents) all = drop_passes count contents (parts it.ok (reference_in_word content) (contents_references contents) all).1

  pub take_passes : (count : ℕ) (contents : List Content) → WordsPass it contents → WordsPass it (take count contents)
  take_passes zero contents all = refl
  take_passes (suc count) [] all = refl
  take_passes (suc count) (content ∷ contents) all =
      let own = parts it.ok (reference_in_word content) (contents_references contents) all in
      both it.ok (reference_in_word content) (contents_references (take count contents)) own.0 (take_passes count contents own.1)

  pub word_set : (serial : ℕ) (object : Object) → object_at it.state serial ≡ Some object → (slot : ℕ) (content : Content) → Pass it.ok (reference_in_word content)
      → WordsPass it (slice_set object.contents slot content)
  word_set serial object there slot content new = set_passes it.ok reference_in_word object.contents slot content (words_of_object serial object there) new

  -- an object with other words
  pub changed_passes : (any : State) → IsWithin it.ok any → (serial : ℕ) (contents : List Content) → WordsPass it contents → IsWithin it.ok (with_contents_at any serial contents)
  changed_passes any is serial contents new = record {
    roots = is.roots;
    objects = contents_pass it.ok any.objects serial contents is.objects new;
    next = λ more. subst (λ (count : ℕ). IsTrue (it.ok (count + 1 + more))) (sym (length_changed any.objects serial contents)) (is.next more);
  }

  pub with_left_passes : (plan : Plan) (left : State) → IsPlanWithin it.ok plan → IsWithin it.ok left → IsPlanWithin it.ok (with_left plan left)
  with_left_passes plan left is own = record { roots = own.roots; objects = own.objects; next = is.next; placed = is.placed }
