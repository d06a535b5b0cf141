-- What a native does to changed objects is what it does, changed: what is common to natives.
use Rattle.std.proofs.Common.{◌≡◌, ◌∙◌, ap, refl, sym, ℕ, ℤ, pos, Bool, true, false, List, [], ◌∷◌, length, take, Option, Some, None, zero, suc, IsTrue, if◌then◌else◌, nat_le}
use Rattle.std.specs.Prelude.{option_and_then, option_map, slice_get}
use Rattle.std.specs.List.{list_all}
use Rattle.std.proofs.lemmas.Option.{none-some, same_Some}
use Rattle.cb_machine.specs.Computing.{throws_by_zero}
use Rattle.cb_machine.specs.Machine.{Machine}
use Rattle.cb_machine.specs.Performing.{Call, Performed, Gives, Stops, array_words, built_text, count_slot, gives, gives_placed, gives_text, if_short, most_elements, number_at, on_number, on_object, on_text, reference_at, stops, text_of, units_of, value_slot, words_at}
use Rattle.cb_machine.specs.Plans.{Plan, leaving}
use Rattle.cb_machine.specs.Sites.{made_characters, made_strings, negative_size, null_pointer}
use Rattle.cb_machine.specs.Strings.{with_string}
use Rattle.cb_plain.specs.declared.value.Value.{Value}
use Rattle.cb_plain.specs.declared.value.Value.TheVariants as values
use Rattle.cb_plain.specs.Reach.{references_in}
use Rattle.cb_plain.specs.State.{Content, Number, Object, Reference, State}
use Rattle.cb_plain.specs.Updates.{object_at, object_in, with_contents_at, with_contents_in, with_objects}
use Rattle.cb_act.specs.Changing.{Change, IsUnseen, Passes, changed_performed, changed_plan, changed_state}
use Rattle.cb_act.proofs.KeepLaws.{length_changed}
use Rattle.cb_act.proofs.KeptGoing.{by_zero_kept, leaving_kept, throws_kept}
use Rattle.cb_act.proofs.KeptObjects.{value_held}

-- a state of a machine, and a change of its objects that a step doesn't see
pub record Changed : Type 0 where
  pub change : Change
  pub test : ℕ → Bool
  pub machine : Machine
  pub state : State
  pub unseen : IsUnseen change test state

abbrev pub own_call : Changed → Call
own_call it = record { machine = it.machine; state = it.state }

abbrev pub changed_call : Changed → Call
changed_call it = record { machine = it.machine; state = changed_state it.change it.state }

-- arguments pass; and one answer is another, changed
abbrev pub Held : Changed → List Value → Type 0
Held it arguments = IsTrue (list_all it.test (references_in arguments))

abbrev pub Same : Changed → Option Performed → Option Performed → Type 0
Same it one other = one ≡ option_map (changed_performed it.change) other

-- one of two, and what comes of what is there
pub either_same : {X : Type 0} (change : X → X) (is : Bool) (one other third fourth : X) → one ≡ change other → third ≡ change fourth
    → (if is then one else third) ≡ change (if is then other else fourth)
either_same change true one other third fourth first second = first
either_same change false one other third fourth first second = second

pub and_then_same : {X Y : Type 0} (one other : X → Option Y) (found : Option X) → ((each : X) → found ≡ Some each → one each ≡ other each)
    → option_and_then one found ≡ option_and_then other found
and_then_same one other None each = refl
and_then_same one other (Some item) each = each item refl

-- an object of those of which one has other contents
abbrev with_contents : List Content → Object → Object
with_contents contents object = record { site = object.site; kind = object.kind; contents = contents }

abbrev look : ℕ → ℕ → List Content → Option Object → Option Object
look zero zero contents found = option_map (with_contents contents) found
look zero (suc at) contents found = found
look (suc place) zero contents found = found
look (suc place) (suc at) contents found = look place at contents found

look_none : (place at : ℕ) (contents : List Content) → look place at contents None ≡ None
look_none zero zero contents = refl
look_none zero (suc at) contents = refl
look_none (suc place) zero contents = refl
look_none (suc place) (suc at) contents = look_none place at contents

looks_in : (objects : List (Option Object)) (place at : ℕ) (contents : List Content)
    → object_in (with_contents_in objects (suc place) contents) (suc at) ≡ look place at contents (object_in objects (suc at))
looks_in [] place at contents = sym (look_none place at contents)
looks_in (entry ∷ objects) zero zero contents = refl
looks_in (entry ∷ objects) zero (suc at) contents = refl
looks_in (entry ∷ objects) (suc place) zero contents = refl
looks_in (entry ∷ objects) (suc place) (suc at) contents = looks_in objects place at contents

looked : (one other : List (Option Object)) (serial at : ℕ) (contents : List Content) → object_in one at ≡ object_in other at
    → object_in (with_contents_in one serial contents) at ≡ object_in (with_contents_in other serial contents) at
looked one other serial zero contents same = refl
looked one other zero (suc at) contents same = same
looked one other (suc place) (suc at) contents same =
    looks_in one place at contents ∙ ap (look place at contents) same ∙ sym (looks_in other place at contents)

-- the units that words hold, and as many of them as a builder counts
abbrev its_units : List Content → List ℕ
its_units contents = units_of (record { site = 0; kind = 0; contents = contents })

abbrev counted_of : List ℕ → ℤ → List ℕ
counted_of units (pos count) = take count units
counted_of units other = []

abbrev its_count : Object → List ℕ → Option (List ℕ)
its_count builder units = option_map (counted_of units) (number_at builder count_slot)

-- what objects that pass hold passes
abbrev pub Inside : Changed → List Content → Type 0
Inside it contents = (word serial : ℕ) → slice_get contents word ≡ Some (Reference serial) → Passes it.test serial

module _ (it : Changed) where
  -- arguments
  pub first : (serial : ℕ) (rest : List Value) → Held it (values.Ref serial ∷ rest) → Passes it.test serial
  first serial rest held = value_held it.test (values.Ref serial ∷ rest) 0 serial refl held

  pub second : (value : Value) (serial : ℕ) (rest : List Value) → Held it (value ∷ values.Ref serial ∷ rest) → Passes it.test serial
  second value serial rest held = value_held it.test (value ∷ values.Ref serial ∷ rest) 1 serial refl held

  -- plans, and answers of nothing placed
  pub left_same : leaving (changed_state it.change it.state) ≡ changed_plan it.change (leaving it.state)
  left_same = leaving_kept it.change it.state it.unseen.count

  pub plan_gives : (one other : Plan) (answer : List Value) → one ≡ changed_plan it.change other → Same it (Some (Gives one answer)) (Some (Gives other answer))
  plan_gives one other answer is = ap (λ (plan : Plan). Some (Gives plan answer)) is

  pub plan_stops : (one other : Plan) → one ≡ changed_plan it.change other → Same it (Some (Stops one)) (Some (Stops other))
  plan_stops one other is = ap (λ (plan : Plan). Some (Stops plan)) is

  pub gives_same : (answer : List Value) → Same it (gives (changed_call it) answer) (gives (own_call it) answer)
  gives_same answer = plan_gives (leaving (changed_state it.change it.state)) (leaving it.state) answer left_same

  pub stops_same : (site : ℕ) → Same it (stops (changed_call it) site) (stops (own_call it) site)
  stops_same site = ap (λ (plan : Plan). Some (Stops plan)) (throws_kept it.change it.state it.unseen.count it.machine site)

  pub by_zero_same : Same it (Some (Stops (throws_by_zero it.machine (changed_state it.change it.state)))) (Some (Stops (throws_by_zero it.machine it.state)))
  by_zero_same = ap (λ (plan : Plan). Some (Stops plan)) (by_zero_kept it.change it.state it.unseen.count it.machine)

  -- what comes of what is there, and one of two
  pub then_same : {X : Type 0} (one other : X → Option Performed) (found : Option X) → ((each : X) → found ≡ Some each → Same it (one each) (other each))
      → Same it (option_and_then one found) (option_and_then other found)
  then_same one other None each = refl
  then_same one other (Some item) each = each item refl

  pub branch_same : (is : Bool) (one other third fourth : Option Performed) → Same it one other → Same it third fourth
      → Same it (if is then one else third) (if is then other else fourth)
  branch_same is one other third fourth first second = either_same (option_map (changed_performed it.change)) is one other third fourth first second

  pub short_same : (count : ℕ) (one other : Option Performed) → Same it one other → Same it (if_short (changed_call it) count one) (if_short (own_call it) count other)
  short_same count one other is =
      branch_same (nat_le count most_elements) one other (stops (changed_call it) negative_size) (stops (own_call it) negative_size) is (stops_same negative_size)

  -- an object, and what it holds
  pub object_same : (serial : ℕ) → Passes it.test serial → (one other : Object → Option Performed)
      → ((object : Object) → object_at it.state serial ≡ Some object → Same it (one object) (other object))
      → Same it (on_object (changed_call it) serial one) (on_object (own_call it) serial other)
  object_same zero passes one other each = stops_same null_pointer
  object_same (suc place) passes one other each =
      ap (option_and_then one) (it.unseen.same (suc place) passes) ∙ then_same one other (object_at it.state (suc place)) each

  pub inside_of : (serial : ℕ) → Passes it.test serial → (object : Object) → object_at it.state serial ≡ Some object → Inside it object.contents
  inside_of serial passes object there word other is = it.unseen.inside serial word other object passes there is

  pub named_passes : (object : Object) → Inside it object.contents → (slot serial : ℕ) → reference_at object slot ≡ Some serial → Passes it.test serial
  named_passes object inside slot serial is = by (slice_get object.contents slot) refl where
    by : (found : Option Content) → slice_get object.contents slot ≡ found → Passes it.test serial
    by None there = absurd (none-some serial (rw there at is))
    by (Some (Number number)) there = absurd (none-some serial (rw there at is))
    by (Some (Reference other)) there = inside slot serial (there ∙ ap (λ (name : ℕ). Some (Reference name)) (same_Some other serial (rw there at is)))

  pub number_same : (serial : ℕ) → Passes it.test serial → (one other : ℤ → Option Performed) → ((number : ℤ) → Same it (one number) (other number))
      → Same it (on_number (changed_call it) serial one) (on_number (own_call it) serial other)
  number_same serial passes one other each =
      object_same serial passes (λ object. option_and_then one (number_at object value_slot)) (λ object. option_and_then other (number_at object value_slot))
      (λ object there. then_same one other (number_at object value_slot) (λ number is. each number))

  -- the words of its array
  words_at_same : (serial : ℕ) → Passes it.test serial → words_at (changed_state it.change it.state) serial ≡ words_at it.state serial
  words_at_same zero passes = refl
  words_at_same (suc place) passes = ap (option_map (λ (array : Object). array.contents)) (it.unseen.same (suc place) passes)

  pub words_same : (object : Object) → Inside it object.contents → array_words (changed_state it.change it.state) object ≡ array_words it.state object
  words_same object inside =
      and_then_same (words_at (changed_state it.change it.state)) (words_at it.state) (reference_at object value_slot)
      (λ serial is. words_at_same serial (named_passes object inside value_slot serial is))

  -- texts, of strings and of builders
  pub text_of_same : (object : Object) → Inside it object.contents → text_of (changed_state it.change it.state) object ≡ text_of it.state object
  text_of_same object inside = ap (option_map its_units) (words_same object inside)

  pub text_then : (serial : ℕ) → Passes it.test serial → (one other : List ℕ → Option Performed) → ((units : List ℕ) → Same it (one units) (other units))
      → Same it (on_text (changed_call it) serial one) (on_text (own_call it) serial other)
  text_then serial passes one other each =
      object_same serial passes
      (λ object. option_and_then one (text_of (changed_state it.change it.state) object)) (λ object. option_and_then other (text_of it.state object))
      (λ object there. ap (option_and_then one) (text_of_same object (inside_of serial passes object there))
      ∙ then_same one other (text_of it.state object) (λ units is. each units))

  built_text_same : (object : Object) → Inside it object.contents → built_text (changed_state it.change it.state) object ≡ built_text it.state object
  built_text_same object inside = ap (option_and_then (its_count object)) (text_of_same object inside)

  pub built_then : (serial : ℕ) → Passes it.test serial → (one other : Object → List ℕ → Option Performed)
      → ((object : Object) → object_at it.state serial ≡ Some object → (units : List ℕ) → Same it (one object units) (other object units))
      → Same it (on_object (changed_call it) serial (λ builder. option_and_then (one builder) (built_text (changed_state it.change it.state) builder)))
      (on_object (own_call it) serial (λ builder. option_and_then (other builder) (built_text it.state builder)))
  built_then serial passes one other each =
      object_same serial passes
      (λ builder. option_and_then (one builder) (built_text (changed_state it.change it.state) builder))
      (λ builder. option_and_then (other builder) (built_text it.state builder))
      (λ builder there. ap (option_and_then (one builder)) (built_text_same builder (inside_of serial passes builder there))
      ∙ then_same (one builder) (other builder) (built_text it.state builder) (λ units is. each builder there units))

  -- a new string
  pub texts_same : (units : List ℕ) → Same it (gives_text (changed_call it) units) (gives_text (own_call it) units)
  texts_same units =
      short_same (length units)
      (gives_placed (with_string it.machine made_strings made_characters units (leaving (changed_state it.change it.state))))
      (gives_placed (with_string it.machine made_strings made_characters units (leaving it.state)))
      (ap (λ (plan : Plan). gives_placed (with_string it.machine made_strings made_characters units plan)) left_same)

  -- an object with other contents
  pub contents_same : (any : State) (serial : ℕ) (contents : List Content)
      → with_contents_at (changed_state it.change any) serial contents ≡ changed_state it.change (with_contents_at any serial contents)
  contents_same any serial contents = ap (with_objects any) (sym (it.unseen.contents any.objects serial contents))

  pub left_changed : (any : State) → length (it.change any.objects) ≡ length any.objects → (serial : ℕ) (contents : List Content)
      → leaving (with_contents_at (changed_state it.change any) serial contents) ≡ changed_plan it.change (leaving (with_contents_at any serial contents))
  left_changed any same serial contents =
      ap leaving (contents_same any serial contents)
      ∙ leaving_kept it.change (with_contents_at any serial contents)
      (ap length (it.unseen.contents any.objects serial contents) ∙ length_changed (it.change any.objects) serial contents ∙ same
      ∙ sym (length_changed any.objects serial contents))

  pub look_same : (serial : ℕ) (contents : List Content) (at : ℕ) → Passes it.test at
      → object_in (it.change (with_contents_in it.state.objects serial contents)) at ≡ object_in (with_contents_in it.state.objects serial contents) at
  look_same serial contents at passes =
      ap (λ (objects : List (Option Object)). object_in objects at) (it.unseen.contents it.state.objects serial contents)
      ∙ looked (it.change it.state.objects) it.state.objects serial at contents (it.unseen.same at passes)
