-- What is told of an exception by the objects that are kept is told of it by all.
use Rattle.std.proofs.Common.{◌≡◌, ◌∙◌, ◌++◌, ap, refl, sym, zero, suc, ℕ, Bool, true, IsTrue, List, [], Option, None, Some, is_some, map, codes}
use Rattle.std.specs.Prelude.{option_and_then, option_map}
use Rattle.cb_act.specs.Keeping.{kept_state}
use Rattle.cb_heap.proofs.Laws.{same_object}
use Rattle.cb_heap.specs.Kept.{keep}
use Rattle.cb_interp.specs.Texts.{exception_units, message_slot, message_units, string_units}
use Rattle.cb_link.specs.Program.{Linked}
use Rattle.cb_machine.specs.Performing.{array_words, reference_at, text_of, unit_in, value_slot, words_at}
use Rattle.cb_machine.specs.Texts.{class_name}
use Rattle.cb_plain.specs.State.{Object, State}
use Rattle.cb_plain.specs.Updates.{object_at, object_in}

-- what the one gives, the other gives
abbrev Gives : {A : Type 0} → Option A → Option A → Type 0
Gives {A} one other = (found : A) → one ≡ Some found → other ≡ Some found

gives_itself : {A : Type 0} (one : Option A) → Gives one one
gives_itself one found is = is

gives_map : {A B : Type 0} (go : A → B) (one other : Option A) → Gives one other → Gives (option_map go one) (option_map go other)
gives_map go None other gives found is = absurd (cc is)
gives_map go (Some item) other gives found is = ap (option_map go) (gives item refl) ∙ is

gives_then : {A B : Type 0} (go also : A → Option B) (one other : Option A) → Gives one other → ((item : A) → Gives (go item) (also item))
    → Gives (option_and_then go one) (option_and_then also other)
gives_then go also None other gives each found is = absurd (cc is)
gives_then go also (Some item) other gives each found is = ap (option_and_then also) (gives item refl) ∙ each item found is

-- an object that is kept is there
pub kept_there : (kept : List Bool) (objects : List (Option Object)) (serial : ℕ) → Gives (object_in (keep kept objects) serial) (object_in objects serial)
kept_there kept objects zero found is = absurd (cc is)
kept_there kept objects (suc place) found is =
    let held : IsTrue (is_some (object_in (keep kept objects) (suc place))) = rw is refl in
    sym (same_object kept objects (suc place) held) ∙ is

module _ (kept : List Bool) (state : State) where
  abbrev here : State
  here = kept_state kept state

  object_there : (serial : ℕ) → Gives (object_at here serial) (object_at state serial)
  object_there serial = kept_there kept state.objects serial

  words_there : (serial : ℕ) → Gives (words_at here serial) (words_at state serial)
  words_there zero = gives_itself (words_at here zero)
  words_there (suc place) = gives_map (λ (object : Object). object.contents) (object_at here (suc place)) (object_at state (suc place)) (object_there (suc place))

  text_there : (string : Object) → Gives (text_of here string) (text_of state string)
  text_there string =
      gives_map (map unit_in) (array_words here string) (array_words state string)
      (gives_then (words_at here) (words_at state) (reference_at string value_slot) (reference_at string value_slot) (gives_itself (reference_at string value_slot)) words_there)

  message_there : (serial : ℕ) → Gives (message_units here serial) (message_units state serial)
  message_there zero = gives_itself (message_units here zero)
  message_there (suc place) =
      gives_map (λ units. codes ": " ++ units) (string_units here (suc place)) (string_units state (suc place))
      (gives_then (text_of here) (text_of state) (object_at here (suc place)) (object_at state (suc place)) (object_there (suc place)) text_there)

  pub units_there : (program : Linked) (exception : Object) → Gives (exception_units program here exception) (exception_units program state exception)
  units_there program exception =
      gives_map (λ message. class_name program exception.kind ++ message) (option_and_then (message_units here) (reference_at exception message_slot))
      (option_and_then (message_units state) (reference_at exception message_slot))
      (gives_then (message_units here) (message_units state) (reference_at exception message_slot) (reference_at exception message_slot)
      (gives_itself (reference_at exception message_slot)) message_there)

  pub told_there : (program : Linked) (serial : ℕ)
      → Gives (option_and_then (exception_units program here) (object_at here serial)) (option_and_then (exception_units program state) (object_at state serial))
  told_there program serial =
      gives_then (exception_units program here) (exception_units program state) (object_at here serial) (object_at state serial) (object_there serial) (units_there program)
