-- Objects of which natives make texts.
use Rattle.std.proofs.Common.{◌≡◌, ap, refl, ℕ, zero, suc, List, ◌++◌, Option, Some, None, codes, option_and_then, option_map}
use Rattle.std.proofs.lemmas.Option.{none-some, same_Some}
use Rattle.cb_heap.specs.Reading.{serial_of}
use Rattle.cb_machine.specs.Machine.{Machine}
use Rattle.cb_machine.specs.Performing.{Call, Performed, gives_text, on_object, on_text}
use Rattle.cb_machine.specs.Texts.{class_name, with_message}
use Rattle.cb_plain.specs.State.{Object}
use Rattle.cb_plain.specs.Updates.{object_in}
use Rattle.cb_natives.specs.Answers.{Beside, call_on}

-- an object that isn't null, and is of a kind
abbrev IsObject : Machine → Beside → List (Option Object) → (ℕ → ℕ) → ℕ → ℕ → Type 0
IsObject machine beside objects index at kind =
    (object : Object) × (object.kind ≡ kind) × ((go : Object → Option Performed) → on_object (call_on machine objects beside) (serial_of index at) go ≡ go object)

found_so : (machine : Machine) (beside : Beside) (objects : List (Option Object)) (index : ℕ → ℕ) (place kind : ℕ) (found : Option Object)
    → object_in objects (serial_of index (suc place)) ≡ found → option_map (λ (object : Object). object.kind) found ≡ Some kind → IsObject machine beside objects index (suc place) kind
found_so machine beside objects index place kind None at is = absurd (none-some kind is)
found_so machine beside objects index place kind (Some object) at is = (object, same_Some object.kind kind is, λ go. ap (option_and_then go) at)

pub there_so : (machine : Machine) (beside : Beside) (objects : List (Option Object)) (index : ℕ → ℕ) (at kind : ℕ) → ¬ (at ≡ 0)
    → option_map (λ (object : Object). object.kind) (object_in objects (serial_of index at)) ≡ Some kind
    → (object : Object) × (object.kind ≡ kind) × ((go : Object → Option Performed) → on_object (call_on machine objects beside) (serial_of index at) go ≡ go object)
there_so machine beside objects index zero kind some is = absurd (some refl)
there_so machine beside objects index (suc place) kind some is = found_so machine beside objects index place kind (object_in objects (serial_of index (suc place))) refl is

-- the text of a throwable that has a message
pub message_so : (call : Call) (index : ℕ → ℕ) (throwable : Object) (message : ℕ) → ¬ (message ≡ 0)
    → with_message call throwable (serial_of index message) ≡ on_text call (serial_of index message) (λ units. gives_text call (class_name call.machine.program throwable.kind ++ codes ": " ++ units))
message_so call index throwable zero some = absurd (some refl)
message_so call index throwable (suc place) some = refl
