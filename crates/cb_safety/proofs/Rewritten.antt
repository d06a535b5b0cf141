-- Arrays of which a range is overwritten.
use Rattle.std.proofs.Common.{◌≡◌, ◌∙◌, arith, refl, sym, subst, ℕ, zero, suc, ◌+◌, ◌-◌, ◌<◌, ◌≤◌, List, [], ◌∷◌, ◌++◌, drop, take, length, Some}
use Rattle.std.specs.List.{AllByRecursion}
use Rattle.std.proofs.lemmas.List.{length-append, length-drop, length-take-le}
use Rattle.std.proofs.lemmas.Option.{same_Some}
use Rattle.cb_kinds.specs.declared.basic.Basic.{Basic}
use Rattle.cb_link.specs.Calls.{class_of_kind}
use Rattle.cb_link.specs.Program.{Linked}
use Rattle.cb_machine.specs.Arrays.{element_of}
use Rattle.cb_machine.specs.Copying.{overwritten}
use Rattle.cb_machine.specs.Performing.{most_elements}
use Rattle.cb_plain.specs.State.{Content, Object}
use Rattle.cb_safety.specs.Heap.{Holds, IsObject}
use Rattle.cb_safety.specs.Held.{HasContent}
use Rattle.cb_safety.specs.Kinds.{Kinds}
use Rattle.cb_safety.proofs.Known.{words_known}
use Rattle.cb_safety.proofs.Changed.{with_contents}
use Rattle.cb_safety.proofs.Placed.{array_sized}

-- ---- what all items of lists are

pub all_taken : {Item : Type 0} (P : Item → Type 0) (count : ℕ) (items : List Item) → AllByRecursion P items → AllByRecursion P (take count items)
all_taken P zero items all = tt
all_taken P (suc count) [] all = tt
all_taken P (suc count) (item ∷ items) all = (all.0, all_taken P count items all.1)

pub all_left : {Item : Type 0} (P : Item → Type 0) (count : ℕ) (items : List Item) → AllByRecursion P items → AllByRecursion P (drop count items)
all_left P zero items all = all
all_left P (suc count) [] all = tt
all_left P (suc count) (item ∷ items) all = all_left P count items all.1

pub all_joined : {Item : Type 0} (P : Item → Type 0) (front back : List Item) → AllByRecursion P front → AllByRecursion P back → AllByRecursion P (front ++ back)
all_joined P [] back all more = more
all_joined P (item ∷ front) back all more = (all.0, all_joined P front back all.1 more)

-- ---- the words of an array

pub words_held : (program : Linked) (kinds : Kinds) (basic : Basic) (contents : List Content) → ((place : ℕ) → place < length contents → Holds program kinds contents place basic)
    → AllByRecursion (HasContent program kinds basic) contents
words_held program kinds basic [] each = tt
words_held program kinds basic (content ∷ contents) each =
    let first : Holds program kinds (content ∷ contents) 0 basic = each 0 (omega arith) in (
      subst (HasContent program kinds basic) (sym (same_Some content first.content first.there)) first.fits,
      words_held program kinds basic contents (λ place low.
          let own : Holds program kinds (content ∷ contents) (suc place) basic = each (suc place) (omega (arith, low)) in
          record { content = own.content; there = own.there; fits = own.fits }),
    )

pub words_hold : (program : Linked) (kinds : Kinds) (basic : Basic) (contents : List Content) → AllByRecursion (HasContent program kinds basic) contents → (place : ℕ) → place < length contents
    → Holds program kinds contents place basic
words_hold program kinds basic [] all place low = absurd (omega (arith, low))
words_hold program kinds basic (content ∷ contents) all zero low = record { content = content; there = refl; fits = all.0 }
words_hold program kinds basic (content ∷ contents) all (suc place) low =
    let own : Holds program kinds contents place basic = words_hold program kinds basic contents all.1 place (omega (arith, low)) in
    record { content = own.content; there = own.there; fits = own.fits }

-- an array of a kind, which no class has, with these words
pub array_is : (program : Linked) (kinds : Kinds) (object : Object) (basic : Basic) (contents : List Content) → element_of program object.kind ≡ Some basic
    → ((class : ℕ) → class_of_kind program object.kind ≡ Some class → ⊥) → IsObject program kinds object
    → AllByRecursion (HasContent program kinds basic) contents → length contents ≤ most_elements → IsObject program kinds (with_contents object contents)
array_is program kinds object basic contents element no_class is all few = record {
  kind = is.kind;
  site = is.site;
  sized = array_sized program object.kind basic element;
  fields = λ class slot own classed declared. absurd (no_class class classed);
  elements = λ own place component low.
      subst (Holds program kinds contents place) (same_Some basic own (sym element ∙ component)) (words_hold program kinds basic contents all place low);
  few = λ own component. few;
  words = words_known program kinds basic contents all;
}

overwritten_length : {Item : Type 0} (items new : List Item) (from : ℕ) → from + length new ≤ length items → length (take from items ++ new ++ drop (from + length new) items) ≡ length items
overwritten_length items new from low =
    let one : length (take from items ++ new ++ drop (from + length new) items) ≡ length (take from items ++ new) + length (drop (from + length new) items) =
    length-append (take from items ++ new) (drop (from + length new) items) in
    let two : length (take from items ++ new) ≡ length (take from items) + length new = length-append (take from items) new in
    let three : length (take from items) ≡ from = length-take-le from items (omega (arith, low)) in
    let four : length (drop (from + length new) items) ≡ length items - (from + length new) = length-drop (from + length new) items in
    omega (arith, one, two, three, four, low)

pub array_rewritten : (program : Linked) (kinds : Kinds) (object : Object) (basic : Basic) (from : ℕ) (new : List Content) → element_of program object.kind ≡ Some basic
    → ((class : ℕ) → class_of_kind program object.kind ≡ Some class → ⊥) → IsObject program kinds object
    → AllByRecursion (HasContent program kinds basic) new → from + length new ≤ length object.contents → IsObject program kinds (with_contents object (overwritten object.contents from new))
array_rewritten program kinds object basic from new element no_class is all low =
    let old : AllByRecursion (HasContent program kinds basic) object.contents = words_held program kinds basic object.contents (λ place low. is.elements basic place element low) in
    let size = overwritten_length object.contents new from low in
    let few = is.few basic element in
    array_is program kinds object basic (overwritten object.contents from new) element no_class is
    (all_joined (HasContent program kinds basic) (take from object.contents ++ new) (drop (from + length new) object.contents)
    (all_joined (HasContent program kinds basic) (take from object.contents) new (all_taken (HasContent program kinds basic) from object.contents old) all)
    (all_left (HasContent program kinds basic) (from + length new) object.contents old))
    (omega (arith, size, few))
