-- Members of classes stand where their numbers say.
use Rattle.std.proofs.Common.{◌≡◌, ◌∙◌, ap, refl, sym, subst, ℕ, zero, suc, List, [], ◌∷◌, ◌++◌, Option, None, Some, length, map, ◌+◌, ◌<◌, arith}
use Rattle.std.specs.Prelude.{option_map, slice_get}
use Rattle.std.specs.List.{AllByRecursion, enumerate_from, flat_map}
use Rattle.std.proofs.Math.Seq.{get_or-append_seam}
use Rattle.std.proofs.lemmas.List.{append_assoc, length-append}
use Rattle.std.proofs.lemmas.Option.{slice_get-get_or, slice_get-map, slice_get_within}
use Rattle.cb_classfile.specs.declared.class.ClassFile.{ClassFile}
use Rattle.cb_classfile.specs.declared.field.Field.{Field}
use Rattle.cb_classfile.specs.declared.method.Method.{Method}
use Rattle.cb_link.specs.declared.linked.LinkedField.{LinkedField}
use Rattle.cb_link.specs.declared.linked.LinkedMethod.{LinkedMethod}
use Rattle.cb_link.specs.Having.{HasMethod}
use Rattle.cb_link.specs.Numbers.{Numbered, fields_of, methods_of, numbered}
use Rattle.cb_link.specs.Places.{IsPlaced, numbered_in}
use Rattle.cb_link.specs.Program.{Linked, linked_field, linked_method}
use Rattle.cb_link.specs.InnerPlaces.{HasField}

all_append : {X : Type 0} (P : X → Type 0) (front back : List X) → AllByRecursion P front → AllByRecursion P back → AllByRecursion P (front ++ back)
all_append P [] back one other = other
all_append P (item ∷ front) back one other = (one.0, all_append P front back one.1 other)

all_at : {X : Type 0} (P : X → Type 0) (items : List X) (place : ℕ) (item : X) → AllByRecursion P items → slice_get items place ≡ Some item → P item
all_at {X} P [] place item all is = absurd (omega (arith, slice_get_within {A = X} [] place item is))
all_at P (first ∷ items) zero item all is = let same : first ≡ item = cc in subst P same all.0
all_at P (first ∷ items) (suc place) item all is = all_at P items place item all.1 is

-- the item behind a front
pub seam : {X : Type 0} (front : List X) (item : X) (back : List X) → slice_get (front ++ item ∷ back) (length front) ≡ Some item
seam front item back =
    let within : length front < length (front ++ item ∷ back) = omega (arith, length-append front (item ∷ back)) in
    slice_get-get_or (front ++ item ∷ back) (length front) item within ∙ ap Some (get_or-append_seam front item back item)

pub longer : {X : Type 0} (front : List X) (item : X) → length (front ++ item ∷ []) ≡ length front + 1
longer front item = omega (arith, length-append front (item ∷ []))

module _ {Member : Type 0} (members : ClassFile → List Member) where
  all_in : (classes : List ClassFile) (number : ℕ) (class : ClassFile) → slice_get classes number ≡ Some class
      → (front back : List Member) → members class ≡ front ++ back
      → AllByRecursion (IsPlaced members classes) (map (λ own. record { class = number; place = own.0; pool = class.pool; member = own.1 }) (enumerate_from (length front) back))
  all_in classes number class there front [] whole = tt
  all_in classes number class there front (item ∷ back) whole =
      let rest = all_in classes number class there (front ++ item ∷ []) back (whole ∙ sym (append_assoc front (item ∷ []) back)) in
      let P : ℕ → Type 0 = λ start. AllByRecursion (IsPlaced members classes) (map (λ own. record { class = number; place = own.0; pool = class.pool; member = own.1 }) (enumerate_from start back)) in (
        record { declaring = class; declares = there; of_pool = refl; lists = ap (λ items. slice_get items (length front)) whole ∙ seam front item back },
        subst P (longer front item) rest,
      )

  all_of : (front back : List ClassFile) → AllByRecursion (IsPlaced members (front ++ back)) (flat_map (numbered_in members) (enumerate_from (length front) back))
  all_of front [] = tt
  all_of front (class ∷ back) =
      let P : List ClassFile → ℕ → Type 0 = λ classes start. AllByRecursion (IsPlaced members classes) (flat_map (numbered_in members) (enumerate_from start back)) in
      let rest : P (front ++ class ∷ back) (length front + 1) =
      subst (λ start. P (front ++ class ∷ back) start) (longer front class)
      (subst (λ classes. P classes (length (front ++ class ∷ []))) (append_assoc front (class ∷ []) back) (all_of (front ++ class ∷ []) back)) in
      all_append (IsPlaced members (front ++ class ∷ back)) (numbered_in members (length front, class)) (flat_map (numbered_in members) (enumerate_from (length front + 1) back))
      (all_in (front ++ class ∷ back) (length front) class (seam front class back) [] (members class) refl) rest

  pub placed : (classes : List ClassFile) (number : ℕ) (entry : Numbered Member) → slice_get (numbered members classes) number ≡ Some entry → IsPlaced members classes entry
  placed classes number entry is = all_at (IsPlaced members classes) (numbered members classes) number entry (all_of [] classes) is

-- what a program has of a method
pub has_method : (program : Linked) (number : ℕ) (method : LinkedMethod) → program.methods ≡ map (linked_method program.kinds) (methods_of program.classes)
    → slice_get program.methods number ≡ Some method → HasMethod program number method
has_method program number method whole is =
    go (slice_get (methods_of program.classes) number) refl
    (sym (slice_get-map (linked_method program.kinds) (methods_of program.classes) number) ∙ ap (λ methods. slice_get methods number) (sym whole) ∙ is) where
      go : (found : Option (Numbered Method)) → slice_get (methods_of program.classes) number ≡ found → option_map (linked_method program.kinds) found ≡ Some method → HasMethod program number method
      go None there so = absurd (cc)
      go (Some entry) there so =
          record { numbered = entry; there = there; placed = placed (λ class. class.methods) program.classes number entry there; is = let same : linked_method program.kinds entry ≡ method = cc in sym same }

-- what a program has of a field
pub has_field : (program : Linked) (number : ℕ) (field : LinkedField) → program.fields ≡ map (linked_field program.kinds) (fields_of program.classes)
    → slice_get program.fields number ≡ Some field → HasField program number field
has_field program number field whole is =
    go (slice_get (fields_of program.classes) number) refl
    (sym (slice_get-map (linked_field program.kinds) (fields_of program.classes) number) ∙ ap (λ fields. slice_get fields number) (sym whole) ∙ is) where
      go : (found : Option (Numbered Field)) → slice_get (fields_of program.classes) number ≡ found → option_map (linked_field program.kinds) found ≡ Some field → HasField program number field
      go None there so = absurd (cc)
      go (Some entry) there so =
          record { numbered = entry; there = there; placed = placed (λ class. class.fields) program.classes number entry there; is = let same : linked_field program.kinds entry ≡ field = cc in sym same }

-- its class
pub within_classes : (program : Linked) (number : ℕ) (method : LinkedMethod) → HasMethod program number method → method.class < length program.classes
within_classes program number method has =
    subst (λ class. class < length program.classes) (sym (ap (λ method. method.class) has.is))
    (slice_get_within program.classes has.numbered.class has.placed.declaring has.placed.declares)

-- the class that declares it, and its record there
module _ (program : Linked) (number : ℕ) (method : LinkedMethod) (has : HasMethod program number method) (class : ClassFile) (declares : slice_get program.classes method.class ≡ Some class) where
  pub listed_there : slice_get class.methods method.place ≡ Some has.numbered.member
  listed_there =
      let found : Some has.placed.declaring ≡ Some class = sym has.placed.declares ∙ ap (λ class. slice_get program.classes class) (sym (ap (λ method. method.class) has.is)) ∙ declares in
      let same : has.placed.declaring ≡ class = cc in
      ap (λ class. slice_get class.methods method.place) (sym same)
      ∙ ap (λ place. slice_get has.placed.declaring.methods place) (ap (λ method. method.place) has.is) ∙ has.placed.lists

  pub within_methods : method.place < length class.methods
  within_methods = slice_get_within class.methods method.place has.numbered.member listed_there

  pub is_record : (record_of : Method) → slice_get class.methods method.place ≡ Some record_of
      → option_map (λ numbered. numbered.member) (slice_get (methods_of program.classes) number) ≡ Some record_of
  is_record record_of is = ap (option_map (λ numbered. numbered.member)) has.there ∙ sym listed_there ∙ is
