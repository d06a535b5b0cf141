-- The fields of a program stand where their numbers say.
use Rattle.std.proofs.Common.{◌≡◌, ◌∙◌, ap, refl, sym, subst, ℕ, ◌<◌, List, Option, None, Some, length, map}
use Rattle.std.specs.Prelude.{option_map, slice_get}
use Rattle.std.proofs.lemmas.List.{length-map}
use Rattle.std.proofs.lemmas.Option.{slice_get-map, slice_get_within}
use Rattle.cb_classfile.specs.declared.class.ClassFile.{ClassFile}
use Rattle.cb_classfile.specs.declared.field.Field.{Field}
use Rattle.cb_hierarchy.specs.declared.member.Field.{Field as RankedField}
use Rattle.cb_link.specs.declared.linked.LinkedField.{LinkedField}
use Rattle.cb_link.specs.InnerCounts.{HasField}
use Rattle.cb_link.specs.Numbers.{Numbered, fields_of, hierarchy, ranked, ranked_field, ranked_fields}
use Rattle.cb_link.specs.Program.{Linked, linked_field}
use Rattle.cb_link.proofs.PlacedLaws.{placed}

-- what a program has of a field
pub has_field : (program : Linked) (number : ℕ) (field : LinkedField) → program.fields ≡ map (linked_field program.kinds) (fields_of program.classes)
    → slice_get program.fields number ≡ Some field → HasField program number field
has_field program number field whole is =
    go (slice_get (fields_of program.classes) number) refl
    (sym (slice_get-map (linked_field program.kinds) (fields_of program.classes) number) ∙ ap (λ fields. slice_get fields number) (sym whole) ∙ is) where
      go : (found : Option (Numbered Field)) → slice_get (fields_of program.classes) number ≡ found → option_map (linked_field program.kinds) found ≡ Some field → HasField program number field
      go None there so = absurd (cc)
      go (Some entry) there so =
          record { numbered = entry; there = there; placed = placed (λ class. class.fields) program.classes number entry there; is = let same : linked_field program.kinds entry ≡ field = cc in sym same }

-- the class that declares it, and its record there
module _ (program : Linked) (number : ℕ) (field : LinkedField) (has : HasField program number field) where
  pub class_is : has.numbered.class ≡ field.class
  class_is = sym (ap (λ field. field.class) has.is)

  pub within_classes : field.class < length program.classes
  within_classes = subst (λ class. class < length program.classes) class_is (slice_get_within program.classes has.numbered.class has.placed.declaring has.placed.declares)

  module _ (class : ClassFile) (declares : slice_get program.classes field.class ≡ Some class) where
    pub declaring_is : has.placed.declaring ≡ class
    declaring_is =
        let found : Some has.placed.declaring ≡ Some class = sym has.placed.declares ∙ ap (λ class. slice_get program.classes class) class_is ∙ declares in
        cc

    pub pool_is : has.numbered.pool ≡ class.pool
    pool_is = has.placed.of_pool ∙ ap (λ class. class.pool) declaring_is

    pub listed_there : slice_get class.fields field.place ≡ Some has.numbered.member
    listed_there =
        ap (λ class. slice_get class.fields field.place) (sym declaring_is)
        ∙ ap (λ place. slice_get has.placed.declaring.fields place) (ap (λ field. field.place) has.is) ∙ has.placed.lists

    pub within_fields : field.place < length class.fields
    within_fields = slice_get_within class.fields field.place has.numbered.member listed_there

    pub member_is : (member : Field) → slice_get class.fields field.place ≡ Some member → has.numbered.member ≡ member
    member_is member is = let found : Some has.numbered.member ≡ Some member = sym listed_there ∙ is in cc

-- the class of a field as a number is one
pub declared_low : (classes : List ClassFile) (number : ℕ) (field : RankedField) → slice_get (ranked_fields classes) number ≡ Some field → field.declared.class < length (hierarchy classes)
declared_low classes number field is =
    go (slice_get (fields_of classes) number) refl (sym (slice_get-map (ranked_field classes) (fields_of classes) number) ∙ is) where
      go : (found : Option (Numbered Field)) → slice_get (fields_of classes) number ≡ found → option_map (ranked_field classes) found ≡ Some field → field.declared.class < length (hierarchy classes)
      go None there so = absurd (cc)
      go (Some entry) there so =
          let same : ranked_field classes entry ≡ field = cc in
          let at = placed (λ class. class.fields) classes number entry there in
          subst (λ class. class < length (hierarchy classes)) (ap (λ (field : RankedField). field.declared.class) same)
          (subst (λ count. entry.class < count) (sym (length-map classes (ranked classes))) (slice_get_within classes entry.class at.declaring at.declares))
