-- The names of methods, and the superclasses of classes, as an invokespecial looks at them.
use Rattle.std.proofs.Common.{◌≡◌, ◌∙◌, ap, refl, sym, arith, ℕ, ◌<◌, List, Option, None, Some, length}
use Rattle.std.specs.Prelude.{option_map, slice_get}
use Rattle.std.proofs.lemmas.List.{length-map}
use Rattle.cb_names.specs.Signs.{name_init}
use Rattle.cb_classfile.specs.declared.class.ClassFile.{ClassFile}
use Rattle.cb_classfile.specs.declared.method.Method.{Method}
use Rattle.cb_classfile.specs.Pool.{text_at}
use Rattle.cb_hierarchy.specs.declared.class.Class.{Class as Ranked}
use Rattle.cb_kinds.specs.Texts.{same_text}
use Rattle.cb_link.specs.declared.linked.LinkedMethod.{LinkedMethod}
use Rattle.cb_link.specs.Having.{HasMethod}
use Rattle.cb_link.specs.Numbers.{Numbered, hierarchy, methods_of, name_of, or_none, same_name}
use Rattle.cb_link.specs.Program.{Linked}
use Rattle.cb_link.specs.Special.{is_constructor}
use Rattle.cb_link.proofs.PlacedLaws.{listed_there}
use Rattle.cb_link.proofs.Ranged.{parents_low}

abbrev pub own_name : Numbered Method → List ℕ
own_name method = or_none (text_at method.pool method.member.name)

pub constructor_is : (classes : List ClassFile) (method : ℕ) (name : List ℕ) → option_map own_name (slice_get (methods_of classes) method) ≡ Some name
    → same_name name name_init ≡ is_constructor classes method
constructor_is classes method name is = go (slice_get (methods_of classes) method) refl where
  go : (found : Option (Numbered Method)) → slice_get (methods_of classes) method ≡ found → same_name name name_init ≡ is_constructor classes method
  go None there = absurd (let never : None ≡ Some name = sym (ap (option_map own_name) there) ∙ is in cc)
  go (Some numbered) there =
      let found : Some (own_name numbered) ≡ Some name = sym (ap (option_map own_name) there) ∙ is in
      let same : name ≡ own_name numbered = cc in
      ap (λ (name : List ℕ). same_text name name_init) same ∙ rw there refl

-- the class that declares a method, and its record there
module _ (program : Linked) (number : ℕ) (method : LinkedMethod) (has : HasMethod program number method) (class : ClassFile) (declares : slice_get program.classes method.class ≡ Some class) where
  declaring_is : has.placed.declaring ≡ class
  declaring_is =
      let found : Some has.placed.declaring ≡ Some class =
      sym has.placed.declares ∙ ap (λ (class : ℕ). slice_get program.classes class) (sym (ap (λ (method : LinkedMethod). method.class) has.is)) ∙ declares in
      cc

  pub name_is : (record_of : Method) → slice_get class.methods method.place ≡ Some record_of
      → option_map own_name (slice_get (methods_of program.classes) number) ≡ Some (or_none (text_at class.pool record_of.name))
  name_is record_of is =
      let found : Some has.numbered.member ≡ Some record_of = sym (listed_there program number method has class declares) ∙ is in
      let member : has.numbered.member ≡ record_of = cc in
      let pool = has.placed.of_pool ∙ ap (λ (class : ClassFile). class.pool) declaring_is in
      ap (option_map own_name) has.there ∙ (λ i. Some (or_none (text_at (pool i) (member i).name)))

-- the superclass of a class is one
pub superclass_low : (classes : List ClassFile) (class above : ℕ) (own : Ranked) → slice_get (hierarchy classes) class ≡ Some own → own.superclass ≡ Some above → above < length classes
superclass_low classes class above own is up =
    let all = rw (is, up) at (parents_low classes class) in omega (arith, all.0, length-map classes name_of)
