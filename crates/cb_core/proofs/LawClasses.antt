-- What is asked of a record beyond its tables.
use Rattle.std.proofs.Common.{◌≡◌, ◌≢◌, ◌⊎◌, inl, inr, ℕ, ◌^◌, ◌<◌, List, map, AllPairs, IfSome, Option, Some, None, refl, sym, ap, ap₂, ◌∙◌, subst, arith}
use Rattle.std.specs.List.{AllByRecursion}
use Rattle.std.proofs.lemmas.Option.{same_Some}
use Rattle.cb_text.specs.declared.constant.Constant.{Constant}
use Rattle.cb_text.specs.Pool.{IsPool}
use Rattle.cb_names.specs.Names.{IsClassName}
use Rattle.cb_library.specs.Rows.{CoreClass}
use Rattle.cb_classfile.specs.declared.class.ClassFile.{ClassFile}
use Rattle.cb_classfile.specs.Class.{Differ, HasClasses, IsClass, IsInterface, object, signature}
use Rattle.cb_classfile.specs.Flags.{HasFlag, acc_abstract, acc_interface, acc_static}
use Rattle.cb_classfile.specs.Library.{IsRecordOf, SaysField, SaysMethod, SaysSuperclass}
use Rattle.cb_classfile.specs.Pool.{HasClass, class_at}
use Rattle.cb_core.specs.Sound.{IsSound, IsSoundClassName}
use Rattle.cb_core.proofs.LawLists.{differ_map, zip_none, zip_same}
use Rattle.cb_core.proofs.LawMembers.{has_some}
use Rattle.cb_core.proofs.LawPool.{class_fits}

-- no class stands at 0, the index of no superclass
none_at_zero : (pool : List Constant) (index : ℕ) (name : List ℕ) → class_at pool index ≡ Some name → index ≡ 0 → ⊥
none_at_zero pool index name is zero = let none : class_at pool 0 ≡ Some name = subst (λ at. class_at pool at ≡ Some name) zero is in absurd cc

no_superclass : (pool : List Constant) (superclass : Option (List ℕ)) (index : ℕ) → SaysSuperclass pool superclass index → index ≡ 0 → superclass ≡ None
no_superclass pool None index says zero = refl
no_superclass pool (Some name) index says zero = absurd (none_at_zero pool index name says zero)

superclass_is : (pool : List Constant) (superclass : Option (List ℕ)) (index : ℕ) → IfSome superclass IsSoundClassName → SaysSuperclass pool superclass index → (index ≡ 0) ⊎ HasClass pool index IsClassName
superclass_is pool None index sound says = inl says
superclass_is pool (Some name) index sound says = inr (has_some IsClassName (class_at pool index) name says sound.is)

pub superclass_fits : (pool : List Constant) (superclass : Option (List ℕ)) (index : ℕ) → IsPool pool → SaysSuperclass pool superclass index → index < 2 ^ 16
superclass_fits pool None index is says = omega (arith, says)
superclass_fits pool (Some name) index is says = class_fits pool index name is says

classes : (row : CoreClass) (class : ClassFile) → IsSound row → IsRecordOf row class → HasClasses class
classes row class sound said = record {
  named = has_some IsClassName (class_at class.pool class.this_class) row.name said.name sound.name.is;
  root = (
    λ zero. said.name ∙ ap Some (sound.root (no_superclass class.pool row.superclass class.super_class said.superclass zero)),
    λ is. subst (λ superclass. SaysSuperclass class.pool superclass class.super_class) (sound.no_root (same_Some row.name object (sym said.name ∙ is))) said.superclass,
  );
  superclass = superclass_is class.pool row.superclass class.super_class sound.superclass said.superclass;
}

interface : (row : CoreClass) (class : ClassFile) → IsSound row → IsRecordOf row class → HasFlag class.flags.0 acc_interface → IsInterface class
interface row class sound said is =
    let row_is = sound.as_interface (subst (λ flags. HasFlag flags acc_interface) said.flags is) in
    record {
      abstract_class = subst (λ flags. HasFlag flags acc_abstract) (sym said.flags) row_is.abstract_class;
      superclass = subst (λ superclass. SaysSuperclass class.pool superclass class.super_class) row_is.superclass said.superclass;
      fields = subst (AllByRecursion (λ field. HasFlag field.flags.0 acc_static)) (sym (zip_none (SaysField class.pool) row.fields class.fields row_is.fields said.fields)) tt;
    }

-- names and descriptors that are found, which tell the texts
abbrev texts_found : List ℕ × List ℕ → Option (List ℕ) × Option (List ℕ)
texts_found texts = (Some texts.0, Some texts.1)

found_back : (one other : List ℕ × List ℕ) → texts_found one ≡ texts_found other → one ≡ other
found_back one other is = ap₂ (λ name descriptor. (name, descriptor)) (same_Some one.0 other.0 (ap (λ pair. pair.0) is)) (same_Some one.1 other.1 (ap (λ pair. pair.1) is))

fields_differ : (row : CoreClass) (class : ClassFile) → IsSound row → IsRecordOf row class → Differ class.pool (map (λ field. (field.name, field.descriptor)) class.fields)
fields_differ row class sound said =
    subst (AllPairs (λ one other. one ≢ other)) (zip_same (SaysField class.pool) (λ field. (field.name, field.descriptor)) texts_found (λ field. (field.name, field.descriptor)) (λ member. signature class.pool member.0 member.1) (λ one other says. ap₂ (λ name descriptor. (name, descriptor)) (sym says.name) (sym says.descriptor)) row.fields class.fields said.fields) (differ_map texts_found found_back (map (λ field. (field.name, field.descriptor)) row.fields) sound.fields_differ)

methods_differ : (row : CoreClass) (class : ClassFile) → IsSound row → IsRecordOf row class → Differ class.pool (map (λ method. (method.name, method.descriptor)) class.methods)
methods_differ row class sound said =
    subst (AllPairs (λ one other. one ≢ other)) (zip_same (SaysMethod class.pool) (λ method. (method.name, method.descriptor)) texts_found (λ method. (method.name, method.descriptor)) (λ member. signature class.pool member.0 member.1) (λ one other says. ap₂ (λ name descriptor. (name, descriptor)) (sym says.name) (sym says.descriptor)) row.methods class.methods said.methods) (differ_map texts_found found_back (map (λ method. (method.name, method.descriptor)) row.methods) sound.methods_differ)

pub class_rules : (row : CoreClass) (class : ClassFile) → IsSound row → IsRecordOf row class → IsClass class
class_rules row class sound said = record {
  alone = record {
    classes = classes row class sound said;
    as_interface = interface row class sound said;
    calls = λ old. absurd (omega (arith, old, said.version));
  };
  fields_differ = fields_differ row class sound said;
  methods_differ = methods_differ row class sound said;
}
