-- The fields and methods of a record.
use Rattle.std.proofs.Common.{◌≡◌, ◌≢◌, inr, ◌↔◌, ℕ, Bool, true, false, not, List, ◌∷◌, bit_and, ◌==◌, ◌&&◌, IsSome, IsSomeAnd, IfSome, Option, Some, None, option_and_then, refl, sym, ap, ◌∙◌, subst, arith, codes}
use Rattle.std.specs.List.{AllByRecursion}
use Rattle.std.proofs.lemmas.Option.{same_Some}
use Rattle.cb_text.specs.declared.constant.Constant.{Constant}
use Rattle.cb_text.specs.Pool.{IsPool}
use Rattle.cb_names.specs.Names.{IsMethodName, IsUnqualifiedName}
use Rattle.cb_names.specs.Descriptors.{IsFieldDescriptor}
use Rattle.cb_library.specs.Rows as rows
use Rattle.cb_library.specs.Rows.{Abstract, Performed, Runs}
use Rattle.cb_classfile.specs.declared.body.Body.{Body}
use Rattle.cb_classfile.specs.declared.feature.Feature.TheVariants as features
use Rattle.cb_classfile.specs.declared.field.Field.{Field}
use Rattle.cb_classfile.specs.declared.method.Method.{Method}
use Rattle.cb_classfile.specs.Attributes.{is_text}
use Rattle.cb_classfile.specs.Flags.{HasFlag, acc_abstract, acc_native, acc_static, acc_synchronized}
use Rattle.cb_classfile.specs.Library.{SaysField, SaysKind, SaysMethod, is_native}
use Rattle.cb_classfile.specs.Members.{HasFewWords}
use Rattle.cb_classfile.specs.Pool.{IsAnyMethodDescriptor, text_at}
use Rattle.cb_classfile.specs.Profile.{body_items, descriptor_item, descriptor_item_at, item_if, method_item}
use Rattle.cb_classfile.proofs.Laws.{IsBodyOf, IsConstant, IsField, IsMethodOf}
use Rattle.cb_core.specs.Built.{IsLaidOut}
use Rattle.cb_core.specs.Sound.{IsSoundField, IsSoundKind, IsSoundMethod}
use Rattle.cb_core.proofs.LawBodies.{HasNames, IsFineBody, body_fine}
use Rattle.cb_core.proofs.LawItems.{differ_none, none_first, other_name}
use Rattle.cb_core.proofs.LawPool.{text_fits}

-- what is named is so
pub has_some : {X : Type 0} (P : X → Type 0) (found : Option X) (item : X) → found ≡ Some item → P item → IsSomeAnd found P
has_some P found item is holds = subst (λ one. IsSomeAnd one P) (sym is) holds

item_at : (pool : List Constant) (index : ℕ) (text : List ℕ) → text_at pool index ≡ Some text → descriptor_item text ≡ None → descriptor_item_at pool index ≡ None
item_at pool index text is item = ap (option_and_then descriptor_item) is ∙ item

-- a field is formed, and isn't left out
pub record IsFineField (pool : List Constant) (field : Field) : Type 0 where
  pub is : IsField pool field
  pub item : descriptor_item_at pool field.descriptor ≡ None

pub field_fine : (pool : List Constant) → IsPool pool → (row : rows.Field) (field : Field) → IsSoundField row → SaysField pool row field → IsFineField pool field
field_fine pool is row field sound says = record {
  is = record {
    flags = omega (arith, says.flags, sound.flags);
    name = text_fits pool field.name row.name is says.name;
    descriptor = text_fits pool field.descriptor row.descriptor is says.descriptor;
    named = (has_some IsUnqualifiedName (text_at pool field.name) row.name says.name sound.name.is, has_some IsFieldDescriptor (text_at pool field.descriptor) row.descriptor says.descriptor sound.descriptor.is);
    constant = subst (λ constant. IfSome constant (IsConstant pool field.descriptor)) (sym says.constant) tt;
  };
  item = item_at pool field.descriptor row.descriptor says.descriptor sound.descriptor.supported;
}

-- what the kind of a method says of its flags and its body
record FitsKind (pool : List Constant) (flags : ℕ) (name : List ℕ) (body : Option Body) : Type 0 where
  code : IsSome body ↔ ((¬ HasFlag flags acc_abstract) × (¬ HasFlag flags acc_native))
  abstract_method : HasFlag flags acc_abstract → (¬ HasFlag flags acc_static) × (name ≢ codes "<init>")
  fine : IfSome body (IsFineBody pool)

none_some : (body : Option Body) → body ≡ None → IsSome body → ⊥
none_some body is some = let none : IsSome {T = Body} None = subst IsSome is some in absurd cc

bodiless : (pool : List Constant) (body : Option Body) → body ≡ None → IfSome body (IsFineBody pool)
bodiless pool body is = subst (λ one. IfSome one (IsFineBody pool)) (sym is) tt

kind_fits : (pool : List Constant) (flags : ℕ) (name : List ℕ) (kind : rows.Kind) (body : Option Body) → HasNames pool → IsSoundKind flags name kind → SaysKind pool kind body → IsLaidOut kind body → FitsKind pool flags name body
kind_fits pool flags name Abstract body names sound says laid = record {
  code = (λ some. absurd (none_some body says some), λ neither. absurd (neither.0 sound.0));
  abstract_method = λ _. (sound.2, sound.3);
  fine = bodiless pool body says;
}
kind_fits pool flags name (Performed native) body names sound says laid = record {
  code = (λ some. absurd (none_some body says some), λ neither. absurd (neither.1 sound.0));
  abstract_method = λ is. absurd (sound.1 is);
  fine = bodiless pool body says;
}
kind_fits pool flags name (Runs row) None names sound says laid = absurd says
kind_fits pool flags name (Runs row) (Some body) names sound says laid = record {
  code = (λ _. (sound.0, sound.1), λ _. refl);
  abstract_method = λ is. absurd (sound.0 is);
  fine = body_fine pool row body names sound.2 says laid;
}

-- a method is formed, and isn't left out where it is no native
pub record IsFineMethod (pool : List Constant) (method : Method) : Type 0 where
  pub is : IsMethodOf pool method
  pub item : not (is_native method) ≡ true → method_item pool method ≡ None

items_of : (pool : List Constant) (body : Option Body) → IfSome body (IsFineBody pool) → AllByRecursion (λ item. item ≡ None) (body_items body)
items_of pool None fine = tt
items_of pool (Some body) fine = fine.items

body_of : (pool : List Constant) (body : Option Body) → IfSome body (IsFineBody pool) → IfSome body (IsBodyOf pool)
body_of pool None fine = tt
body_of pool (Some body) fine = fine.is

no_native : (native : Bool) → not native ≡ true → item_if native features.Native ≡ None
no_native true is = absurd cc
no_native false is = refl

-- a method that is no native isn't left out
kept : (pool : List Constant) (row : rows.Method) (method : Method) → IsSoundMethod row → SaysMethod pool row method → IfSome method.body (IsFineBody pool) → not (is_native method) ≡ true → method_item pool method ≡ None
kept pool row method sound says fine other =
    let gives_nothing = is_text (codes "()V") (text_at pool method.descriptor) in
    let synchronized_item = item_if (bit_and method.flags.0 acc_synchronized == acc_synchronized) features.Synchronized in
    let native_item = item_if (is_native method) features.Native in
    let finalize_item = item_if (is_text (codes "finalize") (text_at pool method.name) && gives_nothing) features.Finalize in
    let synchronized : synchronized_item ≡ None = differ_none (bit_and method.flags.0 acc_synchronized) acc_synchronized features.Synchronized (λ is. sound.unsynchronized (subst (λ flags. HasFlag flags acc_synchronized) says.flags is)) in
    let native : native_item ≡ None = no_native (is_native method) other in
    let finalize : finalize_item ≡ None = other_name (codes "finalize") row.name (text_at pool method.name) gives_nothing features.Finalize sound.no_finalizer says.name in
    let descriptor : descriptor_item_at pool method.descriptor ≡ None = item_at pool method.descriptor row.descriptor says.descriptor sound.descriptor.supported in
    let items : AllByRecursion (λ item. item ≡ None) (synchronized_item ∷ native_item ∷ finalize_item ∷ descriptor_item_at pool method.descriptor ∷ body_items method.body) = (synchronized, (native, (finalize, (descriptor, items_of pool method.body fine)))) in
    none_first (synchronized_item ∷ native_item ∷ finalize_item ∷ descriptor_item_at pool method.descriptor ∷ body_items method.body) items

pub method_fine : (pool : List Constant) → HasNames pool → (row : rows.Method) (method : Method) → IsSoundMethod row → SaysMethod pool row method → IsLaidOut row.kind method.body → IsFineMethod pool method
method_fine pool names row method sound says laid =
    let kind = subst (λ flags. FitsKind pool flags row.name method.body) (sym says.flags) (kind_fits pool row.flags row.name row.kind method.body names sound.kind says.kind laid) in
    let name : (text : List ℕ) → text_at pool method.name ≡ Some text → row.name ≡ text = λ text is. same_Some row.name text (sym says.name ∙ is) in
    record {
      is = record {
        flags = omega (arith, says.flags, sound.flags);
        name = text_fits pool method.name row.name names.is says.name;
        descriptor = text_fits pool method.descriptor row.descriptor names.is says.descriptor;
        named = (has_some IsMethodName (text_at pool method.name) row.name says.name sound.name.is, has_some IsAnyMethodDescriptor (text_at pool method.descriptor) row.descriptor says.descriptor (sound.descriptor.words, sound.descriptor.is));
        rules = record {
          words = has_some (HasFewWords method.flags.0) (text_at pool method.descriptor) row.descriptor says.descriptor (sound.descriptor.words, sound.descriptor.is, inr sound.descriptor.few);
          code = kind.code;
          abstract_method = λ is. let parts = kind.abstract_method is in (parts.0, λ named. parts.1 (name (codes "<init>") named));
          initialiser = λ named. absurd (sound.name.no_initialiser (name (codes "<clinit>") named));
        };
        body = body_of pool method.body kind.fine;
      };
      item = kept pool row method sound says kind.fine;
    }
