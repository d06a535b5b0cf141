-- Classes of programs with fewer members, and with other code in their last method.
use Rattle.std.proofs.Common.{◌≡◌, ◌≢◌, ap, refl, subst, arith, ℕ, ◌<◌, ◌^◌, List, [], ◌∷◌, ◌++◌, length, length-append, map, Option, Some, IfSome}
use Rattle.std.specs.List.{AllByRecursion, AllPairs}
use Rattle.std.proofs.lemmas.List.{map-append}
use Rattle.cb_text.specs.declared.constant.Constant.{Constant}
use Rattle.cb_classfile.specs.declared.field.Field.{Field}
use Rattle.cb_classfile.specs.declared.method.Method.{Method}
use Rattle.cb_classfile.specs.Class.{Differ, IsClass, signature}
use Rattle.cb_classfile.specs.Flags.{HasFlag, acc_static}
use Rattle.cb_classfile.specs.Needed.{CallsClasses}
use Rattle.cb_classfile.proofs.Laws.{HasParts, IsBodyOf, IsField, IsInterface, IsMethodOf}
use Rattle.cb_asm_line.specs.declared.program.CodeText.{CodeText}
use Rattle.cb_asm_line.specs.declared.program.FieldText.{FieldText}
use Rattle.cb_asm_line.specs.declared.program.MethodText.{MethodText}
use Rattle.cb_asm_line.specs.declared.program.Program.{Program}
use Rattle.cb_asm_record.specs.Constants.{index_of, pool_of}
use Rattle.cb_asm_record.specs.Entries.{Entry, Class}
use Rattle.cb_asm_record.specs.Record.{body_of, class_in, field_of, method_of}
use Rattle.cb_asm_prefix.proofs.Lists.{all_back, all_both, all_front, all_mapped, all_of_map, pairs_front}

-- a program with other members, and a method with other code
abbrev pub tree : Program → List (List ℕ) → List FieldText → List MethodText → Program
tree program interfaces fields methods =
    record { major = program.major; flags = program.flags; name = program.name; superclass = program.superclass; interfaces = interfaces; fields = fields; methods = methods }

abbrev pub with_code : MethodText → Option CodeText → MethodText
with_code method code = record { flags = method.flags; name = method.name; descriptor = method.descriptor; code = code }

-- what is made of the first of some items
front_all : {X Y : Type 0} (P : Y → Type 0) (f : X → Y) (front back : List X) → AllByRecursion P (map f (front ++ back)) → AllByRecursion P (map f front)
front_all P f front back all = all_mapped P f front (all_front (λ item. P (f item)) front back (all_of_map P f (front ++ back) all))

front_few : {X Y : Type 0} (f : X → Y) (front back : List X) → length (map f (front ++ back)) < 2 ^ 16 → length (map f front) < 2 ^ 16
front_few f front back few = omega (arith, few, ap length (map-append f front back), length-append (map f front) (map f back))

maps_append : {W X Y Z : Type 0} (f : Y → Z) (g : X → Y) (h : W → X) (front back : List W) → map f (map g (map h (front ++ back))) ≡ map f (map g (map h front)) ++ map f (map g (map h back))
maps_append f g h [] back = refl
maps_append f g h (item ∷ front) back = ap (λ rest. f (g (h item)) ∷ rest) (maps_append f g h front back)

abbrev signature_at : List Constant → ℕ × ℕ → Option (List ℕ) × Option (List ℕ)
signature_at pool member = signature pool member.0 member.1

front_differ : {X Y : Type 0} (pool : List Constant) (names : Y → ℕ × ℕ) (f : X → Y) (front back : List X) → Differ pool (map names (map f (front ++ back))) → Differ pool (map names (map f front))
front_differ pool names f front back differ =
    pairs_front (λ one other. one ≢ other) (map (signature_at pool) (map names (map f front))) (map (signature_at pool) (map names (map f back))) (
    subst (AllPairs (λ one other. one ≢ other)) (maps_append (signature_at pool) names f front back) differ
    )

abbrev names_of_field : Field → ℕ × ℕ
names_of_field field = (field.name, field.descriptor)

abbrev names_of_method : Method → ℕ × ℕ
names_of_method method = (method.name, method.descriptor)

-- fewer members
fewer_rules : (entries : List Entry) (program : Program) (interfaces more_interfaces : List (List ℕ)) (fields more_fields : List FieldText) (methods more_methods : List MethodText)
    → IsClass (class_in entries (tree program (interfaces ++ more_interfaces) (fields ++ more_fields) (methods ++ more_methods))) → IsClass (class_in entries (tree program interfaces fields methods))
fewer_rules entries program interfaces more_interfaces fields more_fields methods more_methods rules =
    let pool = pool_of entries in
    let alone = rules.alone in
    record {
      alone = record {
        classes = record { named = alone.classes.named; root = alone.classes.root; superclass = alone.classes.superclass };
        as_interface = λ flag.
            let is = alone.as_interface flag in
            record { abstract_class = is.abstract_class; superclass = is.superclass; fields = front_all (λ field. HasFlag field.flags.0 acc_static) (field_of entries) fields more_fields is.fields };
        calls = λ old. front_all (λ method. IfSome method.body (CallsClasses pool)) (method_of entries) methods more_methods (alone.calls old);
      };
      fields_differ = front_differ pool names_of_field (field_of entries) fields more_fields rules.fields_differ;
      methods_differ = front_differ pool names_of_method (method_of entries) methods more_methods rules.methods_differ;
    }

pub fewer : (entries : List Entry) (program : Program) (interfaces more_interfaces : List (List ℕ)) (fields more_fields : List FieldText) (methods more_methods : List MethodText)
    → HasParts (class_in entries (tree program (interfaces ++ more_interfaces) (fields ++ more_fields) (methods ++ more_methods))) → HasParts (class_in entries (tree program interfaces fields methods))
fewer entries program interfaces more_interfaces fields more_fields methods more_methods has =
    let pool = pool_of entries in
    record {
      minor = has.minor;
      major = has.major;
      pool = has.pool;
      names = has.names;
      rules = fewer_rules entries program interfaces more_interfaces fields more_fields methods more_methods has.rules;
      flags = has.flags;
      this_class = has.this_class;
      super_class = has.super_class;
      interfaces_few = front_few (λ name. index_of entries (Class name)) interfaces more_interfaces has.interfaces_few;
      interfaces = front_all (IsInterface pool) (λ name. index_of entries (Class name)) interfaces more_interfaces has.interfaces;
      fields_few = front_few (field_of entries) fields more_fields has.fields_few;
      fields = front_all (IsField pool) (field_of entries) fields more_fields has.fields;
      methods_few = front_few (method_of entries) methods more_methods has.methods_few;
      methods = front_all (IsMethodOf pool) (method_of entries) methods more_methods has.methods;
    }

-- the last of some items is another
last_all : {X Y : Type 0} (P : Y → Type 0) (f : X → Y) (front : List X) (one other : X) → (P (f one) → P (f other)) → AllByRecursion P (map f (front ++ one ∷ [])) → AllByRecursion P (map f (front ++ other ∷ []))
last_all P f front one other goes all =
    let each = all_of_map P f (front ++ one ∷ []) all in
    all_mapped P f (front ++ other ∷ []) (
    all_both (λ item. P (f item)) front (other ∷ []) (all_front (λ item. P (f item)) front (one ∷ []) each) (goes (all_back (λ item. P (f item)) front (one ∷ []) each).0, tt)
    )

last_few : {X Y : Type 0} (f : X → Y) (front : List X) (one other : X) → length (map f (front ++ one ∷ [])) < 2 ^ 16 → length (map f (front ++ other ∷ [])) < 2 ^ 16
last_few f front one other few =
    omega (arith, few, ap length (map-append f front (one ∷ [])), ap length (map-append f front (other ∷ [])), length-append (map f front) (f one ∷ []), length-append (map f front) (f other ∷ []))

last_names : (entries : List Entry) (front : List MethodText) (method : MethodText) (code code_too : Option CodeText)
    → map names_of_method (map (method_of entries) (front ++ with_code method code ∷ [])) ≡ map names_of_method (map (method_of entries) (front ++ with_code method code_too ∷ []))
last_names entries [] method code code_too = refl
last_names entries (first ∷ front) method code code_too = ap (λ rest. names_of_method (method_of entries first) ∷ rest) (last_names entries front method code code_too)

-- the code of a method is another
pub record IsOtherCode (entries : List Entry) (code code_too : CodeText) : Type 0 where
  pub body : IsBodyOf (pool_of entries) (body_of entries code) → IsBodyOf (pool_of entries) (body_of entries code_too)
  pub calls : CallsClasses (pool_of entries) (body_of entries code) → CallsClasses (pool_of entries) (body_of entries code_too)

other_method : (entries : List Entry) (method : MethodText) (code code_too : CodeText) → IsOtherCode entries code code_too
    → IsMethodOf (pool_of entries) (method_of entries (with_code method (Some code))) → IsMethodOf (pool_of entries) (method_of entries (with_code method (Some code_too)))
other_method entries method code code_too other is = record {
  flags = is.flags;
  name = is.name;
  descriptor = is.descriptor;
  named = is.named;
  rules = record {
    words = is.rules.words;
    code = (λ some. is.rules.code.0 refl, λ flags. refl);
    abstract_method = is.rules.abstract_method;
    initialiser = λ name. let rule = is.rules.initialiser name in (rule.0, rule.1, refl);
  };
  body = other.body is.body;
}

pub last_other : (entries : List Entry) (program : Program) (interfaces : List (List ℕ)) (fields : List FieldText) (methods : List MethodText) (method : MethodText) (code code_too : CodeText) → IsOtherCode entries code code_too
    → HasParts (class_in entries (tree program interfaces fields (methods ++ with_code method (Some code) ∷ []))) → HasParts (class_in entries (tree program interfaces fields (methods ++ with_code method (Some code_too) ∷ [])))
last_other entries program interfaces fields methods method code code_too other has =
    let pool = pool_of entries in
    let one = with_code method (Some code) in
    let two = with_code method (Some code_too) in
    let alone = has.rules.alone in
    record {
      minor = has.minor;
      major = has.major;
      pool = has.pool;
      names = has.names;
      rules = record {
        alone = record {
          classes = record { named = alone.classes.named; root = alone.classes.root; superclass = alone.classes.superclass };
          as_interface = λ flag. let is = alone.as_interface flag in record { abstract_class = is.abstract_class; superclass = is.superclass; fields = is.fields };
          calls = λ old. last_all (λ method. IfSome method.body (CallsClasses pool)) (method_of entries) methods one two other.calls (alone.calls old);
        };
        fields_differ = has.rules.fields_differ;
        methods_differ = subst (Differ pool) (last_names entries methods method (Some code) (Some code_too)) has.rules.methods_differ;
      };
      flags = has.flags;
      this_class = has.this_class;
      super_class = has.super_class;
      interfaces_few = has.interfaces_few;
      interfaces = has.interfaces;
      fields_few = has.fields_few;
      fields = has.fields;
      methods_few = last_few (method_of entries) methods one two has.methods_few;
      methods = last_all (IsMethodOf pool) (method_of entries) methods one two (other_method entries method code code_too other) has.methods;
    }
