-- Constants that a program names are numbers.
use Rattle.std.proofs.Common.{◌≡◌, refl, subst, ℕ, Bool, true, false, List, Option, Some, None, zero, suc}
use Rattle.std.proofs.lemmas.Bool.{false≢true}
use Rattle.std.specs.Prelude.{option_and_then, option_map, slice_get}
use Rattle.std.specs.Option.{option_or}
use Rattle.cb_classfile.specs.declared.class.ClassFile.{ClassFile}
use Rattle.cb_classfile.specs.declared.field.Field.{Field as DeclaredField}
use Rattle.cb_classfile.specs.declared.method.Method.{Method}
use Rattle.cb_hierarchy.specs.declared.member.Field.{Field as RankedField}
use Rattle.cb_kinds.specs.Texts.{number_of}
use Rattle.cb_link.specs.Named.{constant_named, field_named, member_named, named, named_at, or_nothing, static_initial}
use Rattle.cb_link.specs.Numbers.{Numbered, methods_of, ranked_fields}
use Rattle.cb_link.specs.Program.{Linked}
use Rattle.cb_link.specs.Resolving.{found_field, found_method}
use Rattle.cb_link.specs.Slots.{static_at}
use Rattle.cb_link.specs.declared.named.Named.{Named}
use Rattle.cb_link.specs.declared.named.Named.TheVariants as meanings
use Rattle.cb_heap.specs.Reading.{read_value}
use Rattle.cb_plain.specs.declared.value.Value.{Value}
use Rattle.cb_plain.specs.declared.value.Value.TheVariants as values
use Rattle.cb_plain.specs.Reach.{reference_in}
use Rattle.cb_text.specs.declared.constant.Constant.{Constant}
use Rattle.cb_text.specs.declared.naming.MemberKind.{MemberKind}
use Rattle.cb_text.specs.declared.naming.MemberKind.TheVariants as members
use Rattle.cb_text.specs.Naming.{MemberNames, class_at, int_at, long_at, member_at, string_at}
use Rattle.cb_act.specs.Within.{HasNumbers, Pass}

module _ (ok : ℕ → Bool) where
  abbrev NumberIn : Named → Type 0
  NumberIn (meanings.Whole value) = Pass ok (reference_in value)
  NumberIn other = Unit {0}

  abbrev NumberOf : Option Named → Type 0
  NumberOf None = Unit {0}
  NumberOf (Some named) = NumberIn named

  or_number : (one other : Option Named) → NumberOf one → NumberOf other → NumberOf (option_or one other)
  or_number None other first second = second
  or_number (Some named) other first second = first

  map_number : {X : Type 0} (one : X → Named) → ((item : X) → NumberIn (one item)) → (found : Option X) → NumberOf (option_map one found)
  map_number one each None = tt
  map_number one each (Some item) = each item

  nothing_number : (found : Option Named) → NumberOf found → NumberIn (or_nothing found)
  nothing_number None is = tt
  nothing_number (Some named) is = is

  field_number : (classes : List ClassFile) (number : ℕ) → NumberIn (field_named classes number)
  field_number classes number = go (slice_get (ranked_fields classes) number) refl where
    by_static : (field : RankedField) → slice_get (ranked_fields classes) number ≡ Some field → (is : Bool) → field.is_static ≡ is → NumberIn (field_named classes number)
    by_static field there true is = rw (there, is) tt
    by_static field there false is = rw (there, is) tt

    go : (found : Option RankedField) → slice_get (ranked_fields classes) number ≡ found → NumberIn (field_named classes number)
    go None there = rw there tt
    go (Some field) there = by_static field there field.is_static refl

  member_number : (classes : List ClassFile) (member : MemberNames) → NumberOf (member_named classes member)
  member_number classes member = go member.kind refl where
    go : (kind : MemberKind) → member.kind ≡ kind → NumberOf (member_named classes member)
    go members.Field is = rw is (map_number (field_named classes) (λ number. field_number classes number) (found_field classes member))
    go members.Method is = rw is (map_number meanings.Method (λ number. tt) (found_method classes member))
    go members.InterfaceMethod is = rw is (map_number meanings.Method (λ number. tt) (found_method classes member))

  found_number : (classes : List ClassFile) (found : Option MemberNames) → NumberOf (option_and_then (member_named classes) found)
  found_number classes None = tt
  found_number classes (Some member) = member_number classes member

  constant_number : (classes : List ClassFile) (kinds texts : List (List ℕ)) (pool : List Constant) (index : ℕ) → NumberOf (constant_named classes kinds texts pool index)
  constant_number classes kinds texts pool index =
      or_number (option_map (λ number. meanings.Whole (values.Int number)) (int_at pool index))
      (option_or (option_map (λ number. meanings.Whole (values.Long number)) (long_at pool index))
      (option_or (option_map meanings.Text (option_and_then (number_of texts) (string_at pool index)))
      (option_or (option_map meanings.Kind (option_and_then (number_of kinds) (class_at pool index)))
      (option_and_then (member_named classes) (member_at pool index)))))
      (map_number (λ number. meanings.Whole (values.Int number)) (λ number. refl) (int_at pool index))
      (or_number (option_map (λ number. meanings.Whole (values.Long number)) (long_at pool index))
      (option_or (option_map meanings.Text (option_and_then (number_of texts) (string_at pool index)))
      (option_or (option_map meanings.Kind (option_and_then (number_of kinds) (class_at pool index)))
      (option_and_then (member_named classes) (member_at pool index))))
      (map_number (λ number. meanings.Whole (values.Long number)) (λ number. refl) (long_at pool index))
      (or_number (option_map meanings.Text (option_and_then (number_of texts) (string_at pool index)))
      (option_or (option_map meanings.Kind (option_and_then (number_of kinds) (class_at pool index)))
      (option_and_then (member_named classes) (member_at pool index)))
      (map_number meanings.Text (λ number. tt) (option_and_then (number_of texts) (string_at pool index)))
      (or_number (option_map meanings.Kind (option_and_then (number_of kinds) (class_at pool index)))
      (option_and_then (member_named classes) (member_at pool index))
      (map_number meanings.Kind (λ number. tt) (option_and_then (number_of kinds) (class_at pool index)))
      (found_number classes (member_at pool index)))))

  index_number : (program : Linked) (pool : List Constant) (index : Option ℕ)
      → NumberOf (option_and_then (constant_named program.classes program.kinds program.constants pool) index)
  index_number program pool None = tt
  index_number program pool (Some index) = constant_number program.classes program.kinds program.constants pool index

  at_number : (program : Linked) (pool : List Constant) (index : Option ℕ) → NumberIn (named_at program pool index)
  at_number program pool index =
      nothing_number (option_and_then (constant_named program.classes program.kinds program.constants pool) index) (index_number program pool index)

  named_number : (program : Linked) (method pc : ℕ) → NumberIn (named program method pc)
  named_number program method pc = go (slice_get (methods_of program.classes) method) refl where
    go : (found : Option (Numbered Method)) → slice_get (methods_of program.classes) method ≡ found → NumberIn (named program method pc)
    go None there = rw there tt
    go (Some numbered) there = rw there (at_number program numbered.pool _)

  initial_number : (program : Linked) (slot : ℕ) → NumberIn (static_initial program slot)
  initial_number program slot = go (static_at program slot) refl where
    go : (found : Option (Numbered DeclaredField)) → static_at program slot ≡ found → NumberIn (static_initial program slot)
    go None there = rw there tt
    go (Some field) there = rw there (at_number program field.pool field.member.constant)

  pub has_numbers : (program : Linked) → HasNumbers ok program
  has_numbers program = record {
    named = λ method pc value is. subst NumberIn is (named_number program method pc);
    initial = λ slot value is. subst NumberIn is (initial_number program slot);
  }

-- so reading leaves them as they are
pub whole_read : (program : Linked) (method pc : ℕ) (value : Value) → named program method pc ≡ meanings.Whole value → (index : ℕ → ℕ) → read_value index value ≡ value
whole_read program method pc value names index = go value ((has_numbers (λ serial. false) program).named method pc value names) where
  go : (value : Value) → Pass (λ serial. false) (reference_in value) → read_value index value ≡ value
  go (values.Int number) pass = refl
  go (values.Long number) pass = refl
  go (values.Ref zero) pass = refl
  go (values.Ref (suc place)) pass = absurd (false≢true pass)
