-- What linking says of the methods that instructions call (JVMS §5.4.3.3, §6.5).
use Rattle.std.specs.Prelude.{◌≡◌, ◌==◌, ℕ, Bool, true, false, List, [], ◌∷◌, drop, Option, Some, option_and_then, option_map, slice_get}
use Rattle.std.specs.List.{list_any}
use Rattle.cb_classfile.specs.declared.method.Method.{Method}
use Rattle.cb_classfile.specs.Pool.{text_at}
use Rattle.cb_hierarchy.specs.Classes.{superclass}
use Rattle.cb_hierarchy.specs.Orders.{upwards}
use Rattle.cb_hierarchy.specs.Resolution.{first_of, method_is, most_specific}
use Rattle.cb_hierarchy.specs.Selection.{declared_upwards, first_or, found, found_among}
use Rattle.cb_hierarchy.specs.declared.selected.Selected.{Selected}
use Rattle.cb_hierarchy.specs.declared.selected.Selected.TheVariants as chosen
use Rattle.cb_link.specs.Having.{parameters_at}
use Rattle.cb_link.specs.Named.{named}
use Rattle.cb_link.specs.Numbers.{Numbered, class_number, hierarchy, or_none, ranked_methods}
use Rattle.cb_link.specs.Program.{Linked}
use Rattle.cb_link.specs.declared.linked.LinkedMethod.{LinkedMethod}
use Rattle.cb_link.specs.declared.named.Named.TheVariants as meanings
use Rattle.cb_machine.specs.Machine.{class_declaring, method_numbered}
use Rattle.cb_text.specs.Naming.{member_at}
use Rattle.cb_verify.specs.Leaving.{superclass_of}
use Rattle.cb_verify.specs.Types.{kind_goes_to}
use Rattle.cb_verify.specs.Within.{Within, holder, is_init, name_at, within}
use Rattle.cb_safety.specs.Frames.{result_at}

-- the instruction at a place of a method names a static method, which has code: an invokestatic calls no other (§6.5 invokestatic)
pub record CallsStatic (program : Linked) (caller pc : ℕ) (callee : Within) : Type 0 where
  pub named : named program caller pc ≡ meanings.Method callee.number
  pub within : within program callee.number ≡ Some callee
  pub is_static : callee.is_static ≡ true

-- the name of a method, and the number of the class that the constant at an index of its class names the member of
abbrev pub method_name : Linked → ℕ → List ℕ
method_name program number = or_none (option_and_then (λ own. text_at own.pool own.member.name) (method_numbered program number))

abbrev pub class_named : Linked → ℕ → ℕ → Option ℕ
class_named program caller index =
    option_and_then (λ own. option_and_then (λ member. class_number program.classes member.class) (member_at own.pool index)) (method_numbered program caller)

-- the instruction at a place of a method names a constructor by the constant at an index. It has code and is neither static nor
-- abstract (§4.6), and the very class declares it that the constant names (§6.5 invokespecial)
pub record CallsConstructor (program : Linked) (caller pc index : ℕ) (from callee : Within) : Type 0 where
  pub from_within : within program caller ≡ Some from
  pub named : named program caller pc ≡ meanings.Method callee.number
  pub within : within program callee.number ≡ Some callee
  pub is_of_object : callee.is_static ≡ false
  pub is_concrete : method_is (ranked_methods program.classes) (λ own. own.is_abstract) callee.number ≡ false
  pub is_constructor : is_init (method_name program callee.number) ≡ true
  pub names_constructor : is_init (name_at from index) ≡ true
  pub names_class : class_named program caller index ≡ Some callee.class
  pub names_kind : holder from index ≡ Some callee.class

-- the method that an invokespecial of no constructor runs, by the class of the method that has the instruction, the class that the
-- constant names, and the method that was resolved (§6.5 invokespecial). Where the named class is a proper superclass it is looked for
-- from the direct superclass upwards, and then in superinterfaces. Else it is the one that was resolved, if a class from the named one
-- upwards declares it, and if none does what the superinterfaces come to
abbrev pub is_proper_superclass : Linked → ℕ → ℕ → Bool
is_proper_superclass program class named = list_any (λ other. other == named) (drop 1 (upwards (hierarchy program.classes) class))

abbrev pub is_upwards : Linked → ℕ → ℕ → Bool
is_upwards program named declaring = list_any (λ other. other == declaring) (upwards (hierarchy program.classes) named)

abbrev pub signature_of : Linked → ℕ → Option ℕ
signature_of program method = option_map (λ ranked. ranked.declared.signature) (slice_get (ranked_methods program.classes) method)

abbrev pub run_from : Linked → ℕ → ℕ → Selected
run_from program class signature =
    first_or (ranked_methods program.classes) (first_of (declared_upwards (hierarchy program.classes) (ranked_methods program.classes) class signature))
    (most_specific (hierarchy program.classes) (ranked_methods program.classes) class signature)

pub data RunsSpecial (program : Linked) (class named resolved callee : ℕ) : Type 0 where
  FromSuperclass : (above signature : ℕ) → is_proper_superclass program class named ≡ true → superclass (hierarchy program.classes) class ≡ above ∷ []
      → signature_of program resolved ≡ Some signature → run_from program above signature ≡ chosen.Method callee → RunsSpecial program class named resolved callee
  AsResolved : (declaring : ℕ) → is_proper_superclass program class named ≡ false → class_declaring program resolved ≡ Some declaring
      → is_upwards program named declaring ≡ true → found (ranked_methods program.classes) resolved ≡ chosen.Method callee → RunsSpecial program class named resolved callee
  OfSuperinterfaces : (declaring signature : ℕ) → is_proper_superclass program class named ≡ false → class_declaring program resolved ≡ Some declaring
      → is_upwards program named declaring ≡ false → signature_of program resolved ≡ Some signature
      → found_among (most_specific (hierarchy program.classes) (ranked_methods program.classes) named signature) ≡ chosen.Method callee
      → RunsSpecial program class named resolved callee

-- the instruction at a place of a method names a method that is no constructor, by the constant at an index, and runs one with code that
-- isn't static. To the class of that one the class of the instruction is assignable (§4.10.1.9 invokespecial), and it has the
-- parameters and the result of the one that is named
pub record CallsSpecial (program : Linked) (caller pc index : ℕ) (from callee : Within) : Type 0 where
  pub from_within : within program caller ≡ Some from
  pub resolved : ℕ
  pub linked : LinkedMethod
  pub numbered : Numbered Method
  pub named : named program caller pc ≡ meanings.Method resolved
  pub is_linked : slice_get program.methods resolved ≡ Some linked
  pub is_numbered : method_numbered program resolved ≡ Some numbered
  pub within : within program callee.number ≡ Some callee
  pub is_of_object : callee.is_static ≡ false
  pub is_no_constructor : is_init (or_none (text_at numbered.pool numbered.member.name)) ≡ false
  pub names_no_constructor : is_init (name_at from index) ≡ false
  pub class : ℕ
  pub names_class : class_named program caller index ≡ Some class
  pub runs : RunsSpecial program from.class class resolved callee.number
  pub rises : kind_goes_to program from.class callee.class ≡ true
  pub takes : parameters_at program callee.number ≡ linked.parameters
  pub gives : result_at program callee.number ≡ linked.result

-- the class of each method with code is assignable to its superclass (§4.10.1.2)
abbrev pub GoesAbove : Linked → Type 0
GoesAbove program = (number above : ℕ) → (method : Within) → within program number ≡ Some method → superclass_of method ≡ Some above
    → kind_goes_to program method.class above ≡ true
