-- What a method's instructions are typed in: the standard's environment (JVMS §4.10.1.1).
use Rattle.std.specs.Prelude.{ℕ, Bool, List, Option, Some, None, codes, option_and_then, option_map, slice_get, not, ◌==◌, ◌&&◌}
use Rattle.cb_text.specs.Naming.{member_of, name_and_type_at}
use Rattle.cb_text.specs.Pool.{constant_at}
use Rattle.cb_text.specs.declared.constant.Constant.{Constant}
use Rattle.cb_classfile.specs.declared.body.Body.{Body}
use Rattle.cb_classfile.specs.declared.method.Method.{Method}
use Rattle.cb_classfile.specs.Pool.{text_at}
use Rattle.cb_kinds.specs.declared.basic.Basic.{Basic}
use Rattle.cb_kinds.specs.Texts.{same_text}
use Rattle.cb_link.specs.Having.{parameters_at}
use Rattle.cb_link.specs.Named.{kind_at}
use Rattle.cb_classfile.specs.Flags.{acc_static}
use Rattle.cb_link.specs.Numbers.{has_flag, methods_of, or_none}
use Rattle.cb_link.specs.Program.{Linked}
use Rattle.cb_link.specs.Resolving.{object}

-- a method with code: its number and its class's, whether it is static, whether it makes its object ready, and its body
pub record Within : Type 0 where
  pub program : Linked
  pub number : ℕ
  pub class : ℕ
  pub is_static : Bool
  pub is_constructor : Bool
  pub body : Body

-- names of constructors, and of initialisers of classes, which only the machine calls (§2.9)
abbrev pub is_init : List ℕ → Bool
is_init name = same_text name (codes "<init>")

abbrev pub is_clinit : List ℕ → Bool
is_clinit name = same_text name (codes "<clinit>")

-- the record of a method of a program, by its number, and a text of its class
abbrev pub method_at : Linked → ℕ → Option Method
method_at program number = option_map (λ numbered. numbered.member) (slice_get (methods_of program.classes) number)

abbrev pub text_in : Linked → ℕ → ℕ → List ℕ
text_in program class index = or_none (option_and_then (λ file. text_at file.pool index) (slice_get program.classes class))

-- a method where it has code. Object's constructor has an object that is ready
abbrev pub with_body : Linked → ℕ → ℕ → Method → Option Body → Option Within
with_body program number class method None = None
with_body program number class method (Some body) =
    Some (record { program = program; number = number; class = class; is_static = has_flag acc_static method.flags.0; is_constructor = is_init (text_in program class method.name) && not (class == object); body = body })

abbrev pub of_class : Linked → ℕ → ℕ → Method → Option Within
of_class program number class method = with_body program number class method method.body

abbrev pub within : Linked → ℕ → Option Within
within program number =
    option_and_then (λ linked. option_and_then (of_class program number linked.class) (method_at program number)) (slice_get program.methods number)

-- what its parameters and its result are
abbrev pub parameters : Within → List Basic
parameters method = parameters_at method.program method.number

abbrev pub result_of : Within → Option Basic
result_of method = option_and_then (λ linked. linked.result) (slice_get method.program.methods method.number)

-- the kinds of these classes of the library are their numbers: the library's classes come first, in the order of its table
abbrev pub kind_of_string : ℕ
kind_of_string = 8

abbrev pub kind_of_class : ℕ
kind_of_class = 10

abbrev pub kind_of_throwable : ℕ
kind_of_throwable = 22

-- the constant at an index, and the kind of the class or array that it names
abbrev pub constant : Within → ℕ → Option Constant
constant method index = option_and_then (λ class. constant_at class.pool index) (slice_get method.program.classes method.class)

abbrev pub kind_named : Within → ℕ → Option ℕ
kind_named method index = kind_at method.program method.class index

-- the kind of the class or array whose member an index names, and the member's name
abbrev pub holder : Within → ℕ → Option ℕ
holder method index = option_and_then (λ named. kind_named method named.1) (option_and_then member_of (constant method index))

abbrev pub name_at : Within → ℕ → List ℕ
name_at method index =
    or_none (option_and_then (λ class. option_and_then (λ named. option_map (λ names. names.0) (name_and_type_at class.pool named.2)) (option_and_then member_of (constant_at class.pool index)))
    (slice_get method.program.classes method.class))
