-- A linked program: its classes, and how what it has is numbered.
use Rattle.std.specs.Prelude.{ℕ, List, map, option_map}
use Rattle.cb_classfile.specs.declared.class.ClassFile.{ClassFile}
use Rattle.cb_classfile.specs.declared.field.Field.{Field}
use Rattle.cb_classfile.specs.declared.method.Method.{Method}
use Rattle.cb_classfile.specs.Pool.{text_at}
use Rattle.cb_kinds.specs.Basics.{basic_of, kind_number}
use Rattle.cb_kinds.specs.Descriptors.{parameters_of, result_of}
use Rattle.cb_link.specs.declared.linked.LinkedField.{LinkedField}
use Rattle.cb_link.specs.declared.linked.LinkedMethod.{LinkedMethod}
use Rattle.cb_link.specs.declared.linked.Site.{Site}
use Rattle.cb_link.specs.Making.{Making, constants, fixed_kinds, kinds, makings}
use Rattle.cb_link.specs.Numbers.{Numbered, fields_of, methods_of, name_of, or_none}

-- classes, kinds by name, methods, fields, the kinds of the machine's own sites and the sites of instructions, texts, the main
-- class, and the method with which the program begins
pub record Linked : Type 0 where
  pub classes : List ClassFile
  pub kinds : List (List ℕ)
  pub methods : List LinkedMethod
  pub fields : List LinkedField
  pub fixed : List ℕ
  pub sites : List Site
  pub constants : List (List ℕ)
  pub main_class : ℕ
  pub main_method : ℕ

-- a method, with what its parameters and its result are. A receiver is no parameter
abbrev pub linked_method : List (List ℕ) → Numbered Method → LinkedMethod
linked_method kinds method =
    record { class = method.class; place = method.place; parameters = map (basic_of kinds) (parameters_of (or_none (text_at method.pool method.member.descriptor))); result = option_map (basic_of kinds) (result_of (or_none (text_at method.pool method.member.descriptor))) }

-- a field, with what its values are
abbrev pub linked_field : List (List ℕ) → Numbered Field → LinkedField
linked_field kinds field =
    record { class = field.class; place = field.place; basic = basic_of kinds (or_none (text_at field.pool field.member.descriptor)) }

-- an instruction's site
abbrev pub linked_site : List (List ℕ) → Making → Site
linked_site kinds making =
    record { method = making.method; place = making.place; dimension = making.dimension; kind = kind_number kinds making.kind }

-- the program of classes with a main class, which begins with a method
abbrev pub linked_by : List ClassFile → List (List ℕ) → ℕ → ℕ → Linked
linked_by classes kinds class method =
    record { classes = classes; kinds = kinds; methods = map (linked_method kinds) (methods_of classes); fields = map (linked_field kinds) (fields_of classes); fixed = map (kind_number kinds) fixed_kinds; sites = map (linked_site kinds) (makings classes); constants = constants classes; main_class = class; main_method = method }

-- by the main class's name
abbrev pub linked : List ClassFile → List ℕ → ℕ → Linked
linked classes main method = linked_by classes (kinds classes) (kind_number (map name_of classes) main) method
