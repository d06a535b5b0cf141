-- What a linked program has by number.
use Rattle.std.specs.Prelude.{◌≡◌, ℕ, ◌+◌, ◌<◌, ◌≤◌, false, List, [], ◌++◌, length, map, Option, Some, None, slice_get}
use Rattle.std.specs.List.{AllByRecursion}
use Rattle.cb_hierarchy.specs.Bad.{AreGood}
use Rattle.cb_kinds.specs.declared.basic.Basic.{Basic}
use Rattle.cb_kinds.specs.declared.basic.Basic.TheVariants.{Reference}
use Rattle.cb_kinds.specs.Basics.{kind_number}
use Rattle.cb_kinds.specs.Kinds.{is_array}
use Rattle.cb_classfile.specs.declared.class.ClassFile.{ClassFile}
use Rattle.cb_classfile.specs.declared.method.Method.{Method}
use Rattle.cb_link.specs.declared.linked.LinkedMethod.{LinkedMethod}
use Rattle.cb_link.specs.Judging.{method_limit, site_limit}
use Rattle.cb_link.specs.Making.{constants, fixed_kinds, kinds, makings}
use Rattle.cb_link.specs.Numbers.{Numbered, fields_of, hierarchy, methods_of, name_of, ranked_methods}
use Rattle.cb_link.specs.Places.{IsPlaced}
use Rattle.cb_link.specs.Program.{Linked, linked_field, linked_method, linked_site}

-- what the parameters of the method of a number are
abbrev parameters_in : Option LinkedMethod → List Basic
parameters_in None = []
parameters_in (Some method) = method.parameters

abbrev pub parameters_at : Linked → ℕ → List Basic
parameters_at program method = parameters_in (slice_get program.methods method)

-- the kinds of the objects of all sites, the machine's own first
abbrev pub site_kinds : Linked → List ℕ
site_kinds program = program.fixed ++ map (λ site. site.kind) program.sites

-- a class has a name, and not that of an array
abbrev pub HasOwnName : ClassFile → Type 0
HasOwnName class = is_array (name_of class) ≡ false

-- a program has few methods and sites, and these are the methods of its classes, among them the one with which it begins, as
-- among its classes the main one. None of these is bad or has the name of an array
pub record IsWhole (program : Linked) : Type 0 where
  pub kinds : program.kinds ≡ kinds program.classes
  pub fixed : program.fixed ≡ map (kind_number program.kinds) fixed_kinds
  pub fields : program.fields ≡ map (linked_field program.kinds) (fields_of program.classes)
  pub sites : program.sites ≡ map (linked_site program.kinds) (makings program.classes)
  pub texts : program.constants ≡ constants program.classes
  pub methods : program.methods ≡ map (linked_method program.kinds) (methods_of program.classes)
  pub good : AreGood (hierarchy program.classes) (ranked_methods program.classes)
  pub named : AllByRecursion HasOwnName program.classes
  pub begins : program.main_method < length program.methods
  pub main : program.main_class < length program.classes
  pub few_methods : length program.methods ≤ method_limit
  pub few_sites : length program.fixed + length program.sites ≤ site_limit

-- what a program has of the method of a number
pub record HasMethod (program : Linked) (number : ℕ) (method : LinkedMethod) : Type 0 where
  pub numbered : Numbered Method
  pub there : slice_get (methods_of program.classes) number ≡ Some numbered
  pub placed : IsPlaced (λ class. class.methods) program.classes numbered
  pub is : method ≡ linked_method program.kinds numbered

-- the kind of a reference is below a count
abbrev pub IsBelow : ℕ → Basic → Type 0
IsBelow count (Reference kind) = kind < count
IsBelow count other = Unit {0}
