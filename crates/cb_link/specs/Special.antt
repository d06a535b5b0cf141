-- Which method an invokespecial runs, where its object has no say (JVMS §6.5 invokespecial).
use Rattle.std.specs.Prelude.{ℕ, Bool, false, List, [], ◌∷◌, drop, codes, Option, Some, None, option_and_then, option_map, slice_get, not, ◌==◌, ◌&&◌, if◌then◌else◌}
use Rattle.std.specs.List.{list_any}
use Rattle.cb_text.specs.Naming.{member_at}
use Rattle.cb_classfile.specs.declared.class.ClassFile.{ClassFile}
use Rattle.cb_classfile.specs.declared.method.Method.{Method}
use Rattle.cb_classfile.specs.Pool.{text_at}
use Rattle.cb_hierarchy.specs.declared.selected.Selected.{Selected}
use Rattle.cb_hierarchy.specs.declared.selected.Selected.TheVariants as chosen
use Rattle.cb_hierarchy.specs.Classes.{superclass}
use Rattle.cb_hierarchy.specs.Orders.{upwards}
use Rattle.cb_hierarchy.specs.Resolution.{most_specific}
use Rattle.cb_hierarchy.specs.Selection.{found, found_among, selected_from}
use Rattle.cb_kinds.specs.Texts.{same_text}
use Rattle.cb_shapes.specs.declared.action.Action.{Action}
use Rattle.cb_shapes.specs.declared.action.Action.TheVariants as actions
use Rattle.cb_shapes.specs.Shapes.{action_of}
use Rattle.cb_link.specs.declared.named.Named.{Named}
use Rattle.cb_link.specs.declared.named.Named.TheVariants as meanings
use Rattle.cb_link.specs.Named.{code_at, insn_in, named}
use Rattle.cb_link.specs.Numbers.{Numbered, class_number, hierarchy, methods_of, or_none, ranked_methods}
use Rattle.cb_link.specs.Program.{Linked}

-- a method with the class that declares it, by its number, and that class's number
abbrev pub method_numbered : Linked → ℕ → Option (Numbered Method)
method_numbered program method = slice_get (methods_of program.classes) method

abbrev pub class_declaring : Linked → ℕ → Option ℕ
class_declaring program method = option_map (λ linked. linked.class) (slice_get program.methods method)

-- the class or interface whose member the constant at an index names, which an instruction of a method has
abbrev holder_in : Option (Numbered Method) → ℕ → Option (List ℕ)
holder_in None index = None
holder_in (Some method) index = option_map (λ member. member.class) (member_at method.pool index)

abbrev pub holder_named : Linked → ℕ → ℕ → Option (List ℕ)
holder_named program method index = holder_in (method_numbered program method) index

-- the method of the signature of another one that is selected from a class upwards, and that of its superinterfaces
abbrev pub signature_of : List ClassFile → ℕ → Option ℕ
signature_of classes method = option_map (λ ranked. ranked.declared.signature) (slice_get (ranked_methods classes) method)

abbrev pub or_abstract : Option Selected → Selected
or_abstract None = chosen.Abstract
or_abstract (Some selected) = selected

abbrev pub from_class : List ClassFile → ℕ → ℕ → Selected
from_class classes class method =
    or_abstract (option_map (selected_from (hierarchy classes) (ranked_methods classes) class) (signature_of classes method))

abbrev pub among_interfaces : List ClassFile → ℕ → ℕ → Selected
among_interfaces classes class method =
    or_abstract (option_map (λ signature. found_among (most_specific (hierarchy classes) (ranked_methods classes) class signature)) (signature_of classes method))

-- an invokespecial of a method of a proper superclass selects from the direct superclass upwards
abbrev is_among : ℕ → List ℕ → Bool
is_among class classes = list_any (λ other. other == class) classes

abbrev pub is_proper : List ClassFile → ℕ → Option ℕ → Bool
is_proper classes class None = false
is_proper classes class (Some named) = is_among named (drop 1 (upwards (hierarchy classes) class))

abbrev pub from_superclass : List ClassFile → ℕ → List ℕ → Selected
from_superclass classes method [] = found (ranked_methods classes) method
from_superclass classes method (class ∷ none) = from_class classes class method

-- else it is the method that was resolved, as for constructors; but where that is one of several that superinterfaces of the named class
-- or interface have, it is what these come to
abbrev pub declared_above : List ClassFile → ℕ → Option ℕ → Bool
declared_above classes named None = false
declared_above classes named (Some class) = is_among class (upwards (hierarchy classes) named)

abbrev pub as_resolved : Linked → ℕ → Option ℕ → Selected
as_resolved program method None = found (ranked_methods program.classes) method
as_resolved program method (Some named) =
    if declared_above program.classes named (class_declaring program method) then found (ranked_methods program.classes) method
    else among_interfaces program.classes named method

abbrev pub is_constructor : List ClassFile → ℕ → Bool
is_constructor classes method = by_name (slice_get (methods_of classes) method) where
  by_name : Option (Numbered Method) → Bool
  by_name None = false
  by_name (Some numbered) = same_text (or_none (text_at numbered.pool numbered.member.name)) (codes "<init>")

-- what one runs that resolved a method, by the class of the method that has the instruction, and the class that its constant names
abbrev pub special : Linked → ℕ → Option ℕ → Option ℕ → Selected
special program method None named = chosen.Abstract
special program method (Some class) named =
    if not (is_constructor program.classes method) && is_proper program.classes class named
    then from_superclass program.classes method (superclass (hierarchy program.classes) class)
    else as_resolved program method named

-- where the constant names a method, and none else
abbrev pub special_named : Linked → Option ℕ → Option ℕ → Named → Selected
special_named program class holder (meanings.Method method) = special program method class holder
special_named program class holder other = chosen.Abstract

abbrev pub special_by : Linked → ℕ → Named → Option Action → Selected
special_by program caller named (Some (actions.InvokeSpecial index)) =
    special_named program (class_declaring program caller) (option_and_then (class_number program.classes) (holder_named program caller index)) named
special_by program caller named other = chosen.Abstract

-- of the instruction at a place of a method
abbrev pub special_at : Linked → ℕ → ℕ → Selected
special_at program method pc =
    special_by program method (named program method pc) (option_and_then action_of (insn_in (code_at program method) pc))
