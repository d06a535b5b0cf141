-- Which methods are run: on an object, and before a class is used (JVMS §5.4.5, §5.5, §2.9).
use Rattle.std.specs.Prelude.{ℕ, ◌<◌, List, codes, Option, Some, None, option_and_then, slice_get}
use Rattle.cb_classfile.specs.declared.class.ClassFile.{ClassFile}
use Rattle.cb_hierarchy.specs.declared.selected.Selected.{Selected}
use Rattle.cb_hierarchy.specs.declared.selected.Selected.TheVariants as chosen
use Rattle.cb_hierarchy.specs.Initial.{initialised_before}
use Rattle.cb_hierarchy.specs.Members.{method_of}
use Rattle.cb_hierarchy.specs.Selection.{selected}
use Rattle.cb_kinds.specs.Texts.{number_of_pair}
use Rattle.cb_link.specs.Numbers.{class_number, hierarchy, method_texts, ranked_methods}
use Rattle.cb_link.specs.Program.{Linked}
use Rattle.cb_link.specs.Resolving.{object}

-- the class whose methods an object of a kind has: an array's are those of Object
abbrev pub class_of_kind : Linked → ℕ → Option ℕ
class_of_kind program kind = option_and_then (class_number program.classes) (slice_get program.kinds kind)

abbrev pub or_object : Option ℕ → ℕ
or_object None = object
or_object (Some class) = class

abbrev pub select : Linked → ℕ → ℕ → Selected
select program kind method =
    selected (hierarchy program.classes) (ranked_methods program.classes) (or_object (class_of_kind program kind)) method

-- a method that is selected is one of so many
abbrev pub IsOneOf : ℕ → Selected → Type 0
IsOneOf count (chosen.Method method) = method < count
IsOneOf count other = Unit {0}

-- the classes that are initialised before a class, and its own initialiser
abbrev pub initial_parents : List ClassFile → ℕ → List ℕ
initial_parents classes class = initialised_before (hierarchy classes) (ranked_methods classes) class

abbrev pub initialiser_texts : List ℕ × List ℕ
initialiser_texts = (codes "<clinit>", codes "()V")

abbrev pub initialiser : List ClassFile → ℕ → Option ℕ
initialiser classes class =
    option_and_then (λ signature. method_of (ranked_methods classes) class signature) (number_of_pair (method_texts classes) initialiser_texts)
