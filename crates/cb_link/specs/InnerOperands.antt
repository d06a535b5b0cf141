-- What an operand names of kinds, for the walk over the parts of classes.
use Rattle.std.specs.Prelude.{ℕ, List, ◌++◌, option_and_then}
use Rattle.std.specs.List.{flat_map}
use Rattle.cb_text.specs.declared.constant.Constant.{Constant}
use Rattle.cb_text.specs.Naming.{member_at}
use Rattle.cb_insn.specs.declared.insn.Operand.{Operand}
use Rattle.cb_classfile.specs.Needed.{index_in}
use Rattle.cb_hierarchy.specs.Classes.{listed}
use Rattle.cb_kinds.specs.Kinds.{kinds_of_name}
use Rattle.cb_link.specs.Making.{member_kinds, named_in}

-- the kinds of the class or array that its constant names, or of the class of the member
abbrev pub named_kinds : List Constant → Operand → List (List ℕ)
named_kinds pool operand = flat_map kinds_of_name (listed (named_in pool operand)) ++ member_kinds (option_and_then (member_at pool) (index_in operand))
