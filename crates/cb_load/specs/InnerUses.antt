-- The uses of a class's texts whose names have been entered: none need be looked at again.
use Rattle.std.specs.Prelude.{◌≡◌, Bool, true, ℕ, List, Some, ◌==◌, ◌&&◌, if◌then◌else◌}
use Rattle.std.specs.Bool.{beq}
use Rattle.std.specs.List.{AllByRecursion, list_any}
use Rattle.cb_text.specs.declared.constant.Constant.{Constant}
use Rattle.cb_text.specs.Naming.{MemberNames, member_at, text_at}
use Rattle.cb_load.specs.declared.uses.Use.{Use}
use Rattle.cb_load.specs.Names.{Entry, all_of, class_names, names_in}
use Rattle.cb_load.specs.Closure.{covers}
use Rattle.cb_load.specs.InnerEntering.{marked}
use Rattle.cb_load.specs.Inner.{entered_all}

-- whether a use is just this one
abbrev pub is_use : Use → Use → Bool
is_use usage other = usage.text == other.text && (beq usage.is_name other.is_name && beq usage.needed other.needed)

-- the entries of a text that is used as the name of a class, or as a descriptor
abbrev pub use_names : List Constant → Use → List Entry
use_names pool usage = marked usage.needed (all_of (if usage.is_name then class_names else names_in) (text_at pool usage.text))

-- each of these is superfluous behind the entries
abbrev pub AreCovered : List Entry → List Entry → Type 0
AreCovered entries names = AllByRecursion (λ entry. list_any (λ before. covers before entry) entries ≡ true) names

-- the names of these uses have been entered
abbrev pub AreEntered : List Constant → List Use → List Entry → Type 0
AreEntered pool uses entries = AllByRecursion (λ usage. AreCovered entries (use_names pool usage)) uses

-- names were entered behind the old entries, and those of the uses are there
pub record Enters (pool : List Constant) (names old : List Entry) (known : List Use) (new : List Entry) : Type 0 where
  pub entries : new ≡ entered_all old names
  pub uses : AreEntered pool known new

-- the texts at two indices are the name of the class and the descriptor of the member at an index
pub record AreTextsOf (pool : List Constant) (index class descriptor : ℕ) : Type 0 where
  pub member : MemberNames
  pub there : member_at pool index ≡ Some member
  pub class_text : text_at pool class ≡ Some member.class
  pub type_text : text_at pool descriptor ≡ Some member.descriptor
