-- What is cited of the methods of superinterfaces, and by no public clause.
use Rattle.std.specs.Prelude.{ℕ, Bool, List, not, filter}
use Rattle.std.specs.List.{flat_map, list_any}
use Rattle.cb_hierarchy.specs.declared.class.Class.{Class}
use Rattle.cb_hierarchy.specs.declared.member.Method.{Method}
use Rattle.cb_hierarchy.specs.Classes.{is_interface, listed}
use Rattle.cb_hierarchy.specs.Members.{method_of}
use Rattle.cb_hierarchy.specs.Resolution.{is_declared_below, is_inherited, method_is}

-- the methods of a signature that interfaces among these classes declare, and that are inherited
abbrev pub inherited_of : List Class → List Method → ℕ → List ℕ → List ℕ
inherited_of classes methods signature numbers =
    filter (method_is methods is_inherited) (flat_map (λ number. listed (method_of methods number signature)) (filter (is_interface classes) numbers))

-- whether none of these is declared in a subinterface of that of a method
abbrev pub is_specific : List Class → List Method → List ℕ → ℕ → Bool
is_specific classes methods candidates method = not (list_any (λ other. is_declared_below classes methods other method) candidates)
