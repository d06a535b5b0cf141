-- Small hierarchies, written out. Class 0 is Object, and every method and field has the signature 0 where no other is said.
use Rattle.std.specs.Prelude.{ℕ, Bool, true, false, List, [], ◌∷◌, Some, None}
use Rattle.cb_hierarchy.specs.declared.class.Class.{Class}
use Rattle.cb_hierarchy.specs.declared.member.Field.{Field}
use Rattle.cb_hierarchy.specs.declared.member.Method.{Method}
use Rattle.cb_hierarchy.specs.declared.member.Visibility.{Visibility}
use Rattle.cb_hierarchy.specs.declared.member.Visibility.TheVariants.{Public, Package, Private}

abbrev pub object : Class
object = record { superclass = None; interfaces = []; is_interface = false; is_final = false; «package» = 0 }

-- a class of package 0, and one of another package
abbrev pub class : ℕ → List ℕ → Class
class superclass interfaces = record { superclass = Some superclass; interfaces = interfaces; is_interface = false; is_final = false; «package» = 0 }

abbrev pub class_in : ℕ → ℕ → Class
class_in number superclass = record { superclass = Some superclass; interfaces = []; is_interface = false; is_final = false; «package» = number }

abbrev pub interface : List ℕ → Class
interface interfaces = record { superclass = Some 0; interfaces = interfaces; is_interface = true; is_final = false; «package» = 0 }

-- methods that a class declares
abbrev pub declares : Visibility → Bool → Bool → ℕ → Method
declares visibility is_static is_abstract class = record {
  declared = record { class = class; signature = 0 };
  visibility = visibility;
  is_static = is_static;
  is_final = false;
  is_abstract = is_abstract;
}

abbrev pub has_public : ℕ → Method
has_public = declares Public false false

abbrev pub has_abstract : ℕ → Method
has_abstract = declares Public false true

abbrev pub has_static : ℕ → Method
has_static = declares Public true false

abbrev pub has_private : ℕ → Method
has_private = declares Private false false

abbrev pub has_package : ℕ → Method
has_package = declares Package false false

-- fields that a class declares
abbrev pub has_field : ℕ → ℕ → Field
has_field class signature = record { declared = record { class = class; signature = signature }; is_static = false }

-- interfaces 1 and 2, and a class 3 with both
abbrev pub diamond : List Class
diamond = object ∷ interface [] ∷ interface [] ∷ class 0 (1 ∷ 2 ∷ []) ∷ []

-- the same where 2 extends 1
abbrev pub extended : List Class
extended = object ∷ interface [] ∷ interface (1 ∷ []) ∷ class 0 (1 ∷ 2 ∷ []) ∷ []

-- an interface 1, a class 2, and a class 3 that extends it and implements 1
abbrev pub beside : List Class
beside = object ∷ interface [] ∷ class 0 [] ∷ class 2 (1 ∷ []) ∷ []

-- a class 1 of package 1, a class 2 of package 2 that extends it
abbrev pub apart : List Class
apart = object ∷ class_in 1 0 ∷ class_in 2 1 ∷ []

-- classes 1 and 2 of package 1, and 3 of package 2, each of which extends the one before
abbrev pub between : List Class
between = object ∷ class_in 1 0 ∷ class_in 1 1 ∷ class_in 2 2 ∷ []

-- interfaces 1, 2 that extends it, and 3; a class 4, and a class 5 that extends it and implements 2 and 3
abbrev pub inheriting : List Class
inheriting = object ∷ interface [] ∷ interface (1 ∷ []) ∷ interface [] ∷ class 0 [] ∷ class 4 (2 ∷ 3 ∷ []) ∷ []
