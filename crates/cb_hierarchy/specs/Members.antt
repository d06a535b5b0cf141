-- Methods and fields by their numbers. A signature is the number of a name with a descriptor.
use Rattle.std.specs.Prelude.{ℕ, ◌<◌, ◌^◌, List, length, map, Option, ◌==◌, ◌&&◌}
use Rattle.std.specs.List.{AllByRecursion, position}
use Rattle.cb_hierarchy.specs.declared.member.Declared.{Declared}
use Rattle.cb_hierarchy.specs.declared.member.Field.{Field}
use Rattle.cb_hierarchy.specs.declared.member.Method.{Method}

-- the number of the first member of a signature that a class declares
abbrev pub place_of : List Declared → ℕ → ℕ → Option ℕ
place_of members class signature = position (λ member. (member.class == class) && (member.signature == signature)) members

abbrev pub method_of : List Method → ℕ → ℕ → Option ℕ
method_of methods class signature = place_of (map (λ method. method.declared) methods) class signature

abbrev pub field_of : List Field → ℕ → ℕ → Option ℕ
field_of fields class signature = place_of (map (λ field. field.declared) fields) class signature

-- there are fewer than 2^32, and no signature has a greater number than there are members
pub record AreMembers (members : List Declared) : Type 0 where
  pub few : length members < 2 ^ 32
  pub signatures : AllByRecursion (λ member. member.signature < length members) members
