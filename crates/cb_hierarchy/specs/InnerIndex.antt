-- What finds a member by its class and signature.
use Rattle.std.specs.Prelude.{◌≡◌, ℕ, Bool, List, Option, nat_eq, ◌&&◌}
use Rattle.cb_hierarchy.specs.declared.member.Declared.{Declared}
use Rattle.cb_hierarchy.specs.Members.{place_of}

abbrev pub same_member : Declared → Declared → Bool
same_member one other = nat_eq one.class other.class && nat_eq one.signature other.signature

-- what is found is the first member's number
abbrev pub IsIndexOf : List Declared → (Declared → Option ℕ) → Type 0
IsIndexOf members found = (member : Declared) → found member ≡ place_of members member.class member.signature
