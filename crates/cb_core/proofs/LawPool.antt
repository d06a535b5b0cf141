-- What an index that names something says of its pool.
use Rattle.std.proofs.Common.{◌≡◌, ℕ, zero, suc, ◌+◌, ◌^◌, ◌<◌, true, List, length, Option, Some, None, IsSomeAnd, option_map, option_and_then, refl, ap, ◌∙◌, arith}
use Rattle.std.proofs.lemmas.Option.{slice_get_within, option_and_then_some, same_Some}
use Rattle.cb_text.specs.declared.constant.Constant.{Constant}
use Rattle.cb_text.specs.declared.constant.Constant.TheVariants.{Class, String, Fieldref, Methodref, InterfaceMethodref}
use Rattle.cb_text.specs.declared.naming.MemberKind.{MemberKind}
use Rattle.cb_text.specs.declared.naming.MemberKind.TheVariants as members
use Rattle.cb_text.specs.Pool.{IsPool, constant_at}
use Rattle.cb_text.specs.Naming.{MemberNames, class_at, member_at, member_from, member_of, name_and_type_at, name_of_class, string_at, text_at, text_of_string, units_of}
use Rattle.cb_classfile.specs.declared.needed.ConstantKind.{ConstantKind}
use Rattle.cb_classfile.specs.declared.needed.ConstantKind.TheVariants as kinds
use Rattle.cb_classfile.specs.Needed.{StandsAt, is_of_kind}

-- an index at which a constant stands is within the pool, so it fits two bytes
within : (pool : List Constant) (index : ℕ) (constant : Constant) → constant_at pool index ≡ Some constant → index < length pool + 1
within pool zero constant is = omega arith
within pool (suc before) constant is = omega (arith, slice_get_within pool before constant is)

pub constant_fits : (pool : List Constant) (index : ℕ) (constant : Constant) → IsPool pool → constant_at pool index ≡ Some constant → index < 2 ^ 16
constant_fits pool index constant is stands = omega (arith, is.counted, within pool index constant stands)

-- and so does one that names something
pub named_fits : {X : Type 0} (f : Constant → Option X) (pool : List Constant) (index : ℕ) (found : X) → IsPool pool → option_and_then f (constant_at pool index) ≡ Some found → index < 2 ^ 16
named_fits f pool index found is named = option_and_then_some f (constant_at pool index) found named (λ constant stands _. constant_fits pool index constant is stands)

pub text_fits : (pool : List Constant) (index : ℕ) (text : List ℕ) → IsPool pool → text_at pool index ≡ Some text → index < 2 ^ 16
text_fits pool index text is named = named_fits units_of pool index text is named

pub class_fits : (pool : List Constant) (index : ℕ) (name : List ℕ) → IsPool pool → class_at pool index ≡ Some name → index < 2 ^ 16
class_fits pool index name is named =
    option_and_then_some (text_at pool) (option_and_then name_of_class (constant_at pool index)) name named (λ at found _. named_fits name_of_class pool index at is found)

pub string_fits : (pool : List Constant) (index : ℕ) (text : List ℕ) → IsPool pool → string_at pool index ≡ Some text → index < 2 ^ 16
string_fits pool index text is named =
    option_and_then_some (text_at pool) (option_and_then text_of_string (constant_at pool index)) text named (λ at found _. named_fits text_of_string pool index at is found)

pub member_fits : (pool : List Constant) (index : ℕ) (names : MemberNames) → IsPool pool → member_at pool index ≡ Some names → index < 2 ^ 16
member_fits pool index names is named =
    option_and_then_some (member_from pool) (option_and_then member_of (constant_at pool index)) names named (λ at found _. named_fits member_of pool index at is found)

-- constants of a kind, by what they name
stands_so : {X : Type 0} (f : Constant → Option X) (kind : ConstantKind) (found : X) → ((constant : Constant) → f constant ≡ Some found → is_of_kind kind constant ≡ true) → (constant : Option Constant) → option_and_then f constant ≡ Some found → IsSomeAnd constant (λ one. is_of_kind kind one ≡ true)
stands_so f kind found each None named = absurd cc
stands_so f kind found each (Some constant) named = each constant named

class_kind : (at : ℕ) (constant : Constant) → name_of_class constant ≡ Some at → is_of_kind kinds.Class constant ≡ true
class_kind at (Class name) is = refl
class_kind at other is = absurd cc

string_kind : (at : ℕ) (constant : Constant) → text_of_string constant ≡ Some at → is_of_kind kinds.Loadable constant ≡ true
string_kind at (String text) is = refl
string_kind at other is = absurd cc

pub class_stands : (pool : List Constant) (index : ℕ) (name : List ℕ) → class_at pool index ≡ Some name → StandsAt pool index kinds.Class
class_stands pool index name named =
    option_and_then_some (text_at pool) (option_and_then name_of_class (constant_at pool index)) name named (λ at found _. stands_so name_of_class kinds.Class at (class_kind at) (constant_at pool index) found)

pub string_stands : (pool : List Constant) (index : ℕ) (text : List ℕ) → string_at pool index ≡ Some text → StandsAt pool index kinds.Loadable
string_stands pool index text named =
    option_and_then_some (text_at pool) (option_and_then text_of_string (constant_at pool index)) text named (λ at found _. stands_so text_of_string kinds.Loadable at (string_kind at) (constant_at pool index) found)

-- a member has the kind of its constant
of_map : (kind : MemberKind) (class : List ℕ) (found : Option (List ℕ × List ℕ)) (names : MemberNames) → option_map (λ pair. record { kind = kind; class = class; name = pair.0; descriptor = pair.1 }) found ≡ Some names → kind ≡ names.kind
of_map kind class None names is = absurd cc
of_map kind class (Some pair) names is = ap (λ member. member.kind) (same_Some (record { kind = kind; class = class; name = pair.0; descriptor = pair.1 }) names is)

kind_from : (pool : List Constant) (at : MemberKind × ℕ × ℕ) (names : MemberNames) → member_from pool at ≡ Some names → at.0 ≡ names.kind
kind_from pool at names is =
    option_and_then_some (λ class. option_map (λ pair. record { kind = at.0; class = class; name = pair.0; descriptor = pair.1 }) (name_and_type_at pool at.2)) (class_at pool at.1) names is (λ class _ mapped. of_map at.0 class (name_and_type_at pool at.2) names mapped)

kind_of : (kind : MemberKind) (holder member : ℕ) (at : MemberKind × ℕ × ℕ) → Some (kind, holder, member) ≡ Some at → kind ≡ at.0
kind_of kind holder member at is = ap (λ named. named.0) (same_Some (kind, holder, member) at is)

field_kind : (at : MemberKind × ℕ × ℕ) → at.0 ≡ members.Field → (constant : Constant) → member_of constant ≡ Some at → is_of_kind kinds.Field constant ≡ true
field_kind at is (Fieldref holder member) found = refl
field_kind at is (Methodref holder member) found = let same = kind_of members.Method holder member at found in absurd cc
field_kind at is (InterfaceMethodref holder member) found = let same = kind_of members.InterfaceMethod holder member at found in absurd cc
field_kind at is other found = absurd cc

class_method_kind : (at : MemberKind × ℕ × ℕ) → at.0 ≡ members.Method → (constant : Constant) → member_of constant ≡ Some at → is_of_kind kinds.ClassMethod constant ≡ true
class_method_kind at is (Methodref holder member) found = refl
class_method_kind at is (Fieldref holder member) found = let same = kind_of members.Field holder member at found in absurd cc
class_method_kind at is (InterfaceMethodref holder member) found = let same = kind_of members.InterfaceMethod holder member at found in absurd cc
class_method_kind at is other found = absurd cc

any_method_kind : (at : MemberKind × ℕ × ℕ) → at.0 ≡ members.Method → (constant : Constant) → member_of constant ≡ Some at → is_of_kind kinds.AnyMethod constant ≡ true
any_method_kind at is (Methodref holder member) found = refl
any_method_kind at is (Fieldref holder member) found = let same = kind_of members.Field holder member at found in absurd cc
any_method_kind at is (InterfaceMethodref holder member) found = let same = kind_of members.InterfaceMethod holder member at found in absurd cc
any_method_kind at is other found = absurd cc

member_stands : (kind : ConstantKind) (member : MemberKind) → ((at : MemberKind × ℕ × ℕ) → at.0 ≡ member → (constant : Constant) → member_of constant ≡ Some at → is_of_kind kind constant ≡ true) → (pool : List Constant) (index : ℕ) (names : MemberNames) → names.kind ≡ member → member_at pool index ≡ Some names → StandsAt pool index kind
member_stands kind member each pool index names is named =
    option_and_then_some (member_from pool) (option_and_then member_of (constant_at pool index)) names named (λ at found from. stands_so member_of kind at (each at (kind_from pool at names from ∙ is)) (constant_at pool index) found)

pub field_stands : (pool : List Constant) (index : ℕ) (names : MemberNames) → names.kind ≡ members.Field → member_at pool index ≡ Some names → StandsAt pool index kinds.Field
field_stands = member_stands kinds.Field members.Field field_kind

pub class_method_stands : (pool : List Constant) (index : ℕ) (names : MemberNames) → names.kind ≡ members.Method → member_at pool index ≡ Some names → StandsAt pool index kinds.ClassMethod
class_method_stands = member_stands kinds.ClassMethod members.Method class_method_kind

pub any_method_stands : (pool : List Constant) (index : ℕ) (names : MemberNames) → names.kind ≡ members.Method → member_at pool index ≡ Some names → StandsAt pool index kinds.AnyMethod
any_method_stands = member_stands kinds.AnyMethod members.Method any_method_kind
