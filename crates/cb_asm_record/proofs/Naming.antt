-- What the indices of a program's constants name.
use Rattle.std.proofs.Common.{◌≡◌, ◌∙◌, ap, refl, arith, ℕ, true, List, Option, Some, option_map, option_and_then}
use Rattle.cb_text.specs.declared.constant.Constant.{Constant}
use Rattle.cb_text.specs.declared.naming.MemberKind.{MemberKind}
use Rattle.cb_text.specs.declared.naming.MemberKind.TheVariants as kinds
use Rattle.cb_text.specs.Naming.{MemberNames, text_at, class_at, string_at, name_and_type_at, member_at, member_from, member_of as members, units_of, name_of_class, text_of_string, name_and_type_of, texts_at}
use Rattle.cb_asm_record.specs.Constants.{entries_of, index_of, member_of as constant_member, pool_of}
use Rattle.cb_asm_record.specs.Entries.{Entry, Text, Class, String, NameAndType, Member}
use Rattle.cb_asm_record.proofs.Having.{closed, has}
use Rattle.cb_asm_record.proofs.Pooling.{at_its_index, same_itself}

pool : List Entry → List Constant
pool used = pool_of (entries_of used)

at : List Entry → Entry → ℕ
at used entry = index_of (entries_of used) entry

text_named : (used : List Entry) (text : List ℕ) → has (entries_of used) (Text text) ≡ true → text_at (pool used) (at used (Text text)) ≡ Some text
unfolding pool at
text_named used text there = ap (option_and_then units_of) (at_its_index (entries_of used) (Text text) there)

class_named : (used : List Entry) (name : List ℕ) → has (entries_of used) (Class name) ≡ true → class_at (pool used) (at used (Class name)) ≡ Some name
unfolding pool at
class_named used name there =
    ap (λ found. option_and_then (text_at (pool used)) (option_and_then name_of_class found)) (at_its_index (entries_of used) (Class name) there)
    ∙ text_named used name (closed used (Class name) (Text name) there (grind (arith, same_itself (Text name))))

string_named : (used : List Entry) (text : List ℕ) → has (entries_of used) (String text) ≡ true → string_at (pool used) (at used (String text)) ≡ Some text
unfolding pool at
string_named used text there =
    ap (λ found. option_and_then (text_at (pool used)) (option_and_then text_of_string found)) (at_its_index (entries_of used) (String text) there)
    ∙ text_named used text (closed used (String text) (Text text) there (grind (arith, same_itself (Text text))))

both_named : (used : List Entry) (name descriptor : List ℕ) → has (entries_of used) (NameAndType name descriptor) ≡ true
    → name_and_type_at (pool used) (at used (NameAndType name descriptor)) ≡ Some (name, descriptor)
unfolding pool at
both_named used name descriptor there =
    ap (λ found. option_and_then (texts_at (pool used)) (option_and_then name_and_type_of found)) (at_its_index (entries_of used) (NameAndType name descriptor) there)
    ∙ ap (option_and_then (λ one. option_map (λ other. (one, other)) (text_at (pool used) (at used (Text descriptor))))) (text_named used name (closed used (NameAndType name descriptor) (Text name) there (grind (arith, same_itself (Text name)))))
    ∙ ap (option_map (λ other. (name, other))) (text_named used descriptor (closed used (NameAndType name descriptor) (Text descriptor) there (grind (arith, same_itself (Text descriptor)))))

-- the kind of a member and the indices of its class and its name and type
kind_of_member : (kind : MemberKind) (holder member : ℕ) → members (constant_member kind holder member) ≡ Some (kind, holder, member)
kind_of_member kinds.Field holder member = refl
kind_of_member kinds.Method holder member = refl
kind_of_member kinds.InterfaceMethod holder member = refl

of_class : List Constant → MemberKind → ℕ → List ℕ → Option MemberNames
of_class constants kind member class = option_map (λ names. record { kind = kind; class = class; name = names.0; descriptor = names.1 }) (name_and_type_at constants member)

member_named : (used : List Entry) (member : MemberNames) → has (entries_of used) (Member member) ≡ true → member_at (pool used) (at used (Member member)) ≡ Some member
unfolding pool at of_class
member_named used member there =
    let holder = at used (Class member.class) in
    let names = at used (NameAndType member.name member.descriptor) in
    ap (λ found. option_and_then (member_from (pool used)) (option_and_then members found)) (at_its_index (entries_of used) (Member member) there)
    ∙ ap (option_and_then (member_from (pool used))) (kind_of_member member.kind holder names)
    ∙ ap (option_and_then (of_class (pool used) member.kind names)) (class_named used member.class (closed used (Member member) (Class member.class) there (grind (arith, same_itself (Class member.class)))))
    ∙ ap (option_map (λ both. record { kind = member.kind; class = member.class; name = both.0; descriptor = both.1 })) (both_named used member.name member.descriptor (closed used (Member member) (NameAndType member.name member.descriptor) there (grind (arith, same_itself (NameAndType member.name member.descriptor)))))

-- what the index of a constant names
pub text_read : (used : List Entry) (text : List ℕ) → has (entries_of used) (Text text) ≡ true
    → text_at (pool_of (entries_of used)) (index_of (entries_of used) (Text text)) ≡ Some text
unfolding pool at
text_read used text there = text_named used text there

pub member_read : (used : List Entry) (member : MemberNames) → has (entries_of used) (Member member) ≡ true
    → member_at (pool_of (entries_of used)) (index_of (entries_of used) (Member member)) ≡ Some member
unfolding pool at
member_read used member there = member_named used member there

pub class_read : (used : List Entry) (name : List ℕ) → has (entries_of used) (Class name) ≡ true
    → class_at (pool_of (entries_of used)) (index_of (entries_of used) (Class name)) ≡ Some name
unfolding pool at
class_read used name there = class_named used name there

pub string_read : (used : List Entry) (text : List ℕ) → has (entries_of used) (String text) ≡ true
    → string_at (pool_of (entries_of used)) (index_of (entries_of used) (String text)) ≡ Some text
unfolding pool at
string_read used text there = string_named used text there
