-- The constant pool of a program: the constants that it uses, each once, in the order in which they are first used, and
-- the parts of each before it.
use Rattle.std.specs.Prelude.{ℕ, ◌+◌, not, List, [], ◌∷◌, filter, if◌then◌else◌}
use Rattle.std.specs.Int.{w32, w64, cast_unsigned}
use Rattle.std.specs.List.{flat_map}
use Rattle.cb_text.specs.declared.constant.Constant.{Constant}
use Rattle.cb_text.specs.declared.constant.Constant.TheVariants as constants
use Rattle.cb_text.specs.declared.naming.MemberKind.{MemberKind}
use Rattle.cb_text.specs.declared.naming.MemberKind.TheVariants as kinds
use Rattle.cb_text.specs.Pool.{with_gap}
use Rattle.cb_asm_record.specs.Entries.{Entry, Text, Int, Long, Class, String, NameAndType, Member, with_parts, same}

-- each once, where it stands first
abbrev pub firsts : List Entry → List Entry
firsts [] = []
firsts (entry ∷ entries) = entry ∷ filter (λ other. not (same entry other)) (firsts entries)

-- the entries of a pool, by the constants that are used
abbrev pub entries_of : List Entry → List Entry
entries_of used = firsts (flat_map with_parts used)

-- how many indices a constant takes (JVMS §4.4.5)
abbrev pub indices_taken : Entry → ℕ
indices_taken (Long number) = 2
indices_taken other = 1

-- the index of a constant, counted on from that of the first
abbrev pub index_from : ℕ → List Entry → Entry → ℕ
index_from index [] entry = index
index_from index (first ∷ entries) entry = if same first entry then index else index_from (index + indices_taken first) entries entry

abbrev pub index_of : List Entry → Entry → ℕ
index_of entries entry = index_from 1 entries entry

-- a constant of these, with the indices of its parts
abbrev pub member_of : MemberKind → ℕ → ℕ → Constant
member_of kinds.Field holder member = constants.Fieldref holder member
member_of kinds.Method holder member = constants.Methodref holder member
member_of kinds.InterfaceMethod holder member = constants.InterfaceMethodref holder member

abbrev pub constant_of : List Entry → Entry → Constant
constant_of entries (Text units) = constants.Utf8 units
constant_of entries (Int number) = constants.Integer (cast_unsigned w32 number)
constant_of entries (Long number) = constants.Long (cast_unsigned w64 number)
constant_of entries (Class name) = constants.Class (index_of entries (Text name))
constant_of entries (String text) = constants.String (index_of entries (Text text))
constant_of entries (NameAndType name descriptor) =
    constants.NameAndType (index_of entries (Text name)) (index_of entries (Text descriptor))
constant_of entries (Member member) =
    member_of member.kind (index_of entries (Class member.class)) (index_of entries (NameAndType member.name member.descriptor))

abbrev pub pool_of : List Entry → List Constant
pool_of entries = flat_map (λ entry. with_gap (constant_of entries entry)) entries
