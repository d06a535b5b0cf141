-- A pool grows at its end: each constant that is used stands where it stood, and so do its parts.
use Rattle.std.proofs.Common.{◌≡◌, ◌∙◌, inl, inr, ap, refl, subst, arith, ℕ, Bool, true, false, ◌||◌, not, List, [], ◌∷◌, ◌++◌}
use Rattle.std.specs.List.{AllByRecursion, filter, flat_map}
use Rattle.std.proofs.lemmas.Grind.{flat_map-append}
use Rattle.std.proofs.lemmas.List.Elements.{filter-append}
use Rattle.cb_text.specs.declared.constant.Constant.{Constant}
use Rattle.cb_text.specs.declared.constant.Constant.TheVariants as constants
use Rattle.cb_text.specs.Naming.{MemberNames}
use Rattle.cb_text.specs.Pool.{with_gap}
use Rattle.cb_asm_record.specs.Constants.{constant_of, entries_of, firsts, index_of, member_of, pool_of}
use Rattle.cb_asm_record.specs.Entries.{Entry, Text, Int, Long, Class, String, NameAndType, Member, same, with_parts}
use Rattle.cb_asm_record.proofs.Laws.{closed, first_or, has, in_firsts, index_stays, same_itself, with_itself}
use Rattle.cb_classfile.proofs.Laws.{all_each}

-- an entry is had by the pool of what is used
abbrev pub Has : List Entry → Entry → Type 0
Has used entry = has (entries_of used) entry ≡ true

either : (one other : Bool) → one ≡ true → (one || other) ≡ true
either true other is = refl
either false other is = absurd (grind (arith, is))

or_other : (one other : Bool) → other ≡ true → (one || other) ≡ true
or_other true other is = refl
or_other false other is = is

pub has_front : (one other : List Entry) (entry : Entry) → has one entry ≡ true → has (one ++ other) entry ≡ true
has_front [] other entry is = absurd (grind (arith, is))
has_front (first ∷ one) other entry is = elim (first_or first one entry is) [
  | inl here ↦ subst (λ entry. has (first ∷ (one ++ other)) entry ≡ true) here (either (same first first) (has (one ++ other) first) (same_itself first))
  | inr there ↦ or_other (same first entry) (has (one ++ other) entry) (has_front one other entry there)
]

has_back : (one other : List Entry) (entry : Entry) → has other entry ≡ true → has (one ++ other) entry ≡ true
has_back [] other entry is = is
has_back (first ∷ one) other entry is = or_other (same first entry) (has (one ++ other) entry) (has_back one other entry is)

-- each entry that is used is had
had_before : (used : List Entry) → AllByRecursion (λ entry. has (flat_map with_parts used) entry ≡ true) used
had_before [] = tt
had_before (first ∷ used) = (
  has_front (with_parts first) (flat_map with_parts used) first (with_itself first),
  all_each (λ entry. has (flat_map with_parts used) entry ≡ true) (λ entry. has (flat_map with_parts (first ∷ used)) entry ≡ true) (λ entry is. has_back (with_parts first) (flat_map with_parts used) entry is) used (had_before used),
)

pub had : (used : List Entry) → AllByRecursion (Has used) used
had used = go used (had_before used) where
  go : (entries : List Entry) → AllByRecursion (λ entry. has (flat_map with_parts used) entry ≡ true) entries → AllByRecursion (Has used) entries
  go [] all = tt
  go (entry ∷ entries) all = (in_firsts (flat_map with_parts used) entry ∙ all.0, go entries all.1)

-- each entry of a pool is had by it
itself_had : (entries : List Entry) → AllByRecursion (λ entry. has entries entry ≡ true) entries
itself_had [] = tt
itself_had (first ∷ entries) = (
  either (same first first) (has entries first) (same_itself first),
  all_each (λ entry. has entries entry ≡ true) (λ entry. has (first ∷ entries) entry ≡ true) (λ entry is. or_other (same first entry) (has entries entry) is) entries (itself_had entries),
)

pub all_had : (used : List Entry) → AllByRecursion (Has used) (entries_of used)
all_had used = itself_had (entries_of used)

-- the parts of one that is had are had
part : (used : List Entry) (whole one : Entry) → Has used whole → has (with_parts whole) one ≡ true → Has used one
part used whole one there is = closed used whole one there is

pub text_of_class : (used : List Entry) (name : List ℕ) → Has used (Class name) → Has used (Text name)
text_of_class used name there = part used (Class name) (Text name) there (grind (arith, same_itself (Text name)))

pub text_of_string : (used : List Entry) (name : List ℕ) → Has used (String name) → Has used (Text name)
text_of_string used name there = part used (String name) (Text name) there (grind (arith, same_itself (Text name)))

pub name_of_both : (used : List Entry) (name descriptor : List ℕ) → Has used (NameAndType name descriptor) → Has used (Text name)
name_of_both used name descriptor there = part used (NameAndType name descriptor) (Text name) there (grind (arith, same_itself (Text name)))

pub descriptor_of_both : (used : List Entry) (name descriptor : List ℕ) → Has used (NameAndType name descriptor) → Has used (Text descriptor)
descriptor_of_both used name descriptor there = part used (NameAndType name descriptor) (Text descriptor) there (grind (arith, same_itself (Text descriptor)))

pub class_of_member : (used : List Entry) (member : MemberNames) → Has used (Member member) → Has used (Class member.class)
class_of_member used member there = part used (Member member) (Class member.class) there (grind (arith, same_itself (Class member.class)))

pub both_of_member : (used : List Entry) (member : MemberNames) → Has used (Member member) → Has used (NameAndType member.name member.descriptor)
both_of_member used member there = part used (Member member) (NameAndType member.name member.descriptor) there (grind (arith, same_itself (NameAndType member.name member.descriptor)))

-- a constant is the same where more is used
pub constant_stays : (used more : List Entry) (entry : Entry) → Has used entry → constant_of (entries_of (used ++ more)) entry ≡ constant_of (entries_of used) entry
constant_stays used more (Text text) there = refl
constant_stays used more (Int number) there = refl
constant_stays used more (Long number) there = refl
constant_stays used more (Class name) there = ap constants.Class (index_stays used more (Text name) (text_of_class used name there))
constant_stays used more (String text) there = ap constants.String (index_stays used more (Text text) (text_of_string used text there))
constant_stays used more (NameAndType name descriptor) there =
    ap (λ index. constants.NameAndType index (index_of (entries_of (used ++ more)) (Text descriptor))) (index_stays used more (Text name) (name_of_both used name descriptor there))
    ∙ ap (λ index. constants.NameAndType (index_of (entries_of used) (Text name)) index) (index_stays used more (Text descriptor) (descriptor_of_both used name descriptor there))
constant_stays used more (Member member) there =
    ap (λ index. member_of member.kind index (index_of (entries_of (used ++ more)) (NameAndType member.name member.descriptor))) (index_stays used more (Class member.class) (class_of_member used member there))
    ∙ ap (λ index. member_of member.kind (index_of (entries_of used) (Class member.class)) index) (index_stays used more (NameAndType member.name member.descriptor) (both_of_member used member there))

-- the first of two lists stand first
pub record Grows (used more : List Entry) : Type 0 where
  pub rest : List Constant
  pub is : pool_of (entries_of (used ++ more)) ≡ pool_of (entries_of used) ++ rest

record FirstsGrow (one other : List Entry) : Type 0 where
  rest : List Entry
  is : firsts (one ++ other) ≡ firsts one ++ rest

firsts_grow : (one other : List Entry) → FirstsGrow one other
firsts_grow [] other = record { rest = firsts other; is = refl }
firsts_grow (first ∷ one) other =
    let next = firsts_grow one other in
    record {
      rest = filter (λ entry. not (same first entry)) next.rest;
      is = ap (λ rest. first ∷ filter (λ entry. not (same first entry)) rest) next.is ∙ ap (λ rest. first ∷ rest) (filter-append (λ entry. not (same first entry)) (firsts one) next.rest);
    }

constants_in : List Entry → List Entry → List Constant
constants_in pool entries = flat_map (λ entry. with_gap (constant_of pool entry)) entries

constants_stay : (used more entries : List Entry) → AllByRecursion (Has used) entries → constants_in (entries_of (used ++ more)) entries ≡ constants_in (entries_of used) entries
unfolding constants_in
constants_stay used more [] all = refl
constants_stay used more (entry ∷ entries) all =
    ap (λ constant. with_gap constant ++ constants_in (entries_of (used ++ more)) entries) (constant_stays used more entry all.0)
    ∙ ap (λ rest. with_gap (constant_of (entries_of used) entry) ++ rest) (constants_stay used more entries all.1)

pub grows : (used more : List Entry) → Grows used more
unfolding constants_in
grows used more =
    let both = firsts_grow (flat_map with_parts used) (flat_map with_parts more) in
    let is : entries_of (used ++ more) ≡ entries_of used ++ both.rest = ap firsts (flat_map-append with_parts used more) ∙ both.is in
    record {
      rest = constants_in (entries_of (used ++ more)) both.rest;
      is =
          ap (constants_in (entries_of (used ++ more))) is
          ∙ flat_map-append (λ entry. with_gap (constant_of (entries_of (used ++ more)) entry)) (entries_of used) both.rest
          ∙ ap (λ front. front ++ constants_in (entries_of (used ++ more)) both.rest) (constants_stay used more (entries_of used) (all_had used));
    }
