-- The constants of a pool are at their indices.
use Rattle.std.proofs.Common.{◌≡◌, ◌∙◌, ap, sym, refl, arith, ℕ, suc, ◌+◌, Bool, true, false, ◌&&◌, ◌||◌, List, [], ◌∷◌, ◌++◌, length, slice_get, Some, Contains, if◌then◌else◌}
use Rattle.std.specs.List.{flat_map, list_any}
use Rattle.std.proofs.lemmas.Bool.Decides.{Decides-eqb, Decides-int_eq}
use Rattle.std.proofs.lemmas.List.Folds.{list_any-from_Any}
use Rattle.std.proofs.lemmas.Slice.Eq.{slice_eq-Decides}
use Rattle.cb_text.specs.declared.constant.Constant.{Constant}
use Rattle.cb_text.specs.declared.constant.Constant.TheVariants as constants
use Rattle.cb_text.specs.declared.naming.MemberKind.{MemberKind}
use Rattle.cb_text.specs.declared.naming.MemberKind.TheVariants as kinds
use Rattle.cb_text.specs.Naming.{MemberNames}
use Rattle.cb_text.specs.Pool.{with_gap, constant_at}
use Rattle.cb_asm_record.specs.Constants.{indices_taken, index_from, index_of, constant_of, member_of, pool_of}
use Rattle.cb_asm_record.specs.Entries.{Entry, Text, Int, Long, Class, String, NameAndType, Member, same, same_kind, same_member}
use Rattle.cb_asm_line.specs.Lines.{same_text}

-- what is the same is one
pub text_is : (one other : List ℕ) → same_text one other ≡ true → one ≡ other
text_is one other is = (slice_eq-Decides Decides-eqb one other _ refl).0 is

pub text_itself : (text : List ℕ) → same_text text text ≡ true
text_itself text = (slice_eq-Decides Decides-eqb text text _ refl).1 refl

both : (one other : Bool) → (one && other) ≡ true → (one ≡ true) × (other ≡ true)
both true true is = (refl, refl)
both one other is = absurd (grind (arith, is))

all : (one other : Bool) → one ≡ true → other ≡ true → (one && other) ≡ true
all true true one other = refl
all one other is are = absurd (grind (arith, is, are))

kind_is : (one other : MemberKind) → same_kind one other ≡ true → one ≡ other
kind_is kinds.Field kinds.Field is = refl
kind_is kinds.Method kinds.Method is = refl
kind_is kinds.InterfaceMethod kinds.InterfaceMethod is = refl
kind_is one other is = absurd (grind (arith, is))

kind_itself : (kind : MemberKind) → same_kind kind kind ≡ true
kind_itself kinds.Field = refl
kind_itself kinds.Method = refl
kind_itself kinds.InterfaceMethod = refl

member : MemberKind → List ℕ → List ℕ → List ℕ → MemberNames
member kind class name descriptor = record { kind = kind; class = class; name = name; descriptor = descriptor }

member_is : (one other : MemberNames) → same_member one other ≡ true → one ≡ other
unfolding member
member_is one other is =
    let named = both _ _ is in
    let held = both _ _ named.0 in
    let kinded = both _ _ held.0 in
    ap (λ kind. member kind one.class one.name one.descriptor) (kind_is one.kind other.kind kinded.0)
    ∙ ap (λ class. member other.kind class one.name one.descriptor) (text_is one.class other.class kinded.1)
    ∙ ap (λ name. member other.kind other.class name one.descriptor) (text_is one.name other.name held.1)
    ∙ ap (λ descriptor. member other.kind other.class other.name descriptor) (text_is one.descriptor other.descriptor named.1)

member_itself : (names : MemberNames) → same_member names names ≡ true
member_itself names =
    all _ _ (all _ _ (all _ _ (kind_itself names.kind) (text_itself names.class)) (text_itself names.name)) (text_itself names.descriptor)

pub same_is : (one other : Entry) → same one other ≡ true → one ≡ other
same_is (Text one) (Text other) is = ap Text (text_is one other is)
same_is (Int one) (Int other) is = ap Int ((Decides-int_eq one other).0 is)
same_is (Long one) (Long other) is = ap Long ((Decides-int_eq one other).0 is)
same_is (Class one) (Class other) is = ap Class (text_is one other is)
same_is (String one) (String other) is = ap String (text_is one other is)
same_is (NameAndType one type) (NameAndType other kind) is =
    let are = both _ _ is in
    ap (λ name. NameAndType name type) (text_is one other are.0) ∙ ap (λ descriptor. NameAndType other descriptor) (text_is type kind are.1)
same_is (Member one) (Member other) is = ap Member (member_is one other is)
same_is one other is = absurd (grind (arith, is))

pub same_itself : (entry : Entry) → same entry entry ≡ true
same_itself (Text text) = text_itself text
same_itself (Int number) = (Decides-int_eq number number).1 refl
same_itself (Long number) = (Decides-int_eq number number).1 refl
same_itself (Class name) = text_itself name
same_itself (String text) = text_itself text
same_itself (NameAndType name descriptor) = all _ _ (text_itself name) (text_itself descriptor)
same_itself (Member names) = member_itself names

-- a constant takes as many places as it has indices, and is at the first of them
pub taken_by : (entries : List Entry) (entry : Entry) → length (with_gap (constant_of entries entry)) ≡ indices_taken entry
taken_by entries (Text text) = refl
taken_by entries (Int number) = refl
taken_by entries (Long number) = refl
taken_by entries (Class name) = refl
taken_by entries (String text) = refl
taken_by entries (NameAndType name descriptor) = refl
taken_by entries (Member names) = of_kind names.kind _ _
  where
    of_kind : (kind : MemberKind) (one other : ℕ) → length (with_gap (member_of kind one other)) ≡ 1
    of_kind kinds.Field one other = refl
    of_kind kinds.Method one other = refl
    of_kind kinds.InterfaceMethod one other = refl

stands_first : (constant : Constant) (rest : List Constant) → slice_get (with_gap constant ++ rest) 0 ≡ Some constant
stands_first (constants.Long number) rest = refl
stands_first (constants.Double bits) rest = refl
stands_first constant rest = refl

-- how many indices are taken before a constant
before : List Entry → Entry → ℕ
before [] entry = 0
before (first ∷ entries) entry = if same first entry then 0 else indices_taken first + before entries entry

counted_on : (entries : List Entry) (entry : Entry) (index : ℕ) → index_from index entries entry ≡ index + before entries entry
unfolding before
counted_on [] entry index = omega arith
counted_on (first ∷ entries) entry index = by_test (same first entry) (counted_on entries entry (index + indices_taken first))
  where
    by_test : (test : Bool) → index_from (index + indices_taken first) entries entry ≡ index + indices_taken first + before entries entry
        → (if test then index else index_from (index + indices_taken first) entries entry) ≡ index + (if test then 0 else indices_taken first + before entries entry)
    by_test true rest = omega arith
    by_test false rest = omega (arith, rest)

behind : {Item : Type 0} (front rest : List Item) (place : ℕ) → slice_get (front ++ rest) (length front + place) ≡ slice_get rest place
behind [] rest place = ap (slice_get rest) (omega arith)
behind (item ∷ front) rest place = let next : length (item ∷ front) + place ≡ suc (length front + place) = omega arith in rw next (behind front rest place)

pools : List Entry → List Entry → List Constant
pools pool entries = flat_map (λ entry. with_gap (constant_of pool entry)) entries

found : (pool entries : List Entry) (entry : Entry) → list_any (λ first. same first entry) entries ≡ true
    → slice_get (pools pool entries) (before entries entry) ≡ Some (constant_of pool entry)
unfolding before pools
found pool [] entry is = absurd (grind (arith, is))
found pool (first ∷ entries) entry is = by_test (same first entry) refl is (found pool entries entry)
  where
    by_test : (test : Bool) → same first entry ≡ test → (test || list_any (λ first. same first entry) entries) ≡ true
        → (list_any (λ first. same first entry) entries ≡ true → slice_get (pools pool entries) (before entries entry) ≡ Some (constant_of pool entry))
        → slice_get (with_gap (constant_of pool first) ++ pools pool entries) (if test then 0 else indices_taken first + before entries entry) ≡ Some (constant_of pool entry)
    by_test true told there next = stands_first (constant_of pool first) (pools pool entries) ∙ ap (λ one. Some (constant_of pool one)) (same_is first entry told)
    by_test false told there next =
        ap (λ taken. slice_get (with_gap (constant_of pool first) ++ pools pool entries) (taken + before entries entry)) (sym (taken_by pool first))
        ∙ behind (with_gap (constant_of pool first)) (pools pool entries) (before entries entry)
        ∙ next there

pub among : (entries : List Entry) (entry : Entry) → Contains entries entry → list_any (λ first. same first entry) entries ≡ true
among entries entry there = list_any-from_Any (λ first. same first entry) entries (there.0, entry, there.1, there.2, same_itself entry)

pub at_its_index : (entries : List Entry) (entry : Entry) → list_any (λ first. same first entry) entries ≡ true
    → constant_at (pool_of entries) (index_of entries entry) ≡ Some (constant_of entries entry)
unfolding pools
at_its_index entries entry there =
    let next : index_of entries entry ≡ suc (before entries entry) = let counted = counted_on entries entry 1 in omega (arith, counted) in
    ap (constant_at (pool_of entries)) next ∙ found entries entries entry there

pub at_index : (entries : List Entry) (entry : Entry) → Contains entries entry
    → constant_at (pool_of entries) (index_of entries entry) ≡ Some (constant_of entries entry)
at_index entries entry there = at_its_index entries entry (among entries entry there)
