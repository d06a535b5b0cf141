-- The pool of constants that are used one after the other, each behind its parts.
use Rattle.std.proofs.Common.{◌≡◌, ◌∙◌, ap, sym, refl, subst, inl, inr, arith, ℕ, ◌+◌, Bool, true, false, ◌||◌, not, cond, List, [], ◌∷◌, ◌++◌, length, Some, None, if◌then◌else◌, append-nil, length-append}
use Rattle.std.specs.List.{AllByRecursion, filter, flat_map}
use Rattle.std.proofs.lemmas.Grind.{flat_map-append}
use Rattle.cb_text.specs.declared.constant.Constant.{Constant}
use Rattle.cb_text.specs.declared.constant.Constant.TheVariants as constants
use Rattle.cb_text.specs.declared.naming.MemberKind.{MemberKind}
use Rattle.cb_text.specs.declared.naming.MemberKind.TheVariants as kinds
use Rattle.cb_text.specs.Pool.{AreLaidOut, Fits, HasIndices, IsPool, Names, IsText, IsClass, IsMember, with_gap}
use Rattle.cb_asm_record.specs.Constants.{constant_of, firsts, index_from, index_of, indices_taken, member_of, pool_of}
use Rattle.cb_asm_record.specs.Entries.{Entry, Text, Int, Long, Class, String, NameAndType, Member, same}
use Rattle.cb_asm_record.specs.Inner.{AreClosed, ArePartsOf, has, index_in, parts_of}
use Rattle.cb_asm_record.proofs.Alls.{all_both, all_front}
use Rattle.cb_asm_record.proofs.Growing.{firsts_both, index_stands, later}
use Rattle.cb_asm_record.proofs.Having.{first_or, has_append, in_firsts, or_is, right}
use Rattle.cb_asm_record.proofs.Pooling.{at_its_index, same_is, same_itself, taken_by}

-- what is used last is new, or there already
later_one : (used : List Entry) (entry : Entry) → later used (entry ∷ []) ≡ (if has used entry then [] else entry ∷ [])
unfolding later
later_one [] entry = refl
later_one (first ∷ used) entry = rw (later_one used entry) (by_tests (has used entry) (same first entry) refl)
  where
    by_tests : (there is : Bool) → same first entry ≡ is
        → filter (λ other. not (same first other)) (if there then [] else entry ∷ []) ≡ (if is || there then [] else entry ∷ [])
    by_tests true true told = refl
    by_tests true false told = refl
    by_tests false true told = ap (λ test. cond (not test) (entry ∷ []) []) told
    by_tests false false told = ap (λ test. cond (not test) (entry ∷ []) []) told

pub firsts_old : (used : List Entry) (entry : Entry) → has (firsts used) entry ≡ true → firsts (used ++ entry ∷ []) ≡ firsts used
firsts_old used entry there =
    firsts_both used (entry ∷ [])
    ∙ ap (λ rest. firsts used ++ rest) (later_one used entry ∙ ap (λ test. if test then [] else entry ∷ []) (sym (in_firsts used entry) ∙ there))
    ∙ append-nil (firsts used)

pub firsts_new : (used : List Entry) (entry : Entry) → has (firsts used) entry ≡ false → firsts (used ++ entry ∷ []) ≡ firsts used ++ entry ∷ []
firsts_new used entry there =
    firsts_both used (entry ∷ [])
    ∙ ap (λ rest. firsts used ++ rest) (later_one used entry ∙ ap (λ test. if test then [] else entry ∷ []) (sym (in_firsts used entry) ∙ there))

-- what is used later moves no index
index_kept : (used more : List Entry) (entry : Entry) → has used entry ≡ true → index_of (firsts (used ++ more)) entry ≡ index_of (firsts used) entry
index_kept used more entry there =
    ap (λ all. index_of all entry) (firsts_both used more)
    ∙ index_stands (firsts used) (later used more) entry 1 (in_firsts used entry ∙ there)

-- so a constant whose parts are there stays as it is
pub constant_kept : (used more : List Entry) (entry : Entry) → ArePartsOf used entry → constant_of (firsts (used ++ more)) entry ≡ constant_of (firsts used) entry
constant_kept used more (Text text) parts = refl
constant_kept used more (Int number) parts = refl
constant_kept used more (Long number) parts = refl
constant_kept used more (Class name) parts = ap constants.Class (index_kept used more (Text name) (parts (Text name) (grind (arith, same_itself (Text name)))))
constant_kept used more (String text) parts = ap constants.String (index_kept used more (Text text) (parts (Text text) (grind (arith, same_itself (Text text)))))
constant_kept used more (NameAndType name descriptor) parts =
    ap (λ index. constants.NameAndType index (index_of (firsts (used ++ more)) (Text descriptor))) (index_kept used more (Text name) (parts (Text name) (grind (arith, same_itself (Text name)))))
    ∙ ap (λ index. constants.NameAndType (index_of (firsts used) (Text name)) index) (index_kept used more (Text descriptor) (parts (Text descriptor) (grind (arith, same_itself (Text descriptor)))))
constant_kept used more (Member member) parts =
    let class = Class member.class in
    let type = NameAndType member.name member.descriptor in
    ap (λ index. member_of member.kind index (index_of (firsts (used ++ more)) type)) (index_kept used more class (parts class (grind (arith, same_itself class))))
    ∙ ap (λ index. member_of member.kind (index_of (firsts used) class) index) (index_kept used more type (parts type (grind (arith, same_itself type))))

-- functions that agree on the items of a list
flat_map_same : {Item : Type 0} (f g : Entry → List Item) (entries : List Entry) → ((entry : Entry) → has entries entry ≡ true → f entry ≡ g entry) → flat_map f entries ≡ flat_map g entries
flat_map_same f g [] agree = refl
flat_map_same f g (entry ∷ entries) agree =
    ap (λ front. front ++ flat_map f entries) (agree entry (ap (λ test. test || has entries entry) (same_itself entry)))
    ∙ ap (λ rest. g entry ++ rest) (flat_map_same f g entries (λ other there. agree other (right (same entry other) _ there)))

parts_within : (used : List Entry) (entry : Entry) → AreClosed used → has used entry ≡ true → ArePartsOf used entry
parts_within used entry closed there = λ part is. closed entry part there is

-- the pool of constants begins that of these and more
pub pool_kept : (used more : List Entry) → AreClosed used
    → pool_of (firsts (used ++ more)) ≡ pool_of (firsts used) ++ flat_map (λ entry. with_gap (constant_of (firsts (used ++ more)) entry)) (later used more)
pool_kept used more closed =
    let gapped : Entry → List Constant = λ entry. with_gap (constant_of (firsts (used ++ more)) entry) in
    ap (flat_map gapped) (firsts_both used more)
    ∙ flat_map-append gapped (firsts used) (later used more)
    ∙ ap (λ front. front ++ flat_map gapped (later used more))
    (flat_map_same gapped (λ entry. with_gap (constant_of (firsts used) entry)) (firsts used)
    (λ entry there. ap with_gap (constant_kept used more entry (parts_within used entry closed (sym (in_firsts used entry) ∙ there)))))

pub pool_more : (used : List Entry) (entry : Entry) → AreClosed used → ArePartsOf used entry → has (firsts used) entry ≡ false
    → pool_of (firsts (used ++ entry ∷ [])) ≡ pool_of (firsts used) ++ with_gap (constant_of (firsts used) entry)
pool_more used entry closed parts new =
    pool_kept used (entry ∷ []) closed
    ∙ ap (λ rest. pool_of (firsts used) ++ flat_map (λ one. with_gap (constant_of (firsts (used ++ entry ∷ [])) one)) rest) (later_one used entry ∙ ap (λ test. if test then [] else entry ∷ []) (sym (in_firsts used entry) ∙ new))
    ∙ ap (λ rest. pool_of (firsts used) ++ rest) (append-nil _ ∙ ap with_gap (constant_kept used (entry ∷ []) entry parts))

-- a pool's constants are laid out
gapped_laid : (entries : List Entry) (entry : Entry) (rest : List Constant) → AreLaidOut rest → AreLaidOut (with_gap (constant_of entries entry) ++ rest)
gapped_laid entries (Text text) rest laid = laid
gapped_laid entries (Int number) rest laid = laid
gapped_laid entries (Long number) rest laid = laid
gapped_laid entries (Class name) rest laid = laid
gapped_laid entries (String text) rest laid = laid
gapped_laid entries (NameAndType name descriptor) rest laid = laid
gapped_laid entries (Member member) rest laid = of_kind member.kind _ _
  where
    of_kind : (kind : MemberKind) (one other : ℕ) → AreLaidOut (with_gap (member_of kind one other) ++ rest)
    of_kind kinds.Field one other = laid
    of_kind kinds.Method one other = laid
    of_kind kinds.InterfaceMethod one other = laid

all_laid : (entries some : List Entry) → AreLaidOut (flat_map (λ entry. with_gap (constant_of entries entry)) some)
all_laid entries [] = tt
all_laid entries (entry ∷ some) = gapped_laid entries entry _ (all_laid entries some)

-- and their indices name what they should
names : (entries : List Entry) (entry : Entry) (Is : Constant → Type 0) → has entries entry ≡ true → Is (constant_of entries entry) → Names (pool_of entries) (index_of entries entry) Is
names entries entry Is there is = rw (at_its_index entries entry there) is

indexed : (used : List Entry) (entry : Entry) → ArePartsOf used entry → AllByRecursion (HasIndices (pool_of (firsts used))) (with_gap (constant_of (firsts used) entry))
indexed used (Text text) parts = (tt, tt)
indexed used (Int number) parts = (tt, tt)
indexed used (Long number) parts = (tt, (tt, tt))
indexed used (Class name) parts = (named_text used name parts (grind (arith, same_itself (Text name))), tt)
  where
    named_text : (used : List Entry) (text : List ℕ) → ArePartsOf used (Class text) → has (parts_of (Class text)) (Text text) ≡ true → Names (pool_of (firsts used)) (index_of (firsts used) (Text text)) IsText
    named_text used text parts is = names (firsts used) (Text text) IsText (in_firsts used (Text text) ∙ parts (Text text) is) tt
indexed used (String text) parts =
    (names (firsts used) (Text text) IsText (in_firsts used (Text text) ∙ parts (Text text) (grind (arith, same_itself (Text text)))) tt, tt)
indexed used (NameAndType name descriptor) parts = (
  (
    names (firsts used) (Text name) IsText (in_firsts used (Text name) ∙ parts (Text name) (grind (arith, same_itself (Text name)))) tt,
    names (firsts used) (Text descriptor) IsText (in_firsts used (Text descriptor) ∙ parts (Text descriptor) (grind (arith, same_itself (Text descriptor)))) tt,
  ),
  tt,
)
indexed used (Member member) parts =
    of_kind member.kind _ _
    (names (firsts used) (Class member.class) IsClass (in_firsts used (Class member.class) ∙ parts (Class member.class) (grind (arith, same_itself (Class member.class)))) tt)
    (names (firsts used) (NameAndType member.name member.descriptor) IsMember (in_firsts used (NameAndType member.name member.descriptor) ∙ parts (NameAndType member.name member.descriptor) (grind (arith, same_itself (NameAndType member.name member.descriptor)))) tt)
  where
    of_kind : (kind : MemberKind) (one other : ℕ) → Names (pool_of (firsts used)) one IsClass → Names (pool_of (firsts used)) other IsMember
        → AllByRecursion (HasIndices (pool_of (firsts used))) (with_gap (member_of kind one other))
    of_kind kinds.Field one other class type = ((class, type), tt)
    of_kind kinds.Method one other class type = ((class, type), tt)
    of_kind kinds.InterfaceMethod one other class type = ((class, type), tt)

each_indexed : (used some : List Entry) → ((entry : Entry) → has some entry ≡ true → ArePartsOf used entry)
    → AllByRecursion (HasIndices (pool_of (firsts used))) (flat_map (λ entry. with_gap (constant_of (firsts used) entry)) some)
each_indexed used [] parts = tt
each_indexed used (entry ∷ some) parts =
    all_both _ _ _ (indexed used entry (parts entry (ap (λ test. test || has some entry) (same_itself entry))))
    (each_indexed used some (λ other there. parts other (right (same entry other) _ there)))

-- so where more make a pool, these do
pub pool_before : (used : List Entry) (rest : List Constant) → AreClosed used → IsPool (pool_of (firsts used) ++ rest) → IsPool (pool_of (firsts used))
pool_before used rest closed pool = record {
  spelled = refl;
  counted = let counted = pool.counted in omega (arith, counted, length-append (pool_of (firsts used)) rest);
  fit = all_front Fits (pool_of (firsts used)) rest pool.fit;
  laid_out = all_laid (firsts used) (firsts used);
  indexed = each_indexed used (firsts used) (λ entry there. parts_within used entry closed (sym (in_firsts used entry) ∙ there));
}

-- the index of a constant that isn't there is that of the next
missing : (pool entries : List Entry) (entry : Entry) (index : ℕ) → has entries entry ≡ false
    → index_from index entries entry ≡ index + length (flat_map (λ one. with_gap (constant_of pool one)) entries)
missing pool [] entry index new = omega arith
missing pool (first ∷ entries) entry index new = by_test (same first entry) new (missing pool entries entry (index + indices_taken first))
  where
    by_test : (test : Bool) → (test || has entries entry) ≡ false
        → (has entries entry ≡ false → index_from (index + indices_taken first) entries entry ≡ index + indices_taken first + length (flat_map (λ one. with_gap (constant_of pool one)) entries))
        → (if test then index else index_from (index + indices_taken first) entries entry) ≡ index + length (with_gap (constant_of pool first) ++ flat_map (λ one. with_gap (constant_of pool one)) entries)
    by_test true new rest = absurd (grind (arith, new))
    by_test false new rest =
        let next = rest new in
        omega (arith, next, taken_by pool first, length-append (with_gap (constant_of pool first)) (flat_map (λ one. with_gap (constant_of pool one)) entries))

pub index_missing : (entries : List Entry) (entry : Entry) → has entries entry ≡ false → index_of entries entry ≡ length (pool_of entries) + 1
index_missing entries entry new = let counted = missing entries entries entry 1 new in omega (arith, counted)

index_last : (entries : List Entry) (entry : Entry) (index : ℕ) → has entries entry ≡ false → index_from index (entries ++ entry ∷ []) entry ≡ index_from index entries entry
index_last [] entry index new = ap (λ test. if test then index else index + indices_taken entry) (same_itself entry)
index_last (first ∷ entries) entry index new = by_test (same first entry) new (index_last entries entry (index + indices_taken first))
  where
    by_test : (test : Bool) → (test || has entries entry) ≡ false
        → (has entries entry ≡ false → index_from (index + indices_taken first) (entries ++ entry ∷ []) entry ≡ index_from (index + indices_taken first) entries entry)
        → (if test then index else index_from (index + indices_taken first) (entries ++ entry ∷ []) entry) ≡ (if test then index else index_from (index + indices_taken first) entries entry)
    by_test true new rest = absurd (grind (arith, new))
    by_test false new rest = rest new

-- the indices with one more constant
pub index_in_more : (entries : List Entry) (entry other : Entry) → has entries entry ≡ false
    → index_in (entries ++ entry ∷ []) other ≡ cond (same entry other) (Some (length (pool_of entries) + 1)) (index_in entries other)
index_in_more entries entry other new = by_tests (same entry other) refl (has entries other) refl
  where
    found : has (entries ++ entry ∷ []) other ≡ (has entries other || (same entry other || false))
    found = has_append entries (entry ∷ []) other

    by_tests : (is : Bool) → same entry other ≡ is → (there : Bool) → has entries other ≡ there
        → index_in (entries ++ entry ∷ []) other ≡ cond is (Some (length (pool_of entries) + 1)) (index_in entries other)
    by_tests true is there told =
        let one : entry ≡ other = same_is entry other is in
        subst (λ one. index_in (entries ++ entry ∷ []) one ≡ Some (length (pool_of entries) + 1)) one
        (ap (λ test. if test then Some (index_of (entries ++ entry ∷ []) entry) else None) (has_append entries (entry ∷ []) entry ∙ right (has entries entry) _ (ap (λ test. test || false) (same_itself entry)))
        ∙ ap Some (index_last entries entry 1 new ∙ index_missing entries entry new))
    by_tests false is true told =
        ap (λ test. if test then Some (index_of (entries ++ entry ∷ []) other) else None) (found ∙ ap (λ test. test || (same entry other || false)) told)
        ∙ ap Some (index_stands entries (entry ∷ []) other 1 told)
        ∙ sym (ap (λ test. if test then Some (index_of entries other) else None) told)
    by_tests false is false told =
        ap (λ test. if test then Some (index_of (entries ++ entry ∷ []) other) else None) (found ∙ ap (λ test. test || (same entry other || false)) told ∙ ap (λ test. test || false) is)
        ∙ sym (ap (λ test. if test then Some (index_of entries other) else None) told)

-- constants with one more whose parts are there are closed
pub closed_more : (used : List Entry) (entry : Entry) → AreClosed used → ArePartsOf used entry → AreClosed (used ++ entry ∷ [])
closed_more used entry closed parts = λ part other there is.
    elim (or_is _ _ (sym (has_append used (entry ∷ []) part) ∙ there)) [
      | inl before ↦ has_append used (entry ∷ []) other ∙ ap (λ test. test || has (entry ∷ []) other) (closed part other before is)
      | inr last ↦ has_append used (entry ∷ []) other ∙ ap (λ test. test || has (entry ∷ []) other) (parts other (subst (λ one. has (parts_of one) other ≡ true) (sym (itself part last)) is))
    ]
  where
    itself : (part : Entry) → has (entry ∷ []) part ≡ true → entry ≡ part
    itself part is = elim (first_or entry [] part is) [ inl told ↦ told | inr none ↦ absurd (grind (arith, none)) ]
