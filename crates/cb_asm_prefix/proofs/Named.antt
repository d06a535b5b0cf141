-- The pool of what is used is a pool where one that grew from it is, and its names follow their grammars.
use Rattle.std.proofs.Common.{inl, inr, ap, sym, refl, subst, arith, ℕ, List, [], ◌∷◌, ◌++◌, length, length-append, IsSomeAnd}
use Rattle.std.specs.List.{AllByRecursion, flat_map}
use Rattle.cb_text.specs.declared.constant.Constant.{Constant}
use Rattle.cb_text.specs.declared.constant.Constant.TheVariants as constants
use Rattle.cb_text.specs.declared.naming.MemberKind.{MemberKind}
use Rattle.cb_text.specs.declared.naming.MemberKind.TheVariants as kinds
use Rattle.cb_text.specs.Pool.{AreLaidOut, Fits, HasIndices, IsClass, IsMember, IsPool, IsText, Names, with_gap}
use Rattle.cb_classfile.specs.Pool.{AreNamed, IsNamed, NamesClassMethod, NamesField, NamesMethod}
use Rattle.cb_classfile.proofs.Laws.{all_each}
use Rattle.cb_asm_record.specs.Constants.{constant_of, entries_of, member_of}
use Rattle.cb_asm_record.specs.Entries.{Entry, Text, Int, Long, Class, String, NameAndType, Member}
use Rattle.cb_asm_record.proofs.Laws.{at_its_index}
use Rattle.cb_asm_prefix.proofs.Lists.{all_flat, all_front, all_of_flat, all_two}
use Rattle.cb_asm_prefix.proofs.Pools.{Has, all_had, both_of_member, class_of_member, descriptor_of_both, grows, name_of_both, text_of_class, text_of_string}
use Rattle.cb_asm_prefix.proofs.Standing.{Pool, at, class_method_goes, field_names_go, member_goes, method_names_go, same_text, text_goes}

-- a constant with its gap
all_gap : (P Q : Constant → Type 0) (constant : Constant) → (P constant → Q constant) → Q constants.Gap → AllByRecursion P (with_gap constant) → AllByRecursion Q (with_gap constant)
all_gap P Q (constants.Long number) goes gap all = (goes all.0, (gap, tt))
all_gap P Q (constants.Double bits) goes gap all = (goes all.0, (gap, tt))
all_gap P Q constant goes gap all = (goes all.0, tt)

any_gap : (Q : Constant → Type 0) (constant : Constant) → Q constant → Q constants.Gap → AllByRecursion Q (with_gap constant)
any_gap Q (constants.Long number) here gap = (here, (gap, tt))
any_gap Q (constants.Double bits) here gap = (here, (gap, tt))
any_gap Q constant here gap = (here, tt)

-- the names of a constant
named_goes : (used more : List Entry) (entry : Entry) → Has used entry → IsNamed (Pool (used ++ more)) (constant_of (entries_of used) entry) → IsNamed (Pool used) (constant_of (entries_of used) entry)
named_goes used more (Text text) there named = tt
named_goes used more (Int number) there named = tt
named_goes used more (Long number) there named = tt
named_goes used more (String text) there named = tt
named_goes used more (Class name) there named = text_goes _ (same_text used more name (text_of_class used name there)) named
named_goes used more (NameAndType name descriptor) there named =
    let one = same_text used more name (name_of_both used name descriptor there) in
    let other = same_text used more descriptor (descriptor_of_both used name descriptor there) in
    elim named [ inl field ↦ inl (field_names_go one other field) | inr method ↦ inr (method_names_go one other method) ]
named_goes used more (Member member) there named = of_kind member.kind named where
  both : Has used (NameAndType member.name member.descriptor)
  both = both_of_member used member there

  of_kind : (kind : MemberKind) → IsNamed (Pool (used ++ more)) (member_of kind (at used (Class member.class)) (at used (NameAndType member.name member.descriptor))) → IsNamed (Pool used) (member_of kind (at used (Class member.class)) (at used (NameAndType member.name member.descriptor)))
  of_kind kinds.Field named =
      member_goes used more member.name member.descriptor (NamesField (Pool (used ++ more))) (NamesField (Pool used)) both (field_names_go (same_text used more member.name (name_of_both used member.name member.descriptor both)) (same_text used more member.descriptor (descriptor_of_both used member.name member.descriptor both))) named
  of_kind kinds.Method named =
      member_goes used more member.name member.descriptor (NamesClassMethod (Pool (used ++ more))) (NamesClassMethod (Pool used)) both (class_method_goes (same_text used more member.name (name_of_both used member.name member.descriptor both)) (same_text used more member.descriptor (descriptor_of_both used member.name member.descriptor both))) named
  of_kind kinds.InterfaceMethod named =
      member_goes used more member.name member.descriptor (NamesMethod (Pool (used ++ more))) (NamesMethod (Pool used)) both (method_names_go (same_text used more member.name (name_of_both used member.name member.descriptor both)) (same_text used more member.descriptor (descriptor_of_both used member.name member.descriptor both))) named

pub are_named : (used more : List Entry) → AreNamed (Pool (used ++ more)) → AreNamed (Pool used)
are_named used more named =
    let grown = grows used more in
    let constants = λ (entry : Entry). with_gap (constant_of (entries_of used) entry) in
    let front = all_front (IsNamed (Pool (used ++ more))) (Pool used) grown.rest (subst (AllByRecursion (IsNamed (Pool (used ++ more)))) grown.is named) in
    all_flat (IsNamed (Pool used)) constants (entries_of used) (
    all_two (Has used) (λ entry. AllByRecursion (IsNamed (Pool (used ++ more))) (constants entry)) (λ entry. AllByRecursion (IsNamed (Pool used)) (constants entry))
    (λ entry there all. all_gap (IsNamed (Pool (used ++ more))) (IsNamed (Pool used)) (constant_of (entries_of used) entry) (named_goes used more entry there) tt all)
    (entries_of used) (all_had used) (all_of_flat (IsNamed (Pool (used ++ more))) constants (entries_of used) front)
    )

-- the indices of a constant
names : (used : List Entry) (IsKind : Constant → Type 0) (entry : Entry) → Has used entry → IsKind (constant_of (entries_of used) entry) → Names (Pool used) (at used entry) IsKind
names used IsKind entry there is = subst (λ found. IsSomeAnd found IsKind) (sym (at_its_index (entries_of used) entry there)) is

indexed : (used : List Entry) (entry : Entry) → Has used entry → HasIndices (Pool used) (constant_of (entries_of used) entry)
indexed used (Text text) there = tt
indexed used (Int number) there = tt
indexed used (Long number) there = tt
indexed used (String text) there = names used IsText (Text text) (text_of_string used text there) tt
indexed used (Class name) there = names used IsText (Text name) (text_of_class used name there) tt
indexed used (NameAndType name descriptor) there =
    (names used IsText (Text name) (name_of_both used name descriptor there) tt, names used IsText (Text descriptor) (descriptor_of_both used name descriptor there) tt)
indexed used (Member member) there = of_kind member.kind where
  both : Names (Pool used) (at used (Class member.class)) IsClass × Names (Pool used) (at used (NameAndType member.name member.descriptor)) IsMember
  both =
      (names used IsClass (Class member.class) (class_of_member used member there) tt, names used IsMember (NameAndType member.name member.descriptor) (both_of_member used member there) tt)

  of_kind : (kind : MemberKind) → HasIndices (Pool used) (member_of kind (at used (Class member.class)) (at used (NameAndType member.name member.descriptor)))
  of_kind kinds.Field = both
  of_kind kinds.Method = both
  of_kind kinds.InterfaceMethod = both

-- gaps stand where they should
laid_out : (pool : List Entry) (entries : List Entry) → AreLaidOut (flat_map (λ entry. with_gap (constant_of pool entry)) entries)
laid_out pool [] = tt
laid_out pool (Text text ∷ entries) = laid_out pool entries
laid_out pool (Int number ∷ entries) = laid_out pool entries
laid_out pool (Long number ∷ entries) = laid_out pool entries
laid_out pool (Class name ∷ entries) = laid_out pool entries
laid_out pool (String text ∷ entries) = laid_out pool entries
laid_out pool (NameAndType name descriptor ∷ entries) = laid_out pool entries
laid_out pool (Member member ∷ entries) = of_kind member.kind _ _ _ (laid_out pool entries) where
  of_kind : (kind : MemberKind) (holder names : ℕ) (rest : List Constant) → AreLaidOut rest → AreLaidOut (with_gap (member_of kind holder names) ++ rest)
  of_kind kinds.Field holder names rest laid = laid
  of_kind kinds.Method holder names rest laid = laid
  of_kind kinds.InterfaceMethod holder names rest laid = laid

pub is_pool : (used more : List Entry) → IsPool (Pool (used ++ more)) → IsPool (Pool used)
is_pool used more pool =
    let grown = grows used more in
    record {
      spelled = refl;
      counted = omega (arith, pool.counted, ap length grown.is, length-append (Pool used) grown.rest);
      fit = all_front Fits (Pool used) grown.rest (subst (AllByRecursion Fits) grown.is pool.fit);
      laid_out = laid_out (entries_of used) (entries_of used);
      indexed =
          all_flat (HasIndices (Pool used)) (λ entry. with_gap (constant_of (entries_of used) entry)) (entries_of used) (
          all_each (Has used) (λ entry. AllByRecursion (HasIndices (Pool used)) (with_gap (constant_of (entries_of used) entry)))
          (λ entry there. any_gap (HasIndices (Pool used)) (constant_of (entries_of used) entry) (indexed used entry there) tt)
          (entries_of used) (all_had used)
          );
    }
