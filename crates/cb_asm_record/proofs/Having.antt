-- Which constants a pool has: those that are used, and their parts.
use Rattle.std.proofs.Common.{◌≡◌, ◌∙◌, ◌⊎◌, ap, sym, refl, subst, inl, inr, arith, Bool, true, false, ◌||◌, not, cond, List, [], ◌∷◌, ◌++◌}
use Rattle.std.specs.List.{filter, flat_map}
use Rattle.cb_asm_record.specs.Constants.{entries_of, firsts}
pub use Rattle.cb_asm_record.specs.Inner.{has}
use Rattle.cb_asm_record.specs.Entries.{Entry, Text, Int, Long, Class, String, NameAndType, Member, same, with_parts}
use Rattle.cb_asm_record.proofs.Pooling.{same_is, same_itself}

-- an entry is the first, or one of the others
pub or_is : (one other : Bool) → (one || other) ≡ true → (one ≡ true) ⊎ (other ≡ true)
or_is true other is = inl refl
or_is false other is = inr is

pub first_or : (first : Entry) (entries : List Entry) (entry : Entry) → has (first ∷ entries) entry ≡ true → (first ≡ entry) ⊎ (has entries entry ≡ true)
first_or first entries entry is = elim (or_is (same first entry) (has entries entry) is) [ inl told ↦ inl (same_is first entry told) | inr told ↦ inr told ]

-- what isn't the first stays where the first is taken out
kept : (first entry : Entry) (entries : List Entry) → same first entry ≡ false → has (filter (λ other. not (same first other)) entries) entry ≡ has entries entry
kept first entry [] differs = refl
kept first entry (other ∷ entries) differs = by_test (same first other) refl (kept first entry entries differs)
  where
    by_test : (test : Bool) → same first other ≡ test → has (filter (λ other. not (same first other)) entries) entry ≡ has entries entry
        → has (cond (not test) (other ∷ filter (λ other. not (same first other)) entries) (filter (λ other. not (same first other)) entries)) entry ≡ (same other entry || has entries entry)
    by_test false told next = ap (λ rest. same other entry || rest) next
    by_test true told next =
        let none : same other entry ≡ false = subst (λ one. same one entry ≡ false) (same_is first other told) differs in
        next ∙ ap (λ one. one || has entries entry) (sym none)

-- the same are there once and more often
pub in_firsts : (entries : List Entry) (entry : Entry) → has (firsts entries) entry ≡ has entries entry
in_firsts [] entry = refl
in_firsts (first ∷ entries) entry = by_test (same first entry) refl (in_firsts entries entry)
  where
    by_test : (test : Bool) → same first entry ≡ test → has (firsts entries) entry ≡ has entries entry
        → (test || has (filter (λ other. not (same first other)) (firsts entries)) entry) ≡ (test || has entries entry)
    by_test true told next = refl
    by_test false told next = kept first entry (firsts entries) told ∙ next

-- an entry is in one list or another
pub has_append : (one other : List Entry) (entry : Entry) → has (one ++ other) entry ≡ (has one entry || has other entry)
has_append [] other entry = refl
has_append (first ∷ one) other entry = ap (λ rest. same first entry || rest) (has_append one other entry) ∙ or_assoc (same first entry) (has one entry) (has other entry)
  where
    or_assoc : (a b c : Bool) → (a || (b || c)) ≡ ((a || b) || c)
    or_assoc true b c = refl
    or_assoc false b c = refl

-- what holds of each of some entries holds of one that is among them
EachOf : (Entry → Type 0) → List Entry → Type 0
EachOf P [] = Unit {0}
EachOf P (first ∷ entries) = P first × EachOf P entries

pick : (P : Entry → Type 0) (entries : List Entry) (entry : Entry) → has entries entry ≡ true → EachOf P entries → P entry
unfolding EachOf
pick P [] entry is each = absurd (grind (arith, is))
pick P (first ∷ entries) entry is each =
    elim (first_or first entries entry is) [ inl told ↦ subst P told each.0 | inr told ↦ pick P entries entry told each.1 ]

-- the parts of a part are parts
Within : Entry → Entry → Entry → Type 0
Within whole entry part = has (with_parts part) entry ≡ true → has (with_parts whole) entry ≡ true

each_within : (whole entry : Entry) → EachOf (Within whole entry) (with_parts whole)
unfolding EachOf Within
each_within (Text text) entry = (λ h. h, tt)
each_within (Int number) entry = (λ h. h, tt)
each_within (Long number) entry = (λ h. h, tt)
each_within (Class name) entry = (λ h. grind (arith, h), (λ h. h, tt))
each_within (String text) entry = (λ h. grind (arith, h), (λ h. h, tt))
each_within (NameAndType name descriptor) entry = (λ h. grind (arith, h), (λ h. grind (arith, h), (λ h. h, tt)))
each_within (Member member) entry =
    (λ h. grind (arith, h), (λ h. grind (arith, h), (λ h. grind (arith, h), (λ h. grind (arith, h), (λ h. grind (arith, h), (λ h. h, tt))))))

parts_of_part : (whole part entry : Entry) → has (with_parts whole) part ≡ true → has (with_parts part) entry ≡ true → has (with_parts whole) entry ≡ true
unfolding Within
parts_of_part whole part entry is = pick (Within whole entry) (with_parts whole) part is (each_within whole entry)

-- an entry that is used is there, and so are its parts
pub with_itself : (whole : Entry) → has (with_parts whole) whole ≡ true
with_itself (Text text) = grind (arith, same_itself (Text text))
with_itself (Int number) = grind (arith, same_itself (Int number))
with_itself (Long number) = grind (arith, same_itself (Long number))
with_itself (Class name) = grind (arith, same_itself (Class name))
with_itself (String text) = grind (arith, same_itself (String text))
with_itself (NameAndType name descriptor) = grind (arith, same_itself (NameAndType name descriptor))
with_itself (Member member) = grind (arith, same_itself (Member member))

pub right : (one other : Bool) → other ≡ true → (one || other) ≡ true
right true other is = refl
right false other is = is

closed_before : (used : List Entry) (part entry : Entry) → has (flat_map with_parts used) part ≡ true → has (with_parts part) entry ≡ true → has (flat_map with_parts used) entry ≡ true
closed_before [] part entry is are = absurd (grind (arith, is))
closed_before (first ∷ used) part entry is are =
    has_append (with_parts first) (flat_map with_parts used) entry
    ∙ elim (or_is _ _ (sym (has_append (with_parts first) (flat_map with_parts used) part) ∙ is)) [
      | inl here ↦ ap (λ one. one || has (flat_map with_parts used) entry) (parts_of_part first part entry here are)
      | inr there ↦ right (has (with_parts first) entry) _ (closed_before used part entry there are)
    ]

-- where a constant is there, so are its parts
pub closed : (used : List Entry) (part entry : Entry) → has (entries_of used) part ≡ true → has (with_parts part) entry ≡ true → has (entries_of used) entry ≡ true
closed used part entry is are =
    in_firsts (flat_map with_parts used) entry ∙ closed_before used part entry (sym (in_firsts (flat_map with_parts used) part) ∙ is) are
