-- What a program uses is read back from its record.
use Rattle.std.proofs.Common.{◌≡◌, ◌∙◌, ap, refl, subst, inl, inr, arith, Bool, true, false, ◌||◌, List, [], ◌∷◌, ◌++◌}
use Rattle.std.specs.List.{AllByRecursion, flat_map}
use Rattle.cb_asm_record.specs.Constants.{entries_of, pool_of}
use Rattle.cb_asm_record.specs.Entries.{Entry, same, with_parts}
use Rattle.cb_asm_record.proofs.Laws.{at_its_index, class_read, first_or, has, in_firsts, member_read, same_itself, string_read, text_read, with_itself}
use Rattle.cb_asm_back.proofs.Lists.{weaker}
use Rattle.cb_asm_back.proofs.Numbers.{or_right}
use Rattle.cb_asm_back.proofs.Relabelling.{AreRead, IsRead, Says}

-- an entry of one list or another
has_left : (one other : List Entry) (entry : Entry) → has one entry ≡ true → has (one ++ other) entry ≡ true
has_left [] other entry is = absurd (grind (arith, is))
has_left (first ∷ one) other entry is = by_test (same first entry) is (has_left one other entry)
  where
    by_test : (test : Bool) → (test || has one entry) ≡ true → (has one entry ≡ true → has (one ++ other) entry ≡ true) → (test || has (one ++ other) entry) ≡ true
    by_test true is next = refl
    by_test false is next = next is

has_right : (one other : List Entry) (entry : Entry) → has other entry ≡ true → has (one ++ other) entry ≡ true
has_right [] other entry is = is
has_right (first ∷ one) other entry is = or_right (same first entry) _ (has_right one other entry is)

-- what is used is among the parts, and so in the pool
in_parts : (used : List Entry) (entry : Entry) → has used entry ≡ true → has (flat_map with_parts used) entry ≡ true
in_parts [] entry is = absurd (grind (arith, is))
in_parts (first ∷ used) entry is =
    elim (first_or first used entry is) [
      | inl here ↦ has_left (with_parts first) (flat_map with_parts used) entry (subst (λ one. has (with_parts first) one ≡ true) here (with_itself first))
      | inr there ↦ has_right (with_parts first) (flat_map with_parts used) entry (in_parts used entry there)
    ]

in_pool : (used : List Entry) (entry : Entry) → has used entry ≡ true → has (entries_of used) entry ≡ true
in_pool used entry is = in_firsts (flat_map with_parts used) entry ∙ in_parts used entry is

says : (used : List Entry) (entry : Entry) → has (entries_of used) entry ≡ true → Says (pool_of (entries_of used)) (entries_of used) entry
says used (Entry.Text text) there = text_read used text there
says used (Entry.Class name) there = class_read used name there
says used (Entry.String text) there = string_read used text there
says used (Entry.Member member) there = member_read used member there
says used entry there = tt

is_read : (used : List Entry) (entry : Entry) → has used entry ≡ true → IsRead (pool_of (entries_of used)) (entries_of used) entry
is_read used entry is = let there = in_pool used entry is in (at_its_index (entries_of used) entry there, says used entry there)

each_has : (used : List Entry) → AllByRecursion (λ entry. has used entry ≡ true) used
each_has [] = tt
each_has (first ∷ used) = (
  ap (λ test. test || has used first) (same_itself first),
  weaker (λ entry. has used entry ≡ true) (λ entry. has (first ∷ used) entry ≡ true) (λ entry is. or_right (same first entry) (has used entry) is) used (each_has used),
)

pub used_read : (used : List Entry) → AreRead (pool_of (entries_of used)) (entries_of used) used
used_read used = weaker (λ entry. has used entry ≡ true) (IsRead (pool_of (entries_of used)) (entries_of used)) (is_read used) used (each_has used)
