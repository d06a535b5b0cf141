-- A pool grows at its end: what is used later moves no index.
use Rattle.std.proofs.Common.{◌≡◌, ◌∙◌, ap, refl, arith, ℕ, ◌+◌, Bool, true, false, ◌||◌, not, List, [], ◌∷◌, ◌++◌, if◌then◌else◌}
use Rattle.std.specs.List.{filter, flat_map}
use Rattle.std.proofs.lemmas.Grind.{flat_map-append}
use Rattle.std.proofs.lemmas.List.Elements.{filter-append}
use Rattle.cb_asm_record.specs.Constants.{entries_of, firsts, index_of, index_from, indices_taken}
use Rattle.cb_asm_record.specs.Entries.{Entry, same, with_parts}
use Rattle.cb_asm_record.proofs.Having.{has}

-- what is first in the second of two lists, and isn't in the first
unfoldable pub later : List Entry → List Entry → List Entry
later [] other = firsts other
later (first ∷ one) other = filter (λ entry. not (same first entry)) (later one other)

pub firsts_both : (one other : List Entry) → firsts (one ++ other) ≡ firsts one ++ later one other
unfolding later
firsts_both [] other = refl
firsts_both (first ∷ one) other =
    ap (λ rest. first ∷ filter (λ entry. not (same first entry)) rest) (firsts_both one other)
    ∙ ap (λ rest. first ∷ rest) (filter-append (λ entry. not (same first entry)) (firsts one) (later one other))

pub index_stands : (entries more : List Entry) (entry : Entry) (index : ℕ) → has entries entry ≡ true → index_from index (entries ++ more) entry ≡ index_from index entries entry
index_stands [] more entry index there = absurd (grind (arith, there))
index_stands (first ∷ entries) more entry index there = by_test (same first entry) there (index_stands entries more entry (index + indices_taken first))
  where
    by_test : (test : Bool) → (test || has entries entry) ≡ true
        → (has entries entry ≡ true → index_from (index + indices_taken first) (entries ++ more) entry ≡ index_from (index + indices_taken first) entries entry)
        → (if test then index else index_from (index + indices_taken first) (entries ++ more) entry) ≡ (if test then index else index_from (index + indices_taken first) entries entry)
    by_test true there next = refl
    by_test false there next = next there

pub index_stays : (used more : List Entry) (entry : Entry) → has (entries_of used) entry ≡ true → index_of (entries_of (used ++ more)) entry ≡ index_of (entries_of used) entry
index_stays used more entry there =
    ap (λ all. index_of (firsts all) entry) (flat_map-append with_parts used more)
    ∙ ap (λ all. index_of all entry) (firsts_both (flat_map with_parts used) (flat_map with_parts more))
    ∙ index_stands (firsts (flat_map with_parts used)) (later (flat_map with_parts used) (flat_map with_parts more)) entry 1 there
