-- What is made of parts has a spelling where its parts do.
use Rattle.std.proofs.Common.{◌≡◌, ◌≢◌, ℕ, zero, suc, true, false, ◌==◌, ◌^◌, ◌<◌, List, [], ◌∷◌, ◌++◌, length, get_or, refl, sym, arith}
use Rattle.std.proofs.lemmas.Bool.{eqb-true, false≢true}
use Rattle.std.specs.List.{AllByRecursion}
use Rattle.cb_classfile.specs.Tables.{u2, SpellsCount, SpellsEach, SpellsTable, ThenOf}
use Rattle.cb_writer.specs.Formed.{HasSpelling}

-- an item, and one behind it
pub both_have : {Item Next : Type 0} {Spells : List ℕ → Item → Type 0} {Behind : Item → List ℕ → Next → Type 0} {pair : Item × Next} → HasSpelling Spells pair.0 → HasSpelling (Behind pair.0) pair.1 → HasSpelling (ThenOf Spells Behind) pair
both_have one other = record {
  bytes = one.bytes ++ other.bytes;
  spelled = record { first = one.bytes; second = other.bytes; spelled = refl; here = one.spelled; behind = other.spelled };
}

pub first_has : {Item Next : Type 0} {Spells : List ℕ → Item → Type 0} {Behind : Item → List ℕ → Next → Type 0} {pair : Item × Next} → HasSpelling (ThenOf Spells Behind) pair → HasSpelling Spells pair.0
first_has both = record { bytes = both.spelled.first; spelled = both.spelled.here }

pub second_has : {Item Next : Type 0} {Spells : List ℕ → Item → Type 0} {Behind : Item → List ℕ → Next → Type 0} {pair : Item × Next} → HasSpelling (ThenOf Spells Behind) pair → HasSpelling (Behind pair.0) pair.1
second_has both = record { bytes = both.spelled.second; spelled = both.spelled.behind }

-- items, one after the other
pub each_has : {Item : Type 0} (Spells : List ℕ → Item → Type 0) (items : List Item) → AllByRecursion (HasSpelling Spells) items → HasSpelling (SpellsEach Spells) items
each_has Spells [] all = record { bytes = []; spelled = refl }
each_has Spells (item ∷ items) all =
    let more = each_has Spells items all.1 in
    record { bytes = all.0.bytes ++ more.bytes; spelled = (all.0.bytes, more.bytes, all.0.spelled, more.spelled, refl) }

pub of_each : {Item : Type 0} (Spells : List ℕ → Item → Type 0) (items : List Item) (bytes : List ℕ) → SpellsEach Spells bytes items → AllByRecursion (HasSpelling Spells) items
of_each Spells [] bytes none = tt
of_each Spells (item ∷ items) bytes (first, rest, spelled, more, split) = (record { bytes = first; spelled = spelled }, of_each Spells items rest more)

-- a table, and so many items
pub table_has : {Item : Type 0} (Spells : List ℕ → Item → Type 0) (items : List Item) → length items < 2 ^ 16 → AllByRecursion (HasSpelling Spells) items → HasSpelling (SpellsTable Spells) items
table_has Spells items few all =
    let each = each_has Spells items all in
    record {
      bytes = u2 (length items) ++ each.bytes;
      spelled = record { entries = each.bytes; spelled = refl; counted = few; each = each.spelled };
    }

pub of_table : {Item : Type 0} {Spells : List ℕ → Item → Type 0} {items : List Item} → HasSpelling (SpellsTable Spells) items → AllByRecursion (HasSpelling Spells) items
of_table {Item} {Spells} {items} table = of_each Spells items table.spelled.entries table.spelled.each

pub count_has : {Item : Type 0} (Spells : List ℕ → Item → Type 0) (count : ℕ) (items : List Item) → length items ≡ count → AllByRecursion (HasSpelling Spells) items → HasSpelling (SpellsCount Spells count) items
count_has Spells count items counted all =
    let each = each_has Spells items all in
    record { bytes = each.bytes; spelled = record { counted = counted; each = each.spelled } }

pub of_count : {Item : Type 0} {Spells : List ℕ → Item → Type 0} {count : ℕ} {items : List Item} → HasSpelling (SpellsCount Spells count) items → AllByRecursion (HasSpelling Spells) items
of_count {Item} {Spells} {count} {items} counted = of_each Spells items counted.bytes counted.spelled.each

-- what holds of each item holds of that at a place
pub at_place : {X : Type 0} (P : X → Type 0) (items : List X) (place : ℕ) (item : X) → AllByRecursion P items → place < length items → P (get_or items place item)
at_place P [] place item all within = absurd (omega (arith, within))
at_place P (first ∷ items) zero item all within = all.0
at_place P (first ∷ items) (suc place) item all within = at_place P items place item all.1 (omega (arith, within))

-- a list is empty where its length is 0
pub empty : {X : Type 0} (items : List X) → true ≡ (length items == 0) → items ≡ []
empty [] none = refl
empty (item ∷ items) none = absurd (omega (arith, eqb-true (length (item ∷ items)) 0 (sym none)))

pub filled : {X : Type 0} (items : List X) → false ≡ (length items == 0) → items ≢ []
filled [] some = absurd (false≢true some)
filled (item ∷ items) some = λ none. absurd cc
