-- What some bytes spell is spelled by bytes that have nothing to skip, which are no more.
use Rattle.std.proofs.Common.{◌≡◌, ℕ, ◌≤◌, List, [], ◌∷◌, ◌++◌, length, length-append, refl, ap, subst, arith}
use Rattle.std.specs.List.{flat_map}
use Rattle.cb_classfile.specs.Tables.{u2, block_bytes, table_bytes, SpellsBlock, SpellsU1, SpellsU2, SpellsPair, SpellsTriple, SpellsEach, SpellsCount, SpellsTable, ThenOf}

-- what some bytes spell is spelled by those that a function gives, which are no more
pub record IsCanonical {Item : Type 0} (Spells : List ℕ → Item → Type 0) (bytes_of : Item → List ℕ) : Type 0 where
  pub spelled : (bytes : List ℕ) (item : Item) → Spells bytes item → Spells (bytes_of item) item
  pub short : (bytes : List ℕ) (item : Item) → Spells bytes item → length (bytes_of item) ≤ length bytes

-- these are the only ones
pub canonical_alone : {Item : Type 0} {Spells : List ℕ → Item → Type 0} {bytes_of : Item → List ℕ} → ((bytes : List ℕ) (item : Item) → Spells bytes item → bytes ≡ bytes_of item) → IsCanonical Spells bytes_of
canonical_alone {Item} {Spells} {bytes_of} alone = record {
  spelled = λ bytes item spelled. subst (λ bytes. Spells bytes item) (alone bytes item spelled) spelled;
  short = λ bytes item spelled. omega (arith, ap length (alone bytes item spelled));
}

-- an item by its part that is spelled, and by bytes in other words
pub canonical_part : {Item Whole : Type 0} {Spells : List ℕ → Item → Type 0} {bytes_of : Item → List ℕ} {bytes_too : Whole → List ℕ} (part : Whole → Item) → ((whole : Whole) → bytes_of (part whole) ≡ bytes_too whole) → IsCanonical Spells bytes_of → IsCanonical (λ bytes whole. Spells bytes (part whole)) bytes_too
canonical_part {Item} {Whole} {Spells} {bytes_of} {bytes_too} part same canonical = record {
  spelled = λ bytes whole spelled. subst (λ bytes. Spells bytes (part whole)) (same whole) (canonical.spelled bytes (part whole) spelled);
  short = λ bytes whole spelled. omega (arith, ap length (same whole), canonical.short bytes (part whole) spelled);
}

-- numbers
pub canonical_u1 : IsCanonical SpellsU1 (λ number. number ∷ [])
canonical_u1 = canonical_alone (λ bytes number spelled. spelled)

pub canonical_u2 : IsCanonical SpellsU2 u2
canonical_u2 = canonical_alone (λ bytes number spelled. spelled.1)

pub canonical_pair : IsCanonical SpellsPair (λ pair. u2 pair.0 ++ u2 pair.1)
canonical_pair = canonical_alone (λ bytes pair spelled. spelled.2)

pub canonical_triple : IsCanonical SpellsTriple (λ triple. u2 triple.0 ++ u2 triple.1 ++ u2 triple.2)
canonical_triple = canonical_alone (λ bytes triple spelled. spelled.3)

-- bytes behind their number
pub canonical_block : IsCanonical SpellsBlock block_bytes
canonical_block = canonical_alone (λ bytes block spelled. spelled.1)

-- an item, and one behind it
pub canonical_then : {Item Next : Type 0} {Spells : List ℕ → Item → Type 0} {Behind : Item → List ℕ → Next → Type 0} {bytes_of : Item → List ℕ} {behind_of : Item → Next → List ℕ} → IsCanonical Spells bytes_of → ((item : Item) → IsCanonical (Behind item) (behind_of item)) → IsCanonical (ThenOf Spells Behind) (λ pair. bytes_of pair.0 ++ behind_of pair.0 pair.1)
canonical_then {Item} {Next} {Spells} {Behind} {bytes_of} {behind_of} canonical behind = record {
  spelled = λ bytes pair both. record {
    first = bytes_of pair.0;
    second = behind_of pair.0 pair.1;
    spelled = refl;
    here = canonical.spelled both.first pair.0 both.here;
    behind = (behind pair.0).spelled both.second pair.1 both.behind;
  };
  short = λ bytes pair both.
      omega (arith, ap length both.spelled, length-append both.first both.second, length-append (bytes_of pair.0) (behind_of pair.0 pair.1), canonical.short both.first pair.0 both.here, (behind pair.0).short both.second pair.1 both.behind);
}

-- items, one after the other
each_spelled : {Item : Type 0} {Spells : List ℕ → Item → Type 0} {bytes_of : Item → List ℕ} → IsCanonical Spells bytes_of → (items : List Item) (bytes : List ℕ) → SpellsEach Spells bytes items → SpellsEach Spells (flat_map bytes_of items) items
each_spelled canonical [] bytes none = refl
each_spelled {Item} {Spells} {bytes_of} canonical (item ∷ items) bytes (first, rest, spelled, more, split) =
    (bytes_of item, flat_map bytes_of items, canonical.spelled first item spelled, each_spelled canonical items rest more, refl)

each_short : {Item : Type 0} {Spells : List ℕ → Item → Type 0} {bytes_of : Item → List ℕ} → IsCanonical Spells bytes_of → (items : List Item) (bytes : List ℕ) → SpellsEach Spells bytes items → length (flat_map bytes_of items) ≤ length bytes
each_short canonical [] bytes none = omega arith
each_short {Item} {Spells} {bytes_of} canonical (item ∷ items) bytes (first, rest, spelled, more, split) =
    omega (arith, ap length split, length-append first rest, length-append (bytes_of item) (flat_map bytes_of items), canonical.short first item spelled, each_short canonical items rest more)

pub canonical_each : {Item : Type 0} {Spells : List ℕ → Item → Type 0} {bytes_of : Item → List ℕ} → IsCanonical Spells bytes_of → IsCanonical (SpellsEach Spells) (flat_map bytes_of)
canonical_each canonical = record {
  spelled = λ bytes items spelled. each_spelled canonical items bytes spelled;
  short = λ bytes items spelled. each_short canonical items bytes spelled;
}

pub canonical_count : {Item : Type 0} {Spells : List ℕ → Item → Type 0} {bytes_of : Item → List ℕ} (count : ℕ) → IsCanonical Spells bytes_of → IsCanonical (SpellsCount Spells count) (flat_map bytes_of)
canonical_count count canonical = record {
  spelled = λ bytes items spelled. record { counted = spelled.counted; each = each_spelled canonical items bytes spelled.each };
  short = λ bytes items spelled. each_short canonical items bytes spelled.each;
}

-- a table
pub canonical_table : {Item : Type 0} {Spells : List ℕ → Item → Type 0} {bytes_of : Item → List ℕ} → IsCanonical Spells bytes_of → IsCanonical (SpellsTable Spells) (table_bytes bytes_of)
canonical_table {Item} {Spells} {bytes_of} canonical = record {
  spelled = λ bytes items spelled. record {
    entries = flat_map bytes_of items;
    spelled = refl;
    counted = spelled.counted;
    each = each_spelled canonical items spelled.entries spelled.each;
  };
  short = λ bytes items spelled.
      omega (arith, ap length spelled.spelled, length-append (u2 (length items)) spelled.entries, length-append (u2 (length items)) (flat_map bytes_of items), each_short canonical items spelled.entries spelled.each);
}
