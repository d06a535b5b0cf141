-- What some bytes spell, by its parts: tables, and attributes that stand once.
use Rattle.std.proofs.Common.{◌≡◌, ℕ, ◌^◌, ◌<◌, List, [], ◌∷◌, ◌++◌, length, Some, None, Option, refl, sym, subst, arith}
use Rattle.std.specs.List.{AllByRecursion}
use Rattle.cb_text.specs.declared.constant.Constant.{Constant}
use Rattle.cb_classfile.specs.Attributes.{Attribute, SpellsAttributes, SpellsOnce, attributes_bytes, contents_named, least_index, one_attribute}
use Rattle.cb_classfile.specs.Pool.{text_at}
use Rattle.cb_classfile.specs.Tables.{u2, SpellsEach, SpellsTable}
use Rattle.cb_classfile.proofs.Canonical.{IsCanonical}
use Rattle.cb_classfile.proofs.LeastIndex.{least_stands}
use Rattle.cb_classfile.proofs.OneAttribute.{MayStand, held, none_stands, one_stands}

-- what follows from what holds of each item holds of each
pub all_each : {X : Type 0} (P Q : X → Type 0) → ((item : X) → P item → Q item) → (items : List X) → AllByRecursion P items → AllByRecursion Q items
all_each P Q each [] all = tt
all_each P Q each (item ∷ items) all = (each item all.0, all_each P Q each items all.1)

-- some bytes spell the item
pub record HasSpelling {Item : Type 0} (Spells : List ℕ → Item → Type 0) (item : Item) : Type 0 where
  pub bytes : List ℕ
  pub spelled : Spells bytes item

-- items, one after the other, and a table
each_has : {Item : Type 0} (Spells : List ℕ → Item → Type 0) (items : List Item) → AllByRecursion (HasSpelling Spells) items → HasSpelling (SpellsEach Spells) items
each_has Spells [] all = record { bytes = []; spelled = refl }
each_has Spells (item ∷ items) all =
    let more = each_has Spells items all.1 in
    record { bytes = all.0.bytes ++ more.bytes; spelled = (all.0.bytes, more.bytes, all.0.spelled, more.spelled, refl) }

of_each : {Item : Type 0} (Spells : List ℕ → Item → Type 0) (items : List Item) (bytes : List ℕ) → SpellsEach Spells bytes items → AllByRecursion (HasSpelling Spells) items
of_each Spells [] bytes none = tt
of_each Spells (item ∷ items) bytes (first, rest, spelled, more, split) = (record { bytes = first; spelled = spelled }, of_each Spells items rest more)

pub record IsTable {Item : Type 0} (Spells : List ℕ → Item → Type 0) (items : List Item) : Type 0 where
  pub few : length items < 2 ^ 16
  pub each : AllByRecursion (HasSpelling Spells) items

pub table_has : {Item : Type 0} (Spells : List ℕ → Item → Type 0) (items : List Item) → IsTable Spells items → HasSpelling (SpellsTable Spells) items
table_has Spells items table =
    let each = each_has Spells items table.each in
    record {
      bytes = u2 (length items) ++ each.bytes;
      spelled = record { entries = each.bytes; spelled = refl; counted = table.few; each = each.spelled };
    }

pub of_table : {Item : Type 0} (Spells : List ℕ → Item → Type 0) (items : List Item) (bytes : List ℕ) → SpellsTable Spells bytes items → IsTable Spells items
of_table Spells items bytes table = record { few = table.counted; each = of_each Spells items table.entries table.each }

-- the pool has a text at an index of two bytes
pub record HasName (pool : List Constant) (name : List ℕ) : Type 0 where
  pub index : ℕ
  pub fits : index < 2 ^ 16
  pub named : text_at pool index ≡ Some name

pub may_stand : {pool : List Constant} {name : List ℕ} (contents : List ℕ) → HasName pool name → length contents < 2 ^ 32 → MayStand pool name contents
may_stand {pool} {name} contents has short =
    let least = least_stands pool name has.index has.named in
    record { named = least.0; fits = omega (arith, least.1, has.fits); short = short }

-- attributes of which those of a name spell an item, or none
pub record HasOnce {Item : Type 0} (Spells : List ℕ → Item → Type 0) (pool : List Constant) (name : List ℕ) (item : Option Item) : Type 0 where
  pub bytes : List ℕ
  pub attributes : List Attribute
  pub spelled : SpellsAttributes pool bytes attributes
  pub told : SpellsOnce Spells (contents_named pool name attributes) item

pub once_none : {Item : Type 0} (Spells : List ℕ → Item → Type 0) (pool : List Constant) (name : List ℕ) → HasOnce Spells pool name None
once_none Spells pool name = record { bytes = attributes_bytes []; attributes = []; spelled = none_stands pool; told = tt }

pub once_some : {Item : Type 0} (Spells : List ℕ → Item → Type 0) (pool : List Constant) (name contents : List ℕ) (item : Item) → Spells contents item → MayStand pool name contents → HasOnce Spells pool name (Some item)
once_some Spells pool name contents item spelled may =
    let one = one_stands pool name contents may in
    record {
      bytes = attributes_bytes (one_attribute pool name (Some contents));
      attributes = one_attribute pool name (Some contents);
      spelled = one.spelled;
      told = subst (λ found. SpellsOnce Spells found (Some item)) (sym one.found) spelled;
    }

-- one that stands
pub record Stands {Item : Type 0} (Spells : List ℕ → Item → Type 0) (pool : List Constant) (name : List ℕ) (contents : List ℕ) (item : Item) : Type 0 where
  pub spelled : Spells contents item
  pub has_name : HasName pool name
  pub short : length contents < 2 ^ 32

pub of_once : {Item : Type 0} {Spells : List ℕ → Item → Type 0} {bytes_of : Item → List ℕ} {pool : List Constant} {name : List ℕ} (item : Item) → IsCanonical Spells bytes_of → HasOnce Spells pool name (Some item) → Stands Spells pool name (bytes_of item) item
of_once {Item} {Spells} {bytes_of} {pool} {name} item canonical once =
    let here = held canonical once.spelled item once.told in
    record {
      spelled = canonical.spelled here.here item here.spelled;
      has_name = record { index = least_index pool name; fits = here.again.may.fits; named = here.again.may.named };
      short = here.again.may.short;
    }
