-- Attributes that stand once, and nothing else beside them.
use Rattle.std.proofs.Common.{◌≡◌, ℕ, ◌+◌, ◌^◌, ◌<◌, ◌≤◌, Bool, true, false, List, [], ◌∷◌, ◌++◌, length, length-append, Option, Some, None, refl, sym, ◌∙◌, ap, subst, arith, if◌then◌else◌}
use Rattle.std.specs.Prelude.{is_some, option_map}
use Rattle.std.specs.List.{flat_map}
use Rattle.std.proofs.lemmas.List.{append-nil}
use Rattle.cb_text.specs.declared.constant.Constant.{Constant}
use Rattle.cb_classfile.specs.Attributes.{Attribute, SpellsAttribute, SpellsAttributes, SpellsOnce, attribute_bytes, attributes_bytes, contents_named, is_text, least_index, one_attribute}
use Rattle.cb_classfile.specs.Pool.{text_at}
use Rattle.cb_classfile.specs.Tables.{u2, block_bytes, SpellsEach}
use Rattle.cb_classfile.proofs.Canonical.{IsCanonical, canonical_alone}
use Rattle.cb_classfile.proofs.LeastIndex.{text_is, is_the_text, least_stands}

-- an attribute is spelled by its own bytes alone
attribute_alone : {pool : List Constant} (bytes : List ℕ) (attribute : Attribute) → SpellsAttribute pool bytes attribute → bytes ≡ attribute_bytes attribute
attribute_alone {pool} bytes attribute spelled = joined spelled.spelled.spelled spelled.spelled.here.1 spelled.spelled.behind.1 where
  joined : {first second head block : List ℕ} → bytes ≡ first ++ second → first ≡ head → second ≡ block → bytes ≡ head ++ block
  joined whole one other = rw (whole, one, other) refl

pub canonical_attribute : (pool : List Constant) → IsCanonical (SpellsAttribute pool) attribute_bytes
canonical_attribute pool = canonical_alone attribute_alone

-- where contents of a name stand in attributes that are spelled, their name has an index, and they are no more than all
pub record IsAmong (pool : List Constant) (name contents bytes : List ℕ) : Type 0 where
  pub index : ℕ
  pub fits : index < 2 ^ 16
  pub named : text_at pool index ≡ Some name
  pub length_fits : length contents < 2 ^ 32
  pub short : 6 + length contents ≤ length bytes

among : (pool : List Constant) (name contents : List ℕ) (rest : List (List ℕ)) (attributes : List Attribute) (bytes : List ℕ) → contents_named pool name attributes ≡ contents ∷ rest → SpellsEach (SpellsAttribute pool) bytes attributes → IsAmong pool name contents bytes
among pool name contents rest [] bytes named spelled = absurd cc
among pool name contents rest (attribute ∷ attributes) bytes named (first, behind, spelled, more, split) = go (is_text name (text_at pool attribute.0)) refl named (λ is. among pool name contents rest attributes behind is more) where
  long : length bytes ≡ length first + length behind
  long = ap length split ∙ length-append first behind

  go : (here : Bool) → is_text name (text_at pool attribute.0) ≡ here → (if here then attribute.1 ∷ contents_named pool name attributes else contents_named pool name attributes) ≡ contents ∷ rest → (contents_named pool name attributes ≡ contents ∷ rest → IsAmong pool name contents behind) → IsAmong pool name contents bytes
  go true here is next =
      let same : attribute.1 ≡ contents = cc in
      record {
        index = attribute.0;
        fits = spelled.spelled.here.0;
        named = text_is name (text_at pool attribute.0) here;
        length_fits = subst (λ contents. length contents < 2 ^ 32) same spelled.spelled.behind.0;
        short = omega (arith, long, ap length same, ap length (attribute_alone first attribute spelled), length-append (u2 attribute.0) (block_bytes attribute.1));
      }
  go false here is next =
      let found = next is in
      record { index = found.index; fits = found.fits; named = found.named; length_fits = found.length_fits; short = omega (arith, long, found.short) }

-- contents that may stand in an attribute of a name: the name has an index, and their length fits
pub record MayStand (pool : List Constant) (name contents : List ℕ) : Type 0 where
  pub named : text_at pool (least_index pool name) ≡ Some name
  pub fits : least_index pool name < 2 ^ 16
  pub short : length contents < 2 ^ 32

-- one attribute of such contents is spelled and found
pub record IsOne (pool : List Constant) (name contents : List ℕ) : Type 0 where
  pub spelled : SpellsAttributes pool (attributes_bytes (one_attribute pool name (Some contents))) (one_attribute pool name (Some contents))
  pub found : contents_named pool name (one_attribute pool name (Some contents)) ≡ contents ∷ []

pub one_stands : (pool : List Constant) (name contents : List ℕ) → MayStand pool name contents → IsOne pool name contents
one_stands pool name contents may = record {
  spelled = record {
    entries = flat_map attribute_bytes (one_attribute pool name (Some contents));
    spelled = refl;
    counted = omega arith;
    each = (attribute_bytes (least_index pool name, contents), [], one, refl, refl);
  };
  found = ap (λ (here : Bool). if here then contents ∷ [] else []) (is_the_text name (text_at pool (least_index pool name)) may.named);
} where
  one : SpellsAttribute pool (attribute_bytes (least_index pool name, contents)) (least_index pool name, contents)
  one = record {
    spelled = record {
      first = u2 (least_index pool name);
      second = block_bytes contents;
      spelled = refl;
      here = (may.fits, refl);
      behind = (may.short, refl);
    };
    named = ap (λ (text : Option (List ℕ)). is_some text) may.named;
  }

-- no attributes
pub none_stands : (pool : List Constant) → SpellsAttributes pool (attributes_bytes []) []
none_stands pool = record { entries = []; spelled = refl; counted = omega arith; each = refl }

-- those that are spelled take two bytes at least
pub none_short : {pool : List Constant} {bytes : List ℕ} {attributes : List Attribute} → SpellsAttributes pool bytes attributes → 2 ≤ length bytes
none_short {pool} {bytes} {attributes} spelled = omega (arith, ap length spelled.spelled, length-append (u2 (length attributes)) spelled.entries)

-- where contents of a name stand first, shorter contents may stand alone
pub record IsRespelled (pool : List Constant) (name contents bytes : List ℕ) : Type 0 where
  pub may : MayStand pool name contents
  pub short : length (attributes_bytes (one_attribute pool name (Some contents))) ≤ length bytes

pub respelled : {pool : List Constant} {name contents bytes : List ℕ} {rest : List (List ℕ)} {attributes : List Attribute} (shorter : List ℕ) → SpellsAttributes pool bytes attributes → contents_named pool name attributes ≡ contents ∷ rest → length shorter ≤ length contents → IsRespelled pool name shorter bytes
respelled {pool} {name} {contents} {bytes} {rest} {attributes} shorter spelled named short =
    let found = among pool name contents rest attributes spelled.entries named spelled.each in
    let least = least_stands pool name found.index found.named in
    record {
      may = record { named = least.0; fits = omega (arith, least.1, found.fits); short = omega (arith, short, found.length_fits) };
      short = omega (arith, short, found.short, ap length spelled.spelled, length-append (u2 (length attributes)) spelled.entries, ap length (append-nil shorter));
    }

-- an item whose contents stand once in the attributes of a name, in contents that may be longer
pub record IsHeld {Item : Type 0} (Spells : List ℕ → Item → Type 0) (pool : List Constant) (name bytes : List ℕ) (item : Item) (contents : List ℕ) : Type 0 where
  pub here : List ℕ
  pub spelled : Spells here item
  pub again : IsRespelled pool name contents bytes

pub held : {Item : Type 0} {Spells : List ℕ → Item → Type 0} {bytes_of : Item → List ℕ} {pool : List Constant} {name bytes : List ℕ} {attributes : List Attribute} → IsCanonical Spells bytes_of → SpellsAttributes pool bytes attributes → (item : Item) → SpellsOnce Spells (contents_named pool name attributes) (Some item) → IsHeld Spells pool name bytes item (bytes_of item)
held {Item} {Spells} {bytes_of} {pool} {name} {bytes} {attributes} canonical spelled item told = go (contents_named pool name attributes) refl told where
  go : (contents : List (List ℕ)) → contents_named pool name attributes ≡ contents → SpellsOnce Spells contents (Some item) → IsHeld Spells pool name bytes item (bytes_of item)
  go (contents ∷ []) named told =
      record { here = contents; spelled = told; again = respelled (bytes_of item) spelled named (canonical.short contents item told) }
  go [] named told = absurd told
  go (one ∷ two ∷ contents) named told = absurd told

-- so an item that stands once, or none, in the attributes of its name
pub record IsOnce {Item : Type 0} (Spells : List ℕ → Item → Type 0) (pool : List Constant) (name bytes : List ℕ) (item : Option Item) (contents : Option (List ℕ)) : Type 0 where
  pub spelled : SpellsAttributes pool (attributes_bytes (one_attribute pool name contents)) (one_attribute pool name contents)
  pub told : SpellsOnce Spells (contents_named pool name (one_attribute pool name contents)) item
  pub short : length (attributes_bytes (one_attribute pool name contents)) ≤ length bytes

pub once_respelled : {Item : Type 0} {Spells : List ℕ → Item → Type 0} {bytes_of : Item → List ℕ} {pool : List Constant} {name bytes : List ℕ} {attributes : List Attribute} → IsCanonical Spells bytes_of → SpellsAttributes pool bytes attributes → (item : Option Item) → SpellsOnce Spells (contents_named pool name attributes) item → IsOnce Spells pool name bytes item (option_map bytes_of item)
once_respelled {Item} {Spells} {bytes_of} {pool} {name} {bytes} {attributes} canonical spelled None told = record { spelled = none_stands pool; told = tt; short = none_short spelled }
once_respelled {Item} {Spells} {bytes_of} {pool} {name} {bytes} {attributes} canonical spelled (Some item) told =
    let here = held canonical spelled item told in
    let one = one_stands pool name (bytes_of item) here.again.may in
    record {
      spelled = one.spelled;
      told = subst (λ contents. SpellsOnce Spells contents (Some item)) (sym one.found) (canonical.spelled here.here item here.spelled);
      short = here.again.short;
    }
